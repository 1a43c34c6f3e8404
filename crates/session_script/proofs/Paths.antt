-- Which words are no path, and which are no text.
use Rattle.std.proofs.Common.{◌≡◌, ◌≢◌, ℕ, true, false, List, [], ◌∷◌, codes, length, ◌==◌, sym, ◌∙◌, ap, subst, refl, arith}
use Rattle.std.specs.Str.{IsUtf8, bytes_eq}
use Rattle.std.proofs.lemmas.Bool.Decides.{Decides-eqb}
use Rattle.std.proofs.lemmas.Slice.Eq.{bytes_eq-Decides}
use Rattle.vfs_names.specs.Path.{is_path, is_name}
use Rattle.session_script.specs.Escape.{escape}
use Rattle.session_script.specs.Words.{path_word, IsPathWord}
use Rattle.session_script.specs.Faults.{Fits, file}
use Rattle.session_script.proofs.Escapes.{escape_injective}
use Rattle.session_script.proofs.Numbers.{not_true_and_false}

-- a text that isn't UTF-8 is no text, however it is spelled
pub other_text : (word out : List ℕ) → word ≡ escape out → ¬ (IsUtf8 out) → (bytes : List ℕ) → IsUtf8 bytes → word ≢ escape bytes
other_text word out spelled bad bytes utf8 e = bad (subst IsUtf8 (escape_injective bytes out (sym e ∙ spelled)) utf8)

-- a word that isn't a slash alone spells a path as a text
escaped_path : (word path : List ℕ) → false ≡ bytes_eq word (codes "/") → word ≡ path_word path → word ≡ escape path
escaped_path word [] other e = absurd (not_true_and_false (bytes_eq word (codes "/")) ((bytes_eq-Decides word (codes "/")).1 e) (sym other))
escaped_path word (byte ∷ path) other e = e

pub unspelled : (word : List ℕ) → false ≡ bytes_eq word (codes "/") → ((bytes : List ℕ) → word ≢ escape bytes) → (path : List ℕ) → ¬ (IsPathWord word path)
unspelled word other none path h = none path (escaped_path word path other h.spelled)

pub not_utf8 : (word out : List ℕ) → false ≡ bytes_eq word (codes "/") → word ≡ escape out → ¬ (IsUtf8 out) → (path : List ℕ) → ¬ (IsPathWord word path)
not_utf8 word out other spelled bad path h = other_text word out spelled bad path h.utf8 (escaped_path word path other h.spelled)

pub not_a_path : (word out : List ℕ) → false ≡ bytes_eq word (codes "/") → word ≡ escape out → is_path out ≡ false → (path : List ℕ) → ¬ (IsPathWord word path)
not_a_path word out other spelled bad path h =
    not_true_and_false (is_path out) (ap is_path (sym (escape_injective path out (sym (escaped_path word path other h.spelled) ∙ spelled))) ∙ h.names) bad

slash_is_no_path : is_path (47 ∷ []) ≡ false
unfolding is_name
slash_is_no_path = refl

-- a slash alone is the root's word, and no other path's
root_alone : (byte : ℕ) (path : List ℕ) → codes "/" ≡ escape (byte ∷ path) → is_path (byte ∷ path) ≡ true → ⊥
root_alone byte path e h = not_true_and_false (is_path (47 ∷ [])) (ap is_path (escape_injective (47 ∷ []) (byte ∷ path) e) ∙ h) slash_is_no_path

-- a word spells one path
pub same_path : (word p q : List ℕ) → IsPathWord word p → IsPathWord word q → p ≡ q
same_path word [] [] h k = refl
same_path word [] (b ∷ q) h k = absurd (root_alone b q (sym h.spelled ∙ k.spelled) k.names)
same_path word (a ∷ p) [] h k = absurd (root_alone a p (sym k.spelled ∙ h.spelled) h.names)
same_path word (a ∷ p) (b ∷ q) h k = escape_injective (a ∷ p) (b ∷ q) (sym h.spelled ∙ k.spelled)

empty_of : (path : List ℕ) → true ≡ (length path == 0) → path ≡ []
empty_of [] h = refl
empty_of (x ∷ path) h = let e : length (x ∷ path) ≡ 0 = (Decides-eqb (length (x ∷ path)) 0).0 (sym h) in absurd (omega arith)

-- the root's word is no file's
pub no_file : (word path : List ℕ) → IsPathWord word path → true ≡ (length path == 0) → ¬ (Fits file word)
no_file word path h empty f = f.1.0 (same_path word f.0 path f.1.1 h ∙ empty_of path empty)
