-- The words of a call are those of one call.
use Rattle.std.proofs.Common.{◌≡◌, inl, inr, ℕ, ◌<◌, ◌^◌, false, List, [], ◌∷◌, ◌++◌, codes, decimal, slice_index, nat_eq, ap, sym, subst, ◌∙◌, refl, arith}
use Rattle.std.proofs.lemmas.Bool.Decides.{Decides-eqb}
use Rattle.std.proofs.lemmas.List.{append_cancel_left}
use Rattle.std.proofs.lemmas.Fmt.{decimal_injective}
use Rattle.hex.specs.Hex.{encode_lower, decode_of, IsBytes}
use Rattle.hex.specs.declared.error.FromHexError.{FromHexError}
use Rattle.hex.proofs.HexLemmas.{decode_of-encode_lower}
use Rattle.vfs_names.specs.declared.calls.Access.{Access}
use Rattle.vfs_names.specs.declared.calls.Access.TheVariants as access
use Rattle.vfs_names.specs.declared.calls.How.{How}
use Rattle.vfs_names.specs.declared.payload.Payload.{Payload}
use Rattle.vfs_names.specs.declared.payload.Payload.TheVariants.{Bytes, Fill, Pattern}
use Rattle.session_script.specs.declared.call.Call.{Call}
use Rattle.session_script.specs.declared.call.Call.TheVariants as call
use Rattle.session_script.specs.Escape.{escape}
use Rattle.session_script.specs.Words.{counted, access_word, IsPayloadWord, IsPathWord}
use Rattle.session_script.specs.Calls.{AreArguments, verb_of, flag_words}
use Rattle.session_script.proofs.Counts.{heads, tails, spelled, first_part, no_colon}
use Rattle.session_script.proofs.Escapes.{escape_injective}
use Rattle.session_script.proofs.FlagWords.{same_flags}
use Rattle.session_script.proofs.Numbers.{same_ok, not_true_and_false}
use Rattle.session_script.proofs.Paths.{same_path}
use Rattle.session_script.proofs.Texts.{texts_differ}

-- digits tell their bytes
same_bytes : (xs ys : List ℕ) → IsBytes xs → IsBytes ys → encode_lower xs ≡ encode_lower ys → xs ≡ ys
same_bytes xs ys p q e = same_ok {E = FromHexError} (decode_of (encode_lower xs)) xs ys (decode_of-encode_lower xs p) (ap decode_of e ∙ decode_of-encode_lower ys q)

same_count : (a b m n : ℕ) → a < 2 ^ 64 → b < 2 ^ 64 → m < 2 ^ 64 → n < 2 ^ 64 → counted a m ≡ counted b n → (a ≡ b) × (m ≡ n)
same_count a b m n pa pb pm pn e =
    let whole : decimal a ++ 58 ∷ decimal m ≡ decimal b ++ 58 ∷ decimal n = sym (spelled a m) ∙ e ∙ spelled b n in
    let first : decimal a ≡ decimal b = first_part (decimal a) (decimal m) (decimal b) (decimal n) (no_colon a pa) (no_colon b pb) whole in
    (decimal_injective a b pa pb first, decimal_injective m n pm pn (tails 58 58 (decimal m) (decimal n) (append_cancel_left (decimal a) (58 ∷ decimal m) (58 ∷ decimal n) (whole ∙ ap (λ t. t ++ 58 ∷ decimal n) (sym first)))))

abbrev first_byte : List ℕ → ℕ
first_byte word = slice_index word 0

-- texts whose first bytes differ
clash : (v w : List ℕ) → nat_eq (first_byte v) (first_byte w) ≡ false → v ≡ w → ⊥
clash v w h e = not_true_and_false (nat_eq (first_byte v) (first_byte w)) ((Decides-eqb (first_byte v) (first_byte w)).1 (ap first_byte e)) h

pub same_payload : (word : List ℕ) (p q : Payload) → IsPayloadWord word p → IsPayloadWord word q → p ≡ q
same_payload word (Bytes a) (Bytes b) (inl h) (inl k) = ap Bytes (escape_injective a b (append_cancel_left (codes "text:") (escape a) (escape b) (sym h.1 ∙ k.1)))
same_payload word (Bytes a) (Bytes b) (inl h) (inr k) = absurd (clash (codes "text:" ++ escape a) (codes "hex:" ++ encode_lower b) refl (sym h.1 ∙ k.1))
same_payload word (Bytes a) (Bytes b) (inr h) (inl k) = absurd (clash (codes "hex:" ++ encode_lower a) (codes "text:" ++ escape b) refl (sym h.1 ∙ k.1))
same_payload word (Bytes a) (Bytes b) (inr h) (inr k) = ap Bytes (same_bytes a b h.0 k.0 (append_cancel_left (codes "hex:") (encode_lower a) (encode_lower b) (sym h.1 ∙ k.1)))
same_payload word (Bytes a) (Fill b n) (inl h) k = absurd (clash (codes "text:" ++ escape a) (codes "fill:" ++ counted b n) refl (sym h.1 ∙ k.2))
same_payload word (Bytes a) (Fill b n) (inr h) k = absurd (clash (codes "hex:" ++ encode_lower a) (codes "fill:" ++ counted b n) refl (sym h.1 ∙ k.2))
same_payload word (Bytes a) (Pattern b n) (inl h) k = absurd (clash (codes "text:" ++ escape a) (codes "pat:" ++ counted b n) refl (sym h.1 ∙ k.2))
same_payload word (Bytes a) (Pattern b n) (inr h) k = absurd (clash (codes "hex:" ++ encode_lower a) (codes "pat:" ++ counted b n) refl (sym h.1 ∙ k.2))
same_payload word (Fill a m) (Bytes b) h (inl k) = absurd (clash (codes "fill:" ++ counted a m) (codes "text:" ++ escape b) refl (sym h.2 ∙ k.1))
same_payload word (Fill a m) (Bytes b) h (inr k) = absurd (clash (codes "fill:" ++ counted a m) (codes "hex:" ++ encode_lower b) refl (sym h.2 ∙ k.1))
same_payload word (Fill a m) (Fill b n) h k =
    let same = same_count a b m n (omega arith) (omega arith) h.1 k.1 (append_cancel_left (codes "fill:") (counted a m) (counted b n) (sym h.2 ∙ k.2)) in
    ap (λ x. Fill x m) same.0 ∙ ap (Fill b) same.1
same_payload word (Fill a m) (Pattern b n) h k = absurd (clash (codes "fill:" ++ counted a m) (codes "pat:" ++ counted b n) refl (sym h.2 ∙ k.2))
same_payload word (Pattern a m) (Bytes b) h (inl k) = absurd (clash (codes "pat:" ++ counted a m) (codes "text:" ++ escape b) refl (sym h.2 ∙ k.1))
same_payload word (Pattern a m) (Bytes b) h (inr k) = absurd (clash (codes "pat:" ++ counted a m) (codes "hex:" ++ encode_lower b) refl (sym h.2 ∙ k.1))
same_payload word (Pattern a m) (Fill b n) h k = absurd (clash (codes "pat:" ++ counted a m) (codes "fill:" ++ counted b n) refl (sym h.2 ∙ k.2))
same_payload word (Pattern a m) (Pattern b n) h k =
    let same = same_count a b m n (omega arith) (omega arith) h.1 k.1 (append_cancel_left (codes "pat:") (counted a m) (counted b n) (sym h.2 ∙ k.2)) in
    ap (λ x. Pattern x m) same.0 ∙ ap (Pattern b) same.1

pub same_access : (a b : Access) → access_word a ≡ access_word b → a ≡ b
same_access access.Read access.Read e = refl
same_access access.Read access.Write e = absurd (texts_differ (codes "r") (codes "w") refl e)
same_access access.Read access.Both e = absurd (texts_differ (codes "r") (codes "rw") refl e)
same_access access.Write access.Read e = absurd (texts_differ (codes "w") (codes "r") refl e)
same_access access.Write access.Write e = refl
same_access access.Write access.Both e = absurd (texts_differ (codes "w") (codes "rw") refl e)
same_access access.Both access.Read e = absurd (texts_differ (codes "rw") (codes "r") refl e)
same_access access.Both access.Write e = absurd (texts_differ (codes "rw") (codes "w") refl e)
same_access access.Both access.Both e = refl

pub first_word : (a b : List ℕ) (x y : List (List ℕ)) → a ∷ x ≡ b ∷ y → a ≡ b
first_word a b x y e = heads a b x y e

pub later_words : (a b : List ℕ) (x y : List (List ℕ)) → a ∷ x ≡ b ∷ y → x ≡ y
later_words a b x y e = tails a b x y e

number_first : (m n : ℕ) (x y : List (List ℕ)) → m < 2 ^ 64 → n < 2 ^ 64 → decimal m ∷ x ≡ decimal n ∷ y → m ≡ n
number_first m n x y p q e = decimal_injective m n p q (first_word (decimal m) (decimal n) x y e)

path_first : (p q a b : List ℕ) (x y : List (List ℕ)) → IsPathWord a p → IsPathWord b q → a ∷ x ≡ b ∷ y → p ≡ q
path_first p q a b x y h k e = same_path a p q h (subst (λ w. IsPathWord w q) (sym (first_word a b x y e)) k)

payload_first : (p q : Payload) (a b : List ℕ) (x y : List (List ℕ)) → IsPayloadWord a p → IsPayloadWord b q → a ∷ x ≡ b ∷ y → p ≡ q
payload_first p q a b x y h k e = same_payload a p q h (subst (λ w. IsPayloadWord w q) (sym (first_word a b x y e)) k)

same_open : (h k : ℕ) (p q : List ℕ) (a b : How) → h ≡ k → p ≡ q → a ≡ b → call.Open h p a ≡ call.Open k q b
same_open h k p q a b x y z = ap (λ t. call.Open t p a) x ∙ ap (λ t. call.Open k t a) y ∙ ap (call.Open k q) z

-- the words after a verb are those of one call
pub same_arguments : (words : List (List ℕ)) (a b : Call) → verb_of a ≡ verb_of b → AreArguments words a → AreArguments words b → a ≡ b
same_arguments words (call.Open h p a) (call.Open k q b) v f g =
    let e : decimal h ∷ f.2 ∷ access_word a.access ∷ flag_words a ≡ decimal k ∷ g.2 ∷ access_word b.access ∷ flag_words b = sym f.4 ∙ g.4 in
    let e1 = later_words (decimal h) (decimal k) (f.2 ∷ access_word a.access ∷ flag_words a) (g.2 ∷ access_word b.access ∷ flag_words b) e in
    let e2 = later_words f.2 g.2 (access_word a.access ∷ flag_words a) (access_word b.access ∷ flag_words b) e1 in
    same_open h k p q a b
    (number_first h k (f.2 ∷ access_word a.access ∷ flag_words a) (g.2 ∷ access_word b.access ∷ flag_words b) (omega arith) (omega arith) e)
    (path_first p q f.2 g.2 (access_word a.access ∷ flag_words a) (access_word b.access ∷ flag_words b) f.3.1 g.3.1 e1)
    (same_flags a b (same_access a.access b.access (first_word (access_word a.access) (access_word b.access) (flag_words a) (flag_words b) e2)) (later_words (access_word a.access) (access_word b.access) (flag_words a) (flag_words b) e2))
same_arguments words (call.Open h p a) _ v f g = cc v
same_arguments words (call.Read h pos len) (call.Read k at more) v f g =
    let e : decimal h ∷ decimal pos ∷ decimal len ∷ [] ≡ decimal k ∷ decimal at ∷ decimal more ∷ [] = sym f.3 ∙ g.3 in
    let e1 = later_words (decimal h) (decimal k) (decimal pos ∷ decimal len ∷ []) (decimal at ∷ decimal more ∷ []) e in
    let e2 = later_words (decimal pos) (decimal at) (decimal len ∷ []) (decimal more ∷ []) e1 in
    ap (λ t. call.Read t pos len) (number_first h k (decimal pos ∷ decimal len ∷ []) (decimal at ∷ decimal more ∷ []) (omega arith) (omega arith) e)
    ∙ ap (λ t. call.Read k t len) (number_first pos at (decimal len ∷ []) (decimal more ∷ []) f.1 g.1 e1)
    ∙ ap (call.Read k at) (number_first len more [] [] f.2 g.2 e2)
same_arguments words (call.Read h pos len) _ v f g = cc v
same_arguments words (call.Write h pos p) (call.Write k at q) v f g =
    let e : decimal h ∷ decimal pos ∷ f.2 ∷ [] ≡ decimal k ∷ decimal at ∷ g.2 ∷ [] = sym f.4 ∙ g.4 in
    let e1 = later_words (decimal h) (decimal k) (decimal pos ∷ f.2 ∷ []) (decimal at ∷ g.2 ∷ []) e in
    let e2 = later_words (decimal pos) (decimal at) (f.2 ∷ []) (g.2 ∷ []) e1 in
    ap (λ t. call.Write t pos p) (number_first h k (decimal pos ∷ f.2 ∷ []) (decimal at ∷ g.2 ∷ []) (omega arith) (omega arith) e)
    ∙ ap (λ t. call.Write k t p) (number_first pos at (f.2 ∷ []) (g.2 ∷ []) f.1 g.1 e1)
    ∙ ap (call.Write k at) (payload_first p q f.2 g.2 [] [] f.3 g.3 e2)
same_arguments words (call.Write h pos p) _ v f g = cc v
same_arguments words (call.Size h m) (call.Size k n) v f g =
    let e : decimal h ∷ decimal m ∷ [] ≡ decimal k ∷ decimal n ∷ [] = sym f.2 ∙ g.2 in
    ap (λ t. call.Size t m) (number_first h k (decimal m ∷ []) (decimal n ∷ []) (omega arith) (omega arith) e)
    ∙ ap (call.Size k) (number_first m n [] [] f.1 g.1 (later_words (decimal h) (decimal k) (decimal m ∷ []) (decimal n ∷ []) e))
same_arguments words (call.Size h m) _ v f g = cc v
same_arguments words (call.Close h) (call.Close k) v f g = ap call.Close (number_first h k [] [] (omega arith) (omega arith) (sym f.1 ∙ g.1))
same_arguments words (call.Close h) _ v f g = cc v
same_arguments words (call.Stat p) (call.Stat q) v f g = ap call.Stat (path_first p q f.0 g.0 [] [] f.1 g.1 (sym f.2 ∙ g.2))
same_arguments words (call.Stat p) _ v f g = cc v
same_arguments words (call.List p) (call.List q) v f g = ap call.List (path_first p q f.0 g.0 [] [] f.1 g.1 (sym f.2 ∙ g.2))
same_arguments words (call.List p) _ v f g = cc v
same_arguments words (call.MakeDir p) (call.MakeDir q) v f g = ap call.MakeDir (path_first p q f.0 g.0 [] [] f.1.1 g.1.1 (sym f.2 ∙ g.2))
same_arguments words (call.MakeDir p) _ v f g = cc v
same_arguments words (call.RemoveDir p) (call.RemoveDir q) v f g = ap call.RemoveDir (path_first p q f.0 g.0 [] [] f.1.1 g.1.1 (sym f.2 ∙ g.2))
same_arguments words (call.RemoveDir p) _ v f g = cc v
same_arguments words (call.Unlink p) (call.Unlink q) v f g = ap call.Unlink (path_first p q f.0 g.0 [] [] f.1.1 g.1.1 (sym f.2 ∙ g.2))
same_arguments words (call.Unlink p) _ v f g = cc v
same_arguments words (call.Rename p r) (call.Rename q s) v f g =
    let e : f.0 ∷ f.1 ∷ [] ≡ g.0 ∷ g.1 ∷ [] = sym f.4 ∙ g.4 in
    ap (λ t. call.Rename t r) (path_first p q f.0 g.0 (f.1 ∷ []) (g.1 ∷ []) f.2.1 g.2.1 e)
    ∙ ap (call.Rename q) (path_first r s f.1 g.1 [] [] f.3.1 g.3.1 (later_words f.0 g.0 (f.1 ∷ []) (g.1 ∷ []) e))
same_arguments words (call.Rename p r) _ v f g = cc v
