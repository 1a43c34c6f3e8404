-- Flags are told from each other, so each stands or doesn't.
use Rattle.std.proofs.Common.{◌≡◌, ◌≢◌, ℕ, Bool, true, false, List, [], ◌∷◌, ◌++◌, codes, MatchBool, sym, ◌∙◌, ap, subst, refl}
use Rattle.vfs_names.specs.declared.calls.Access.{Access}
use Rattle.vfs_names.specs.declared.calls.How.{How}
use Rattle.session_script.specs.Calls.{word_if, flag_words}
use Rattle.session_script.proofs.Texts.{words_differ}

-- what taking a word tells
abbrev pub Taken : Bool → List ℕ → List (List ℕ) → List (List ℕ) → Type 0
Taken b flag old new = MatchBool b (old ≡ flag ∷ new) ((new ≡ old) × ((rest : List (List ℕ)) → old ≢ flag ∷ rest))

same_tail : (a b : List ℕ) (x y : List (List ℕ)) → a ∷ x ≡ b ∷ y → x ≡ y
same_tail a b x y e = cc

one_flag : (b d : Bool) (flag : List ℕ) (old new more : List (List ℕ)) → Taken b flag old new → old ≡ word_if d flag ++ more → ((rest : List (List ℕ)) → more ≢ flag ∷ rest) → (b ≡ d) × (new ≡ more)
one_flag true true flag old new more h e other = (refl, same_tail flag flag new more (sym h ∙ e))
one_flag true false flag old new more h e other = absurd (other new (sym e ∙ h))
one_flag false true flag old new more h e other = absurd (h.1 more e)
one_flag false false flag old new more h e other = (refl, h.0 ∙ e)

abbrev after_trunc : Bool → List (List ℕ)
after_trunc append = word_if append (codes "append")

abbrev after_excl : Bool → Bool → List (List ℕ)
after_excl trunc append = word_if trunc (codes "trunc") ++ after_trunc append

abbrev after_create : Bool → Bool → Bool → List (List ℕ)
after_create excl trunc append = word_if excl (codes "excl") ++ after_excl trunc append

no_word : (flag : List ℕ) (rest : List (List ℕ)) → [] ≢ flag ∷ rest
no_word flag rest e = cc

no_append : (rest : List (List ℕ)) → [] ≢ codes "append" ∷ rest
no_append = no_word (codes "append")

no_trunc : (append : Bool) (rest : List (List ℕ)) → after_trunc append ≢ codes "trunc" ∷ rest
no_trunc true rest e = words_differ (codes "append") (codes "trunc") [] rest refl e
no_trunc false rest e = no_word (codes "trunc") rest e

no_excl : (trunc append : Bool) (rest : List (List ℕ)) → after_excl trunc append ≢ codes "excl" ∷ rest
no_excl true append rest e = words_differ (codes "trunc") (codes "excl") (after_trunc append) rest refl e
no_excl false true rest e = words_differ (codes "append") (codes "excl") [] rest refl e
no_excl false false rest e = no_word (codes "excl") rest e

no_create : (excl trunc append : Bool) (rest : List (List ℕ)) → after_create excl trunc append ≢ codes "create" ∷ rest
no_create true trunc append rest e = words_differ (codes "excl") (codes "create") (after_excl trunc append) rest refl e
no_create false true append rest e = words_differ (codes "trunc") (codes "create") (after_trunc append) rest refl e
no_create false false true rest e = words_differ (codes "append") (codes "create") [] rest refl e
no_create false false false rest e = no_word (codes "create") rest e

grouped_by : (a b c d : Bool) → ((word_if a (codes "create") ++ word_if b (codes "excl")) ++ word_if c (codes "trunc")) ++ word_if d (codes "append") ≡ word_if a (codes "create") ++ after_create b c d
grouped_by true true c d = refl
grouped_by true false c d = refl
grouped_by false true c d = refl
grouped_by false false c d = refl

-- `flag_words` with the words grouped from the left
grouped : (how : How) → flag_words how ≡ word_if how.create (codes "create") ++ after_create how.excl how.trunc how.append
grouped how = grouped_by how.create how.excl how.trunc how.append

end_of : (b : Bool) → after_trunc b ≡ word_if b (codes "append") ++ []
end_of true = refl
end_of false = refl

abbrev make : Access → Bool → Bool → Bool → Bool → How
make access create excl trunc append = record { access = access; create = create; excl = excl; trunc = trunc; append = append }

same_how : (a b : How) → a.access ≡ b.access → a.create ≡ b.create → a.excl ≡ b.excl → a.trunc ≡ b.trunc → a.append ≡ b.append → a ≡ b
same_how a b p q r s t =
    ap (λ (x : Access). make x a.create a.excl a.trunc a.append) p ∙ ap (λ (x : Bool). make b.access x a.excl a.trunc a.append) q
    ∙ ap (λ (x : Bool). make b.access b.create x a.trunc a.append) r ∙ ap (λ (x : Bool). make b.access b.create b.excl x a.append) s
    ∙ ap (λ (x : Bool). make b.access b.create b.excl b.trunc x) t

-- the flags that were taken are the only ones
pub only_flags : (b0 b1 b2 b3 : Bool) (w0 w1 w2 w3 w4 : List (List ℕ)) → Taken b0 (codes "create") w0 w1 → Taken b1 (codes "excl") w1 w2 → Taken b2 (codes "trunc") w2 w3 → Taken b3 (codes "append") w3 w4
    → (made how : How) → made.create ≡ b0 → made.excl ≡ b1 → made.trunc ≡ b2 → made.append ≡ b3 → made.access ≡ how.access → w0 ≡ flag_words how → (made ≡ how) × (w4 ≡ [])
only_flags b0 b1 b2 b3 w0 w1 w2 w3 w4 h0 h1 h2 h3 made how m0 m1 m2 m3 m4 e =
    let p0 = one_flag b0 how.create (codes "create") w0 w1 (after_create how.excl how.trunc how.append) h0 (e ∙ grouped how) (no_create how.excl how.trunc how.append) in
    let p1 = one_flag b1 how.excl (codes "excl") w1 w2 (after_excl how.trunc how.append) h1 p0.1 (no_excl how.trunc how.append) in
    let p2 = one_flag b2 how.trunc (codes "trunc") w2 w3 (after_trunc how.append) h2 p1.1 (no_trunc how.append) in
    let p3 = one_flag b3 how.append (codes "append") w3 w4 [] h3 (p2.1 ∙ end_of how.append) no_append in
    (same_how made how m4 (m0 ∙ p0.0) (m1 ∙ p1.0) (m2 ∙ p2.0) (m3 ∙ p3.0), p3.1)

taken_of : (b : Bool) (flag : List ℕ) (more : List (List ℕ)) → ((rest : List (List ℕ)) → more ≢ flag ∷ rest) → Taken b flag (word_if b flag ++ more) more
taken_of true flag more other = refl
taken_of false flag more other = (refl, other)

-- the flags of an open tell how it opens
pub same_flags : (a b : How) → a.access ≡ b.access → flag_words a ≡ flag_words b → a ≡ b
same_flags a b p e =
    (only_flags a.create a.excl a.trunc a.append (word_if a.create (codes "create") ++ after_create a.excl a.trunc a.append) (after_create a.excl a.trunc a.append) (after_excl a.trunc a.append) (word_if a.append (codes "append") ++ []) []
    (taken_of a.create (codes "create") (after_create a.excl a.trunc a.append) (no_create a.excl a.trunc a.append))
    (taken_of a.excl (codes "excl") (after_excl a.trunc a.append) (no_excl a.trunc a.append))
    (subst (λ t. Taken a.trunc (codes "trunc") (word_if a.trunc (codes "trunc") ++ after_trunc a.append) t) (end_of a.append) (taken_of a.trunc (codes "trunc") (after_trunc a.append) (no_trunc a.append)))
    (taken_of a.append (codes "append") [] no_append)
    a b refl refl refl refl p (sym (grouped a) ∙ e)).0
