-- How what a source or a sink tells goes on from call to call.
use Rattle.std.proofs.Common.{◌≡◌, ℕ, ◌-◌, ◌≤◌, ◌++◌, ◌∙◌, ap, sym, refl, arith, append_assoc, append-nil, length, take, drop, take-append-drop, length-drop, List, [], Option, Some, None}
use Rattle.std.proofs.Math.Seq.{take-length}
use Rattle.std.specs.Io.KnownBytes.{Appends, Consumes, Keeps}
use Rattle.vfs_outside.specs.Causes.{AppendsFront, Rose}

-- a count that rose and then never falls has risen
pub rose_later : (a b c : ℕ) → Rose a b → b ≤ c → Rose a c
rose_later a b c r l = omega (arith, r, l)

pub later_rose : (a b c : ℕ) → a ≤ b → Rose b c → Rose a c
later_rose a b c l r = grind arith

pub appends_nothing : (a : Option (List ℕ)) → Appends a a []
appends_nothing None = tt
appends_nothing (Some x) = sym (append-nil x)

pub appends_kept : (a b c : Option (List ℕ)) (bs : List ℕ) → Appends a b bs → Keeps b c → Appends a c bs
appends_kept None b c bs p k = tt
appends_kept (Some x) None c bs p k = absurd p
appends_kept (Some x) (Some y) None bs p k = absurd k
appends_kept (Some x) (Some y) (Some z) bs p k = k ∙ p

-- one text after another
pub appends_twice : (a b c : Option (List ℕ)) (bs cs : List ℕ) → Appends a b bs → Appends b c cs → Appends a c (bs ++ cs)
appends_twice None b c bs cs p q = tt
appends_twice (Some x) None c bs cs p q = absurd p
appends_twice (Some x) (Some y) None bs cs p q = absurd q
appends_twice (Some x) (Some y) (Some z) bs cs p q = q ∙ ap (λ l. l ++ cs) p ∙ append_assoc x bs cs

-- a text, and then a front of another
pub front_after : (a b c : Option (List ℕ)) (bs cs : List ℕ) → Appends a b bs → AppendsFront b c cs → AppendsFront a c (bs ++ cs)
front_after a b c bs cs p q = (bs ++ q.0, q.1, ap (λ l. bs ++ l) q.2 ∙ sym (append_assoc bs q.0 q.1), appends_twice a b c bs q.0 p q.3)

-- a front of a text is a front of a longer one
pub front_longer : (a c : Option (List ℕ)) (bs cs : List ℕ) → AppendsFront a c bs → AppendsFront a c (bs ++ cs)
front_longer a c bs cs q = (q.0, q.1 ++ cs, ap (λ l. l ++ cs) q.2 ∙ append_assoc q.0 q.1 cs, q.3)

-- what was appended is a front of itself and more
pub front_of : (a c : Option (List ℕ)) (bs cs : List ℕ) → Appends a c bs → AppendsFront a c (bs ++ cs)
front_of a c bs cs p = (bs, cs, refl, p)

-- one piece of a source after another
pub consumes_twice : (a b c : Option (List ℕ)) (bs cs : List ℕ) → Consumes a b bs → Consumes b c cs → Consumes a c (bs ++ cs)
consumes_twice None b c bs cs p q = tt
consumes_twice (Some x) None c bs cs p q = absurd p
consumes_twice (Some x) (Some y) None bs cs p q = absurd q
consumes_twice (Some x) (Some y) (Some z) bs cs p q = p ∙ ap (λ l. bs ++ l) q ∙ sym (append_assoc bs cs z)

-- what is left after a piece, in the spelling of `&rest[count..]`
rest_is : (rest : List ℕ) (count : ℕ) → take (length rest - count) (drop count rest) ≡ drop count rest
rest_is rest count = ap (λ n. take n (drop count rest)) (sym (length-drop count rest)) ∙ take-length (drop count rest)

-- one more piece of a text was appended
pub piece_after : (bytes rest front : List ℕ) (count : ℕ) (a b c : Option (List ℕ)) → bytes ≡ front ++ rest → Appends a b front → Appends b c (take count rest)
    → (x : List ℕ) × (bytes ≡ x ++ take (length rest - count) (drop count rest)) × Appends a c x
piece_after bytes rest front count a b c e p q = (
  front ++ take count rest,
  e ∙ ap (λ l. front ++ l) (sym (take-append-drop count rest) ∙ ap (λ l. take count rest ++ l) (sym (rest_is rest count))) ∙ sym (append_assoc front (take count rest) (take (length rest - count) (drop count rest))),
  appends_twice a b c front (take count rest) p q,
)
