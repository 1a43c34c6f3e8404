-- The list of members: what it has, that no item stands in it twice, and lists made of it item by item.
use Rattle.std.proofs.Common.{◌≡◌, ℕ, ◌||◌, ◌&&◌, Bool, true, false, not, List, [], ◌∷◌, ◌++◌, filter, cond, refl, ap, ◌∙◌, arith}
use Rattle.std.specs.List.{list_any}
use Rattle.std.proofs.lemmas.Bool.{eqb-true, eq-eqb, or_parts}
use Rattle.std.proofs.lemmas.Bool.Decides.{nat_tests}
use Rattle.vfs_names.specs.declared.who.ItemId.{ItemId}
use Rattle.vfs_names.specs.declared.who.By.{By}
use Rattle.writeback_queue.specs.declared.entry.QueueKind.{QueueKind}
use Rattle.writeback_queue.specs.declared.entry.QueueKind.TheVariants.{Add, Remove, SetDue, Take, Fail}
use Rattle.writeback_queue.specs.declared.entry.QueueEntry.{QueueEntry}
use Rattle.writeback_queue.specs.declared.entry.QueueTerms.{QueueTerms}
use Rattle.writeback_queue.specs.History.{same, is_member, member_after, members, members_after}
use Rattle.writeback_queue.specs.Legal.{IsLegal, IsAllowed}

-- items that pass the test are one
pub eq_from_same : (a b : ItemId) → same a b ≡ true → a ≡ b
eq_from_same a b h = let make : ℕ → ItemId = λ n. record { 0 = n } in ap make (eqb-true a.0 b.0 h)

pub same_itself : (a : ItemId) → same a a ≡ true
same_itself a = eq-eqb a.0 a.0 refl

-- the list has the item
abbrev pub has : List ItemId → ItemId → Bool
has items item = list_any (λ other. same other item) items

-- no item stands in the list twice
abbrev pub IsApart : List ItemId → Type 0
IsApart [] = Unit {0}
IsApart (x ∷ xs) = (has xs x ≡ false) × IsApart xs

or_swap : (a b c : Bool) → (a || (b || c)) ≡ (b || (a || c))
or_swap true true c = refl
or_swap true false c = refl
or_swap false b c = refl

pub has_push : (items : List ItemId) (added item : ItemId) → has (items ++ added ∷ []) item ≡ (same added item || has items item)
has_push [] added item = refl
has_push (x ∷ xs) added item =
    ap (λ b. same x item || b) (has_push xs added item) ∙ or_swap (same x item) (same added item) (has xs item)

nothing : (b : Bool) → false ≡ (not b && false)
nothing true = refl
nothing false = refl

has_cond : (b : Bool) (x item : ItemId) (xs : List ItemId) → has (cond b (x ∷ xs) xs) item ≡ ((b && same x item) || has xs item)
has_cond true x item xs = refl
has_cond false x item xs = refl

without_one : (g s k h : Bool) → (s ≡ true → g ≡ k) → ((not g && s) || (not k && h)) ≡ (not k && (s || h))
without_one true false k h e = refl
without_one false false k h e = refl
without_one g true true h e = rw (e refl) refl
without_one g true false h e = rw (e refl) refl

pub has_without : (gone item : ItemId) (items : List ItemId) → has (filter (λ other. not (same gone other)) items) item ≡ (not (same gone item) && has items item)
has_without gone item [] = nothing (same gone item)
has_without gone item (x ∷ xs) =
    has_cond (not (same gone x)) x item (filter (λ other. not (same gone other)) xs)
    ∙ (ap (λ b. (not (same gone x) && same x item) || b) (has_without gone item xs)
    ∙ without_one (same gone x) (same x item) (same gone item) (has xs item) (λ h. ap (same gone) (eq_from_same x item h)))

has_after : (kind : QueueKind) (items : List ItemId) (item : ItemId) → has (members_after kind items) item ≡ member_after kind item (has items item)
has_after (Add added due) items item = has_push items added item
has_after (Remove gone) items item = has_without gone item items
has_after (SetDue moved due) items item = refl
has_after (Take taken) items item = refl
has_after (Fail failed) items item = refl

-- the members are the items whose last Add has no later Remove
pub has_members : (past : List QueueEntry) (item : ItemId) → has (members past) item ≡ is_member past item
has_members [] item = refl
has_members (e ∷ older) item = has_after e.kind (members older) item ∙ ap (λ b. member_after e.kind item b) (has_members older item)

and_false : (b : Bool) → ((b && false) || false) ≡ false
and_false true = refl
and_false false = refl

pub flip : (a b : ItemId) → same b a ≡ false → same a b ≡ false
flip a b h = grind (arith, nat_tests)

has_false_without : (q : ItemId → Bool) (items : List ItemId) (item : ItemId) → has items item ≡ false → has (filter q items) item ≡ false
has_false_without q [] item h = refl
has_false_without q (x ∷ xs) item h =
    let parts = or_parts (same x item) (has xs item) h in
    has_cond (q x) x item (filter q xs) ∙ (rw (parts.0, has_false_without q xs item parts.1) (and_false (q x)))

apart_cond : (b : Bool) (x : ItemId) (xs : List ItemId) → has xs x ≡ false → IsApart xs → IsApart (cond b (x ∷ xs) xs)
apart_cond true x xs new apart = (new, apart)
apart_cond false x xs new apart = apart

apart_without : (q : ItemId → Bool) (items : List ItemId) → IsApart items → IsApart (filter q items)
apart_without q [] apart = tt
apart_without q (x ∷ xs) apart =
    apart_cond (q x) x (filter q xs) (has_false_without q xs x apart.0) (apart_without q xs apart.1)

apart_push : (items : List ItemId) (added : ItemId) → IsApart items → has items added ≡ false → IsApart (items ++ added ∷ [])
apart_push [] added apart new = (refl, tt)
apart_push (x ∷ xs) added apart new =
    let parts = or_parts (same x added) (has xs added) new in
    (has_push xs added x ∙ rw (flip added x parts.0, apart.0) refl, apart_push xs added apart.1 parts.1)

apart_after : (terms : QueueTerms) (older : List QueueEntry) (by : By) (kind : QueueKind) → IsAllowed terms older by kind
    → IsApart (members older) → IsApart (members_after kind (members older))
apart_after terms older by (Add added due) allowed apart = apart_push (members older) added apart (has_members older added ∙ allowed.0)
apart_after terms older by (Remove gone) allowed apart = apart_without (λ other. not (same gone other)) (members older) apart
apart_after terms older by (SetDue moved due) allowed apart = apart
apart_after terms older by (Take taken) allowed apart = apart
apart_after terms older by (Fail failed) allowed apart = apart

-- in a legal history no item is a member twice
pub members_apart : (terms : QueueTerms) (past : List QueueEntry) → IsLegal terms past → IsApart (members past)
members_apart terms [] legal = tt
members_apart terms (e ∷ older) legal = apart_after terms older e.by e.kind legal.0 (members_apart terms older legal.1)
