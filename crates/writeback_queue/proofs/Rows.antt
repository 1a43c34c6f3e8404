-- What is kept of the members, after each kind of entry.
use Rattle.std.proofs.Common.{◌≡◌, ℕ, ◌<◌, ◌||◌, Bool, true, false, not, List, [], ◌∷◌, length, get_or, map, filter, cond, refl, ap, sym, ◌∙◌, Option, Some, None, arith, suc, zero, subst}
use Rattle.std.proofs.Math.ListN.{set}
use Rattle.std.specs.List.{find, remove}
use Rattle.std.proofs.lemmas.Bool.{or_parts, or_left, or_right, false_from_ne_true, false≢true}
use Rattle.vfs_names.specs.declared.who.ItemId.{ItemId}
use Rattle.writeback_queue.specs.declared.member.Member.{Member}
use Rattle.writeback_queue.specs.History.{same}
use Rattle.writeback_queue.proofs.Items.{has, IsApart, eq_from_same, same_itself, flip}

-- f and g agree but at one item
abbrev pub AgreeBeside : (ItemId → Member) → (ItemId → Member) → ItemId → Type 0
AgreeBeside f g item = (other : ItemId) → same other item ≡ false → f other ≡ g other

pub map_beside : (f g : ItemId → Member) (item : ItemId) → AgreeBeside f g item → (items : List ItemId) → has items item ≡ false → map f items ≡ map g items
map_beside f g item agree [] h = refl
map_beside f g item agree (x ∷ xs) h =
    let parts = or_parts (same x item) (has xs item) h in
    let e = map_beside f g item agree xs parts.1 in
    let k = agree x parts.0 in cc

-- the test of an item, at what is kept of it
abbrev pub NamesItem : (ItemId → Member) → Type 0
NamesItem f = (item : ItemId) → (f item).item ≡ item

find_cond : (f : ItemId → Member) (x item : ItemId) (b h : Bool) → (b ≡ true → x ≡ item) → (o : Option Member) → o ≡ cond h (Some (f item)) None → cond b (Some (f x)) o ≡ cond (b || h) (Some (f item)) None
find_cond f x item true h e o k = rw (e refl) refl
find_cond f x item false h e o k = k

-- the first row of an item is what is kept of it
pub find_row : (f : ItemId → Member) → NamesItem f → (item : ItemId) (items : List ItemId) → find (λ m. same m.item item) (map f items) ≡ cond (has items item) (Some (f item)) None
find_row f names item [] = refl
find_row f names item (x ∷ xs) =
    ap (λ i. cond (same i item) (Some (f x)) (find (λ m. same m.item item) (map f xs))) (names x)
    ∙ (find_cond f x item (same x item) (has xs item) (eq_from_same x item) _ (find_row f names item xs))

pub has_at : (items : List ItemId) (item : ItemId) (at : ℕ) (d : ItemId) → at < length items → same (get_or items at d) item ≡ true → has items item ≡ true
has_at [] item at d inside here = absurd (omega arith)
has_at (x ∷ xs) item zero d inside here = or_left (same x item) (has xs item) here
has_at (x ∷ xs) item (suc k) d inside here = or_right (same x item) (has xs item) (has_at xs item k d (omega arith) here)

-- what isn't in a list is no item of it
another : (x item : ItemId) (xs : List ItemId) → has xs x ≡ false → has xs item ≡ true → same x item ≡ false
another x item xs new old =
    false_from_ne_true (same x item) (λ h. false≢true (sym new ∙ (ap (has xs) (eq_from_same x item h) ∙ old)))

-- a member's row is written
pub set_row : (f g : ItemId → Member) (item : ItemId) → AgreeBeside f g item → (items : List ItemId) (at : ℕ) (d : ItemId) → IsApart items → at < length items → same (get_or items at d) item ≡ true
    → set (map f items) at (g item) ≡ map g items
set_row f g item agree [] at d apart inside here = absurd (omega arith)
set_row f g item agree (x ∷ xs) zero d apart inside here =
    let e : x ≡ item = eq_from_same x item here in
    let new : has xs item ≡ false = subst (λ (i : ItemId). has xs i ≡ false) e apart.0 in
    let rest = map_beside f g item agree xs new in
    let first : g x ≡ g item = ap g e in
    cc
set_row f g item agree (x ∷ xs) (suc k) d apart inside here =
    let within : k < length xs = omega arith in
    let first = agree x (another x item xs apart.0 (has_at xs item k d within here)) in
    let rest = set_row f g item agree xs k d apart.1 within here in
    cc

without_none : (item : ItemId) (items : List ItemId) → has items item ≡ false → filter (λ other. not (same item other)) items ≡ items
without_none item [] h = refl
without_none item (x ∷ xs) h =
    let parts = or_parts (same x item) (has xs item) h in
    rw (flip item x parts.0) (ap (λ ys. x ∷ ys) (without_none item xs parts.1))

-- a member's row is taken out
pub remove_row : (f g : ItemId → Member) (item : ItemId) → AgreeBeside f g item → (items : List ItemId) (at : ℕ) (d : ItemId) → IsApart items → at < length items → same (get_or items at d) item ≡ true
    → remove (map f items) at ≡ map g (filter (λ other. not (same item other)) items)
remove_row f g item agree [] at d apart inside here = absurd (omega arith)
remove_row f g item agree (x ∷ xs) zero d apart inside here =
    let e : x ≡ item = eq_from_same x item here in
    let new : has xs item ≡ false = subst (λ (i : ItemId). has xs i ≡ false) e apart.0 in
    let gone : same item x ≡ true = subst (λ (i : ItemId). same i x ≡ true) e (same_itself x) in
    rw gone (map_beside f g item agree xs new ∙ ap (map g) (sym (without_none item xs new)))
remove_row f g item agree (x ∷ xs) (suc k) d apart inside here =
    let within : k < length xs = omega arith in
    let other = another x item xs apart.0 (has_at xs item k d within here) in
    let first = agree x other in
    let rest = remove_row f g item agree xs k d apart.1 within here in
    rw (flip item x other) (ap (λ m. m ∷ remove (map f xs) k) first ∙ ap (λ ms. g x ∷ ms) rest)
