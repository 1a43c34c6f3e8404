-- What the files were given is among what the store handed out.
use Rattle.std.proofs.Common.{◌≡◌, ◌<◌, ℕ, zero, suc, ◌++◌, ◌∙◌, ap, sym, subst, arith, List, [], ◌∷◌, length, set}
use Rattle.std.specs.List.{AllByRecursion}
use Rattle.std.proofs.lemmas.List.{length-map}
use Rattle.vfs_names.specs.declared.fingerprint.Fingerprint.{Fingerprint}
use Rattle.item_core.specs.Content.{Known}
use Rattle.item_image.specs.Premise.{Holds}
use Rattle.sparse_item.specs.Item.{Item}
use Rattle.one_session.specs.Causes.{AreGiven}
use Rattle.one_session.specs.Views.{given_all, histories, item_in, stored}
use Rattle.one_session.proofs.Serving.{holds_part}

abbrev Pairs : Type 0
Pairs = List (Fingerprint × List ℕ)

each : (tells : Type 0) (items : List Item) (i : ℕ) (known : Known) → i < length items → AllByRecursion (λ (given : Pairs). Holds tells given known) (given_all items) → Holds tells (item_in items i).pairs known
each tells [] i known lt h = absurd (omega (arith, lt))
each tells (x ∷ items) zero known lt h = h.0
each tells (x ∷ items) (suc i) known lt h = each tells items i known (omega (arith, lt)) h.1

-- a map that holds what was handed out holds what a file was given
pub given_at : (tells : Type 0) (handed : Pairs) (items : List Item) (i : ℕ) (known : Known) → AreGiven tells handed (given_all items) → i < length (histories items) → Holds tells handed known → Holds tells (item_in items i).pairs known
given_at tells handed items i known given lt h = each tells items i known (omega (arith, lt, length-map items stored)) (given known h)

-- more was handed out
pub given_later : (tells : Type 0) (more before : Pairs) (given : List Pairs) → AreGiven tells before given → AreGiven tells (more ++ before) given
given_later tells more before given g known h = g known (holds_part tells more before known h)

put_each : (P : Pairs → Type 0) (given : List Pairs) (i : ℕ) (pairs : Pairs) → AllByRecursion P given → P pairs → AllByRecursion P (set given i pairs)
put_each P [] i pairs all it = all
put_each P (x ∷ given) zero pairs all it = (it, all.1)
put_each P (x ∷ given) (suc i) pairs all it = (all.0, put_each P given i pairs all.1 it)

both : (tells : Type 0) (a b : Pairs) (known : Known) → Holds tells a known → Holds tells b known → Holds tells (a ++ b) known
both tells [] b known h k = k
both tells (p ∷ a) b known h k = (h.0, both tells a b known h.1 k)

front : (tells : Type 0) (a b : Pairs) (known : Known) → Holds tells (a ++ b) known → Holds tells a known
front tells [] b known h = tt
front tells (p ∷ a) b known h = (h.0, front tells a b known h.1)

-- what was handed out was given to a file
pub given_put : (tells : Type 0) (more before : Pairs) (items : List Item) (i : ℕ) → i < length (histories items) → AreGiven tells before (given_all items) → AreGiven tells (more ++ before) (set (given_all items) i (more ++ (item_in items i).pairs))
given_put tells more before items i lt g known h = let old = g known (holds_part tells more before known h) in
    put_each (λ given. Holds tells given known) (given_all items) i (more ++ (item_in items i).pairs) old
    (both tells more (item_in items i).pairs known (front tells more before known h) (each tells items i known (omega (arith, lt, length-map items stored)) old))

end_each : (P : Pairs → Type 0) (given : List Pairs) (pairs : Pairs) → AllByRecursion P given → P pairs → AllByRecursion P (given ++ pairs ∷ [])
end_each P [] pairs all it = (it, tt)
end_each P (x ∷ given) pairs all it = (all.0, end_each P given pairs all.1 it)

-- and to a new one
pub given_new : (tells : Type 0) (more before : Pairs) (given : List Pairs) → AreGiven tells before given → AreGiven tells (more ++ before) (given ++ more ∷ [])
given_new tells more before given g known h = end_each (λ given. Holds tells given known) given more (g known (holds_part tells more before known h)) (front tells more before known h)

-- nothing was handed out but what the store says
pub given_as : (tells : Type 0) (a b : Pairs) (given given' : List Pairs) → a ≡ b → given ≡ given' → AreGiven tells a given → AreGiven tells b given'
given_as tells a b given given' e f g = subst (λ x. AreGiven tells b x) f (subst (λ x. AreGiven tells x given) e g)

-- a file was begun, with what was handed out for it or nothing
pub given_begun : (tells : Type 0) (a mid b more : Pairs) (items items' : List Item) (i : ℕ) (given' : List Pairs) → given' ≡ set (given_all items') i (more ++ (item_in items' i).pairs) → mid ≡ a → b ≡ more ++ mid → i < length (histories items') → given_all items' ≡ given_all items
    → AreGiven tells a (given_all items) → AreGiven tells b given'
given_begun tells a mid b more items items' i given' is m e lt same g = subst (AreGiven tells b) (sym is) (subst (λ x. AreGiven tells x (set (given_all items') i (more ++ (item_in items' i).pairs))) (sym (e ∙ ap (λ l. more ++ l) m))
    (given_put tells more a items' i lt (subst (AreGiven tells a) (sym same) g)))

-- a file was made, with what was handed out for it or nothing
pub given_made : (tells : Type 0) (a mid b more : Pairs) (given same given' : List Pairs) → given' ≡ same ++ more ∷ [] → mid ≡ a → b ≡ more ++ mid → same ≡ given → AreGiven tells a given → AreGiven tells b given'
given_made tells a mid b more given same given' is m e s g = subst (AreGiven tells b) (sym (is ∙ ap (λ l. l ++ more ∷ []) s)) (subst (λ x. AreGiven tells x (given ++ more ∷ [])) (sym (e ∙ ap (λ l. more ++ l) m))
    (given_new tells more a given g))
