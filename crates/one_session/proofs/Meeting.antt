-- What an open does, from what it met.
use Rattle.std.proofs.Common.{◌≡◌, ◌≢◌, ◌⊎◌, ◌<◌, ◌≤◌, ℕ, suc, ◌+◌, ◌-◌, ◌^◌, ◌++◌, ◌∙◌, ◌||◌, ap, sym, refl, subst, inl, inr, arith, Bool, true, false, Option, None, Some, List, [], ◌∷◌, length, map, reverse, take, cond, nat_lt, append-nil, append_assoc, length-append, Result, Ok, Err}
use Rattle.std.specs.Prelude.{IsSome, IsSomeAnd}
use Rattle.std.proofs.lemmas.List.{map-append, reverse-append}
use Rattle.vfs_names.specs.declared.calls.Access.{Access}
use Rattle.vfs_names.specs.declared.calls.How.{How}
use Rattle.vfs_names.specs.declared.fingerprint.Fingerprint.{Fingerprint}
use Rattle.vfs_names.specs.declared.refusal.Refusal.{Refusal}
use Rattle.vfs_names.specs.declared.refusal.Refusal.TheVariants as refusals
use Rattle.vfs_names.specs.declared.who.By.{By}
use Rattle.vfs_outside.specs.Causes.{Rose}
use Rattle.vfs_outside.specs.Outside.{Outside}
use Rattle.vfs_outside.specs.declared.tree.TreeEntry.{TreeEntry}
use Rattle.vfs_outside.specs.declared.tree.TreeKind.{TreeKind}
use Rattle.vfs_outside.specs.declared.tree.TreeKind.TheVariants as tree
use Rattle.item_core.specs.History.{held_by, is_dirty, is_kept, opens_of}
use Rattle.item_core.specs.Legal.{holds}
use Rattle.item_core.specs.declared.entry.Entry.{Entry}
use Rattle.item_core.specs.declared.entry.FileKind.{FileKind}
use Rattle.item_core.specs.declared.entry.FileKind.TheVariants as file
use Rattle.shown_rows.specs.declared.Shown.TheVariants.{Object}
use Rattle.one_session.specs.Calls.{IsItemAt, ListsOnce, OpensPath, ShowsDir, ShowsNothing, ShowsObject, WasHeld, in_file, in_tree, refused_open}
use Rattle.one_session.specs.Causes.{HandsBig, IsUnshown, ends_gone, is_gone}
use Rattle.one_session.specs.Looking.{Chooses, Gives, MeetsObject, Plans, Refuses, Starts}
use Rattle.one_session.specs.Start.{MayStart, front_of, given_by, is_create, opened_kind, opening}
use Rattle.one_session.specs.State.{History, entries_in}
use Rattle.one_session.specs.Tree.{files_of, is_held_at, item_of, shown}
use Rattle.one_session.specs.declared.plan.Met.{Met}
use Rattle.one_session.specs.declared.plan.Plan.{Plan}
use Rattle.one_session.specs.declared.plan.Plan.TheVariants.{Begin, Refuse, Lose}
use Rattle.one_session.specs.declared.start.Start.{Start}
use Rattle.one_session.specs.declared.start.Start.TheVariants.{Kept, Create, Bind, Adopt}
use Rattle.one_session.proofs.Going.{take_whole}

-- no object is said to be gone last
pub settled_more : (es es' : List TreeEntry) (e : TreeEntry) (path : List ℕ) → es' ≡ es ++ e ∷ [] → is_gone e.kind path ≡ false → ends_gone (reverse es') path ≡ false
settled_more es es' e path is h = ap (λ l. ends_gone (reverse l) path) is ∙ ap (λ l. ends_gone l path) (reverse-append es (e ∷ [])) ∙ h

pub opened_not_gone : (created : Bool) (own : List ℕ) (item : ℕ) (print : Option Fingerprint) (path : List ℕ) → is_gone (opened_kind created own item print) path ≡ false
opened_not_gone true own item print path = refl
opened_not_gone false own item print path = refl

pub settled_look : (by : By) (es lists : List TreeEntry) (path : List ℕ) → ListsOnce by es lists → ends_gone (reverse es) path ≡ false → ends_gone (reverse (es ++ lists)) path ≡ false
settled_look by es lists path (inl h) s = ap (λ l. ends_gone (reverse (es ++ l)) path) h.1 ∙ ap (λ l. ends_gone (reverse l) path) (append-nil es) ∙ s
settled_look by es lists path (inr h) s = settled_more es (es ++ lists) (in_tree by (tree.Listed [] h.1.0)) path (ap (λ l. es ++ l) h.1.1) refl

-- what is done with an object that was opened
module _ {O S : Type 0} (print_of : O → Fingerprint) (bytes : O → List ℕ) (met : Met) (old new : Outside) (object : O) (meets : MeetsObject met) (handed : new.handed ≡ (print_of object, bytes object) ∷ old.handed) where
  pub plans_chosen : (plan : Plan O S) → Chooses print_of met.held object plan → Plans print_of met old new (Ok plan)
  plans_chosen (Begin Kept) h = absurd h
  plans_chosen (Begin Create) h = absurd h
  plans_chosen (Begin (Bind taken)) h = (meets, ap (λ o. holds met.held (print_of o)) h.0 ∙ h.1)
  plans_chosen (Begin (Adopt taken)) h = (meets, subst (λ o. (print_of o).size ≤ 2 ^ 40) (sym h.0) h.1, ap (λ o. holds met.held (print_of o)) h.0 ∙ h.2)
  plans_chosen (Refuse why) h = subst (Refuses met old new) (sym h.0) (meets, record { front = []; print = print_of object; bytes = bytes object; back = old.handed; is = handed; big = h.1 })
  plans_chosen Lose h = absurd h

  pub gives_chosen : (plan : Plan O S) → Chooses print_of met.held object plan → Gives print_of bytes old new (Ok plan)
  gives_chosen (Begin Kept) h = absurd h
  gives_chosen (Begin Create) h = absurd h
  gives_chosen (Begin (Bind taken)) h = subst (λ o. new.handed ≡ (print_of o, bytes o) ∷ old.handed) (sym h.0) handed
  gives_chosen (Begin (Adopt taken)) h = subst (λ o. new.handed ≡ (print_of o, bytes o) ∷ old.handed) (sym h.0) handed
  gives_chosen (Refuse why) h = ((print_of object, bytes object) ∷ [], handed)
  gives_chosen Lose h = absurd h

-- what was met at a path
pub record IsMet (met : Met) (seen : List TreeEntry) (path : List ℕ) (how : How) (past : List Entry) : Type 0 where
  pub used : met.used ≡ is_held_at seen path
  pub there : met.shown ≡ shown seen path
  pub create : met.create ≡ how.create
  pub held : met.held ≡ held_by past
  pub busy : met.used ≡ (is_dirty past || nat_lt 0 (opens_of past))

pub meets_object : (met : Met) (seen : List TreeEntry) (path : List ℕ) (how : How) (past : List Entry) → IsMet met seen path how past → MeetsObject met → ShowsObject path seen
meets_object met seen path how past m h = record { free = sym m.used ∙ h.unused; print = h.print; there = sym m.there ∙ h.there }

idle : (met : Met) (past : List Entry) → met.used ≡ (is_dirty past || nat_lt 0 (opens_of past)) → met.used ≡ false → (is_dirty past ≡ false) × (opens_of past ≡ 0)
idle met past e h = (left (is_dirty past) (nat_lt 0 (opens_of past)) (sym e ∙ h), none (opens_of past) (right (is_dirty past) (nat_lt 0 (opens_of past)) (sym e ∙ h))) where
  left : (a b : Bool) → (a || b) ≡ false → a ≡ false
  left true b x = x
  left false b x = refl

  right : (a b : Bool) → (a || b) ≡ false → b ≡ false
  right true b x = absurd (no x) where
    no : true ≡ false → ⊥
    no y = cc
  right false b x = x

  none : (n : ℕ) → nat_lt 0 n ≡ false → n ≡ 0
  none n x = grind (arith, x)

held_some : (o : Option Fingerprint) (print : Fingerprint) → holds o print ≡ true → IsSome o
held_some None print h = absurd (no h) where
  no : false ≡ true → ⊥
  no y = cc
held_some (Some x) print h = refl

module _ {O S : Type 0} (print_of : O → Fingerprint) (met : Met) (seen : List TreeEntry) (path : List ℕ) (how : How) (past : List Entry) (m : IsMet met seen path how past) where
  -- a file that is kept may begin so
  pub may_start : is_kept past ≡ true → (start : Start O S) → Starts print_of met start → MayStart print_of start past
  may_start kept Kept h = kept
  may_start kept Create h = idle met past m.busy h.0
  may_start kept (Bind object) h = (kept, ap (λ o. holds o (print_of object)) (sym m.held) ∙ h.1)
  may_start kept (Adopt object) h = let i = idle met past m.busy h.0.unused in (i.0, i.1, h.1, inr (ap (λ o. holds o (print_of object)) (sym m.held) ∙ h.2))

  -- it opens the path as opens do
  pub opens_path : (item : ℕ) (print : Option Fingerprint) (by : By) (made : ℕ) (start : Start O S) → IsItemAt seen path item → print ≡ held_by (reverse (map (in_file by true made) (front_of print_of start)) ++ past) → Starts print_of met start
      → OpensPath how path item print (opened_kind (is_create start) path item print) seen
  opens_path item print by made Kept at p (inl h) = (at, inl (sym m.used ∙ h, refl))
  opens_path item print by made Kept at p (inr h) = (at, inr (inl (record { free = sym m.used ∙ h.0; print = h.1.0; there = sym m.there ∙ h.1.1 }, subst (λ o. IsSome o) (sym (p ∙ sym m.held ∙ h.1.2)) refl, refl)))
  opens_path item print by made Create at p h = (at, inr (inr (record { free = sym m.used ∙ h.0; nothing = sym m.there ∙ h.1 }, sym m.create ∙ h.2, refl)))
  opens_path item print by made (Bind object) at p h = (at, inr (inl (meets_object met seen path how past m h.0, subst (λ o. IsSome o) (sym (p ∙ sym m.held)) (held_some met.held (print_of object) h.1), refl)))
  opens_path item print by made (Adopt object) at p h = (at, inr (inl (meets_object met seen path how past m h.0, subst (λ o. IsSome o) (sym p) refl, refl)))

-- what a file held before its last entry opened it
pub held_is : (files : List History) (item : ℕ) (old : List Entry) (by : By) (access : Access) (made : ℕ) (front : List FileKind) (n : ℕ) (print : Option Fingerprint) → entries_in files item ≡ old ++ opening by access made front → n ≡ length old + length front
    → WasHeld files item n print → print ≡ held_by (reverse (map (in_file by true made) front) ++ reverse old)
held_is files item old by access made front n print is at w = w.so ∙ ap (λ l. held_by (reverse l)) cut ∙ ap held_by (reverse-append old (map (in_file by true made) front)) where
  length_mapped : (kinds : List FileKind) → length (map (in_file by true made) kinds) ≡ length kinds
  length_mapped [] = refl
  length_mapped (kind ∷ kinds) = ap suc (length_mapped kinds)

  cut : take n (entries_in files item) ≡ old ++ map (in_file by true made) front
  cut = ap (take n) (is ∙ ap (λ l. old ++ l) (map-append (in_file by true made) front (file.Opened access ∷ [])) ∙ sym (append_assoc old (map (in_file by true made) front) (in_file by true made (file.Opened access) ∷ [])))
      ∙ take_whole (old ++ map (in_file by true made) front) (in_file by true made (file.Opened access) ∷ []) n (at ∙ ap (λ k. length old + k) (sym (length_mapped front)) ∙ sym (length-append old (map (in_file by true made) front)))

-- the path wasn't shown before a refusal
pub unshown : (seen new : List TreeEntry) (e : TreeEntry) (path : List ℕ) → new ≡ seen ++ e ∷ [] → shown seen path ≡ None → ends_gone (reverse seen) path ≡ false → IsUnshown new path (length seen)
unshown seen new e path is none settled = record {
  inside = omega (arith, ap length is, length-append seen (e ∷ []));
  nothing = ap (λ l. shown l path) cut ∙ none;
  not_gone = ap (λ l. ends_gone (reverse l) path) cut ∙ settled;
} where
  cut : take (length seen) new ≡ seen
  cut = ap (take (length seen)) is ∙ take_whole seen (e ∷ []) (length seen) refl

-- what is known of a plan, once it is seen
pub plan_is : {O S : Type 0} (print_of : O → Fingerprint) (met : Met) (old new : Outside) (p q : Plan O S) → p ≡ q → Plans print_of met old new (Ok p) → Plans print_of met old new (Ok q)
plan_is print_of met old new p q e h = subst (λ r. Plans print_of met old new (Ok r)) e h

pub gives_is : {O S : Type 0} (print_of : O → Fingerprint) (bytes : O → List ℕ) (old new : Outside) (p q : Plan O S) → p ≡ q → Gives print_of bytes old new (Ok p) → Gives print_of bytes old new (Ok q)
gives_is print_of bytes old new p q e h = subst (λ r. Gives print_of bytes old new (Ok r)) e h
