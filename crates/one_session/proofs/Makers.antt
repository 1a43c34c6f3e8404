-- Who made the entries of a call, and in which phase.
use Rattle.std.proofs.Common.{◌≡◌, ◌∙◌, inl, inr, ◌≤◌, ◌++◌, ℕ, Bool, Option, None, Some, List, [], ◌∷◌, reverse, arith, refl, subst, sym}
use Rattle.std.proofs.lemmas.Grind.{reverse_onto}
use Rattle.std.proofs.lemmas.List.{reverse-reverse}
use Rattle.std.specs.List.{AllByRecursion}
use Rattle.std.specs.Prelude.{IsSomeAnd}
use Rattle.vfs_names.specs.declared.fingerprint.Fingerprint.{Fingerprint}
use Rattle.vfs_names.specs.declared.calls.How.{How}
use Rattle.vfs_names.specs.declared.refusal.Refusal.TheVariants as why
use Rattle.vfs_names.specs.declared.who.By.{By}
use Rattle.vfs_names.specs.declared.who.ItemId.{ItemId}
use Rattle.vfs_outside.specs.declared.tree.TreeEntry.{TreeEntry}
use Rattle.vfs_outside.specs.declared.tree.TreeKind.{TreeKind}
use Rattle.vfs_outside.specs.declared.tree.TreeKind.TheVariants as tree
use Rattle.item_core.specs.Legal.{IsNoLater, IsTimely}
use Rattle.item_core.specs.declared.entry.Entry.{Entry}
use Rattle.session_script.specs.declared.call.Call.{Call}
use Rattle.session_script.specs.declared.call.Call.TheVariants as call
use Rattle.session_text.specs.declared.reply.Record.{Record}
use Rattle.one_session.specs.Calls.{AfterLook, CloseAdds, FailsAt, ListsOnce, MayBegin, MissesPath, OpenAdds, OpensFile, OpensPath, ShowsDir, ShowsNothing, ShowsObject, TreeDoes, WasDirty, WasHeld, in_tree, refused_open}
use Rattle.one_session.specs.Served.{file_phase}
use Rattle.one_session.specs.State.{History}

pub all_append : {A : Type 0} (P : A → Type 0) (xs ys : List A) → AllByRecursion P xs → AllByRecursion P ys → AllByRecursion P (xs ++ ys)
all_append P [] ys p q = q
all_append P (x ∷ xs) ys p q = (p.0, all_append P xs ys p.1 q)

pub all_mono : {A : Type 0} (P Q : A → Type 0) → ((x : A) → P x → Q x) → (xs : List A) → AllByRecursion P xs → AllByRecursion Q xs
all_mono P Q f [] p = tt
all_mono P Q f (x ∷ xs) p = (f x p.0, all_mono P Q f xs p.1)

pub all_reverse : {A : Type 0} (P : A → Type 0) (xs : List A) → AllByRecursion P xs → AllByRecursion P (reverse xs)
all_reverse P [] p = tt
all_reverse P (x ∷ xs) p = subst (AllByRecursion P) (sym (reverse_onto xs x [])) (all_append P (reverse xs) (x ∷ []) (all_reverse P xs p.1) (p.0, tt))

-- what is in the order of time was done in no later phase than what is no sooner
pub all_no_later : (past : List Entry) (by : By) → IsNoLater past by → IsTimely past → AllByRecursion (λ (e : Entry). file_phase e ≤ by.who.phase) past
all_no_later [] by h t = tt
all_no_later (e ∷ older) by h t = (h.0, all_mono (λ (x : Entry). file_phase x ≤ e.by.who.phase) (λ (x : Entry). file_phase x ≤ by.who.phase) (λ x q. omega (arith, q, h.0)) older (all_no_later older e.by t.0 t.1))

-- the same of a history, its oldest entry first
pub stored_no_later : (entries : List Entry) (by : By) → IsNoLater (reverse entries) by → IsTimely (reverse entries) → AllByRecursion (λ (e : Entry). file_phase e ≤ by.who.phase) entries
stored_no_later entries by h t = subst (AllByRecursion (λ (e : Entry). file_phase e ≤ by.who.phase)) (reverse-reverse entries)
    (all_reverse (λ (e : Entry). file_phase e ≤ by.who.phase) (reverse entries) (all_no_later (reverse entries) by h t))

-- entries of the tree that were made by one maker
abbrev pub AreBy : By → List TreeEntry → Type 0
AreBy by entries = AllByRecursion (λ (e : TreeEntry). e.by ≡ by) entries

lists_by : (by : By) (before lists : List TreeEntry) → ListsOnce by before lists → AreBy by lists
lists_by by before lists (inl (e, l)) = subst (AreBy by) (sym l) tt
lists_by by before lists (inr (e, (listing, l))) = subst (AreBy by) (sym l) (refl, tt)

after_look_by : (by : By) (before added own : List TreeEntry) (so : List TreeEntry → Type 0) → AfterLook by before added own so → AreBy by own → AreBy by added
after_look_by by before added own so a p = subst (AreBy by) (sym a.is) (all_append (λ (e : TreeEntry). e.by ≡ by) a.lists own (lists_by by before a.lists a.once) p)

some_and : {A Q : Type 0} (o : Option A) (P : A → Type 0) → IsSomeAnd o P → ((x : A) → P x → Q) → Q
some_and None P h f = absurd h
some_and (Some x) P h f = f x h

opens_by : (by : By) (files : List History) (path : List ℕ) (how : How) (r : Record) (before added : List TreeEntry) → OpensFile by files path how r before added → AreBy by added
opens_by by files path how r before added p =
    some_and {Q = AreBy by added} r.file
    (λ (f : ItemId × ℕ). (own : TreeKind) × (print : Option Fingerprint) × WasHeld files f.0.0 f.1 print × AfterLook by before added (in_tree by own ∷ []) (OpensPath how path f.0.0 print own))
    p (λ f q. after_look_by by before added (in_tree by q.0 ∷ []) (OpensPath how path f.0.0 q.1 q.0) q.3 (refl, tt))

misses_by : (by : By) (path : List ℕ) (how : How) (before added : List TreeEntry) → MissesPath by path how before added → AreBy by added
misses_by by path how before added (inl (x, e)) = subst (AreBy by) (sym e) (refl, tt)
misses_by by path how before added (inr (inl (x, a))) = after_look_by by before added (refused_open by path why.NotFound ∷ []) (ShowsNothing path) a (refl, tt)
misses_by by path how before added (inr (inr a)) = after_look_by by before added (in_tree by (tree.Gone path) ∷ refused_open by path why.NotFound ∷ []) (ShowsObject path) a (refl, (refl, tt))

fails_by : (by : By) (path : List ℕ) (before added : List TreeEntry) → FailsAt by path before added → AreBy by added
fails_by by path before added (inl (x, e)) = subst (AreBy by) (sym e) (refl, tt)
fails_by by path before added (inr a) = after_look_by by before added (refused_open by path why.RemoteFault ∷ []) (ShowsObject path) a (refl, tt)

open_by : (by : By) (files : List History) (path : List ℕ) (how : How) (r : Record) (before added : List TreeEntry) → OpenAdds by files path how r before added → AreBy by added
open_by by files path how r before added (inl (x, p)) = opens_by by files path how r before added p
open_by by files path how r before added (inr (inl (x, p))) = misses_by by path how before added p
open_by by files path how r before added (inr (inr (inl (x, p)))) = fails_by by path before added p
open_by by files path how r before added (inr (inr (inr (inl (x, p))))) = after_look_by by before added (refused_open by path why.IsDir ∷ []) (ShowsDir path) p (refl, tt)
open_by by files path how r before added (inr (inr (inr (inr (inl (x, p)))))) = after_look_by by before added (refused_open by path why.TooBig ∷ []) (ShowsObject path) p (refl, tt)
open_by by files path how r before added (inr (inr (inr (inr (inr (inl (x, p))))))) = after_look_by by before added (refused_open by path why.DiskFault ∷ []) (MayBegin path how) p (refl, tt)
open_by by files path how r before added (inr (inr (inr (inr (inr (inr (x, p))))))) = after_look_by by before added [] (MayBegin path how) p tt

close_by : (by : By) (files : List History) (r : Record) (added : List TreeEntry) → CloseAdds by files r added → AreBy by added
close_by by files r added p =
    some_and {Q = AreBy by added} r.file
    (λ (f : ItemId × ℕ). (dirty : Bool) × (added ≡ in_tree by (tree.Closed f.0 dirty) ∷ []) × WasDirty files f.0.0 f.1 dirty)
    p.1 (λ f q. subst (AreBy by) (sym q.1) (refl, tt))

-- what a call adds to the tree is by its maker
pub tree_by : (by : By) (files : List History) (c : Call) (r : Record) (before added : List TreeEntry) → TreeDoes by files c r before added → AreBy by added
tree_by by files (call.Open h path how) r before added p = open_by by files path how r before added p
tree_by by files (call.Close h) r before added p = close_by by files r added p
tree_by by files (call.Read h pos len) r before added p = absurd p
tree_by by files (call.Write h pos payload) r before added p = absurd p
tree_by by files (call.Size h size) r before added p = absurd p
tree_by by files (call.Stat path) r before added p = absurd p
tree_by by files (call.List path) r before added p = absurd p
tree_by by files (call.MakeDir path) r before added p = absurd p
tree_by by files (call.RemoveDir path) r before added p = absurd p
tree_by by files (call.Unlink path) r before added p = absurd p
tree_by by files (call.Rename from to) r before added p = absurd p
