-- An open of a path that has a file makes none, and one that asks the disk for nothing has no cause in it.
use Rattle.std.proofs.Common.{◌≡◌, ◌⊎◌, ◌<◌, ◌≤◌, ℕ, ◌+◌, ◌++◌, ◌∙◌, ap, sym, refl, subst, inl, inr, arith, max, true, None, Option, Some, List, [], ◌∷◌, length, append-nil, append_assoc}
use Rattle.std.specs.Prelude.{IsSome, IsSomeAnd}
use Rattle.std.proofs.lemmas.Option.{none-some}
use Rattle.vfs_names.specs.declared.calls.How.{How}
use Rattle.vfs_names.specs.declared.fingerprint.Fingerprint.{Fingerprint}
use Rattle.vfs_names.specs.declared.refusal.Refusal.{Refusal}
use Rattle.vfs_names.specs.declared.refusal.Refusal.TheVariants as refusals
use Rattle.vfs_names.specs.declared.refusal.Verb.TheVariants as verb
use Rattle.vfs_names.specs.declared.who.By.{By}
use Rattle.vfs_names.specs.declared.who.ItemId.{ItemId}
use Rattle.vfs_outside.specs.Causes.{Rose}
use Rattle.vfs_outside.specs.Outside.{Outside}
use Rattle.vfs_outside.specs.declared.tree.TreeEntry.{TreeEntry}
use Rattle.vfs_outside.specs.declared.tree.TreeKind.{TreeKind}
use Rattle.vfs_outside.specs.declared.tree.TreeKind.TheVariants as tree
use Rattle.item_core.specs.Content.{Known}
use Rattle.downloaders.specs.declared.Plan.{Plan}
use Rattle.session_script.specs.declared.call.Call.TheVariants as call
use Rattle.session_text.specs.declared.reply.Record.{Record}
use Rattle.session_text.specs.declared.reply.Reply.TheVariants as reply
use Rattle.one_session.specs.Calls.{AfterLook, FailsAt, IsItemAt, MayBegin, MissesPath, OpenAdds, OpensPath, ShowsDir, ShowsNothing, ShowsObject, TreeDoes, WasHeld, in_tree, refused_open}
use Rattle.one_session.specs.Causes.{HasOpenCause}
use Rattle.one_session.specs.Did.{Did, Grows}
use Rattle.one_session.specs.Served.{in_tree_of}
use Rattle.one_session.specs.State.{History, State, Step, item_in}
use Rattle.one_session.specs.Steps.{IsPlaced, Touches}
use Rattle.one_session.specs.Tree.{files_after, files_of, is_held_at, item_of}
use Rattle.one_session.proofs.Trees.{files_more, looked_files, looked_item, plain_gone, plain_refused}

some_is : (a b : ℕ) → Some a ≡ Some b → a ≡ b
some_is a b e = cc

refused_files : (by : By) (path : List ℕ) (why : Refusal) (seen : List TreeEntry) → files_of (seen ++ refused_open by path why ∷ []) ≡ files_of seen
refused_files by path why seen = files_more seen (refused_open by path why) ∙ (plain_refused verb.Open path why).files (files_of seen)

lost_files : (by : By) (path own : List ℕ) (why : Refusal) (seen : List TreeEntry) → files_of (seen ++ in_tree by (tree.Gone path) ∷ refused_open by own why ∷ []) ≡ files_of seen
lost_files by path own why seen = ap files_of (sym (append_assoc seen (in_tree by (tree.Gone path) ∷ []) (refused_open by own why ∷ []))) ∙ refused_files by own why (seen ++ in_tree by (tree.Gone path) ∷ [])
    ∙ files_more seen (in_tree by (tree.Gone path)) ∙ (plain_gone path).files (files_of seen)

module _ (by : By) (path : List ℕ) (before : List TreeEntry) (item : ℕ) (at : item_of before path ≡ Some item) (inside : item < files_of before) where
  -- what is added once the root was listed makes no file
  looked_none : (added own : List TreeEntry) (so : List TreeEntry → Type 0) → AfterLook by before added own so
      → ((seen : List TreeEntry) → item_of seen path ≡ Some item → item < files_of seen → so seen → files_of (seen ++ own) ≡ files_of seen) → files_of (before ++ added) ≡ files_of before
  looked_none added own so a none = ap (λ l. files_of (before ++ l)) a.is ∙ ap files_of (sym (append_assoc before a.lists own))
      ∙ none (before ++ a.lists) (looked_item by before a.lists path a.once ∙ at) (omega (arith, inside, looked_files by before a.lists a.once)) a.found ∙ looked_files by before a.lists a.once

  same_item : (seen : List TreeEntry) (other : ℕ) → item_of seen path ≡ Some item → IsItemAt seen path other → other ≡ item
  same_item seen other is (inl h) = some_is other item (sym h ∙ is)
  same_item seen other is (inr h) = absurd (none-some item (sym h.0 ∙ is))

  opened_files : (seen : List TreeEntry) (how : How) (other : ℕ) (print : Option Fingerprint) (own : TreeKind) → item_of seen path ≡ Some item → item < files_of seen → OpensPath how path other print own seen → files_of (seen ++ in_tree by own ∷ []) ≡ files_of seen
  opened_files seen how other print own is lt h = files_more seen (in_tree by own) ∙ by_kind h.1 where
    most : (n i : ℕ) → i ≡ item → item < n → max n (i + 1) ≡ n
    most n i e l = grind (arith, e, l)

    still : max (files_of seen) (other + 1) ≡ files_of seen
    still = most (files_of seen) other (same_item seen other is h.0) lt

    by_kind : ((is_held_at seen path ≡ true) × (own ≡ tree.Opened path (record { 0 = other }) print)) ⊎ (ShowsObject path seen × IsSome print × (own ≡ tree.Opened path (record { 0 = other }) print))
        ⊎ (ShowsNothing path seen × (how.create ≡ true) × (own ≡ tree.Created path (record { 0 = other }))) → files_after own (files_of seen) ≡ files_of seen
    by_kind (inl k) = ap (λ kind. files_after kind (files_of seen)) k.1 ∙ still
    by_kind (inr (inl k)) = ap (λ kind. files_after kind (files_of seen)) k.2 ∙ still
    by_kind (inr (inr k)) = ap (λ kind. files_after kind (files_of seen)) k.2 ∙ still

  opened_none : (files : List History) (how : How) (added : List TreeEntry) (o : Option (ItemId × ℕ)) → IsSomeAnd o (λ f. (own : TreeKind) × (print : Option Fingerprint) × WasHeld files f.0.0 f.1 print × AfterLook by before added (in_tree by own ∷ []) (OpensPath how path f.0.0 print own))
      → files_of (before ++ added) ≡ files_of before
  opened_none files how added None h = absurd h
  opened_none files how added (Some f) h = looked_none added (in_tree by h.0 ∷ []) (OpensPath how path f.0.0 h.1 h.0) h.3 (λ seen is lt so. opened_files seen how f.0.0 h.1 h.0 is lt so)

  refused_none : (why : Refusal) (added : List TreeEntry) (so : List TreeEntry → Type 0) → AfterLook by before added (refused_open by path why ∷ []) so → files_of (before ++ added) ≡ files_of before
  refused_none why added so a = looked_none added (refused_open by path why ∷ []) so a (λ seen is lt found. refused_files by path why seen)

  unlisted_none : (why : Refusal) (added : List TreeEntry) → added ≡ refused_open by path why ∷ [] → files_of (before ++ added) ≡ files_of before
  unlisted_none why added is = ap (λ l. files_of (before ++ l)) is ∙ refused_files by path why before

  missed_none : (how : How) (added : List TreeEntry) → MissesPath by path how before added → files_of (before ++ added) ≡ files_of before
  missed_none how added (inl h) = unlisted_none refusals.NotFound added h.1
  missed_none how added (inr (inl h)) = refused_none refusals.NotFound added (ShowsNothing path) h.1
  missed_none how added (inr (inr h)) = looked_none added (in_tree by (tree.Gone path) ∷ refused_open by path refusals.NotFound ∷ []) (ShowsObject path) h (λ seen is lt found. lost_files by path path refusals.NotFound seen)

  failed_none : (added : List TreeEntry) → FailsAt by path before added → files_of (before ++ added) ≡ files_of before
  failed_none added (inl h) = unlisted_none refusals.RemoteFault added h.1
  failed_none added (inr h) = refused_none refusals.RemoteFault added (ShowsObject path) h

  opens_none : (files : List History) (how : How) (r : Record) (added : List TreeEntry) → OpenAdds by files path how r before added → files_of (before ++ added) ≡ files_of before
  opens_none files how r added (inl h) = opened_none files how added r.file h.1
  opens_none files how r added (inr (inl h)) = missed_none how added h.1
  opens_none files how r added (inr (inr (inl h))) = failed_none added h.1
  opens_none files how r added (inr (inr (inr (inl h)))) = refused_none refusals.IsDir added (ShowsDir path) h.1
  opens_none files how r added (inr (inr (inr (inr (inl h))))) = refused_none refusals.TooBig added (ShowsObject path) h.1
  opens_none files how r added (inr (inr (inr (inr (inr (inl h)))))) = refused_none refusals.DiskFault added (MayBegin path how) h.1
  opens_none files how r added (inr (inr (inr (inr (inr (inr h)))))) = looked_none added [] (MayBegin path how) h.1 (λ seen is lt found. ap files_of (append-nil seen))

-- so there are as many files as before
pub as_many : (holds : Known → Type 0) (by : By) (done : Record) (s t : State) (h item : ℕ) (path : List ℕ) (how : How) → files_of s.tree ≡ length s.files → files_of t.tree ≡ length t.files
    → item_of s.tree path ≡ Some item → item < length s.files → Did 1 holds by (call.Open h path how) done s t → length t.files ≡ length s.files
as_many holds by done s t h item path how old new at inside did = sym new ∙ tell did.in_tree ∙ old where
  tell : Grows in_tree_of 1 (TreeDoes by t.files (call.Open h path how) done) done.tree s.tree t.tree → files_of t.tree ≡ files_of s.tree
  tell (inl g) = ap files_of g.0
  tell (inr g) = ap files_of g.2 ∙ opens_none by path s.tree item at (omega (arith, inside, old)) t.files how done (g.0 ++ g.1 ∷ []) g.6

-- a refusal for a handle that is open has no cause in the remote
pub handle_cause : (path : List ℕ) (done : Record) (entries : List TreeEntry) (old new : Outside) → done.reply ≡ reply.Refused refusals.BadHandle → HasOpenCause path done entries old new
handle_cause path done entries old new e = record { fault = λ x. absurd (a (sym e ∙ x)); missing = λ x. absurd (b (sym e ∙ x)); big = λ x. absurd (c (sym e ∙ x)) } where
  a : reply.Refused refusals.BadHandle ≡ reply.Refused refusals.RemoteFault → ⊥
  a x = cc

  b : reply.Refused refusals.BadHandle ≡ reply.Refused refusals.NotFound → ⊥
  b x = cc

  c : reply.Refused refusals.BadHandle ≡ reply.Refused refusals.TooBig → ⊥
  c x = cc

-- a cause without the disk is one with it
pub caused_more : (plan : Plan) (disk disk' h : ℕ) (path : List ℕ) (how : How) (done : Record) (step : Step)
    → IsPlaced (call.Open h path how) done step × Touches plan 0 0 (call.Open h path how) done step → IsPlaced (call.Open h path how) done step × Touches plan disk disk' (call.Open h path how) done step
caused_more plan disk disk' h path how done step c = (c.0, λ e. more (c.1 e)) where
  more : Rose 0 0 ⊎ ((item : ℕ) × Rose (item_in step.before item).slot.faults (item_in step.after item).slot.faults) → Rose disk disk' ⊎ ((item : ℕ) × Rose (item_in step.before item).slot.faults (item_in step.after item).slot.faults)
  more (inl r) = absurd (none r) where
    none : Rose 0 0 → ⊥
    none r = omega (arith, r)
  more (inr r) = inr r
