-- What a read on a handle did.
use Rattle.std.proofs.Common.{◌≡◌, ◌⊎◌, ◌<◌, ◌-◌, ℕ, ◌++◌, ◌∙◌, ap, sym, refl, subst, inl, inr, false, Option, None, Some, List, [], ◌∷◌, length, min, reverse, Ok, Err}
use Rattle.std.specs.Prelude.{IfSome, IsSome}
use Rattle.std.proofs.lemmas.Option.{none-some}
use Rattle.vfs_names.specs.declared.fingerprint.Fingerprint.{Fingerprint}
use Rattle.vfs_names.specs.declared.refusal.Refusal.{Refusal}
use Rattle.vfs_names.specs.declared.refusal.Refusal.TheVariants as refusals
use Rattle.vfs_names.specs.declared.refusal.Verb.{Verb}
use Rattle.vfs_names.specs.declared.refusal.Verb.TheVariants as verb
use Rattle.vfs_names.specs.declared.who.Actor.TheVariants.{Session}
use Rattle.vfs_names.specs.declared.who.By.{By}
use Rattle.vfs_names.specs.declared.who.ItemId.{ItemId}
use Rattle.vfs_outside.specs.Image.{meta_in}
use Rattle.item_core.specs.Content.{IsSavedWhole, Known, bytes_at}
use Rattle.item_core.specs.History.{size_of}
use Rattle.item_core.specs.declared.entry.FileKind.TheVariants as file
use Rattle.item_image.specs.Premise.{IsOfImage}
use Rattle.downloaders.specs.declared.Plan.{Plan}
use Rattle.sparse_item.specs.Item.{Item}
use Rattle.sparse_item.specs.Reading.{IsReadCause, needed, refused_read}
use Rattle.session_script.specs.declared.call.Call.TheVariants as call
use Rattle.session_text.specs.declared.reply.Record.{Record}
use Rattle.session_text.specs.declared.reply.Reply.TheVariants as reply
use Rattle.one_session.specs.Books.{ReadsBook, TouchesOne}
use Rattle.one_session.specs.Calls.{AnswersRead, free_in, in_file}
use Rattle.one_session.specs.Causes.{AreGiven, AreSaved}
use Rattle.one_session.specs.Did.{Did}
use Rattle.one_session.specs.Served.{Knows}
use Rattle.one_session.specs.Standing.{IsSoundStore, state_of, step_between}
use Rattle.one_session.specs.State.{entries_in, file_at, item_at, item_in}
use Rattle.one_session.specs.Steps.{IsMadeAt, IsPlaced, ReadsFile, Touches, took_effect}
use Rattle.one_session.specs.Views.{given_all, histories, refused_place}
use Rattle.one_session.specs.Whole.{IsUpTo}
use Rattle.one_session.specs.declared.handle.Handle.{Handle}
use Rattle.one_session.specs.declared.store.Store.{Store}
use Rattle.one_session.proofs.Doing.{Entered, bare, bare_is, read_done, read_refused}
use Rattle.one_session.proofs.Given.{given_at}
use Rattle.one_session.proofs.Handles.{IsCalm, grown_files, grown_later, grown_sound, handle_inside, still_files, still_later, still_sound}
use Rattle.one_session.proofs.Refusing.{AddsNone, AddsOne, IsSilent, read_adds}
use Rattle.one_session.proofs.Shelves.{item_past}

-- a slot that had no metadata when its file was taken has nothing saved that is to be known
pub of_blank : (known : Known) (kept : Type 0) (item : Item) → (kept → meta_in item.slot.told.first ≡ None) → kept → IsOfImage known item.slot.told.first
of_blank known kept item blank k text meta is means = absurd (none-some text (sym (blank k) ∙ is))

pub read_calm : (pos len : ℕ) → IsCalm (file.Read pos len)
read_calm pos len = record { kept = refl; no_open = refl; no_close = refl; no_name = refl; no_move = refl }

pub refused_calm : (v : Verb) (why : Refusal) → IsCalm (file.Refused v why)
refused_calm v why = record { kept = refl; no_open = refl; no_close = refl; no_name = refl; no_move = refl }

module _ {O S F : Type 0} (kept tells : Type 0) (plan : Plan) (old new : Store O S F) (handle pos len n : ℕ) (k : Handle) (by : By) (done : Record)
    (s : IsSoundStore kept old) (at : file_at old.table.items handle ≡ Some k) (own : by.who.actor ≡ Session 1) (pass : by.pass ≡ 0) (up : IsUpTo by (histories old.files.items))
    (tree : new.tree ≡ old.tree) (paths : new.paths ≡ old.paths) (table : new.table ≡ old.table) (limit : new.files.limit ≡ old.files.limit)
    (one : TouchesOne k.item old.files.items new.files.items) (at_tree : done.tree ≡ None) (end : n ≡ length (entries_in (histories old.files.items) k.item)) where
  abbrev was : Item
  was = item_in old.files.items k.item

  abbrev is : Item
  is = item_in new.files.items k.item

  lt : k.item < length old.files.items
  lt = handle_inside kept old handle k s at

  inside : k.item < length (histories old.files.items)
  inside = s.sound.inside handle k at

  past : reverse (entries_in (histories old.files.items) k.item) ≡ was.log.past
  past = item_past old.files.items k.item lt

  -- it was done
  module _ (found : List ℕ) (read : ReadsBook kept tells plan (record by { tree = false }) pos len was is (Ok found)) (answer : done.reply ≡ reply.Bytes found) (at_file : done.file ≡ Some (record { 0 = k.item }, n)) where
    entered : Entered by done (state_of old [] [] 0) (state_of new [] [] 0) handle n is.slot.calls k (file.Read pos len)
    entered = record {
      own = own;
      at_tree = at_tree;
      at_file = at_file;
      opened = at;
      inside = inside;
      end = end;
      tree = ap (λ t. t.entries) tree;
      files = grown_files kept old new handle k by s at up tree paths table limit one read.same read.has_same own pass is.slot.calls (file.Read pos len) (read_calm pos len) read.ok;
      table = ap (λ t. t.items) table;
      limit = limit;
    }

    pub read_did : (handed : List (Fingerprint × List ℕ)) → AreGiven tells handed (given_all old.files.items) → AreSaved kept tells handed (histories old.files.items)
        → Did 1 (Knows kept tells handed) by (call.Read handle pos len) done (state_of old [] [] 0) (state_of new [] [] 0)
    read_did handed given saved = read_done (Knows kept tells handed) by done (state_of old [] [] 0) (state_of new [] [] 0) handle pos len n is.slot.calls k found entered answer
        (read.count ∙ ap (λ l. min len (size_of l - pos)) (sym past))
        (λ known h. read.bytes h.0 known (record { given = given_at tells handed old.files.items k.item known given inside h.1; saved = subst (IsSavedWhole known) past (saved h.0 known h.1 k.item) }) (of_blank known kept was (s.items k.item lt).blank h.0)
        ∙ ap (λ l. bytes_at known l pos (min len (size_of l - pos))) (sym past))

    pub read_sound : IsSoundStore kept new
    read_sound = grown_sound kept old new handle k by s at up tree paths table limit one read.same read.has_same own pass is.slot.calls (file.Read pos len) (read_calm pos len) read.ok

    pub read_later : IsUpTo by (histories new.files.items)
    read_later = grown_later kept old new handle k by s at up tree paths table limit one read.same read.has_same own pass is.slot.calls (file.Read pos len) (read_calm pos len) read.ok

    pub read_stepped : IsPlaced (call.Read handle pos len) done (step_between old new) × Touches plan 0 0 (call.Read handle pos len) done (step_between old new)
    read_stepped = (
      subst (λ f. IfSome f (λ (f : ItemId × ℕ). IsMadeAt (took_effect (call.Read handle pos len) done.reply (item_in old.files.items f.0.0) (item_in new.files.items f.0.0)) (item_in new.files.items f.0.0).log.past)) (sym at_file)
          (subst (IsMadeAt is.slot.calls) (sym read.ok) refl),
      subst (λ f. IfSome f (λ (f : ItemId × ℕ). ReadsFile plan (item_in old.files.items f.0.0) (item_in new.files.items f.0.0) pos len done.reply)) (sym at_file)
          (subst (λ r. ReadsFile plan was is pos len r) (sym answer) (record { asks = read.asks; all = read.all; here = read.here; cause = λ why e. absurd (no why e) })),
    ) where
      no : (why : Refusal) → reply.Bytes found ≡ reply.Refused why → ⊥
      no why e = cc

  -- it was refused
  module _ (why : Refusal) (read : ReadsBook kept tells plan (record by { tree = false }) pos len was is (Err why)) (answer : done.reply ≡ reply.Refused why) (at_file : done.file ≡ refused_place why (Some (record { 0 = k.item }, n))) where
    abbrev place : Option (ItemId × ℕ)
    place = Some (record { 0 = k.item }, n)

    told : AddsNone (refused_read (record by { tree = false }) is.slot.calls why) place why ⊎ AddsOne by is.slot.calls verb.Read (refused_read (record by { tree = false }) is.slot.calls why) place why
    told = read_adds by is.slot.calls place was is (needed was.log.past pos len) why read.causes

    none : AddsNone (refused_read (record by { tree = false }) is.slot.calls why) place why → is.log.past ≡ was.log.past
    none a = read.err ∙ ap (λ l. l ++ was.log.past) a.added_none

    said : AddsOne by is.slot.calls verb.Read (refused_read (record by { tree = false }) is.slot.calls why) place why → is.log.past ≡ in_file by false is.slot.calls (file.Refused verb.Read why) ∷ was.log.past
    said a = read.err ∙ ap (λ l. l ++ was.log.past) a.added_one

    pub unread_sound : IsSoundStore kept new
    unread_sound = tell told where
      tell : AddsNone (refused_read (record by { tree = false }) is.slot.calls why) place why ⊎ AddsOne by is.slot.calls verb.Read (refused_read (record by { tree = false }) is.slot.calls why) place why → IsSoundStore kept new
      tell (inl a) = still_sound kept old new handle k by s at up tree paths table limit one read.same read.has_same (none a)
      tell (inr a) = grown_sound kept old new handle k by s at up tree paths table limit one read.same read.has_same own pass is.slot.calls (file.Refused verb.Read why) (refused_calm verb.Read why) (said a)

    pub unread_later : IsUpTo by (histories new.files.items)
    unread_later = tell told where
      tell : AddsNone (refused_read (record by { tree = false }) is.slot.calls why) place why ⊎ AddsOne by is.slot.calls verb.Read (refused_read (record by { tree = false }) is.slot.calls why) place why → IsUpTo by (histories new.files.items)
      tell (inl a) = still_later kept old new handle k by s at up tree paths table limit one read.same read.has_same (none a)
      tell (inr a) = grown_later kept old new handle k by s at up tree paths table limit one read.same read.has_same own pass is.slot.calls (file.Refused verb.Read why) (refused_calm verb.Read why) (said a)

    -- places are wanting where the call says so
    pub unread_did : (holds : Known → Type 0) → (why ≡ refusals.HistoryFull → free_in old.files.limit (entries_in (histories old.files.items) k.item) < 1)
        → Did 1 holds by (call.Read handle pos len) done (state_of old [] [] 0) (state_of new [] [] 0)
    unread_did holds full = tell told where
      answers : AddsNone (refused_read (record by { tree = false }) is.slot.calls why) place why → IsSilent why → AnswersRead (file_at old.table.items handle) len done
      answers a (inl e) = inr (inr (inr (inl (bare_is done refusals.TooBig (answer ∙ ap reply.Refused e) at_tree (at_file ∙ a.placed_none), subst (λ o. IsSome o) (sym at) refl, read.big (ap Err e)))))
      answers a (inr (inl e)) = inr (inr (inr (inr (inl (bare_is done refusals.HistoryFull (answer ∙ ap reply.Refused e) at_tree (at_file ∙ a.placed_none))))))
      answers a (inr (inr e)) = inr (inr (inr (inr (inr (bare_is done refusals.NoMemory (answer ∙ ap reply.Refused e) at_tree (at_file ∙ a.placed_none))))))

      tell : AddsNone (refused_read (record by { tree = false }) is.slot.calls why) place why ⊎ AddsOne by is.slot.calls verb.Read (refused_read (record by { tree = false }) is.slot.calls why) place why → Did 1 holds by (call.Read handle pos len) done (state_of old [] [] 0) (state_of new [] [] 0)
      tell (inl a) = bare holds by (call.Read handle pos len) done why (state_of old [] [] 0) (state_of new [] [] 0) answer at_tree (at_file ∙ a.placed_none) (ap (λ t. t.entries) tree)
          (still_files kept old new handle k by s at up tree paths table limit one read.same read.has_same (none a)) (ap (λ t. t.items) table) limit
          (answers a a.silent) (λ e. (k.item, ap item_at at, full e))
      tell (inr a) = read_refused holds by done (state_of old [] [] 0) (state_of new [] [] 0) handle pos len n is.slot.calls k why (record {
        own = own;
        at_tree = at_tree;
        at_file = at_file ∙ a.placed;
        opened = at;
        inside = inside;
        end = end;
        tree = ap (λ t. t.entries) tree;
        files = grown_files kept old new handle k by s at up tree paths table limit one read.same read.has_same own pass is.slot.calls (file.Refused verb.Read why) (refused_calm verb.Read why) (said a);
        table = ap (λ t. t.items) table;
        limit = limit;
      }) a.of answer

    pub unread_stepped : IsPlaced (call.Read handle pos len) done (step_between old new) × Touches plan 0 0 (call.Read handle pos len) done (step_between old new)
    unread_stepped = tell told where
      same : (w : Refusal) → reply.Refused why ≡ reply.Refused w → why ≡ w
      same w e = cc

      tell : AddsNone (refused_read (record by { tree = false }) is.slot.calls why) place why ⊎ AddsOne by is.slot.calls verb.Read (refused_read (record by { tree = false }) is.slot.calls why) place why
          → IsPlaced (call.Read handle pos len) done (step_between old new) × Touches plan 0 0 (call.Read handle pos len) done (step_between old new)
      tell (inl a) = let nowhere = at_file ∙ a.placed_none in (
        subst (λ f. IfSome f (λ (f : ItemId × ℕ). IsMadeAt (took_effect (call.Read handle pos len) done.reply (item_in old.files.items f.0.0) (item_in new.files.items f.0.0)) (item_in new.files.items f.0.0).log.past)) (sym nowhere) tt,
        subst (λ f. IfSome f (λ (f : ItemId × ℕ). ReadsFile plan (item_in old.files.items f.0.0) (item_in new.files.items f.0.0) pos len done.reply)) (sym nowhere) tt,
      )
      tell (inr a) = let there = at_file ∙ a.placed in (
        subst (λ f. IfSome f (λ (f : ItemId × ℕ). IsMadeAt (took_effect (call.Read handle pos len) done.reply (item_in old.files.items f.0.0) (item_in new.files.items f.0.0)) (item_in new.files.items f.0.0).log.past)) (sym there)
            (subst (IsMadeAt is.slot.calls) (sym (said a)) refl),
        subst (λ f. IfSome f (λ (f : ItemId × ℕ). ReadsFile plan (item_in old.files.items f.0.0) (item_in new.files.items f.0.0) pos len done.reply)) (sym there)
            (subst (λ r. ReadsFile plan was is pos len r) (sym answer) (record { asks = read.asks; all = read.all; here = read.here; cause = λ w e of. subst (IsReadCause was is (needed was.log.past pos len)) (same w e) read.causes })),
      )
