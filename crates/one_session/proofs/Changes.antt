-- What a write or a change of size on a handle did.
use Rattle.std.proofs.Common.{◌≡◌, ◌⊎◌, ◌<◌, ◌^◌, ◌+◌, ℕ, ◌++◌, ◌∙◌, ap, sym, refl, subst, inl, inr, false, Option, None, Some, [], ◌∷◌, length}
use Rattle.std.specs.Prelude.{IfSome, IsSome}
use Rattle.vfs_names.specs.Payload.{payload_len}
use Rattle.vfs_names.specs.declared.payload.Payload.{Payload}
use Rattle.vfs_names.specs.declared.refusal.Refusal.{Refusal}
use Rattle.vfs_names.specs.declared.refusal.Refusal.TheVariants as refusals
use Rattle.vfs_names.specs.declared.refusal.Verb.{Verb}
use Rattle.vfs_names.specs.declared.who.Actor.TheVariants.{Session}
use Rattle.vfs_names.specs.declared.who.By.{By}
use Rattle.vfs_names.specs.declared.who.ItemId.{ItemId}
use Rattle.vfs_outside.specs.Causes.{Rose}
use Rattle.item_core.specs.Content.{Known}
use Rattle.item_core.specs.declared.entry.FileKind.{FileKind}
use Rattle.item_core.specs.declared.entry.FileKind.TheVariants as file
use Rattle.sparse_item.specs.Answers.{EntersRefusal, IsCause, refused, save_of}
use Rattle.sparse_item.specs.Item.{Item}
use Rattle.session_script.specs.declared.call.Call.{Call}
use Rattle.session_script.specs.declared.call.Call.TheVariants as call
use Rattle.session_text.specs.declared.reply.Record.{Record}
use Rattle.session_text.specs.declared.reply.Reply.{Reply}
use Rattle.session_text.specs.declared.reply.Reply.TheVariants as reply
use Rattle.one_session.specs.Books.{HasSame, IsSameFile, TouchesOne}
use Rattle.one_session.specs.Calls.{Answers, AnswersSize, AnswersWrite, IsFull, in_file}
use Rattle.one_session.specs.Did.{Did}
use Rattle.one_session.specs.Standing.{IsSoundStore, state_of, step_between}
use Rattle.one_session.specs.State.{entries_in, file_at, item_in}
use Rattle.one_session.specs.Steps.{IsDiskCause, IsMadeAt, IsPlaced, took_effect}
use Rattle.one_session.specs.Views.{histories, refused_place}
use Rattle.one_session.specs.Whole.{IsUpTo}
use Rattle.one_session.specs.declared.handle.Handle.{Handle}
use Rattle.one_session.specs.declared.store.Store.{Store}
use Rattle.one_session.proofs.Doing.{Entered, bare, bare_is}
use Rattle.one_session.proofs.Handles.{IsCalm, grown_files, grown_later, grown_sound, still_files, still_later, still_sound}
use Rattle.one_session.proofs.ReadsDone.{refused_calm}
use Rattle.one_session.proofs.Refusing.{AddsNone, AddsOne, IsSilent, changes_adds}

pub write_calm : (pos : ℕ) (payload : Payload) → IsCalm (file.Write pos payload)
write_calm pos payload = record { kept = refl; no_open = refl; no_close = refl; no_name = refl; no_move = refl }

pub size_calm : (size : ℕ) → IsCalm (file.SetSize size)
size_calm size = record { kept = refl; no_open = refl; no_close = refl; no_name = refl; no_move = refl }

-- the disk is the cause of a refusal that says so
fault_rose : (was is : Item) (why : Refusal) → IsCause was is why → why ≡ refusals.DiskFault → Rose was.slot.faults is.slot.faults
fault_rose was is why cause e = subst (IsCause was is) e cause

module _ {O S F : Type 0} (kept : Type 0) (old new : Store O S F) (handle n : ℕ) (k : Handle) (by : By) (done : Record)
    (s : IsSoundStore kept old) (at : file_at old.table.items handle ≡ Some k) (own : by.who.actor ≡ Session 1) (pass : by.pass ≡ 0) (up : IsUpTo by (histories old.files.items))
    (tree : new.tree ≡ old.tree) (paths : new.paths ≡ old.paths) (table : new.table ≡ old.table) (limit : new.files.limit ≡ old.files.limit)
    (one : TouchesOne k.item old.files.items new.files.items) (at_tree : done.tree ≡ None) (end : n ≡ length (entries_in (histories old.files.items) k.item))
    (same : IsSameFile kept (item_in old.files.items k.item) (item_in new.files.items k.item)) (has : HasSame (item_in old.files.items k.item) (item_in new.files.items k.item)) where
  abbrev was : Item
  was = item_in old.files.items k.item

  abbrev is : Item
  is = item_in new.files.items k.item

  -- it added one entry
  module _ (made : ℕ) (kind : FileKind) (calm : IsCalm kind) (past : is.log.past ≡ in_file by false made kind ∷ was.log.past) (at_file : done.file ≡ Some (record { 0 = k.item }, n)) where
    pub one_entered : Entered by done (state_of old [] [] 0) (state_of new [] [] 0) handle n made k kind
    one_entered = record {
      own = own;
      at_tree = at_tree;
      at_file = at_file;
      opened = at;
      inside = s.sound.inside handle k at;
      end = end;
      tree = ap (λ t. t.entries) tree;
      files = grown_files kept old new handle k by s at up tree paths table limit one same has own pass made kind calm past;
      table = ap (λ t. t.items) table;
      limit = limit;
    }

    pub one_sound : IsSoundStore kept new
    one_sound = grown_sound kept old new handle k by s at up tree paths table limit one same has own pass made kind calm past

    pub one_later : IsUpTo by (histories new.files.items)
    one_later = grown_later kept old new handle k by s at up tree paths table limit one same has own pass made kind calm past

    -- which is placed, and of which something more is so
    pub one_placed : (c : Call) → took_effect c done.reply was is ≡ made → IsPlaced c done (step_between old new)
    one_placed c took = subst (λ f. IfSome f (λ (f : ItemId × ℕ). IsMadeAt (took_effect c done.reply (item_in old.files.items f.0.0) (item_in new.files.items f.0.0)) (item_in new.files.items f.0.0).log.past)) (sym at_file)
        (subst (IsMadeAt (took_effect c done.reply was is)) (sym past) (sym took))

    pub one_caused : IsDiskCause done.reply was is → IfSome done.file (λ (f : ItemId × ℕ). IsDiskCause done.reply (item_in old.files.items f.0.0) (item_in new.files.items f.0.0))
    one_caused cause = subst (λ f. IfSome f (λ (f : ItemId × ℕ). IsDiskCause done.reply (item_in old.files.items f.0.0) (item_in new.files.items f.0.0))) (sym at_file) cause

  -- it was refused
  module _ (c : Call) (v : Verb) (why : Refusal) (err : EntersRefusal (record by { tree = false }) v was is why) (causes : IsCause was is why) (answer : done.reply ≡ reply.Refused why)
      (at_file : done.file ≡ refused_place why (Some (record { 0 = k.item }, n))) where
    abbrev place : Option (ItemId × ℕ)
    place = Some (record { 0 = k.item }, n)

    abbrev Told : Type 0
    Told = AddsNone (refused (record by { tree = false }) is.slot.calls v why) place why ⊎ ((why ≡ refusals.DiskFault) × AddsOne by is.slot.calls v (refused (record by { tree = false }) is.slot.calls v why) place why)

    told : Told
    told = changes_adds by is.slot.calls place was is v why causes

    none : AddsNone (refused (record by { tree = false }) is.slot.calls v why) place why → is.log.past ≡ was.log.past
    none a = err ∙ ap (λ l. l ++ was.log.past) a.added_none

    said : AddsOne by is.slot.calls v (refused (record by { tree = false }) is.slot.calls v why) place why → is.log.past ≡ in_file by false is.slot.calls (file.Refused v why) ∷ was.log.past
    said a = err ∙ ap (λ l. l ++ was.log.past) a.added_one

    pub refusal_sound : IsSoundStore kept new
    refusal_sound = tell told where
      tell : Told → IsSoundStore kept new
      tell (inl a) = still_sound kept old new handle k by s at up tree paths table limit one same has (none a)
      tell (inr a) = one_sound is.slot.calls (file.Refused v why) (refused_calm v why) (said a.1) (at_file ∙ a.1.placed)

    pub refusal_later : IsUpTo by (histories new.files.items)
    refusal_later = tell told where
      tell : Told → IsUpTo by (histories new.files.items)
      tell (inl a) = still_later kept old new handle k by s at up tree paths table limit one same has (none a)
      tell (inr a) = one_later is.slot.calls (file.Refused v why) (refused_calm v why) (said a.1) (at_file ∙ a.1.placed)

    pub refusal_did : (holds : Known → Type 0) → (done.file ≡ None → IsSilent why → Answers (file_at old.table.items) c done)
        → (why ≡ refusals.HistoryFull → IsFull old.files.limit old.tree.entries (entries_in (histories old.files.items)) (file_at old.table.items) c)
        → ((e : Entered by done (state_of old [] [] 0) (state_of new [] [] 0) handle n is.slot.calls k (file.Refused v refusals.DiskFault)) → done.reply ≡ reply.Refused refusals.DiskFault → Did 1 holds by c done (state_of old [] [] 0) (state_of new [] [] 0))
        → Did 1 holds by c done (state_of old [] [] 0) (state_of new [] [] 0)
    refusal_did holds silent full disk = tell told where
      tell : Told → Did 1 holds by c done (state_of old [] [] 0) (state_of new [] [] 0)
      tell (inl a) = bare holds by c done why (state_of old [] [] 0) (state_of new [] [] 0) answer at_tree (at_file ∙ a.placed_none) (ap (λ t. t.entries) tree)
          (still_files kept old new handle k by s at up tree paths table limit one same has (none a)) (ap (λ t. t.items) table) limit (silent (at_file ∙ a.placed_none) a.silent) full
      tell (inr a) = disk (one_entered is.slot.calls (file.Refused v refusals.DiskFault) (refused_calm v refusals.DiskFault) (subst (λ w. is.log.past ≡ in_file by false is.slot.calls (file.Refused v w) ∷ was.log.past) a.0 (said a.1)) (at_file ∙ a.1.placed))
          (answer ∙ ap reply.Refused a.0)

    pub refusal_placed : took_effect c done.reply was is ≡ is.slot.calls → IsPlaced c done (step_between old new)
    refusal_placed took = tell told where
      tell : Told → IsPlaced c done (step_between old new)
      tell (inl a) = subst (λ f. IfSome f (λ (f : ItemId × ℕ). IsMadeAt (took_effect c done.reply (item_in old.files.items f.0.0) (item_in new.files.items f.0.0)) (item_in new.files.items f.0.0).log.past)) (sym (at_file ∙ a.placed_none)) tt
      tell (inr a) = one_placed is.slot.calls (file.Refused v why) (refused_calm v why) (said a.1) (at_file ∙ a.1.placed) c took

    pub refusal_caused : IfSome done.file (λ (f : ItemId × ℕ). IsDiskCause done.reply (item_in old.files.items f.0.0) (item_in new.files.items f.0.0))
    refusal_caused = tell told where
      tell : Told → IfSome done.file (λ (f : ItemId × ℕ). IsDiskCause done.reply (item_in old.files.items f.0.0) (item_in new.files.items f.0.0))
      tell (inl a) = subst (λ f. IfSome f (λ (f : ItemId × ℕ). IsDiskCause done.reply (item_in old.files.items f.0.0) (item_in new.files.items f.0.0))) (sym (at_file ∙ a.placed_none)) tt
      tell (inr a) = one_caused is.slot.calls (file.Refused v why) (refused_calm v why) (said a.1) (at_file ∙ a.1.placed) (λ e. fault_rose was is why causes a.0)

-- the number by which a write took effect, and that of a refused one
pub wrote_took : (h pos n : ℕ) (payload : Payload) (r : Reply) (was is : Item) → r ≡ reply.Wrote n → took_effect (call.Write h pos payload) r was is ≡ save_of was payload
wrote_took h pos n payload r was is e = ap (λ q. took_effect (call.Write h pos payload) q was is) e

pub unwrote_took : (h pos : ℕ) (payload : Payload) (r : Reply) (why : Refusal) (was is : Item) → r ≡ reply.Refused why → took_effect (call.Write h pos payload) r was is ≡ is.slot.calls
unwrote_took h pos payload r why was is e = ap (λ q. took_effect (call.Write h pos payload) q was is) e

-- what was done has no cause to be refused
pub wrote_caused : (n : ℕ) (r : Reply) (was is : Item) → r ≡ reply.Wrote n → IsDiskCause r was is
wrote_caused n r was is e f = absurd (never (sym e ∙ f)) where
  never : reply.Wrote n ≡ reply.Refused refusals.DiskFault → ⊥
  never x = cc

pub sized_caused : (r : Reply) (was is : Item) → r ≡ reply.Done → IsDiskCause r was is
sized_caused r was is e f = absurd (never (sym e ∙ f)) where
  never : reply.Done ≡ reply.Refused refusals.DiskFault → ⊥
  never x = cc

-- the ways in which a refused write or change of size is answered bare
pub write_silent : (opened : Option Handle) (k : Handle) (pos : ℕ) (payload : Payload) (done : Record) (why : Refusal) → opened ≡ Some k → done.reply ≡ reply.Refused why → done.tree ≡ None → done.file ≡ None
    → (why ≡ refusals.TooBig → (131072 < payload_len payload) ⊎ (2 ^ 40 < pos + payload_len payload)) → IsSilent why → AnswersWrite opened pos payload done
write_silent opened k pos payload done why at answer at_tree at_file big (inl e) = inr (inr (inr (inr (inl (bare_is done refusals.TooBig (answer ∙ ap reply.Refused e) at_tree at_file, subst (λ o. IsSome o) (sym at) refl, big e)))))
write_silent opened k pos payload done why at answer at_tree at_file big (inr (inl e)) = inr (inr (inr (inr (inr (inl (bare_is done refusals.HistoryFull (answer ∙ ap reply.Refused e) at_tree at_file))))))
write_silent opened k pos payload done why at answer at_tree at_file big (inr (inr e)) = inr (inr (inr (inr (inr (inr (bare_is done refusals.NoMemory (answer ∙ ap reply.Refused e) at_tree at_file))))))

pub size_silent : (opened : Option Handle) (k : Handle) (size : ℕ) (done : Record) (why : Refusal) → opened ≡ Some k → done.reply ≡ reply.Refused why → done.tree ≡ None → done.file ≡ None
    → (why ≡ refusals.TooBig → 2 ^ 40 < size) → IsSilent why → AnswersSize opened size done
size_silent opened k size done why at answer at_tree at_file big (inl e) = inr (inr (inr (inr (inl (bare_is done refusals.TooBig (answer ∙ ap reply.Refused e) at_tree at_file, subst (λ o. IsSome o) (sym at) refl, big e)))))
size_silent opened k size done why at answer at_tree at_file big (inr (inl e)) = inr (inr (inr (inr (inr (inl (bare_is done refusals.HistoryFull (answer ∙ ap reply.Refused e) at_tree at_file))))))
size_silent opened k size done why at answer at_tree at_file big (inr (inr e)) = inr (inr (inr (inr (inr (inr (bare_is done refusals.NoMemory (answer ∙ ap reply.Refused e) at_tree at_file))))))
