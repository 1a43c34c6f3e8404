-- What an open did to the files, and how they stand once room was made for it.
use Rattle.std.proofs.Common.{◌≡◌, ◌≢◌, ◌⊎◌, ◌<◌, ℕ, ◌++◌, ◌∙◌, ap, sym, refl, subst, inl, inr, Bool, true, false, true≢false, Option, Some, None, List, [], ◌∷◌, length, map, reverse}
use Rattle.std.specs.Prelude.{IfSome}
use Rattle.std.proofs.lemmas.List.{map-append, reverse-append}
use Rattle.vfs_names.specs.declared.calls.Access.{Access}
use Rattle.vfs_names.specs.declared.calls.How.{How}
use Rattle.vfs_names.specs.declared.fingerprint.Fingerprint.{Fingerprint}
use Rattle.vfs_names.specs.declared.refusal.Refusal.{Refusal}
use Rattle.vfs_names.specs.declared.refusal.Refusal.TheVariants as refusals
use Rattle.vfs_names.specs.declared.who.Actor.TheVariants.{Session}
use Rattle.vfs_names.specs.declared.who.By.{By}
use Rattle.vfs_names.specs.declared.who.ItemId.{ItemId}
use Rattle.vfs_outside.specs.Causes.{Rose}
use Rattle.vfs_outside.specs.Outside.{Outside}
use Rattle.vfs_outside.specs.declared.tree.TreeEntry.{TreeEntry}
use Rattle.item_core.specs.Content.{Known}
use Rattle.item_core.specs.declared.entry.Entry.{Entry}
use Rattle.item_core.specs.declared.entry.FileKind.{FileKind}
use Rattle.item_core.specs.declared.entry.FileKind.TheVariants as file
use Rattle.downloaders.specs.declared.Plan.{Plan}
use Rattle.sparse_item.specs.Item.{Item}
use Rattle.session_script.specs.declared.call.Call.TheVariants as call
use Rattle.session_text.specs.declared.reply.Record.{Record}
use Rattle.session_text.specs.declared.reply.Reply.TheVariants as reply
use Rattle.shown_rows.specs.declared.Shown.{Shown}
use Rattle.one_session.specs.Books.{IsSameFile, TouchesOne}
use Rattle.one_session.specs.Calls.{ListsOnce, MayBegin, in_file, refused_open}
use Rattle.one_session.specs.Causes.{HasOpenCause, ends_gone}
use Rattle.one_session.specs.Did.{Did}
use Rattle.one_session.specs.Looking.{Refuses, Starts, listed_place}
use Rattle.one_session.specs.Slots.{IsSoundItem}
use Rattle.one_session.specs.Sound.{IsSound}
use Rattle.one_session.specs.Standing.{IsSoundStore}
use Rattle.one_session.specs.Start.{MayStart, front_of, opening}
use Rattle.one_session.specs.State.{State, Step, entries_in, file_at, item_in}
use Rattle.one_session.specs.Steps.{IsMadeAt, IsPlaced, Touches, took_effect}
use Rattle.one_session.specs.Views.{given_all, histories}
use Rattle.one_session.specs.declared.plan.Met.{Met}
use Rattle.one_session.specs.declared.start.Start.{Start}
use Rattle.one_session.specs.declared.start.Start.TheVariants.{Kept, Create, Bind, Adopt}
use Rattle.one_session.specs.declared.store.Store.{Store}
use Rattle.one_session.proofs.Deciding.{disk_cause, own_cause, refuse_sound, unopened_did}
use Rattle.one_session.proofs.Doing.{starved_done}
use Rattle.one_session.proofs.Items.{items_on, sound_on}
use Rattle.one_session.proofs.Meeting.{settled_more}
use Rattle.one_session.proofs.Shelves.{goes_on_same, item_past, touched_length}

-- the last entry of an open was made at its number
made_last : (by : By) (access : Access) (at : ℕ) (front : List FileKind) (past : List Entry) → IsMadeAt at (reverse (opening by access at front) ++ past)
made_last by access at front past = subst (λ l. IsMadeAt at (l ++ past))
    (sym (ap reverse (map-append (in_file by true at) front (file.Opened access ∷ [])) ∙ reverse-append (map (in_file by true at) front) (in_file by true at (file.Opened access) ∷ [])))
    refl

module _ (plan : Plan) (disk disk' h : ℕ) (path : List ℕ) (how : How) (done : Record) (step : Step) where
  unplaced : done.file ≡ None → IsPlaced (call.Open h path how) done step
  unplaced at_file = subst (λ (o : Option (ItemId × ℕ)). IfSome o (λ f. IsMadeAt (took_effect (call.Open h path how) done.reply (item_in step.before f.0.0) (item_in step.after f.0.0)) (item_in step.after f.0.0).log.past)) (sym at_file) tt

  -- an open that was refused, and not for the disk
  pub silent_stepped : (why : Refusal) → done.reply ≡ reply.Refused why → why ≢ refusals.DiskFault → done.file ≡ None → IsPlaced (call.Open h path how) done step × Touches plan disk disk' (call.Open h path how) done step
  silent_stepped why answer other at_file = (unplaced at_file, λ x. absurd (other (same why (sym answer ∙ x)))) where
    same : (why : Refusal) → reply.Refused why ≡ reply.Refused refusals.DiskFault → why ≡ refusals.DiskFault
    same why e = cc

  -- one for the disk, whose count rose, or that of a file
  pub faulted_stepped : done.file ≡ None → Rose disk disk' ⊎ ((item : ℕ) × Rose (item_in step.before item).slot.faults (item_in step.after item).slot.faults)
      → IsPlaced (call.Open h path how) done step × Touches plan disk disk' (call.Open h path how) done step
  faulted_stepped at_file rose = (unplaced at_file, λ x. rose)

  -- one that was done
  pub opened_stepped : (item n : ℕ) (by : By) (front : List FileKind) (past : List Entry) → done.reply ≡ reply.Done → done.file ≡ Some (record { 0 = item }, n)
      → (item_in step.after item).log.past ≡ reverse (opening by how.access (item_in step.after item).slot.calls front) ++ past
      → IsPlaced (call.Open h path how) done step × Touches plan disk disk' (call.Open h path how) done step
  opened_stepped item n by front past answer at_file grew = (
    subst (λ (o : Option (ItemId × ℕ)). IfSome o (λ f. IsMadeAt (took_effect (call.Open h path how) done.reply (item_in step.before f.0.0) (item_in step.after f.0.0)) (item_in step.after f.0.0).log.past)) (sym at_file)
        (subst (IsMadeAt (item_in step.after item).slot.calls) (sym grew) (made_last by how.access (item_in step.after item).slot.calls front past)),
    λ x. absurd (no (sym answer ∙ x)),
  ) where
    no : reply.Done ≡ reply.Refused refusals.DiskFault → ⊥
    no e = cc

-- a refusal for want of places, of memory, or of what is missing isn't for the disk
pub none_of_disk : (why : Refusal) → (why ≡ refusals.HistoryFull) ⊎ (why ≡ refusals.NoMemory) → why ≢ refusals.DiskFault
none_of_disk why (inl h) e = a (sym h ∙ e) where
  a : refusals.HistoryFull ≡ refusals.DiskFault → ⊥
  a x = cc
none_of_disk why (inr h) e = a (sym h ∙ e) where
  a : refusals.NoMemory ≡ refusals.DiskFault → ⊥
  a x = cc

pub memory_not_disk : refusals.NoMemory ≢ refusals.DiskFault
memory_not_disk e = cc

pub missing_not_disk : refusals.NotFound ≢ refusals.DiskFault
missing_not_disk e = cc

pub remote_not_disk : refusals.RemoteFault ≢ refusals.DiskFault
remote_not_disk e = cc

-- nor is what was planned to be refused
pub refuses_not_disk : (met : Met) (old new : Outside) (why : Refusal) → Refuses met old new why → why ≢ refusals.DiskFault
refuses_not_disk met old new why r e = subst (Refuses met old new) e r

-- a path that has no file isn't opened as it is
pub new_some : {O S : Type 0} (print_of : O → Fingerprint) (there : Option Shown) (create bound : Bool) (start : Start O S) → Starts print_of (record { used = false; bound = bound; held = None; shown = there; create = create }) start → front_of print_of start ≢ []
new_some print_of there create bound Kept (inl h) e = absurd (no h) where
  no : false ≡ true → ⊥
  no x = cc
new_some print_of there create bound Kept (inr h) e = absurd (no h.1.0 h.1.2) where
  no : (print : Fingerprint) → None ≡ Some print → ⊥
  no print x = cc
new_some print_of there create bound Create h e = cc
new_some print_of there create bound (Bind object) h e = cc
new_some print_of there create bound (Adopt object) h e = cc

-- room was made for entries of a file
module _ (tells : Type 0) (old new : List Item) (i : ℕ) (lt : i < length old) (one : TouchesOne i old new) (same : item_in new i ≡ record (item_in old i) { log = (item_in new i).log })
    (places : (item_in new i).log.limit ≡ (item_in old i).log.limit) (kept : histories new ≡ histories old) where
  pub room_same : IsSameFile tells (item_in old i) (item_in new i)
  room_same = record {
    id = ap (λ (x : Item). x.id) same;
    slot_id = ap (λ (x : Item). x.slot_id) same;
    saved = ap (λ (x : Item). x.saved) same;
    limit = places;
    slot = goes_on_same tells (item_in old i).slot (item_in new i).slot (ap (λ (x : Item). x.slot) same);
  }

  pub room_past : (item_in new i).log.past ≡ (item_in old i).log.past
  room_past = sym (item_past new i (subst (λ n. i < n) (sym (touched_length old new i one lt)) lt)) ∙ ap (λ fs. reverse (entries_in fs i)) kept ∙ item_past old i lt

  pub room_items : (limit limit' : ℕ) → limit' ≡ limit → ((n : ℕ) → n < length old → IsSoundItem tells limit n (item_in old n)) → (n : ℕ) → n < length new → IsSoundItem tells limit' n (item_in new n)
  room_items limit limit' e all = subst (λ l. (n : ℕ) → n < length new → IsSoundItem tells l n (item_in new n)) (sym e)
      (items_on tells limit old new i one lt (sound_on tells limit i (item_in old i) (item_in new i) [] (all i lt) room_same room_past) all)

-- An open that couldn't begin its file, after what it listed: for the disk, which the tree says then, or for memory.
module _ (by : By) (own : List ℕ) (before after : List TreeEntry) (place listed : Option ℕ) (why : Refusal) where
  abbrev pub Faults : Type 0
  Faults = why ≡ refusals.DiskFault → (after ≡ before ++ refused_open by own refusals.DiskFault ∷ []) × (place ≡ Some (length before))

  abbrev pub Starves : Type 0
  Starves = why ≡ refusals.NoMemory → (after ≡ before) × (place ≡ listed)

pub unopened_sound : {O S F : Type 0} (tells : Type 0) (by : By) (mid new : Store O S F) (own : List ℕ) (place listed : Option ℕ) (why : Refusal) → by.who.actor ≡ Session 1 → IsSoundStore tells mid
    → Faults by own mid.tree.entries new.tree.entries place listed why → Starves by own mid.tree.entries new.tree.entries place listed why
    → new.tree.limit ≡ mid.tree.limit → new.paths ≡ mid.paths → new.files ≡ mid.files → new.table ≡ mid.table → (why ≡ refusals.DiskFault) ⊎ (why ≡ refusals.NoMemory) → IsSoundStore tells new
unopened_sound tells by mid new own place listed why mine s fault starved limit paths files table which = record {
  sound = rw (paths, files, table) (sound which);
  limit = rw files (limit ∙ s.limit);
  items = rw files s.items;
  settled = settled which;
} where
  sound : (why ≡ refusals.DiskFault) ⊎ (why ≡ refusals.NoMemory) → IsSound new.tree.entries mid.paths.paths (histories mid.files.items) mid.table.items
  sound (inl e) = subst (λ l. IsSound l mid.paths.paths (histories mid.files.items) mid.table.items) (sym (fault e).0) (refuse_sound by mid.tree.entries own refusals.DiskFault mid.paths.paths (histories mid.files.items) mid.table.items mine s.sound)
  sound (inr e) = subst (λ l. IsSound l mid.paths.paths (histories mid.files.items) mid.table.items) (sym (starved e).0) s.sound

  settled : (why ≡ refusals.DiskFault) ⊎ (why ≡ refusals.NoMemory) → (path : List ℕ) → ends_gone (reverse new.tree.entries) path ≡ false
  settled (inl e) path = settled_more mid.tree.entries new.tree.entries (refused_open by own refusals.DiskFault) path (fault e).0 refl
  settled (inr e) path = ap (λ l. ends_gone (reverse l) path) (starved e).0 ∙ s.settled path

pub unopened_done : (holds : Known → Type 0) (by : By) (done : Record) (s t : State) (h : ℕ) (path own : List ℕ) (how : How) (lists seen : List TreeEntry) (listed : Option ℕ) (why : Refusal) → by.who.actor ≡ Session 1 → seen ≡ s.tree ++ lists
    → ListsOnce by s.tree lists → MayBegin path how seen → own ≡ path → listed ≡ listed_place s.tree lists
    → done.reply ≡ reply.Refused why → done.file ≡ None → Faults by own seen t.tree done.tree listed why → Starves by own seen t.tree done.tree listed why
    → file_at s.table h ≡ None → t.files ≡ s.files → t.table ≡ s.table → t.limit ≡ s.limit → (why ≡ refusals.DiskFault) ⊎ (why ≡ refusals.NoMemory)
    → Did 1 holds by (call.Open h path how) done s t
unopened_done holds by done s t h path own how lists seen listed why mine is once may same place answer at_file fault starved closed files table limit (inl e) =
    unopened_did holds by done s t h path how lists seen mine is once may (answer ∙ ap reply.Refused e) (fault e).1 at_file closed
    ((fault e).0 ∙ ap (λ p. seen ++ refused_open by p refusals.DiskFault ∷ []) same) files table limit
unopened_done holds by done s t h path own how lists seen listed why mine is once may same place answer at_file fault starved closed files table limit (inr e) =
    starved_done holds by done s t h path how lists mine (answer ∙ ap reply.Refused e) ((starved e).1 ∙ place) at_file closed once (subst (MayBegin path how) is may) ((starved e).0 ∙ is) files table limit

pub unopened_cause : (path : List ℕ) (done : Record) (entries : List TreeEntry) (old new : Outside) (why : Refusal) → done.reply ≡ reply.Refused why → (why ≡ refusals.DiskFault) ⊎ (why ≡ refusals.NoMemory) → HasOpenCause path done entries old new
unopened_cause path done entries old new why answer (inl e) = disk_cause path done entries old new (answer ∙ ap reply.Refused e)
unopened_cause path done entries old new why answer (inr e) = own_cause path done entries old new why answer (inr e)

pub unopened_stepped : {X : Type 0} (plan : Plan) (disk disk' h : ℕ) (path : List ℕ) (how : How) (done : Record) (step : Step) (why : Refusal) → done.reply ≡ reply.Refused why → done.file ≡ None
    → (X → Rose disk disk' ⊎ ((item : ℕ) × Rose (item_in step.before item).slot.faults (item_in step.after item).slot.faults)) → ((why ≡ refusals.DiskFault) × X) ⊎ (why ≡ refusals.NoMemory)
    → IsPlaced (call.Open h path how) done step × Touches plan disk disk' (call.Open h path how) done step
unopened_stepped plan disk disk' h path how done step why answer at_file rose (inl e) = faulted_stepped plan disk disk' h path how done step at_file (rose e.1)
unopened_stepped plan disk disk' h path how done step why answer at_file rose (inr e) = silent_stepped plan disk disk' h path how done step why answer (none_of_disk why (inr e)) at_file

-- which of the two it was
pub which_one : {A B X : Type 0} → (A × X) ⊎ B → A ⊎ B
which_one (inl h) = inl h.0
which_one (inr h) = inr h

-- a new file stands at the end
pub last_item : (items : List Item) (new : Item) → item_in (items ++ new ∷ []) (length items) ≡ new
last_item [] new = refl
last_item (x ∷ items) new = last_item items new

pub last_given : (items : List Item) (new : Item) (pairs : List (Fingerprint × List ℕ)) → new.pairs ≡ pairs → given_all (items ++ new ∷ []) ≡ given_all items ++ pairs ∷ []
last_given items new pairs e = map-append (λ (x : Item). x.pairs) items (new ∷ []) ∙ ap (λ p. given_all items ++ p ∷ []) e

-- a new file may begin so
pub new_may : {O S : Type 0} (print_of : O → Fingerprint) (there : Option Shown) (create : Bool) (start : Start O S) → Starts print_of (record { used = false; bound = false; held = None; shown = there; create = create }) start → MayStart print_of start []
new_may {S = S} print_of there create Kept h = absurd (new_some {S = S} print_of there create false Kept h refl)
new_may print_of there create Create h = (refl, refl)
new_may print_of there create (Bind object) h = absurd (true≢false (sym h.1))
new_may print_of there create (Adopt object) h = (refl, refl, h.1, inl refl)
