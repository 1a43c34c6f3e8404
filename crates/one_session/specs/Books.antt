-- What the calls on one of the files left, each told as one value of the file before it and after it.
use Rattle.std.specs.Prelude.{◌≡◌, ◌≢◌, ◌⊎◌, ◌<◌, ◌^◌, ◌++◌, ℕ, true, List, [], ◌∷◌, length, reverse, Result, Err, IfErr, IfOk, OnErr, OnOk, set}
use Rattle.byte_ranges.specs.Ranges.{has}
use Rattle.vfs_names.specs.Payload.{payload_len}
use Rattle.vfs_names.specs.declared.calls.Access.{Access}
use Rattle.vfs_names.specs.declared.calls.At.TheVariants.{Pos}
use Rattle.vfs_names.specs.declared.payload.Payload.{Payload}
use Rattle.vfs_names.specs.declared.refusal.Refusal.{Refusal}
use Rattle.vfs_names.specs.declared.refusal.Refusal.TheVariants as why
use Rattle.vfs_names.specs.declared.refusal.Verb.{Verb}
use Rattle.vfs_names.specs.declared.refusal.Verb.TheVariants as verbs
use Rattle.vfs_names.specs.declared.who.By.{By}
use Rattle.vfs_outside.specs.Causes.{Rose}
use Rattle.item_core.specs.declared.entry.FileKind.{FileKind}
use Rattle.item_core.specs.declared.entry.FileKind.TheVariants as kinds
use Rattle.item_core.specs.History.{base_end_of}
use Rattle.item_image.specs.Entries.{made}
use Rattle.item_image.specs.Premise.{Pairs}
use Rattle.downloaders.specs.declared.Ask.{Ask}
use Rattle.downloaders.specs.declared.Plan.{Plan}
use Rattle.downloaders.specs.Orders.{here_in_the_end}
use Rattle.downloaders.specs.Rules.{AreAsks}
use Rattle.base_object.specs.Pulls.{progress_of}
use Rattle.base_object.specs.Reads.{Reads}
use Rattle.sparse_item.specs.Answers.{Enters, EntersRefusal, IsCause, IsFull, IsTooFar, save_of}
use Rattle.sparse_item.specs.Item.{Item}
use Rattle.sparse_item.specs.Moves.{GoesOn}
use Rattle.sparse_item.specs.Reading.{EntersRefusedRead, IsReadCause, Shows, needed, shown}
use Rattle.one_session.specs.Slots.{IsSoundItem}
use Rattle.one_session.specs.Start.{opening}
use Rattle.one_session.specs.State.{item_in}

-- no other file was touched
abbrev pub TouchesOne : ℕ → List Item → List Item → Type 0
TouchesOne item old new = new ≡ set old item (item_in new item)

-- the file is the same one, with the same paths and the same objects
pub record IsSameFile (kept : Type 0) (old new : Item) : Type 0 where
  pub id : new.id ≡ old.id
  pub slot_id : new.slot_id ≡ old.slot_id
  pub saved : new.saved ≡ old.saved
  pub limit : new.log.limit ≡ old.log.limit
  pub slot : GoesOn kept old.slot new.slot

-- it has the paths and the objects that it had
pub record HasSame (old new : Item) : Type 0 where
  pub names : new.names ≡ old.names
  pub pairs : new.pairs ≡ old.pairs

-- a read
pub record ReadsBook (kept shows : Type 0) (plan : Plan) (by : By) (pos len : ℕ) (old new : Item) (r : Result (List ℕ) Refusal) : Type 0 where
  pub same : IsSameFile kept old new
  pub has_same : HasSame old new
  pub ok : OnOk r (Enters by (kinds.Read pos len) old new)
  pub count : IfOk r (λ bytes. length bytes ≡ shown old.log.past pos len)
  pub bytes : IfOk r (Shows kept shows old pos len)
  pub err : IfErr r (EntersRefusedRead by old new)
  pub big : r ≡ Err why.TooBig → 131072 < len
  pub full : r ≡ Err why.HistoryFull → IsFull old 1
  pub asks : (asks : List Ask) → AreAsks plan (needed old.log.past pos len) (base_end_of old.log.past) (has old.here) old.base.crew asks
      → Reads asks (progress_of old.base) (progress_of new.base) r
  pub all : (asks : List Ask) → AreAsks plan (needed old.log.past pos len) (base_end_of old.log.past) (has old.here) old.base.crew asks
      → OnOk r ((p : ℕ) → has new.here p ≡ here_in_the_end asks (base_end_of old.log.past) (has old.here) p)
  pub here : (p : ℕ) → has old.here p ≡ true → has new.here p ≡ true
  pub causes : IfErr r (IsReadCause old new (needed old.log.past pos len))

-- a write at a position
pub record WritesBook (kept : Type 0) (by : By) (pos : ℕ) (payload : Payload) (old new : Item) (r : Result ℕ Refusal) : Type 0 where
  pub same : IsSameFile kept old new
  pub has_same : HasSame old new
  pub count : IfOk r (λ n. n ≡ payload_len payload)
  pub ok : OnOk r (new.log.past ≡ made by (save_of old payload) (kinds.Write pos payload) ∷ old.log.past)
  pub err : IfErr r (EntersRefusal by verbs.Write old new)
  pub big : r ≡ Err why.TooBig → IsTooFar pos (payload_len payload)
  pub full : r ≡ Err why.HistoryFull → IsFull old 1
  pub causes : IfErr r (IsCause old new)

-- a set size
pub record SizesBook (kept : Type 0) (by : By) (size : ℕ) (old new : Item) (r : Result (Unit {0}) Refusal) : Type 0 where
  pub same : IsSameFile kept old new
  pub has_same : HasSame old new
  pub ok : OnOk r (Enters by (kinds.SetSize size) old new)
  pub err : IfErr r (EntersRefusal by verbs.Size old new)
  pub big : r ≡ Err why.TooBig → 2 ^ 40 < size
  pub full : r ≡ Err why.HistoryFull → IsFull old 1
  pub causes : IfErr r (IsCause old new)

-- a close
pub record ClosesBook (kept : Type 0) (by : By) (old new : Item) : Type 0 where
  pub same : IsSameFile kept old new
  pub has_same : HasSame old new
  pub past : Enters by kinds.Closed old new

-- An open that begins a file so and opens it: its entries have the number of the last call on the slot's file; one that is
-- refused for the disk or for memory added nothing.
pub record OpensBook {T : Type 0} (kept : Type 0) (by : By) (access : Access) (front : List FileKind) (names : List (List ℕ)) (pairs : Pairs) (old new : Item) (r : Result T Refusal) : Type 0 where
  pub same : IsSameFile kept old new
  pub ok : OnOk r (new.log.past ≡ reverse (opening by access new.slot.calls front) ++ old.log.past)
  pub names_now : OnOk r (new.names ≡ names ++ old.names)
  pub pairs_now : OnOk r (new.pairs ≡ pairs ++ old.pairs)
  pub err : OnErr r (new.log.past ≡ old.log.past)
  pub some : OnErr r (front ≢ [])
  pub has_same : OnErr r (HasSame old new)
  pub causes : IfErr r (λ refusal. ((refusal ≡ why.DiskFault) × Rose old.slot.faults new.slot.faults) ⊎ (refusal ≡ why.NoMemory))

-- A file that was begun in the slot of its number and opened so.
pub record IsBegun (kept : Type 0) (n limit : ℕ) (by : By) (access : Access) (front : List FileKind) (names : List (List ℕ)) (pairs : Pairs) (new : Item) : Type 0 where
  pub past : new.log.past ≡ reverse (opening by access new.slot.calls front)
  pub names_now : new.names ≡ names
  pub pairs_now : new.pairs ≡ pairs
  pub sound : IsSoundItem kept limit n new
