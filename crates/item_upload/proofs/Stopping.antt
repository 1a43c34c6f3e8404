-- Why an upload is dropped, and what that leaves of the object behind the file and of the store.
use Rattle.std.proofs.Common.{◌≡◌, ◌⊎◌, ◌<◌, ◌≤◌, ℕ, ◌+◌, min, true, Option, Some, None, List, Err, refl, sym, ◌∙◌, inl, inr, arith, subst}
use Rattle.std.specs.Prelude.{IfSome}
use Rattle.std.proofs.lemmas.Bool.Decides.{nat_tests}
use Rattle.byte_ranges.specs.Ranges.{has, is_in}
use Rattle.byte_ranges.specs.declared.Span.{Span}
use Rattle.vfs_names.specs.declared.fingerprint.Fingerprint.{Fingerprint}
use Rattle.vfs_names.specs.declared.refusal.Refusal.{Refusal}
use Rattle.vfs_names.specs.declared.refusal.Refusal.TheVariants as refusals
use Rattle.vfs_outside.specs.Causes.{Rose}
use Rattle.vfs_outside.specs.Outside.{Outside, StaysAlone}
use Rattle.vfs_outside.specs.Store.{File}
use Rattle.vfs_outside.specs.Told.{Meets, Puts}
use Rattle.item_core.specs.declared.entry.Entry.{Entry}
use Rattle.item_core.specs.History.{base_end_of}
use Rattle.item_core.specs.Legal.{EndsUpload}
use Rattle.item_core.specs.Names.{name_of}
use Rattle.base_object.specs.declared.state.BaseState.{BaseState}
use Rattle.base_object.specs.Base.{IsLaterOf, IsReady}
use Rattle.base_object.specs.Pulls.{Loses}
use Rattle.base_object.proofs.WholeRead.{later_same}
use Rattle.item_upload.specs.Finishing.{IsCommitted, IsFinishCause}
use Rattle.item_upload.specs.Whole.{IsDropCause, base_part}
use Rattle.sparse_item.specs.Fetching.{IsFetchCause, Lacks}
use Rattle.sparse_item.specs.Item.{IsSupplied, Item}
use Rattle.sparse_item.specs.Reading.{needed}
use Rattle.sparse_item.specs.Stores.{IsLaterStore, IsStageCause}
use Rattle.sparse_item.proofs.Pulled.{cause_from, lacked}

-- ---- a store goes on

pub store_same : (o : Outside) → IsLaterStore o o
store_same o = record { faults = omega arith; changes = omega arith; others = omega arith; lists = refl }

pub store_on : {a b c : Outside} → IsLaterStore a b → IsLaterStore b c → IsLaterStore a c
store_on x y = record {
  faults = omega (arith, x.faults, y.faults);
  changes = omega (arith, x.changes, y.changes);
  others = omega (arith, x.others, y.others);
  lists = y.lists ∙ x.lists;
}

pub alone_same : (o : Outside) → StaysAlone o o
alone_same o = record { alone = λ none. refl }

pub alone_on : {a b c : Outside} → StaysAlone a b → StaysAlone b c → IsLaterStore b c → StaysAlone a c
alone_on x y later = record { alone = λ none. y.alone none ∙ x.alone (omega (arith, none, later.others)) }

-- ---- why an upload is dropped

rose_before : (a b c : ℕ) → a ≤ b → Rose b c → Rose a c
rose_before a b c le rose = omega (arith, le, rose)

-- a byte that a block lacks is one of the object's part
part_lacks : (here : List Span) (past : List Entry) (pos len : ℕ) → Lacks here (needed past pos len) → Lacks here (base_part past)
part_lacks here past pos len l = (l.0, inside (base_end_of past) l.0 (below pos (pos + len) (base_end_of past) l.0 l.1), l.2) where
  inside : (to p : ℕ) → p < to → is_in (record { start = 0; end = to }) p ≡ true
  inside to p lt = grind (arith, nat_tests)

  before : (from to p : ℕ) → is_in (record { start = from; end = to }) p ≡ true → p < to
  before from to p i = grind (arith, nat_tests)

  below : (from to end p : ℕ) → is_in (record { start = from; end = min to end }) p ≡ true → p < end
  below from to end p i = omega (arith, before from (min to end) p i)

widened : (old new : Item) (pos len : ℕ) (why : Refusal) → IsFetchCause old new (needed old.log.past pos len) why → IsFetchCause old new (base_part old.log.past) why
widened old new pos len why c =
    cause_from old.base old.base new.base old.slot old.slot new.slot why c (λ l. part_lacks old.here old.log.past pos len l) refl (later_same old.base.object) (omega arith)

-- for what a block is refused
pub block_cause : (old new : Item) (a b : Outside) (pos len : ℕ) (why : Refusal) → IsFetchCause old new (needed old.log.past pos len) why → IsDropCause old new a b why
block_cause old new a b pos len refusals.RemoteFault c = inr (widened old new pos len refusals.RemoteFault c)
block_cause old new a b pos len (refusals.Stale held what) c = widened old new pos len (refusals.Stale held what) c
block_cause old new a b pos len refusals.DiskFault c = c
block_cause old new a b pos len refusals.NoMemory c = tt
block_cause old new a b pos len _ c = absurd c

-- for what a store gives no stage, or doesn't take its bytes
pub stage_cause : (old new : Item) (a b : Outside) (why : Refusal) → IsStageCause a b why → IsDropCause old new a b why
stage_cause old new a b refusals.RemoteFault c = inl c
stage_cause old new a b refusals.NoMemory c = tt
stage_cause old new a b _ c = absurd c

-- for what an upload doesn't finish
pub finish_cause : (old new : Item) (a b : Outside) (why : Refusal) → IsFinishCause old new a b why → IsDropCause old new a b why
finish_cause old new a b refusals.NotFound c = c
finish_cause old new a b refusals.RemoteFault c = inl c
finish_cause old new a b refusals.DiskFault c = c
finish_cause old new a b refusals.NoMemory c = tt
finish_cause old new a b _ c = absurd c

-- the file was so before, with no count that was higher, and no byte here that isn't now
pub record IsEarlier (first old : Item) : Type 0 where
  pub faults : first.slot.faults ≤ old.slot.faults
  pub object : IsLaterOf first.base.object old.base.object
  pub state : old.base.state ≡ first.base.state
  pub here : (p : ℕ) → has first.here p ≡ true → has old.here p ≡ true
  pub end : base_end_of old.log.past ≡ base_end_of first.log.past

pub earlier_same : (item : Item) → IsEarlier item item
earlier_same item = record { faults = omega arith; object = later_same item.base.object; state = refl; here = λ p h. h; end = refl }

fetch_before : (first old new : Item) (why : Refusal) → IsEarlier first old → IsFetchCause old new (base_part old.log.past) why → IsFetchCause first new (base_part first.log.past) why
fetch_before first old new why e c =
    cause_from first.base old.base new.base first.slot old.slot new.slot why c
    (λ l. lacked first.here old.here (base_part first.log.past) e.here (subst (λ (n : ℕ). Lacks old.here (record { start = 0; end = n })) e.end l)) e.state e.object e.faults

-- the cause is one of a longer call as well
pub cause_before : (first old new : Item) (a b c : Outside) (why : Refusal) → IsEarlier first old → IsLaterStore a b → IsDropCause old new b c why → IsDropCause first new a c why
cause_before first old new a b c refusals.NotFound e l r = rose_before a.changes b.changes c.changes l.changes r
cause_before first old new a b c refusals.RemoteFault e l r = either r where
  either : Rose b.faults c.faults ⊎ IsFetchCause old new (base_part old.log.past) refusals.RemoteFault → IsDropCause first new a c refusals.RemoteFault
  either (inl x) = inl (rose_before a.faults b.faults c.faults l.faults x)
  either (inr x) = inr (fetch_before first old new refusals.RemoteFault e x)
cause_before first old new a b c refusals.DiskFault e l r = rose_before first.slot.faults old.slot.faults new.slot.faults e.faults r
cause_before first old new a b c (refusals.Stale held what) e l r = fetch_before first old new (refusals.Stale held what) e r
cause_before first old new a b c refusals.NoMemory e l r = tt
cause_before first old new a b c _ e l r = absurd r

-- ---- what a refusal of the store leaves of the base, and that it ends an upload

pub stage_loses : (T : Type 0) (a b : Outside) (old new : BaseState) (why : Refusal) → IsStageCause a b why → new ≡ old → Loses {T = T} (Err why) old new
stage_loses T a b old new (refusals.Stale held what) c e = absurd c
stage_loses T a b old new _ c e = e

pub finish_loses : (T : Type 0) (item item' : Item) (a b : Outside) (old new : BaseState) (why : Refusal) → IsFinishCause item item' a b why → new ≡ old → Loses {T = T} (Err why) old new
finish_loses T item item' a b old new (refusals.Stale held what) c e = absurd c
finish_loses T item item' a b old new _ c e = e

-- the same, from a state that stands for another
pub loses_from : (T : Type 0) (first old new : BaseState) (why : Refusal) → old ≡ first → Loses {T = T} (Err why) old new → Loses {T = T} (Err why) first new
loses_from T first old new why e l = subst (λ (s : BaseState). Loses {T = T} (Err why) s new) e l

pub stage_ends : (held : Option Fingerprint) (a b : Outside) (why : Refusal) → IsStageCause a b why → EndsUpload held why
stage_ends held a b refusals.RemoteFault c = tt
stage_ends held a b refusals.NoMemory c = tt
stage_ends held a b _ c = absurd c

ready_after : (T : Type 0) (old new : BaseState) (why : Refusal) → Loses {T = T} (Err why) old new → IsReady old → IsReady new
ready_after T old new (refusals.Stale held what) l ready = subst IsReady (sym l) tt
ready_after T old new _ l ready = subst IsReady (sym l) ready

-- no byte is absent that can't be asked for, nor known to be lost, after an upload that was dropped
pub supplied_after : (T : Type 0) (old new : BaseState) (here here' : List Span) (end end' : ℕ) (why : Refusal) → Loses {T = T} (Err why) old new
    → ((p : ℕ) → has here p ≡ true → has here' p ≡ true) → end' ≡ end → IsSupplied old here end → IsSupplied new here' end'
supplied_after T old new here here' end end' why l grows same (inl ready) = inl (ready_after T old new why l ready)
supplied_after T old new here here' end end' why l grows same (inr all) = inr (λ p lt. grows p (all p (omega (arith, lt, same))))

-- ---- what was committed

some_as : (o : Option (List ℕ)) (P Q : List ℕ → Type 0) → ((path : List ℕ) → P path → Q path) → IfSome o P → IfSome o Q
some_as None P Q f h = tt
some_as (Some path) P Q f h = f path h

-- the commit was met by the store as it was before calls that left it alone
pub committed_before : (first old : Item) (bytes : List ℕ) (a b c : Outside) (print : Fingerprint) → name_of old.log.past old.names ≡ name_of first.log.past first.names
    → StaysAlone a b → IsLaterStore b c → IsCommitted old bytes b c print → IsCommitted first bytes a c print
committed_before first old bytes a b c print name alone later h =
    some_as (name_of first.log.past first.names) (λ path. Meets b c (Puts path (Some (File print bytes)))) (λ path. Meets a c (Puts path (Some (File print bytes))))
    (λ path m. record { met = m.met; alone = λ none. m.alone none ∙ alone.alone (omega (arith, none, later.others)); done = m.done })
    (subst (λ (o : Option (List ℕ)). IfSome o (λ path. Meets b c (Puts path (Some (File print bytes))))) name h)
