-- What a pull says, and how a file's book goes on after it.
use Rattle.std.proofs.Common.{◌≡◌, ◌⊎◌, ◌≤◌, ◌<◌, ℕ, ◌+◌, ◌&&◌, ◌||◌, nat_le, nat_lt, Bool, true, Option, Some, None, List, [], ◌∷◌, Result, Ok, Err, refl, sym, ap, ◌∙◌, inl, inr, arith, subst}
use Rattle.std.specs.Prelude.{IfSome, slice_index}
use Rattle.std.proofs.lemmas.Bool.{cases_Bool, true≢false}
use Rattle.std.proofs.lemmas.Bool.Decides.{nat_tests}
use Rattle.byte_ranges.specs.Ranges.{has, is_in}
use Rattle.byte_ranges.specs.declared.Span.{Span}
use Rattle.vfs_names.specs.declared.fingerprint.Fingerprint.{Fingerprint}
use Rattle.vfs_names.specs.declared.refusal.Found.{Found}
use Rattle.vfs_names.specs.declared.refusal.Found.TheVariants as found
use Rattle.vfs_names.specs.declared.refusal.Refusal.{Refusal}
use Rattle.vfs_names.specs.declared.refusal.Refusal.TheVariants as refusals
use Rattle.vfs_outside.specs.Causes.{Rose}
use Rattle.vfs_outside.specs.Slot.{HasFault, Slot}
use Rattle.vfs_outside.specs.declared.disk_error.DiskError.{DiskError}
use Rattle.vfs_outside.specs.declared.disk_error.DiskError.TheVariants.{Failed, NoMemory}
use Rattle.item_core.specs.declared.entry.Entry.{Entry}
use Rattle.item_core.specs.Content.{base_byte}
use Rattle.item_core.specs.History.{base_end_of, held_by, is_kept}
use Rattle.item_meta.specs.declared.meta.Intent.{Intent}
use Rattle.item_meta.specs.declared.meta.Meta.{Meta}
use Rattle.item_meta.specs.InRange.{base_size}
use Rattle.item_image.specs.Book.{Book}
use Rattle.item_image.specs.Next.{IsFetched}
use Rattle.item_image.specs.Premise.{Pairs}
use Rattle.downloaders.specs.declared.Ask.{Ask}
use Rattle.downloaders.specs.declared.Ask.TheVariants.{Done, Request, Pull}
use Rattle.downloaders.specs.declared.Plan.{Plan}
use Rattle.downloaders.specs.Crew.{Team}
use Rattle.downloaders.specs.Rules.{AllHere, AreAsks, IsFirstMissing}
use Rattle.base_object.specs.declared.block.Block.{Block}
use Rattle.base_object.specs.declared.state.BaseState.{BaseState}
use Rattle.base_object.specs.declared.state.BaseState.TheVariants.{Absent, Bound, Unbound, Lost}
use Rattle.base_object.specs.Base.{Base, HasOne, IsBase, IsLaterOf, IsReady, ObjectFacts, bytes_of, changes_of, faults_of, held_by as held_in}
use Rattle.base_object.specs.Pulls.{IsBlock, IsPullCause, Loses}
use Rattle.sparse_item.specs.Answers.{refusal_for}
use Rattle.sparse_item.specs.Fetching.{Beside, IsBringCause, Lacks, Stores, taken}
use Rattle.sparse_item.specs.Item.{IsSupplied, Saved, backing}
use Rattle.sparse_item.specs.Sound.{IsGiven, IsSound}
use Rattle.sparse_item.proofs.Bringing.{IsOfBase, beside_book, part_index, stored_book}
use Rattle.sparse_item.proofs.Steps.{kept_backing, more_supplied}
use Rattle.sparse_item.proofs.Sums.{agree_same}

-- ---- the object that a block is of

some_none : (block : Block) (result : Result (Option Block) Refusal) → result ≡ Ok (Some block) → result ≡ Ok None → ⊥
some_none block result is e = cc

some_error : (found : Option Block) (why : Refusal) (result : Result (Option Block) Refusal) → result ≡ Ok found → result ≡ Err why → ⊥
some_error found why result is e = cc

-- a block is pulled of an object that is bound alone
pub is_bound : (state : BaseState) (all : Type 0) (block : Block) (result : Result (Option Block) Refusal) → result ≡ Ok (Some block) → IsReady state ⊎ all → (all → result ≡ Ok None)
    → ((held : Fingerprint) (what : Found) → state ≡ Lost held what → (result ≡ Ok None) ⊎ (result ≡ Err (refusals.Stale held what)))
    → (held : Fingerprint) × (state ≡ Bound held)
is_bound Absent all block result is (inl r) none lost = absurd r
is_bound Absent all block result is (inr a) none lost = absurd (some_none block result is (none a))
is_bound (Bound held) all block result is ready none lost = (held, refl)
is_bound (Unbound held) all block result is (inl r) none lost = absurd r
is_bound (Unbound held) all block result is (inr a) none lost = absurd (some_none block result is (none a))
is_bound (Lost held what) all block result is ready none lost = absurd (either (lost held what refl)) where
  either : (result ≡ Ok None) ⊎ (result ≡ Err (refusals.Stale held what)) → ⊥
  either (inl e) = some_none block result is e
  either (inr e) = some_error (Some block) (refusals.Stale held what) result is e

of_object : {shows : Type 0} {past : List Entry} {pairs : Pairs} (end : ℕ) (block : Block) (held : Fingerprint) (o : Option ObjectFacts) → held_by past ≡ Some held → HasOne held o → IsGiven shows pairs o
    → IsBlock shows (bytes_of o) end block → end ≤ base_end_of past → IsOfBase shows past pairs end block
of_object end block held None holds one given b le = absurd one
of_object {past = past} end block held (Some o) holds one given b le = record {
  each = λ known f i lt below.
      let told = given known f.given in
      let at = part_index o.bytes block.bytes block.pos i (b.told told.0) lt in
      let low : nat_lt (block.pos + i) (base_end_of past) ≡ true = grind (arith, nat_tests) in
      let same : held ≡ o.print = agree_same held o.print one in
      let there : base_byte known (base_end_of past) (Some held) (block.pos + i) ≡ slice_index o.bytes (block.pos + i) =
      rw low (ap (λ z. slice_index (known.content z) (block.pos + i)) same ∙ ap (λ xs. slice_index xs (block.pos + i)) told.1) in
      at.1 ∙ sym there ∙ ap (λ h. base_byte known (base_end_of past) h (block.pos + i)) (sym holds);
}

-- the bytes of a block that was pulled are the held object's
pub of_pulled : {shows : Type 0} {past : List Entry} {pairs : Pairs} (end : ℕ) (block : Block) (base : Base) (held : Fingerprint) → base.state ≡ Bound held → IsBase base.state base.object base.crew
    → held_in base.state ≡ backing past → is_kept past ≡ true → IsGiven shows pairs base.object → IsBlock shows (bytes_of base.object) end block → end ≤ base_end_of past
    → IsOfBase shows past pairs end block
of_pulled {past = past} end block base held bound facts backs kept given b le =
    of_object end block held base.object (sym (kept_backing past kept) ∙ sym backs ∙ ap held_in bound)
    (subst (λ z. IsBase z base.object base.crew) bound facts) given b le

-- ---- the base after a pull

pub later_given : (shows : Type 0) (pairs : Pairs) (a b : Option ObjectFacts) → IsLaterOf a b → IsGiven shows pairs a → IsGiven shows pairs b
later_given shows pairs None None l g = tt
later_given shows pairs None (Some b) l g = absurd l
later_given shows pairs (Some a) None l g = absurd l
later_given shows pairs (Some a) (Some b) l g = λ known h. let r = g known h in (r.0, ap known.content l.print ∙ r.1 ∙ sym l.bytes)

-- the state is the same, or the base of the object that is held was lost
abbrev pub StateMoves : BaseState → BaseState → Type 0
StateMoves old new = (new ≡ old) ⊎ ((held : Fingerprint) × (what : Found) × (new ≡ Lost held what) × (held_in old ≡ Some held))

pub lost_before : (old new : Base) (held : Fingerprint) (what : Found) → (old.state ≡ Lost held what) ⊎ ((old.state ≡ Bound held) × (what ≡ found.Changed) × Rose (changes_of old.object) (changes_of new.object))
    → held_in old.state ≡ Some held
lost_before old new held what (inl e) = ap held_in e
lost_before old new held what (inr c) = ap held_in c.0

pub error_moves : (T : Type 0) (old new : Base) (why : Refusal) → Loses {T = T} (Err why) old.state new.state → IsPullCause old new why → StateMoves old.state new.state
error_moves T old new refusals.RemoteFault l c = inl l
error_moves T old new refusals.NoMemory l c = inl l
error_moves T old new (refusals.Stale held what) l c = inr (held, what, l, lost_before old new held what c.1)
error_moves T old new refusals.NotFound l c = absurd c
error_moves T old new refusals.Exists l c = absurd c
error_moves T old new refusals.IsDir l c = absurd c
error_moves T old new refusals.NotDir l c = absurd c
error_moves T old new refusals.NotEmpty l c = absurd c
error_moves T old new refusals.BadHandle l c = absurd c
error_moves T old new refusals.NotReadable l c = absurd c
error_moves T old new refusals.NotWritable l c = absurd c
error_moves T old new refusals.TableFull l c = absurd c
error_moves T old new refusals.InUse l c = absurd c
error_moves T old new refusals.Unsupported l c = absurd c
error_moves T old new refusals.TooBig l c = absurd c
error_moves T old new refusals.DiskFault l c = absurd c
error_moves T old new refusals.HistoryFull l c = absurd c

pub held_moves : (old new : BaseState) → StateMoves old new → held_in new ≡ held_in old
held_moves old new (inl e) = ap held_in e
held_moves old new (inr (held, what, e, h)) = ap held_in e ∙ sym h

supply_moves : (old new : BaseState) (here : List Span) (end : ℕ) → StateMoves old new → IsSupplied old here end → IsSupplied new here end
supply_moves old new here end (inl e) s = subst (λ z. IsSupplied z here end) (sym e) s
supply_moves old new here end (inr (held, what, e, h)) s = inl (subst IsReady (sym e) tt)

-- the book after a pull, and after a store that was done or not
pub brought_sound : {tells shows : Type 0} {past : List Entry} {names : List (List ℕ)} {saved : Saved} {pairs : Pairs} {m m' : Meta} {s t : Slot} {base base' : Base} {atime : ℕ}
    → IsSound tells shows past names saved pairs (Some m) s base atime → Book tells shows past names saved.mtime pairs (Some m') t
    → ((p : ℕ) → has m.ranges p ≡ true → has m'.ranges p ≡ true) → IsLaterOf base.object base'.object → StateMoves base.state base'.state
    → IsSound tells shows past names saved pairs (Some m') t base' atime
brought_sound {shows = shows} {past = past} {pairs = pairs} {m = m} {m' = m'} {base = base} {base' = base'} b book grows later moves = record {
  book = book;
  held = held_moves base.state base'.state moves ∙ b.held;
  given = later_given shows pairs base.object base'.object later b.given;
  supplied = λ x k. supply_moves base.state base'.state m'.ranges (base_end_of past) moves (more_supplied base.state m.ranges m'.ranges (base_end_of past) grows (b.supplied x k));
  used = b.used;
}

or_first : (a b : Bool) → a ≡ true → (a || b) ≡ true
or_first a b h = rw h refl

-- a block that was pulled was stored
pub stored_sound : {tells shows : Type 0} {past : List Entry} {names : List (List ℕ)} {saved : Saved} {pairs : Pairs} {m m' : Meta} {s t : Slot} {base base' : Base} {atime : ℕ} (end : ℕ) (block : Block) (held : Fingerprint)
    → IsSound tells shows past names saved pairs (Some m) s base atime → base.state ≡ Bound held → IsBase base.state base.object base.crew → IsBlock shows (bytes_of base.object) end block → end ≡ m.base_end
    → m.intent ≡ None → Stores tells block m s m' t → IsLaterOf base.object base'.object → base'.state ≡ base.state
    → IsSound tells shows past names saved pairs (Some m') t base' atime
stored_sound {shows = shows} {m = m} {base = base} end block held b bound facts is at none stores later same =
    let blk : IsBlock shows (bytes_of base.object) m.base_end block = subst (λ n. IsBlock shows (bytes_of base.object) n block) at is in
    brought_sound b (stored_book stores none b.book (of_pulled m.base_end block base held bound facts b.held b.book.kept.0 b.given blk (omega (arith, b.book.kept.1.base_end))))
    (λ p h. stores.fetched.ranges p ∙ or_first (has m.ranges p) (is_in (taken block m.base_end) p) h) later (inl same)

-- no byte that is here was changed
pub beside_sound : {tells shows : Type 0} {past : List Entry} {names : List (List ℕ)} {saved : Saved} {pairs : Pairs} {m m' : Meta} {s t : Slot} {base base' : Base} {atime : ℕ}
    → IsSound tells shows past names saved pairs (Some m) s base atime → Beside tells m.ranges s t → m' ≡ m → IsLaterOf base.object base'.object → StateMoves base.state base'.state
    → IsSound tells shows past names saved pairs (Some m') t base' atime
beside_sound {tells} {shows} {past} {names} {saved} {pairs} {m} {m'} {s} {t} b beside e later moves =
    brought_sound b (subst (λ (x : Meta). Book tells shows past names saved.mtime pairs (Some x) t) (sym e) (beside_book beside refl b.book)) (λ p h. ap (λ (x : Meta). has x.ranges p) e ∙ h) later moves

-- ---- why a pull is refused

is_first : (here : List Span) (span : Span) (base_end f : ℕ) → IsFirstMissing (has here) span base_end f → Lacks here span
is_first here span base_end f first = (f, inside span.start span.end f first.from first.to, first.missing) where
  inside : (from to p : ℕ) → from ≤ p → p < to → (nat_le from p && nat_lt p to) ≡ true
  inside from to p a b = grind (arith, nat_tests)

-- where not all is here, a byte isn't
pub lacks_some : (plan : Plan) (span : Span) (base_end : ℕ) (here : List Span) (team : Team) (asks : List Ask) → AreAsks plan span base_end (has here) team asks → (AllHere (has here) span base_end → ⊥) → Lacks here span
lacks_some plan span base_end here team [] all not_here = absurd (not_here all)
lacks_some plan span base_end here team (Done ∷ rest) all not_here = absurd all
lacks_some plan span base_end here team (Request run start end chunk ∷ rest) all not_here = is_first here span base_end all.0.0 all.0.1
lacks_some plan span base_end here team (Pull run pos len ∷ rest) all not_here = is_first here span base_end all.0.0 all.0.1

pub pull_cause : {lacks : Type 0} (old new : Base) (s t : Slot) (why : Refusal) → IsPullCause old new why → lacks → IsBringCause lacks old new s t why
pull_cause old new s t refusals.RemoteFault c l = (l, c)
pull_cause old new s t refusals.NoMemory c l = tt
pull_cause old new s t (refusals.Stale held what) c l = (l, c.0, c.1)
pull_cause old new s t refusals.NotFound c l = absurd c
pull_cause old new s t refusals.Exists c l = absurd c
pull_cause old new s t refusals.IsDir c l = absurd c
pull_cause old new s t refusals.NotDir c l = absurd c
pull_cause old new s t refusals.NotEmpty c l = absurd c
pull_cause old new s t refusals.BadHandle c l = absurd c
pull_cause old new s t refusals.NotReadable c l = absurd c
pull_cause old new s t refusals.NotWritable c l = absurd c
pull_cause old new s t refusals.TableFull c l = absurd c
pull_cause old new s t refusals.InUse c l = absurd c
pull_cause old new s t refusals.Unsupported c l = absurd c
pull_cause old new s t refusals.TooBig c l = absurd c
pull_cause old new s t refusals.DiskFault c l = absurd c
pull_cause old new s t refusals.HistoryFull c l = absurd c

pub disk_cause : {T : Type 0} (lacks : Type 0) (old new : Base) (s t : Slot) (why : DiskError) (r : Refusal) (result : Result T DiskError) → result ≡ Err why → r ≡ refusal_for why → HasFault s.faults t.faults result
    → IsBringCause lacks old new s t r
disk_cause lacks old new s t Failed r result e is f = subst (λ z. IsBringCause lacks old new s t z) (sym is) (f.failed e)
disk_cause lacks old new s t NoMemory r result e is f = subst (λ z. IsBringCause lacks old new s t z) (sym is) tt

pub disk_loses : (T : Type 0) (old new : BaseState) (why : DiskError) (r : Refusal) → r ≡ refusal_for why → new ≡ old → Loses {T = T} (Err r) old new
disk_loses T old new Failed r is e = subst (λ z. Loses {T = T} (Err z) old new) (sym is) e
disk_loses T old new NoMemory r is e = subst (λ z. Loses {T = T} (Err z) old new) (sym is) e

faults_later : (a b : Option ObjectFacts) → IsLaterOf a b → faults_of a ≤ faults_of b
faults_later None None l = omega arith
faults_later None (Some y) l = absurd l
faults_later (Some x) None l = absurd l
faults_later (Some x) (Some y) l = l.faults

changes_later : (a b : Option ObjectFacts) → IsLaterOf a b → changes_of a ≤ changes_of b
changes_later None None l = omega arith
changes_later None (Some y) l = absurd l
changes_later (Some x) None l = absurd l
changes_later (Some x) (Some y) l = l.changes

rose_from : (a b c : ℕ) → a ≤ b → Rose b c → Rose a c
rose_from a b c l r = omega (arith, r, l)

-- the cause is one in a longer call as well
pub cause_from : {lacks lacks' : Type 0} (old mid new : Base) (r s t : Slot) (why : Refusal) → IsBringCause lacks' mid new s t why → (lacks' → lacks) → mid.state ≡ old.state → IsLaterOf old.object mid.object → r.faults ≤ s.faults
    → IsBringCause lacks old new r t why
cause_from old mid new r s t refusals.RemoteFault c f same later le = (f c.0, rose_from (faults_of old.object) (faults_of mid.object) (faults_of new.object) (faults_later old.object mid.object later) c.1)
cause_from {lacks} old mid new r s t (refusals.Stale held what) c f same later le = by_state c.2 where
  by_state : (mid.state ≡ Lost held what) ⊎ ((mid.state ≡ Bound held) × (what ≡ found.Changed) × Rose (changes_of mid.object) (changes_of new.object)) → IsBringCause lacks old new r t (refusals.Stale held what)
  by_state (inl e) = (f c.0, c.1, inl (sym same ∙ e))
  by_state (inr x) = (f c.0, c.1, inr (sym same ∙ x.0, x.1, rose_from (changes_of old.object) (changes_of mid.object) (changes_of new.object) (changes_later old.object mid.object later) x.2))
cause_from old mid new r s t refusals.DiskFault c f same later le = rose_from r.faults s.faults t.faults le c
cause_from old mid new r s t refusals.NoMemory c f same later le = tt
cause_from old mid new r s t refusals.NotFound c f same later le = absurd c
cause_from old mid new r s t refusals.Exists c f same later le = absurd c
cause_from old mid new r s t refusals.IsDir c f same later le = absurd c
cause_from old mid new r s t refusals.NotDir c f same later le = absurd c
cause_from old mid new r s t refusals.NotEmpty c f same later le = absurd c
cause_from old mid new r s t refusals.BadHandle c f same later le = absurd c
cause_from old mid new r s t refusals.NotReadable c f same later le = absurd c
cause_from old mid new r s t refusals.NotWritable c f same later le = absurd c
cause_from old mid new r s t refusals.TableFull c f same later le = absurd c
cause_from old mid new r s t refusals.InUse c f same later le = absurd c
cause_from old mid new r s t refusals.Unsupported c f same later le = absurd c
cause_from old mid new r s t refusals.TooBig c f same later le = absurd c
cause_from old mid new r s t refusals.HistoryFull c f same later le = absurd c

-- a byte that isn't here wasn't before
pub lacked : (a b : List Span) (part : Span) → ((p : ℕ) → has a p ≡ true → has b p ≡ true) → Lacks b part → Lacks a part
lacked a b part grows l = (
  l.0,
  l.1,
  (elim (cases_Bool (has a l.0)) [
    | inl t ↦ absurd (true≢false (sym (grows l.0 t) ∙ l.2))
    | inr f ↦ f
  ]),
)

-- ---- what changes in the metadata

pub fetched_same : (m m' : Meta) (span : Span) → IsFetched span m m' → m.intent ≡ None → m' ≡ record m { ranges = m'.ranges }
fetched_same m m' span f none = f.same ∙ ap (λ (x : Option Intent). record m { ranges = m'.ranges; intent = x }) (sym none)

pub still_same : (m m' : Meta) → m' ≡ m → m' ≡ record m { ranges = m'.ranges }
still_same m m' e = e ∙ ap (λ (r : List Span). record m { ranges = r }) (sym (ap (λ (x : Meta). x.ranges) e))

-- ---- what a pull asks for

pub error_none : (result : Result (Option Block) Refusal) (why : Refusal) → result ≡ Err why → result ≡ Ok None → ⊥
error_none result why e n = some_error None why result n e

pub held_size : (held base : Option Fingerprint) (n : ℕ) → held ≡ base → n ≤ base_size base → IfSome held (λ p. n ≤ p.size)
held_size held base n e h = subst (λ z. IfSome z (λ p. n ≤ p.size)) (sym e) (at base h) where
  at : (o : Option Fingerprint) → n ≤ base_size o → IfSome o (λ p. n ≤ p.size)
  at None h = tt
  at (Some p) h = h
