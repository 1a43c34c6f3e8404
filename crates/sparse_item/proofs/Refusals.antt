-- What a read or a fetch of a file's book comes to.
use Rattle.std.proofs.Common.{◌≡◌, ◌⊎◌, ◌≤◌, ◌<◌, ℕ, ◌+◌, ◌-◌, min, Bool, true, Some, List, [], ◌∷◌, Result, Err, refl, sym, ap, ◌∙◌, inl, inr, arith, subst}
use Rattle.std.proofs.lemmas.Bool.Decides.{nat_tests}
use Rattle.byte_ranges.specs.Ranges.{has, is_in}
use Rattle.byte_ranges.specs.declared.Span.{Span}
use Rattle.vfs_names.specs.declared.fingerprint.Fingerprint.{Fingerprint}
use Rattle.vfs_names.specs.declared.refusal.Found.{Found}
use Rattle.vfs_names.specs.declared.refusal.Found.TheVariants as found
use Rattle.vfs_names.specs.declared.refusal.Refusal.{Refusal}
use Rattle.vfs_names.specs.declared.refusal.Refusal.TheVariants as refusals
use Rattle.vfs_outside.specs.Slot.{Slot}
use Rattle.item_core.specs.declared.entry.Entry.{Entry}
use Rattle.item_core.specs.History.{base_end_of, held_by, size_of}
use Rattle.item_core.specs.Legal.{IsDeviceRefusal, IsOther}
use Rattle.item_meta.specs.declared.meta.Meta.{Meta}
use Rattle.item_meta.specs.InRange.{IsMeta}
use Rattle.item_image.specs.Premise.{Pairs}
use Rattle.downloaders.specs.declared.Ask.{Ask}
use Rattle.downloaders.specs.declared.Ask.TheVariants.{Done, Request, Pull}
use Rattle.downloaders.specs.declared.Plan.{Plan}
use Rattle.downloaders.specs.Crew.{Team}
use Rattle.downloaders.specs.Rules.{AllHere, AreAsks, IsFirstMissing}
use Rattle.base_object.specs.Base.{Base, IsOther as IsOtherObject, IsReady, held_by as held_in}
use Rattle.base_object.specs.Pulls.{progress_of}
use Rattle.sparse_item.specs.Fetching.{Fetches, IsBringCause, Lacks, TellsStale}
use Rattle.sparse_item.specs.Item.{Item, Saved}
use Rattle.sparse_item.specs.Reading.{IsReadCause, needed}
use Rattle.sparse_item.specs.Sound.{IsSound}
use Rattle.sparse_item.proofs.Pulled.{lost_before}
use Rattle.sparse_item.proofs.Steps.{kept_backing}

-- ---- a file that is read

pub touched_fits : (m : Meta) (now : ℕ) → IsMeta m → IsMeta (record m { atime = now })
touched_fits m now h = record { path = h.path; size = h.size; base = h.base; base_end = h.base_end; ranges = h.ranges; dirty = h.dirty; intent = h.intent }

pub base_is : {tells shows : Type 0} {past : List Entry} {names : List (List ℕ)} {saved : Saved} {pairs : Pairs} {m : Meta} {slot : Slot} {base : Base} {atime : ℕ}
    → IsSound tells shows past names saved pairs (Some m) slot base atime → held_in base.state ≡ m.base
base_is {past = past} b = b.held ∙ kept_backing past b.book.kept.0 ∙ sym b.book.kept.1.base

pub base_end_is : {tells shows : Type 0} {past : List Entry} {names : List (List ℕ)} {saved : Saved} {pairs : Pairs} {m : Meta} {slot : Slot} {base : Base} {atime : ℕ}
    → IsSound tells shows past names saved pairs (Some m) slot base atime → m.base_end ≡ base_end_of past
base_end_is b = b.book.kept.1.base_end

pub held_is : {tells shows : Type 0} {past : List Entry} {names : List (List ℕ)} {saved : Saved} {pairs : Pairs} {m : Meta} {slot : Slot} {base : Base} {atime : ℕ}
    → IsSound tells shows past names saved pairs (Some m) slot base atime → held_in base.state ≡ held_by past
held_is {past = past} b = b.held ∙ kept_backing past b.book.kept.0

pub supply_is : {tells shows : Type 0} {past : List Entry} {names : List (List ℕ)} {saved : Saved} {pairs : Pairs} {m : Meta} {slot : Slot} {base : Base} {atime : ℕ} (part : Span)
    → IsSound tells shows past names saved pairs (Some m) slot base atime → IsReady base.state ⊎ ((p : ℕ) → p < base_end_of past → has m.ranges p ≡ true)
    → IsReady base.state ⊎ AllHere (has m.ranges) part m.base_end
supply_is part b (inl r) = inl r
supply_is part b (inr all) = inr (λ p i lt. all p (omega (arith, lt, b.book.kept.1.base_end)))

-- ---- what a fetch or a read leaves

record Fetched : Type 0 where
  here : List Span
  end : ℕ
  base : Base
  result : Result ℕ Refusal

-- ---- a part with no byte

first_in : (here : ℕ → Bool) (span : Span) (base_end f : ℕ) → span.end ≤ span.start → IsFirstMissing here span base_end f → ⊥
first_in here span base_end f h first = omega (arith, h, first.from, first.to)

pub no_part : (plan : Plan) (span : Span) (base_end : ℕ) (here : ℕ → Bool) (team : Team) (asks : List Ask) → span.end ≤ span.start → AreAsks plan span base_end here team asks → asks ≡ []
no_part plan span base_end here team [] h all = refl
no_part plan span base_end here team (Done ∷ rest) h all = absurd all
no_part plan span base_end here team (Request run start end chunk ∷ rest) h all = absurd (first_in here span base_end all.0.0 h all.0.1)
no_part plan span base_end here team (Pull run pos len ∷ rest) h all = absurd (first_in here span base_end all.0.0 h all.0.1)

pub no_lack : (here : List Span) (span : Span) → span.end ≤ span.start → Lacks here span → ⊥
no_lack here span h l = none span.start span.end l.0 h l.1 where
  none : (from to p : ℕ) → to ≤ from → is_in (record { start = from; end = to }) p ≡ true → ⊥
  none from to p h i = omega (arith, h, low from to p i, high from to p i) where
    low : (from to p : ℕ) → is_in (record { start = from; end = to }) p ≡ true → from ≤ p
    low from to p i = grind (arith, nat_tests)

    high : (from to p : ℕ) → is_in (record { start = from; end = to }) p ≡ true → p < to
    high from to p i = grind (arith, nat_tests)

-- another spelling of what a fetch left
pub fetches_same : (plan : Plan) (part : Span) (here here' : List Span) (end end' : ℕ) (base base' : Base) (brought : List Span) (new : Base) (result result' : Result ℕ Refusal)
    → here ≡ here' → end ≡ end' → base ≡ base' → result ≡ result'
    → ((asks : List Ask) → AreAsks plan part end (λ p. has here p) base.crew asks → Fetches asks end (λ p. has here p) (λ p. has brought p) (progress_of base) (progress_of new) result)
    → (asks : List Ask) → AreAsks plan part end' (λ p. has here' p) base'.crew asks → Fetches asks end' (λ p. has here' p) (λ p. has brought p) (progress_of base') (progress_of new) result'
fetches_same plan part here here' end end' base base' brought new result result' h e b r =
    subst (λ (z : Fetched). (asks : List Ask) → AreAsks plan part z.end (λ p. has z.here p) z.base.crew asks
    → Fetches asks z.end (λ p. has z.here p) (λ p. has brought p) (progress_of z.base) (progress_of new) z.result)
    (λ i. record { here = h i; end = e i; base = b i; result = r i })

record Asked : Type 0 where
  part : Span
  end : ℕ
  here : List Span
  base : Base

-- another spelling of what the asks are for
pub asks_same : (plan : Plan) (part part' : Span) (end end' : ℕ) (here here' : List Span) (base base' : Base) (asks : List Ask) → part ≡ part' → end ≡ end' → here ≡ here' → base ≡ base'
    → AreAsks plan part end (λ p. has here p) base.crew asks → AreAsks plan part' end' (λ p. has here' p) base'.crew asks
asks_same plan part part' end end' here here' base base' asks p e h b all =
    subst (λ (z : Asked). AreAsks plan z.part z.end (λ q. has z.here q) z.base.crew asks) (λ i. record { part = p i; end = e i; here = h i; base = b i }) all

-- ---- what a read needs

pub nothing_needed : (past : List Entry) (pos len : ℕ) → base_end_of past ≤ size_of past → min len (size_of past - pos) ≡ 0 → min (pos + len) (base_end_of past) ≤ pos
nothing_needed past pos len within none = omega (arith, within, none)

pub part_needed : (past : List Entry) (pos len count end : ℕ) → base_end_of past ≤ size_of past → count ≡ min len (size_of past - pos) → end ≡ min (pos + count) (base_end_of past)
    → needed past pos len ≡ record { start = pos; end = end }
part_needed past pos len count end within is ends =
    let e : min (pos + len) (base_end_of past) ≡ end = omega (arith, within, is, ends) in
    ap (λ (n : ℕ). record { start = pos; end = n }) e

-- ---- why it is refused

pub same_refusal : {T : Type 0} (a b : Refusal) (x y : Result T Refusal) → x ≡ y → x ≡ Err a → y ≡ Err b → a ≡ b
same_refusal a b x y same is_a is_b = cc

is_other : (held : Fingerprint) (what : Found) → IsOtherObject held what → IsOther held what
is_other held found.Missing h = tt
is_other held (found.Other print) h = h
is_other held found.Changed h = tt

pub stale_tells : (lacks : Type 0) (past : List Entry) (old new : Base) (s t : Slot) (why : Refusal) → held_in old.state ≡ held_by past → IsBringCause lacks old new s t why → TellsStale past why
stale_tells lacks past old new s t (refusals.Stale held what) h c = (sym h ∙ lost_before old new held what c.2, is_other held what c.1)
stale_tells lacks past old new s t refusals.RemoteFault h c = tt
stale_tells lacks past old new s t refusals.NoMemory h c = tt
stale_tells lacks past old new s t refusals.NotFound h c = tt
stale_tells lacks past old new s t refusals.Exists h c = tt
stale_tells lacks past old new s t refusals.IsDir h c = tt
stale_tells lacks past old new s t refusals.NotDir h c = tt
stale_tells lacks past old new s t refusals.NotEmpty h c = tt
stale_tells lacks past old new s t refusals.BadHandle h c = tt
stale_tells lacks past old new s t refusals.NotReadable h c = tt
stale_tells lacks past old new s t refusals.NotWritable h c = tt
stale_tells lacks past old new s t refusals.TableFull h c = tt
stale_tells lacks past old new s t refusals.InUse h c = tt
stale_tells lacks past old new s t refusals.Unsupported h c = tt
stale_tells lacks past old new s t refusals.TooBig h c = tt
stale_tells lacks past old new s t refusals.DiskFault h c = tt
stale_tells lacks past old new s t refusals.HistoryFull h c = tt

pub legal_cause : (lacks : Type 0) (past : List Entry) (old new : Base) (s t : Slot) (why : Refusal) → held_in old.state ≡ held_by past → IsBringCause lacks old new s t why
    → (why ≡ refusals.NoMemory) ⊎ IsDeviceRefusal (held_by past) why
legal_cause lacks past old new s t (refusals.Stale held what) h c = inr (stale_tells lacks past old new s t (refusals.Stale held what) h c)
legal_cause lacks past old new s t refusals.RemoteFault h c = inr tt
legal_cause lacks past old new s t refusals.DiskFault h c = inr tt
legal_cause lacks past old new s t refusals.NoMemory h c = inl refl
legal_cause lacks past old new s t refusals.NotFound h c = absurd c
legal_cause lacks past old new s t refusals.Exists h c = absurd c
legal_cause lacks past old new s t refusals.IsDir h c = absurd c
legal_cause lacks past old new s t refusals.NotDir h c = absurd c
legal_cause lacks past old new s t refusals.NotEmpty h c = absurd c
legal_cause lacks past old new s t refusals.BadHandle h c = absurd c
legal_cause lacks past old new s t refusals.NotReadable h c = absurd c
legal_cause lacks past old new s t refusals.NotWritable h c = absurd c
legal_cause lacks past old new s t refusals.TableFull h c = absurd c
legal_cause lacks past old new s t refusals.InUse h c = absurd c
legal_cause lacks past old new s t refusals.Unsupported h c = absurd c
legal_cause lacks past old new s t refusals.TooBig h c = absurd c
legal_cause lacks past old new s t refusals.HistoryFull h c = absurd c

pub read_cause : (old new : Item) (part : Span) (why : Refusal) → IsBringCause (Lacks old.here part) old.base new.base old.slot new.slot why → IsReadCause old new part why
read_cause old new part (refusals.Stale held what) c = c
read_cause old new part refusals.RemoteFault c = c
read_cause old new part refusals.DiskFault c = c
read_cause old new part refusals.NoMemory c = c
read_cause old new part refusals.TooBig c = tt
read_cause old new part refusals.HistoryFull c = tt
read_cause old new part refusals.NotFound c = c
read_cause old new part refusals.Exists c = c
read_cause old new part refusals.IsDir c = c
read_cause old new part refusals.NotDir c = c
read_cause old new part refusals.NotEmpty c = c
read_cause old new part refusals.BadHandle c = c
read_cause old new part refusals.NotReadable c = c
read_cause old new part refusals.NotWritable c = c
read_cause old new part refusals.TableFull c = c
read_cause old new part refusals.InUse c = c
read_cause old new part refusals.Unsupported c = c

pub not_big : (lacks : Type 0) (old new : Base) (s t : Slot) (why : Refusal) → IsBringCause lacks old new s t why → why ≡ refusals.TooBig → ⊥
not_big lacks old new s t why c e = subst (λ w. IsBringCause lacks old new s t w) e c

pub not_full : (lacks : Type 0) (old new : Base) (s t : Slot) (why : Refusal) → IsBringCause lacks old new s t why → why ≡ refusals.HistoryFull → ⊥
not_full lacks old new s t why c e = subst (λ w. IsBringCause lacks old new s t w) e c
