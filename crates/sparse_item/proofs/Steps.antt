-- Each call keeps what a file's book says.
use Rattle.std.proofs.Common.{◌≡◌, ◌⊎◌, ℕ, ◌&&◌, ◌||◌, nat_lt, min, Bool, true, false, Option, Some, None, List, [], ◌∷◌, length, if◌then◌else◌, refl, sym, ap, ◌∙◌, inl, inr, arith, subst}
use Rattle.std.specs.Prelude.{IfSome, IsSome}
use Rattle.std.proofs.lemmas.Bool.{cases_Bool, true≢false}
use Rattle.std.proofs.lemmas.Bool.Decides.{nat_tests}
use Rattle.byte_ranges.specs.Ranges.{has}
use Rattle.byte_ranges.specs.declared.Span.{Span}
use Rattle.vfs_names.specs.declared.fingerprint.Fingerprint.{Fingerprint}
use Rattle.vfs_names.specs.declared.payload.Payload.{Payload}
use Rattle.vfs_names.specs.Fingerprint.{agree}
use Rattle.vfs_names.specs.declared.refusal.Found.{Found}
use Rattle.vfs_names.specs.declared.refusal.Found.TheVariants as founds
use Rattle.vfs_names.specs.declared.who.By.{By}
use Rattle.vfs_outside.specs.Image.{meta_in}
use Rattle.vfs_outside.specs.Slot.{Slot, image}
use Rattle.item_core.specs.declared.entry.Entry.{Entry}
use Rattle.item_core.specs.declared.entry.FileKind.{FileKind}
use Rattle.item_core.specs.declared.entry.FileKind.TheVariants as kinds
use Rattle.item_core.specs.Effects.{is_opened, is_start}
use Rattle.item_core.specs.History.{base_end_of, held_by, is_kept}
use Rattle.item_core.specs.Names.{atime_after}
use Rattle.item_meta.specs.declared.meta.Meta.{Meta}
use Rattle.item_image.specs.Entries.{is_plain, made}
use Rattle.item_image.specs.Next.{IsBytes, IsCut, IsGrown, adopted_meta, fresh_meta, renamed_meta, settled_meta}
use Rattle.item_image.specs.Premise.{Pairs}
use Rattle.item_image.proofs.Begin.{adopted, cleared, created, started}
use Rattle.item_image.proofs.Change.{renamed, sized, wrote}
use Rattle.item_image.proofs.Quiet.{more_pairs, plain_entry, touched}
use Rattle.downloaders.specs.Orders.{no_one}
use Rattle.base_object.specs.Base.{Base, ObjectFacts, IsReady, held_by as held_in, state_with}
use Rattle.base_object.specs.declared.state.BaseState.{BaseState}
use Rattle.base_object.specs.declared.state.BaseState.TheVariants as states
use Rattle.sparse_item.specs.Item.{IsAllHere, IsSupplied, Saved, backing}
use Rattle.sparse_item.specs.Moves.{Clears, Moves, PutsDown, Saves, Settles}
use Rattle.sparse_item.specs.Sound.{IsGiven, IsSound, is_begun}
use Rattle.sparse_item.specs.Views.{here_of}
use Rattle.sparse_item.proofs.Moved.{moves_keep}
use Rattle.sparse_item.proofs.Sums.{SameFile, agree_same, not_begun, plain_same}

-- a file with no entry yet
pub fresh_sound : {tells shows : Type 0} {past : List Entry} {names : List (List ℕ)} {pairs : Pairs} {slot s : Slot} {base : Base} (saved : Saved) (atime : ℕ)
    → past ≡ [] → names ≡ [] → pairs ≡ [] → slot ≡ s → s.calls ≡ 0 → (tells → length s.told.since ≡ s.calls) → (tells → meta_in (image s.told) ≡ None)
    → base.state ≡ states.Absent → base.object ≡ None → atime ≡ saved.atime → IsSound tells shows past names saved pairs None slot base atime
fresh_sound {tells} {shows} {past} {names} {pairs} {slot} {s} {base} saved atime p n q e zero counted blank state object is =
    subst (λ (x : List Entry). IsSound tells shows x names saved pairs None slot base atime) (sym p)
    (subst (λ (x : List (List ℕ)). IsSound tells shows [] x saved pairs None slot base atime) (sym n)
    (subst (λ (x : Pairs). IsSound tells shows [] [] saved x None slot base atime) (sym q)
    (subst (λ (x : Slot). IsSound tells shows [] [] saved [] None x base atime) (sym e) whole))) where
      whole : IsSound tells shows [] [] saved [] None s base atime
      whole = record {
        book = started saved.mtime zero counted blank;
        held = ap held_in state;
        given = subst (λ (o : Option ObjectFacts). IsGiven shows [] o) (sym object) tt;
        supplied = λ b k. absurd (true≢false (sym k));
        used = is;
      }

-- another spelling of the same history
pub same_past : {tells shows : Type 0} {past past' : List Entry} {names : List (List ℕ)} {saved : Saved} {pairs : Pairs} {meta : Option Meta} {slot : Slot} {base : Base} {atime : ℕ}
    → IsSound tells shows past names saved pairs meta slot base atime → past' ≡ past → IsSound tells shows past' names saved pairs meta slot base atime
same_past {tells} {shows} {names = names} {saved = saved} {pairs = pairs} {meta = meta} {slot = slot} {base = base} {atime = atime} s e =
    subst (λ (h : List Entry). IsSound tells shows h names saved pairs meta slot base atime) (sym e) s

same_backing : (past past' : List Entry) → SameFile past past' → backing past' ≡ backing past
same_backing past past' s = ap (λ (k : Bool). if k then held_by past' else None) s.kept ∙ ap (λ (h : Option Fingerprint). if is_kept past then h else None) s.held

-- another spelling of the same paths and objects
pub same_given : {tells shows : Type 0} {past : List Entry} {names names' : List (List ℕ)} {saved : Saved} {pairs pairs' : Pairs} {meta : Option Meta} {slot : Slot} {base : Base} {atime : ℕ}
    → IsSound tells shows past names saved pairs meta slot base atime → names' ≡ names → pairs' ≡ pairs → IsSound tells shows past names' saved pairs' meta slot base atime
same_given {tells} {shows} {past = past} {names' = names'} {saved = saved} {pairs = pairs} {meta = meta} {slot = slot} {base = base} {atime = atime} s n p =
    subst (λ (x : Pairs). IsSound tells shows past names' saved x meta slot base atime) (sym p)
    (subst (λ (x : List (List ℕ)). IsSound tells shows past x saved pairs meta slot base atime) (sym n) s)

-- the metadata in memory are these
pub with_meta : {tells shows : Type 0} {past : List Entry} {names : List (List ℕ)} {saved : Saved} {pairs : Pairs} {meta meta' : Option Meta} {slot : Slot} {base : Base} {atime : ℕ}
    → IsSound tells shows past names saved pairs meta slot base atime → meta ≡ meta' → IsSound tells shows past names saved pairs meta' slot base atime
with_meta {tells} {shows} {past = past} {names = names} {saved = saved} {pairs = pairs} {slot = slot} {base = base} {atime = atime} s e =
    subst (λ (x : Option Meta). IsSound tells shows past names saved pairs x slot base atime) e s

-- the object behind a kept file is the one that it holds
pub backed : {tells shows : Type 0} {past : List Entry} {names : List (List ℕ)} {saved : Saved} {pairs : Pairs} {meta : Option Meta} {slot : Slot} {base : Base} {atime : ℕ}
    → IsSound tells shows past names saved pairs meta slot base atime → is_kept past ≡ true → held_in base.state ≡ held_by past
backed {past = past} s k = s.held ∙ ap (λ (x : Bool). if x then held_by past else None) k

-- an entry that changes nothing of the file, made now
pub noted_sound : {tells shows : Type 0} {past : List Entry} {names : List (List ℕ)} {saved : Saved} {pairs : Pairs} {meta : Option Meta} {slot : Slot} {base : Base} {atime atime' : ℕ}
    (by : By) (at : ℕ) (kind : FileKind) → IsSound tells shows past names saved pairs meta slot base atime → at ≡ slot.calls → is_plain kind ≡ true
    → ((is_opened kind || is_start kind) ≡ true → IsSupplied base.state (here_of meta) (base_end_of past)) → atime' ≡ atime_after kind by.now atime
    → IsSound tells shows (made by at kind ∷ past) names saved pairs meta slot base atime'
noted_sound {past = past} {saved = saved} {meta = meta} {base = base} by at kind s is plain begins now = record {
  book = plain_entry by at kind s.book is plain;
  held = s.held ∙ sym (same_backing past (made by at kind ∷ past) same);
  given = s.given;
  supplied = λ b k. subst (λ end. IsSupplied base.state (here_of meta) end) (sym same.end) (supply (cases_Bool (is_opened kind || is_start kind)) b (sym same.kept ∙ k));
  used = now ∙ ap (atime_after kind by.now) s.used;
} where
  same : SameFile past (made by at kind ∷ past)
  same = plain_same kind by at past plain

  supply : ((is_opened kind || is_start kind) ≡ true) ⊎ ((is_opened kind || is_start kind) ≡ false) → is_begun (made by at kind ∷ past) ≡ true → is_kept past ≡ true
      → IsSupplied base.state (here_of meta) (base_end_of past)
  supply (inl y) b k = begins y
  supply (inr n) b k = s.supplied (sym (not_begun kind by at past n) ∙ b) k

-- calls that tell nothing new
pub moved_sound : {tells shows : Type 0} {past : List Entry} {names : List (List ℕ)} {saved : Saved} {pairs : Pairs} {m m' : Option Meta} {s t : Slot} {base : Base} {atime : ℕ}
    → IsSound tells shows past names saved pairs m s base atime → Moves tells m s m' t → here_of m' ≡ here_of m
    → IsSound tells shows past names saved pairs m' t base atime
moved_sound {past = past} {base = base} b moves same = record {
  book = moves_keep moves b.book;
  held = b.held;
  given = b.given;
  supplied = λ x k. subst (λ (h : List Span). IsSupplied base.state h (base_end_of past)) (sym same) (b.supplied x k);
  used = b.used;
}

none_given : (shows : Type 0) (pairs : Pairs) (o : Option ObjectFacts) → o ≡ None → IsGiven shows pairs o
none_given shows pairs o e = subst (λ (x : Option ObjectFacts). IsGiven shows pairs x) (sym e) tt

-- nothing is absent below 0
none_below : (here : List Span) → IsAllHere here 0
none_below here p h = absurd (omega (arith, h))

pub created_sound : {tells shows : Type 0} {past : List Entry} {names : List (List ℕ)} {saved : Saved} {pairs : Pairs} {meta : Option Meta} {m : Meta} {s t : Slot} {base base' : Base} {atime : ℕ}
    (by : By) (at : ℕ) (path : List ℕ) → IsSound tells shows past names saved pairs meta s base atime → Saves tells m s t → m ≡ fresh_meta path by.now → at ≡ t.calls
    → base'.state ≡ states.Absent → base'.object ≡ None
    → IsSound tells shows (made by at kinds.Create ∷ past) (path ∷ names) saved pairs (Some m) t base' by.now
created_sound {shows = shows} {pairs = pairs} {m = m} {base' = base'} by at path b saves is at_is state object = record {
  book = created by at b.book saves.goes saves.means is at_is;
  held = ap held_in state;
  given = none_given shows pairs base'.object object;
  supplied = λ x k. inr (none_below m.ranges);
  used = refl;
}

pub adopted_sound : {tells shows : Type 0} {past : List Entry} {names : List (List ℕ)} {saved : Saved} {pairs : Pairs} {meta : Option Meta} {m : Meta} {s t : Slot} {base base' : Base} {atime : ℕ}
    (by : By) (at : ℕ) (path : List ℕ) (object : ObjectFacts) → IsSound tells shows past names saved pairs meta s base atime → Saves tells m s t → m ≡ adopted_meta path object.print by.now → at ≡ t.calls
    → base'.state ≡ states.Bound object.print → base'.object ≡ Some object
    → IsSound tells shows (made by at (kinds.Adopt object.print) ∷ past) (path ∷ names) saved ((object.print, object.bytes) ∷ pairs) (Some m) t base' by.now
adopted_sound {shows = shows} {pairs = pairs} {m = m} {base' = base'} by at path object b saves is at_is state bound = record {
  book = adopted by at object.bytes b.book saves.goes saves.means is at_is;
  held = ap held_in state;
  given = subst (λ (x : Option ObjectFacts). IsGiven shows ((object.print, object.bytes) ∷ pairs) x) (sym bound) (λ known h. h.0);
  supplied = λ x k. inl (subst IsReady (sym state) tt);
  used = refl;
}

pub kept_backing : (past : List Entry) → is_kept past ≡ true → backing past ≡ held_by past
kept_backing past k = ap (λ (x : Bool). if x then held_by past else None) k

-- an object was given that agrees with the one that is held
pub bound_sound : {tells shows : Type 0} {past : List Entry} {names : List (List ℕ)} {saved : Saved} {pairs : Pairs} {meta : Option Meta} {slot : Slot} {base base' : Base} {atime : ℕ} (object : ObjectFacts)
    → IsSound tells shows past names saved pairs meta slot base atime → is_kept past ≡ true → held_by past ≡ Some object.print
    → base'.state ≡ states.Bound object.print → base'.object ≡ Some object
    → IsSound tells shows past names saved ((object.print, object.bytes) ∷ pairs) meta slot base' atime
bound_sound {shows = shows} {past = past} {pairs = pairs} {base' = base'} object b k held state bound = record {
  book = more_pairs (object.print, object.bytes) b.book;
  held = ap held_in state ∙ sym (kept_backing past k ∙ held);
  given = subst (λ (x : Option ObjectFacts). IsGiven shows ((object.print, object.bytes) ∷ pairs) x) (sym bound) (λ known h. h.0);
  supplied = λ x y. inl (subst IsReady (sym state) tt);
  used = b.used;
}

-- what a bind leaves of a base whose object agrees
pub bound_base : {base' : Base} (base : Base) (o : ObjectFacts) (r : Bool) → IsSome (held_in base.state) → IfSome (held_in base.state) (λ held. r ≡ agree held o.print)
    → IfSome (held_in base.state) (λ held. base'.state ≡ state_with held o.print) → base'.object ≡ (if r then Some o else base.object) → base'.crew ≡ no_one false → r ≡ true
    → (base' ≡ record { state = states.Bound o.print; object = Some o; crew = no_one false }) × (held_in base.state ≡ Some o.print)
bound_base {base'} base o r some agrees state object crew is_true = go (held_in base.state) refl some agrees state where
  go : (h : Option Fingerprint) → held_in base.state ≡ h → IsSome h → IfSome h (λ held. r ≡ agree held o.print) → IfSome h (λ held. base'.state ≡ state_with held o.print)
      → (base' ≡ record { state = states.Bound o.print; object = Some o; crew = no_one false }) × (held_in base.state ≡ Some o.print)
  go None e some agrees state = absurd (true≢false (sym some))
  go (Some held) e some agrees state =
      let same : held ≡ o.print = agree_same held o.print (sym agrees ∙ is_true) in
      let is_bound : base'.state ≡ states.Bound o.print = state ∙ ap (λ (b : Bool). if b then states.Bound held else states.Lost held (founds.Other o.print)) (sym agrees ∙ is_true) ∙ ap (λ (f : Fingerprint). states.Bound f) same in
      let is_there : base'.object ≡ Some o = object ∙ ap (λ (b : Bool). if b then Some o else base.object) is_true in
      ((λ i. record { state = is_bound i; object = is_there i; crew = crew i }), e ∙ ap (λ (f : Fingerprint). Some f) same)

-- the base is lost
pub lost_sound : {tells shows : Type 0} {past : List Entry} {names : List (List ℕ)} {saved : Saved} {pairs : Pairs} {meta : Option Meta} {slot : Slot} {base base' : Base} {atime : ℕ} (found : Found)
    → IsSound tells shows past names saved pairs meta slot base atime → IsSome (held_in base.state)
    → IfSome (held_in base.state) (λ held. base'.state ≡ states.Lost held found) → base'.object ≡ base.object
    → IsSound tells shows past names saved pairs meta slot base' atime
lost_sound {tells} {shows} {past} {names} {saved} {pairs} {meta} {slot} {base} {base'} {atime} found b some state same = go (held_in base.state) refl some state where
  go : (o : Option Fingerprint) → held_in base.state ≡ o → IsSome o → IfSome o (λ held. base'.state ≡ states.Lost held found) → IsSound tells shows past names saved pairs meta slot base' atime
  go None e some is = absurd (true≢false (sym some))
  go (Some held) e some is = record {
    book = b.book;
    held = ap held_in is ∙ sym e ∙ b.held;
    given = subst (λ (x : Option ObjectFacts). IsGiven shows pairs x) (sym same) b.given;
    supplied = λ x y. inl (subst IsReady (sym is) tt);
    used = b.used;
  }

-- more is there
pub more_supplied : (state : BaseState) (here here' : List Span) (end : ℕ) → ((p : ℕ) → has here p ≡ true → has here' p ≡ true) → IsSupplied state here end → IsSupplied state here' end
more_supplied state here here' end grows (inl r) = inl r
more_supplied state here here' end grows (inr w) = inr (λ p h. grows p (w p h))

-- what is saved next is the same whether a pending write was settled or not
grown_settled : {pos now : ℕ} {bytes : List ℕ} {m next : Meta} → IsGrown pos bytes now m next → IsGrown pos bytes now (settled_meta m) next
grown_settled g = record { same = g.same; ranges = g.ranges }

cut_settled : {n now : ℕ} {m next : Meta} → IsCut n now m next → IsCut n now (settled_meta m) next
cut_settled c = record { same = c.same; ranges = c.ranges }

pub wrote_sound : {tells shows : Type 0} {past : List Entry} {names : List (List ℕ)} {saved : Saved} {pairs : Pairs} {m m' : Meta} {s t : Slot} {base : Base} {atime pos : ℕ} {bytes : List ℕ}
    (by : By) (at : ℕ) (payload : Payload) → IsSound tells shows past names saved pairs (Some m) s base atime → PutsDown tells pos bytes by.now m s at m' t → IsBytes payload bytes
    → ((p : ℕ) → has m.ranges p ≡ true → has m'.ranges p ≡ true)
    → IsSound tells shows (made by at (kinds.Write pos payload) ∷ past) names saved pairs (Some m') t base by.now
wrote_sound {past = past} {m = m} {m' = m'} {base = base} by at payload b puts is grows = record {
  book = moves_keep puts.later (wrote by at payload (moves_keep puts.settles.settled b.book) refl puts.settles.saved.goes puts.settles.saved.means (grown_settled puts.grown) is puts.number);
  held = b.held;
  given = b.given;
  supplied = λ y k. more_supplied base.state m.ranges m'.ranges (base_end_of past) grows (b.supplied y k);
  used = refl;
}

below_cut : (here here' : List Span) (n end : ℕ) → ((p : ℕ) → has here' p ≡ (has here p && nat_lt p n)) → IsAllHere here end → IsAllHere here' (min n end)
below_cut here here' n end cut all p lt =
    let low : nat_lt p n ≡ true = grind (arith, nat_tests) in
    cut p ∙ ap (λ (b : Bool). b && nat_lt p n) (all p (omega (arith, lt))) ∙ low

cut_supplied : (state : BaseState) (here here' : List Span) (n end : ℕ) → ((p : ℕ) → has here' p ≡ (has here p && nat_lt p n)) → IsSupplied state here end → IsSupplied state here' (min n end)
cut_supplied state here here' n end cut (inl r) = inl r
cut_supplied state here here' n end cut (inr w) = inr (below_cut here here' n end cut w)

pub sized_sound : {tells shows : Type 0} {past : List Entry} {names : List (List ℕ)} {saved : Saved} {pairs : Pairs} {m m' : Meta} {s t : Slot} {base : Base} {atime : ℕ}
    (by : By) (at n : ℕ) → IsSound tells shows past names saved pairs (Some m) s base atime → Settles tells m s m' t → IsCut n by.now m m' → at ≡ t.calls
    → IsSound tells shows (made by at (kinds.SetSize n) ∷ past) names saved pairs (Some m') t base by.now
sized_sound {past = past} {m = m} {m' = m'} {base = base} by at n b settles cut is = record {
  book = sized by at (moves_keep settles.settled b.book) refl settles.saved.goes settles.saved.means (cut_settled cut) is;
  held = b.held;
  given = b.given;
  supplied = λ y k. cut_supplied base.state m.ranges m'.ranges n (base_end_of past) cut.ranges (b.supplied y k);
  used = refl;
}

-- the metadata in memory get the time of the last use
pub touched_sound : {tells shows : Type 0} {past : List Entry} {names : List (List ℕ)} {saved : Saved} {pairs : Pairs} {m m' : Meta} {slot : Slot} {base : Base} {atime : ℕ} (now : ℕ)
    → IsSound tells shows past names saved pairs (Some m) slot base atime → m' ≡ record m { atime = now }
    → IsSound tells shows past names saved pairs (Some m') slot base atime
touched_sound {past = past} {m = m} {m' = m'} {base = base} now b is = record {
  book = touched now b.book is;
  held = b.held;
  given = b.given;
  supplied = λ y k. subst (λ (h : List Span). IsSupplied base.state h (base_end_of past)) (ap (λ (x : Meta). x.ranges) (sym is)) (b.supplied y k);
  used = b.used;
}

pub renamed_sound : {tells shows : Type 0} {past : List Entry} {names : List (List ℕ)} {saved : Saved} {pairs : Pairs} {m m' : Meta} {s t : Slot} {base : Base} {atime : ℕ}
    (by : By) (at : ℕ) (path : List ℕ) → IsSound tells shows past names saved pairs (Some m) s base atime → Settles tells m s m' t → m' ≡ renamed_meta path m → at ≡ t.calls
    → IsSound tells shows (made by at (kinds.Rename path) ∷ past) names saved pairs (Some m') t base atime
renamed_sound {past = past} {m = m} {m' = m'} {base = base} by at path b settles renames is = record {
  book = renamed by at (moves_keep settles.settled b.book) refl settles.saved.goes settles.saved.means renames is;
  held = b.held;
  given = b.given;
  supplied = λ y k. subst (λ (h : List Span). IsSupplied base.state h (base_end_of past)) (ap (λ (x : Meta). x.ranges) (sym renames)) (b.supplied y k);
  used = b.used;
}

-- the file isn't kept any more
pub evicted_sound : {tells shows : Type 0} {past : List Entry} {names : List (List ℕ)} {saved : Saved} {pairs : Pairs} {m : Meta} {s t : Slot} {base base' : Base} {atime : ℕ}
    (by : By) (at : ℕ) → IsSound tells shows past names saved pairs (Some m) s base atime → Clears tells m s t → at ≡ t.calls
    → base'.state ≡ states.Absent → base'.object ≡ None
    → IsSound tells shows (made by at kinds.Evict ∷ past) names saved pairs None t base' atime
evicted_sound {shows = shows} {pairs = pairs} {base' = base'} by at b clears is state object = record {
  book = cleared by at kinds.Evict false (moves_keep clears.settled b.book) clears.cleared (inl refl) is;
  held = ap held_in state;
  given = none_given shows pairs base'.object object;
  supplied = λ y k. absurd (true≢false (sym k));
  used = b.used;
}

pub discarded_sound : {tells shows : Type 0} {past : List Entry} {names : List (List ℕ)} {saved : Saved} {pairs : Pairs} {m : Meta} {s t : Slot} {base base' : Base} {atime : ℕ}
    (by : By) (at : ℕ) → IsSound tells shows past names saved pairs (Some m) s base atime → Clears tells m s t → at ≡ t.calls
    → base'.state ≡ states.Absent → base'.object ≡ None
    → IsSound tells shows (made by at kinds.Discard ∷ past) names saved pairs None t base' atime
discarded_sound {shows = shows} {pairs = pairs} {base' = base'} by at b clears is state object = record {
  book = cleared by at kinds.Discard false (moves_keep clears.settled b.book) clears.cleared (inr refl) is;
  held = ap held_in state;
  given = none_given shows pairs base'.object object;
  supplied = λ y k. absurd (true≢false (sym k));
  used = b.used;
}
