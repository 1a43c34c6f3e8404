-- The counters that stand beside a history go along with it.
use Rattle.std.proofs.Common.{◌≡◌, ◌⊎◌, ◌+◌, ◌-◌, ◌<◌, ◌≤◌, ◌==◌, ◌^◌, Bool, true, false, ◌&&◌, List, [], ◌∷◌, length, refl, sym, ap, inl, inr, arith, lit≤}
use Rattle.std.specs.Prelude.{is_some}
use Rattle.std.proofs.lemmas.Bool.{cases_Bool}
use Rattle.std.proofs.lemmas.Bool.Decides.{nat_tests}
use Rattle.vfs_names.specs.Payload.{payload_len}
use Rattle.vfs_names.specs.declared.who.By.{By}
use Rattle.item_core.specs.declared.entry.Entry.{Entry}
use Rattle.item_core.specs.declared.entry.FileKind.{FileKind}
use Rattle.item_core.specs.declared.entry.FileKind.TheVariants.{Create, Recovered, Adopt, Write, SetSize, Opened, Closed, UploadStart, Uploaded, UploadDropped}
use Rattle.item_core.specs.declared.facts.Facts.{Facts}
use Rattle.item_core.specs.Effects.{size_after, base_end_after, raises, is_opened, is_closed, is_start, is_end, places}
use Rattle.item_core.specs.History.{size_of, base_end_of, count_of, opens_of, opens_by, is_modified, begun_of, upload_at}
use Rattle.item_core.specs.Legal.{IsLegal, MayFollow, Allows}
use Rattle.item_core.specs.Step.{raised, moved, modified_after, facts_after, IsTold}
use Rattle.item_core.proofs.Views.{some_of, opens, closes, leaves, handling, begins, ends, idles, uploading}
use Rattle.item_core.proofs.Counts.{closed_le, opens_by_le, end_le, end_lt}

pub count_le : (such : FileKind → Bool) (past : List Entry) → count_of such past ≤ length past
count_le such [] = lit≤ tt
count_le such (e ∷ older) = let ih : count_of such older ≤ length older = count_le such older in
    elim (cases_Bool (such e.kind)) [ inl s ↦ rw s (omega arith) | inr s ↦ rw s (omega arith) ]

-- the difference of two counts goes by one
moved_step : (more less : FileKind → Bool) (e : Entry) (older : List Entry) → count_of less older ≤ count_of more older
    → ((more e.kind ≡ true) × (less e.kind ≡ false)) ⊎ (more e.kind ≡ false)
    → count_of more (e ∷ older) - count_of less (e ∷ older) ≡ moved (more e.kind) (less e.kind) (count_of more older - count_of less older)
moved_step more less e older h (inl c) = rw (c.0, c.1) (omega arith)
moved_step more less e older h (inr c) = elim (cases_Bool (less e.kind)) [ inl l ↦ rw (c, l) (omega arith) | inr l ↦ rw (c, l) refl ]

pub opens_step : (e : Entry) (older : List Entry) → IsLegal older → opens_of (e ∷ older) ≡ moved (is_opened e.kind) (is_closed e.kind) (opens_of older)
opens_step e older l = moved_step is_opened is_closed e older (closed_le older l) (elim (handling e.kind) [
  | opens o c ↦ inl (o, c)
  | closes o c own ↦ inr o
  | leaves o c ↦ inr o
])

pub begun_step : (e : Entry) (older : List Entry) → IsLegal older → begun_of (e ∷ older) ≡ moved (is_start e.kind) (is_end e.kind) (begun_of older)
begun_step e older l = moved_step is_start is_end e older (end_le older l) (elim (uploading e.kind) [
  | begins v a b step ↦ inl (a, b)
  | ends start a b step own ↦ inr a
  | idles a b step ↦ inr a
])

pub modified_step : (e : Entry) (older : List Entry) → is_modified (e ∷ older) ≡ modified_after e.kind (opens_of older) (is_modified older)
modified_step e older = elim (cases_Bool (is_closed e.kind && (opens_of older == 1))) [
  | inl t ↦ rw t refl
  | inr f ↦ elim (cases_Bool (raises e.kind)) [ inl r ↦ rw (f, r) (grind (arith, nat_tests)) | inr r ↦ rw (f, r) refl ]
]

pub sized : (past : List Entry) → IsLegal past → size_of past ≤ 2 ^ 40
sized [] l = lit≤ tt
sized (e ∷ older) l = within e.kind older e.by l.0.allowed (sized older l.1) where
  within : (k : FileKind) (past : List Entry) (by : By) → Allows past k by → size_of past ≤ 2 ^ 40 → size_after k (size_of past) ≤ 2 ^ 40
  within Create past by a h = lit≤ tt
  within (Recovered size base_end dirty base) past by a h = a.1
  within (Adopt print) past by a h = a.3
  within (SetSize n) past by a h = a.1
  within (Write pos payload) past by a h = let fits : pos + payload_len payload ≤ 2 ^ 40 = a.3 in
      elim (cases_Bool (payload_len payload == 0)) [ inl t ↦ rw t h | inr t ↦ rw t (omega arith) ]
  within _ past by a h = h

pub based : (past : List Entry) → IsLegal past → base_end_of past ≤ size_of past
based [] l = lit≤ tt
based (e ∷ older) l = within e.kind older e.by l.0.allowed (based older l.1) where
  within : (k : FileKind) (past : List Entry) (by : By) → Allows past k by → base_end_of past ≤ size_of past → base_end_after k (size_of past) (base_end_of past) ≤ size_after k (size_of past)
  within Create past by a h = lit≤ tt
  within (Recovered size base_end dirty base) past by a h = a.2
  within (Adopt print) past by a h = omega arith
  within (SetSize n) past by a h = omega arith
  within (Write pos payload) past by a h =
      elim (cases_Bool (payload_len payload == 0)) [ inl t ↦ rw t h | inr t ↦ rw t (omega arith) ]
  within (Uploaded start print) past by a h = omega arith
  within _ past by a h = h

-- the places that an entry takes are those that are in use more after it
pub placed : (k : FileKind) (past : List Entry) (by : By) → IsLegal past → Allows past k by
    → (moved (is_opened k) (is_closed k) (opens_of past) + moved (is_start k) (is_end k) (begun_of past)) + 1 ≡ (opens_of past + begun_of past) + places k
placed (Opened access) past by l a = omega arith
placed Closed past by l a = let own : 0 < opens_by by.pass past = a.1 in let all : opens_by by.pass past ≤ opens_of past = opens_by_le past l by.pass in omega arith
placed (UploadStart version) past by l a = omega arith
placed (Uploaded start print) past by l a = let some : count_of is_end past < count_of is_start past = end_lt past l start (ap is_some a.3) in omega arith
placed (UploadDropped start why) past by l a = let some : count_of is_end past < count_of is_start past = end_lt past l start (some_of (upload_at past start) _ a) in omega arith
placed _ past by l a = omega arith

pub told_after : (past : List Entry) (facts : Facts) (e : Entry) → IsTold past facts → MayFollow past e → IsTold (e ∷ past) (facts_after e.kind facts)
told_after past facts e t m = record {
  legal = (m, t.legal);
  version = ap (raised (raises e.kind)) t.version;
  size = ap (size_after e.kind) t.size;
  base_end = rw (t.size, t.base_end) refl;
  held = rw t.held refl;
  kept = rw t.kept refl;
  dirty = rw t.dirty refl;
  modified = rw (t.opens, t.modified) (sym (modified_step e past));
  opens = rw t.opens (sym (opens_step e past t.legal));
  begun = rw t.begun (sym (begun_step e past t.legal));
}
