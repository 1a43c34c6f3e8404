-- A file with an open handle.
use Rattle.std.proofs.Common.{◌≡◌, ℕ, ◌+◌, ◌-◌, ◌<◌, nat_lt, if◌then◌else◌, true, List, [], ◌∷◌, refl, arith}
use Rattle.std.proofs.lemmas.Bool.Decides.{nat_tests}
use Rattle.vfs_names.specs.declared.who.By.{By}
use Rattle.item_core.specs.declared.entry.Entry.{Entry}
use Rattle.item_core.specs.declared.entry.FileKind.{FileKind}
use Rattle.item_core.specs.declared.entry.FileKind.TheVariants.{Create, Recovered, Bind, Adopt, Write, SetSize, Read, Stat, Opened, Closed, Rename, UploadStart, Uploaded, UploadDropped, Evict, Discard, Refused}
use Rattle.item_core.specs.Effects.{is_closed, is_opened, is_start, kept_after}
use Rattle.item_core.specs.History.{count_of, is_kept, opens_of}
use Rattle.item_core.specs.Legal.{Allows, IsLegal}
use Rattle.item_core.proofs.Counts.{opens_by_le}
use Rattle.sparse_item.specs.Sound.{is_begun}

-- the handles that are open after an entry
opens_after : FileKind → List Entry → ℕ
opens_after kind past = (if is_opened kind then count_of is_opened past + 1 else count_of is_opened past) - (if is_closed kind then count_of is_closed past + 1 else count_of is_closed past)

still_kept : (kind : FileKind) (by : By) (past : List Entry) → Allows past kind by → IsLegal past → 0 < opens_after kind past → (0 < opens_of past → is_kept past ≡ true)
    → kept_after kind (is_kept past) ≡ true
unfolding opens_after
still_kept Create by past a l h before = refl
still_kept (Recovered size base_end dirty base) by past a l h before = refl
still_kept (Adopt print) by past a l h before = refl
still_kept (Bind print) by past a l h before = before h
still_kept (Write pos payload) by past a l h before = before h
still_kept (SetSize n) by past a l h before = before h
still_kept (Read pos len) by past a l h before = before h
still_kept Stat by past a l h before = before h
still_kept (Opened access) by past a l h before = a.1
still_kept Closed by past a l h before = before (omega (arith, a.1, opens_by_le past l by.pass))
still_kept (Rename path) by past a l h before = before h
still_kept (UploadStart version) by past a l h before = before h
still_kept (Uploaded start print) by past a l h before = before h
still_kept (UploadDropped start why) by past a l h before = before h
still_kept Evict by past a l h before = absurd (omega (arith, a.2, h))
still_kept Discard by past a l h before = absurd (omega (arith, a.2, h))
still_kept (Refused verb why) by past a l h before = before h

pub kept_open : (past : List Entry) → IsLegal past → 0 < opens_of past → is_kept past ≡ true
unfolding opens_after
kept_open [] l h = absurd (omega (arith, h))
kept_open (e ∷ older) l h = still_kept e.kind e.by older l.0.allowed l.1 h (kept_open older l.1)

pub begun_open : (past : List Entry) → 0 < opens_of past → is_begun past ≡ true
begun_open past h = some (count_of is_opened past) (count_of is_closed past) (count_of is_start past) h where
  some : (a b c : ℕ) → 0 < a - b → nat_lt 0 (a + c) ≡ true
  some a b c h = grind (arith, nat_tests)
