-- Small facts of the words of this crate.
use Rattle.std.proofs.Common.{◌≡◌, ℕ, ◌+◌, ◌<◌, ◌||◌, nat_lt, Bool, true, false, Option, Some, None, List, [], ◌∷◌, ◌++◌, map, reverse, if◌then◌else◌, refl, sym, ap, ◌∙◌, arith}
use Rattle.std.proofs.lemmas.Bool.{true≢false}
use Rattle.std.proofs.lemmas.Bool.Decides.{nat_tests}
use Rattle.std.proofs.lemmas.List.{reverse-append}
use Rattle.std.specs.declared.snapshot.Snapshot.{Snapshot}
use Rattle.vfs_names.specs.Fingerprint.{agree}
use Rattle.vfs_names.specs.declared.fingerprint.Fingerprint.{Fingerprint}
use Rattle.vfs_names.specs.declared.who.By.{By}
use Rattle.item_core.specs.declared.entry.Entry.{Entry}
use Rattle.item_core.specs.declared.entry.FileKind.{FileKind}
use Rattle.item_core.specs.declared.entry.FileKind.TheVariants.{Bind, Write, Read, Stat, Opened, Closed, UploadStart, UploadDropped, Refused}
use Rattle.item_core.specs.Effects.{is_opened, is_start}
use Rattle.item_core.specs.History.{base_end_of, count_of, held_by, is_kept}
use Rattle.item_core.specs.Legal.{holds}
use Rattle.item_image.specs.Entries.{is_plain, made}
use Rattle.byte_ranges.specs.Ranges.{Covers}
use Rattle.byte_ranges.specs.declared.Span.{Span}
use Rattle.sparse_item.specs.Item.{IsAllHere}
use Rattle.sparse_item.specs.Sound.{is_begun}
use Rattle.sparse_item.specs.Views.{pairs_of}

-- one more object was given
pub pairs_push : {O : Type 0} (print : O → Fingerprint) (bytes : O → List ℕ) (given given' : List (Snapshot O)) (s : Snapshot O) (o : O)
    → given' ≡ given ++ s ∷ [] → s.value ≡ o → pairs_of print bytes given' ≡ (print o, bytes o) ∷ pairs_of print bytes given
pairs_push {O} print bytes given given' s o e is =
    ap (pairs_of print bytes) e ∙ ap (map (λ (x : Snapshot O). (print x.value, bytes x.value))) (reverse-append given (s ∷ []))
    ∙ ap (λ (x : O). (print x, bytes x) ∷ pairs_of print bytes given) is

-- one more path
pub names_push : (names names' names'' : List (List ℕ)) (path : List ℕ) → names' ≡ names → names'' ≡ names' ++ path ∷ [] → reverse names'' ≡ path ∷ reverse names
names_push names names' names'' path same more = ap reverse (more ∙ ap (λ (xs : List (List ℕ)). xs ++ path ∷ []) same) ∙ reverse-append names (path ∷ [])

pub agree_same : (a b : Fingerprint) → agree a b ≡ true → a ≡ b
agree_same a b h =
    let s : a.size ≡ b.size = grind (arith, nat_tests) in
    let m : a.mtime ≡ b.mtime = grind (arith, nat_tests) in
    let r : a.rev ≡ b.rev = grind (arith, nat_tests) in
    λ i. record { size = s i; mtime = m i; rev = r i }

pub held_same : (held : Option Fingerprint) (print : Fingerprint) → holds held print ≡ true → held ≡ Some print
held_same None print h = absurd (true≢false (sym h))
held_same (Some other) print h = ap (λ p. Some p) (agree_same other print h)

-- ---- an entry that changes nothing

pub record SameFile (past past' : List Entry) : Type 0 where
  pub kept : is_kept past' ≡ is_kept past
  pub held : held_by past' ≡ held_by past
  pub end : base_end_of past' ≡ base_end_of past

pub plain_same : (kind : FileKind) (by : By) (at : ℕ) (past : List Entry) → is_plain kind ≡ true → SameFile past (made by at kind ∷ past)
plain_same (Bind print) by at past h = record { kept = refl; held = refl; end = refl }
plain_same (Write pos payload) by at past h = record { kept = refl; held = refl; end = refl }
plain_same (Read pos len) by at past h = record { kept = refl; held = refl; end = refl }
plain_same Stat by at past h = record { kept = refl; held = refl; end = refl }
plain_same (Opened access) by at past h = record { kept = refl; held = refl; end = refl }
plain_same Closed by at past h = record { kept = refl; held = refl; end = refl }
plain_same (UploadStart version) by at past h = record { kept = refl; held = refl; end = refl }
plain_same (UploadDropped start why) by at past h = record { kept = refl; held = refl; end = refl }
plain_same (Refused verb why) by at past h = record { kept = refl; held = refl; end = refl }
plain_same _ by at past h = absurd (true≢false (sym h))

-- an entry that opens no handle and begins no upload
pub not_begun : (kind : FileKind) (by : By) (at : ℕ) (past : List Entry) → (is_opened kind || is_start kind) ≡ false → is_begun (made by at kind ∷ past) ≡ is_begun past
not_begun kind by at past h =
    let o = neither (is_opened kind) (is_start kind) h in
    ap (λ (b : Bool). nat_lt 0 ((if b then count_of is_opened past + 1 else count_of is_opened past) + (if is_start kind then count_of is_start past + 1 else count_of is_start past))) o.0
    ∙ ap (λ (b : Bool). nat_lt 0 (count_of is_opened past + (if b then count_of is_start past + 1 else count_of is_start past))) o.1 where
      neither : (a b : Bool) → (a || b) ≡ false → (a ≡ false) × (b ≡ false)
      neither true b e = absurd (true≢false e)
      neither false true e = absurd (true≢false e)
      neither false false e = (refl, refl)

-- ---- what is here

pub covers_all : (here : List Span) (end : ℕ) → Covers here (record { start = 0; end = end }) → IsAllHere here end
covers_all here end c p lt = c p (grind (arith, nat_tests))

pub all_covers : (here : List Span) (end : ℕ) → IsAllHere here end → Covers here (record { start = 0; end = end })
all_covers here end a p h = a p (grind (arith, nat_tests))

-- nothing is here of what isn't kept
pub none_here : (end : ℕ) → 0 < end → IsAllHere [] end → ⊥
none_here end lt a = true≢false (sym (a 0 lt))

pub nothing_needed : (here : List Span) (end : ℕ) → end ≡ 0 → IsAllHere here end
nothing_needed here end e p lt = absurd (omega (arith, e, lt))
