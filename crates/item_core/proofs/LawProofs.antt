-- The laws of legal histories.
use Rattle.std.proofs.Common.{◌≡◌, ◌≢◌, ℕ, ◌+◌, ◌<◌, ◌≤◌, ◌==◌, true, false, not, max, Option, Some, None, List, [], ◌∷◌, ◌++◌, length, slice_index, refl, sym, ◌∙◌, ap, subst, inl, inr, arith, length-append}
use Rattle.std.specs.List.{AllByRecursion}
use Rattle.std.proofs.lemmas.Bool.{cases_Bool, eq-eqb}
use Rattle.std.proofs.lemmas.Bool.Decides.{nat_tests, eqb_tells}
use Rattle.vfs_names.specs.Payload.{payload_len}
use Rattle.vfs_names.specs.declared.fingerprint.Fingerprint.{Fingerprint}
use Rattle.vfs_names.specs.declared.who.By.{By}
use Rattle.item_core.specs.declared.entry.Entry.{Entry}
use Rattle.item_core.specs.declared.entry.FileKind.{FileKind}
use Rattle.item_core.specs.declared.entry.FileKind.TheVariants.{Create, Recovered, Adopt, Write, SetSize, Opened, Closed, UploadStart, Uploaded, Evict, Discard}
use Rattle.item_core.specs.Effects.{size_after, kept_after, dirty_after, raises, is_opened, is_closed}
use Rattle.item_core.specs.History.{size_of, is_kept, is_dirty, count_of, version_of, opens_of, Upload, upload_at}
use Rattle.item_core.specs.Content.{Known, base_byte, byte_after, byte_at, SavedFits, IsFitting, SavesContent, IsSavedWhole}
use Rattle.item_core.specs.Legal.{IsLegal, Allows}
use Rattle.item_core.specs.Laws.{keeps_content, IsWhole}
use Rattle.item_core.specs.Step.{moved}
use Rattle.item_core.proofs.Views.{begins, ends, idles, uploading}
use Rattle.item_core.proofs.Counts.{count_append, legal_tail}
use Rattle.item_core.proofs.Steps.{opens_step}

base_zero : (known : Known) (base_end : ℕ) (base : Option Fingerprint) (p : ℕ) → base_end ≤ p → base_byte known base_end base p ≡ 0
base_zero known base_end None p h = refl
base_zero known base_end (Some base) p h = grind (arith, nat_tests)

pub zero_past : (known : Known) (past : List Entry) (p : ℕ) → IsLegal past → IsFitting known past → size_of past ≤ p → byte_at known past p ≡ 0
zero_past known [] p l f h = refl
zero_past known (e ∷ older) p l f h = after e.kind older e.by l.0.allowed f.0 h (zero_past known older p l.1 f.1) where
  after : (k : FileKind) (past : List Entry) (by : By) → Allows past k by → SavedFits known k → size_after k (size_of past) ≤ p
      → (size_of past ≤ p → byte_at known past p ≡ 0) → byte_after known k p (byte_at known past p) ≡ 0
  after Create past by a f h ih = refl
  after (Recovered size base_end dirty base) past by a f h ih = rw (f p h) (base_zero known base_end base p (let end : base_end ≤ size = a.2 in omega arith))
  after (Adopt print) past by a f h ih = grind (arith, nat_tests)
  after (SetSize n) past by a f h ih = grind (arith, nat_tests)
  after (Write pos payload) past by a f h ih = elim (cases_Bool (payload_len payload == 0)) [
    | inl t ↦ let h' : size_of past ≤ p = rw t at h in rw (ih h') (grind (arith, nat_tests, t))
    | inr t ↦ let h' : max (size_of past) (pos + payload_len payload) ≤ p = rw t at h in rw (ih (omega arith)) (grind (arith, nat_tests))
  ]
  after _ past by a f h ih = ih h

pub dirty_kept : (past : List Entry) → IsLegal past → is_dirty past ≡ true → is_kept past ≡ true
dirty_kept [] l h = absurd (let no : false ≡ true = h in cc)
dirty_kept (e ∷ older) l h = after e.kind older e.by l.0.allowed h (dirty_kept older l.1) where
  after : (k : FileKind) (past : List Entry) (by : By) → Allows past k by → dirty_after k (is_dirty past) ≡ true
      → (is_dirty past ≡ true → is_kept past ≡ true) → kept_after k (is_kept past) ≡ true
  after Create past by a h ih = refl
  after (Recovered size base_end dirty base) past by a h ih = refl
  after (Adopt print) past by a h ih = refl
  after (Write pos payload) past by a h ih = a.0
  after (SetSize n) past by a h ih = a.0
  after Evict past by a h ih = absurd (let no : false ≡ true = sym a.1 ∙ h in cc)
  after Discard past by a h ih = absurd (let no : false ≡ true = h in cc)
  after (Uploaded start print) past by a h ih = ih a.1
  after _ past by a h ih = ih h

pub open_kept : (past : List Entry) → IsLegal past → 0 < opens_of past → is_kept past ≡ true
open_kept [] l h = absurd (omega arith)
open_kept (e ∷ older) l h = after e.kind older e.by l.0.allowed (let step = opens_step e older l.1 in rw step at h) (open_kept older l.1) where
  after : (k : FileKind) (past : List Entry) (by : By) → Allows past k by → 0 < moved (is_opened k) (is_closed k) (opens_of past)
      → (0 < opens_of past → is_kept past ≡ true) → kept_after k (is_kept past) ≡ true
  after Create past by a h ih = refl
  after (Recovered size base_end dirty base) past by a h ih = refl
  after (Adopt print) past by a h ih = refl
  after (Opened access) past by a h ih = a.1
  after Closed past by a h ih = ih (omega arith)
  after Evict past by a h ih = absurd (omega (arith, a.2))
  after Discard past by a h ih = absurd (omega (arith, a.2))
  after _ past by a h ih = ih h

-- an entry that keeps the content changes neither size nor bytes
kept_size : (k : FileKind) (old : ℕ) → keeps_content k ≡ true → size_after k old ≡ old
kept_size (Write pos payload) old h = elim (cases_Bool (payload_len payload == 0)) [ inl t ↦ rw t refl | inr t ↦ absurd (let no : false ≡ true = rw t at h in cc) ]
kept_size Create old h = absurd (let no : false ≡ true = h in cc)
kept_size (Recovered size base_end dirty base) old h = absurd (let no : false ≡ true = h in cc)
kept_size (Adopt print) old h = absurd (let no : false ≡ true = h in cc)
kept_size (SetSize n) old h = absurd (let no : false ≡ true = h in cc)
kept_size Evict old h = absurd (let no : false ≡ true = h in cc)
kept_size Discard old h = absurd (let no : false ≡ true = h in cc)
kept_size _ old h = refl

kept_byte : (known : Known) (k : FileKind) (p old : ℕ) → keeps_content k ≡ true → byte_after known k p old ≡ old
kept_byte known (Write pos payload) p old h = elim (cases_Bool (payload_len payload == 0)) [ inl t ↦ grind (arith, nat_tests, t) | inr t ↦ absurd (let no : false ≡ true = rw t at h in cc) ]
kept_byte known Create p old h = absurd (let no : false ≡ true = h in cc)
kept_byte known (Recovered size base_end dirty base) p old h = absurd (let no : false ≡ true = h in cc)
kept_byte known (Adopt print) p old h = absurd (let no : false ≡ true = h in cc)
kept_byte known (SetSize n) p old h = absurd (let no : false ≡ true = h in cc)
kept_byte known _ p old h = refl

-- a dirty file that got no new version was dirty before, and its content was kept
kept_dirty : (k : FileKind) (past : List Entry) (by : By) → Allows past k by → past ≢ [] → raises k ≡ false
    → dirty_after k (is_dirty past) ≡ true → (keeps_content k ≡ true) × (is_dirty past ≡ true)
kept_dirty Create past by a ne r d = absurd (let no : true ≡ false = r in cc)
kept_dirty (SetSize n) past by a ne r d = absurd (let no : true ≡ false = r in cc)
kept_dirty (Recovered size base_end dirty base) past by a ne r d = absurd (ne a.0)
kept_dirty (Write pos payload) past by a ne r d = (ap not r, rw r at d)
kept_dirty (Adopt print) past by a ne r d = absurd (let no : false ≡ true = d in cc)
kept_dirty Discard past by a ne r d = absurd (let no : false ≡ true = d in cc)
kept_dirty (Uploaded start print) past by a ne r d = absurd (let no : false ≡ true = d in cc)
kept_dirty Evict past by a ne r d = absurd (let no : false ≡ true = sym a.1 ∙ d in cc)
kept_dirty _ past by a ne r d = (refl, d)

not_empty : (mid older : List Entry) (start : Entry) → mid ++ start ∷ older ≢ []
not_empty [] older start h = let no : start ∷ older ≡ [] = h in cc
not_empty (e ∷ mid) older start h = let no : e ∷ (mid ++ start ∷ older) ≡ [] = h in cc

between : (mid older : List Entry) (start : Entry) → IsLegal (mid ++ start ∷ older) → is_dirty (mid ++ start ∷ older) ≡ true
    → count_of raises mid ≡ 0 → AllByRecursion (λ e. keeps_content e.kind ≡ true) mid
between [] older start l d c = tt
between (e ∷ mid) older start l d c = elim (cases_Bool (raises e.kind)) [
  | inl t ↦ absurd (let no : count_of raises mid + 1 ≡ 0 = rw t at c in omega arith)
  | inr t ↦
      let here : (keeps_content e.kind ≡ true) × (is_dirty (mid ++ start ∷ older) ≡ true) = kept_dirty e.kind (mid ++ start ∷ older) e.by l.0.allowed (not_empty mid older start) t d in
      let c' : count_of raises mid ≡ 0 = rw t at c in
      (here.0, between mid older start l.1 here.1 c')
]

same_size : (mid older : List Entry) (start : Entry) (version : ℕ) → start.kind ≡ UploadStart version
    → AllByRecursion (λ e. keeps_content e.kind ≡ true) mid → size_of (mid ++ start ∷ older) ≡ size_of older
same_size [] older start version s h = rw s refl
same_size (e ∷ mid) older start version s h = kept_size e.kind (size_of (mid ++ start ∷ older)) h.0 ∙ same_size mid older start version s h.1

same_bytes : (mid older : List Entry) (start : Entry) (version : ℕ) → start.kind ≡ UploadStart version
    → AllByRecursion (λ e. keeps_content e.kind ≡ true) mid → (known : Known) (p : ℕ) → byte_at known (mid ++ start ∷ older) p ≡ byte_at known older p
same_bytes [] older start version s h known p = rw s refl
same_bytes (e ∷ mid) older start version s h known p = kept_byte known e.kind p (byte_at known (mid ++ start ∷ older) p) h.0 ∙ same_bytes mid older start version s h.1 known p

-- the upload that is live at the index of a start is the one of that start
abbrev Same : Option Upload → ℕ → Type 0
Same None version = Unit {0}
Same (Some upload) version = upload.version ≡ version

is_start_of : (mid older : List Entry) (start : Entry) (version : ℕ) → start.kind ≡ UploadStart version
    → Same (upload_at (mid ++ start ∷ older) (length older)) version
is_start_of [] older start version s = rw (s, eq-eqb (length older) (length older) refl) refl
is_start_of (e ∷ mid) older start version s =
    let rest : List Entry = mid ++ start ∷ older in
    let ih : Same (upload_at rest (length older)) version = is_start_of mid older start version s in
    let more : length older < length rest = omega (arith, length-append mid (start ∷ older)) in
    elim (uploading e.kind) [
      | begins v a b step ↦ elim (eqb_tells (length rest) (length older)) [
        | inl t ↦ absurd (omega (arith, t.1))
        | inr t ↦ rw (step e.by.pass (length rest) (length older) (upload_at rest (length older)), t.0) ih
      ]
      | ends first a b step own ↦ elim (cases_Bool (first == length older)) [
        | inl t ↦ rw (step e.by.pass (length rest) (length older) (upload_at rest (length older)), t) tt
        | inr t ↦ rw (step e.by.pass (length rest) (length older) (upload_at rest (length older)), t) ih
      ]
      | idles a b step ↦ rw (step e.by.pass (length rest) (length older) (upload_at rest (length older))) ih
    ]

-- what an upload's end asks, and what its start noted
end_of : (k : FileKind) (past : List Entry) (by : By) (start : ℕ) (print : Fingerprint) → k ≡ Uploaded start print → Allows past k by
    → (is_dirty past ≡ true) × (upload_at past start ≡ Some (record { version = version_of past; pass = by.pass }))
end_of k past by start print s a = let P : FileKind → Type 0 = λ k. Allows past k by in let h : Allows past (Uploaded start print) by = subst P s a in (h.1, h.3)

noted : (k : FileKind) (past : List Entry) (by : By) (version : ℕ) → k ≡ UploadStart version → Allows past k by → version ≡ version_of past
noted k past by version s a = let P : FileKind → Type 0 = λ k. Allows past k by in let h : Allows past (UploadStart version) by = subst P s a in h.2

pub whole : (mid older : List Entry) (start end : Entry) (version : ℕ) (print : Fingerprint)
    → start.kind ≡ UploadStart version → end.kind ≡ Uploaded (length older) print
    → IsLegal (end ∷ (mid ++ start ∷ older)) → IsWhole mid start older
whole mid older start end version print s t l =
    let rest : List Entry = mid ++ start ∷ older in
    let ended : (is_dirty rest ≡ true) × (upload_at rest (length older) ≡ Some (record { version = version_of rest; pass = end.by.pass })) = end_of end.kind rest end.by (length older) print t l.0.allowed in
    let P : Option Upload → Type 0 = λ o. Same o version in
    let same : version_of rest ≡ version = subst P ended.1 (is_start_of mid older start version s) in
    let at_start : version ≡ version_of older = noted start.kind older start.by version s (legal_tail mid (start ∷ older) l.1).0.allowed in
    let quiet : raises start.kind ≡ false = ap raises s in
    let older' : count_of raises (start ∷ older) ≡ count_of raises older = rw quiet refl in
    let sum : count_of raises rest ≡ count_of raises mid + count_of raises (start ∷ older) = count_append raises mid (start ∷ older) in
    let none : count_of raises mid ≡ 0 = omega arith in
    let kept : AllByRecursion (λ e. keeps_content e.kind ≡ true) mid = between mid older start l.1 ended.0 none in
    record { between = kept; size = same_size mid older start version s kept; bytes = same_bytes mid older start version s kept }

saved : (known : Known) (k : FileKind) (past : List Entry) (start : ℕ) (print : Fingerprint) → k ≡ Uploaded start print → SavesContent known past k
    → (p : ℕ) → p < size_of past → slice_index (known.content print) p ≡ byte_at known past p
saved known k past start print s h = let P : FileKind → Type 0 = λ k. SavesContent known past k in let h' : SavesContent known past (Uploaded start print) = subst P s h in h'

pub of_its_start : (known : Known) (mid older : List Entry) (start end : Entry) (version : ℕ) (print : Fingerprint)
    → start.kind ≡ UploadStart version → end.kind ≡ Uploaded (length older) print
    → IsLegal (end ∷ (mid ++ start ∷ older)) → IsSavedWhole known (end ∷ (mid ++ start ∷ older))
    → (p : ℕ) → p < size_of older → slice_index (known.content print) p ≡ byte_at known older p
of_its_start known mid older start end version print s t l w p lt =
    let all : IsWhole mid start older = whole mid older start end version print s t l in
    let lt' : p < size_of (mid ++ start ∷ older) = let same = all.size in omega arith in
    saved known end.kind (mid ++ start ∷ older) (length older) print t w.0 p lt' ∙ all.bytes known p
