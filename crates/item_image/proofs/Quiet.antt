-- What changes nothing of a file: a call that failed or read, a call that was none, an entry that tells no change.
use Rattle.std.proofs.Common.{◌≡◌, ℕ, ◌==◌, ◌&&◌, nat_le, nat_lt, ◌+◌, Bool, true, false, Option, Some, None, List, ◌∷◌, refl, sym, arith, subst, Result, Ok, Err}
use Rattle.std.proofs.lemmas.Bool.{true≢false}
use Rattle.std.proofs.lemmas.Bool.Decides.{nat_tests}
use Rattle.vfs_names.specs.Payload.{payload_len}
use Rattle.vfs_names.specs.declared.fingerprint.Fingerprint.{Fingerprint}
use Rattle.vfs_names.specs.declared.who.By.{By}
use Rattle.vfs_outside.specs.Image.{Image}
use Rattle.vfs_outside.specs.Slot.{Slot, image}
use Rattle.vfs_outside.specs.declared.disk_error.DiskError.{DiskError}
use Rattle.vfs_outside.specs.declared.disk_error.DiskError.TheVariants.{Failed, NoMemory}
use Rattle.vfs_outside.specs.declared.file_call.FileCall.{FileCall}
use Rattle.vfs_outside.specs.declared.file_call.FileCall.TheVariants.{Quiet}
use Rattle.item_core.specs.declared.entry.Entry.{Entry}
use Rattle.item_core.specs.declared.entry.FileKind.{FileKind}
use Rattle.item_core.specs.declared.entry.FileKind.TheVariants.{Bind, Write, Read, Stat, Opened, Closed, UploadStart, UploadDropped, Refused}
use Rattle.item_core.specs.Content.{Known, byte_after, byte_at}
use Rattle.item_core.specs.History.{is_kept}
use Rattle.item_core.specs.Names.{names_before}
use Rattle.item_meta.specs.declared.meta.Meta.{Meta}
use Rattle.item_image.specs.Facts.{HasFacts, MetaFacts, facts_of}
use Rattle.item_image.specs.Premise.{Pairs}
use Rattle.item_image.specs.Book.{Book, HasMeta, HoldsFor, Keeps}
use Rattle.item_image.specs.Calls.{Does, Goes, Stays}
use Rattle.item_image.specs.Entries.{is_plain, made}
use Rattle.item_image.specs.Next.{touched_meta}
use Rattle.item_image.proofs.Premises.{fewer_fits, older_fits}
use Rattle.item_image.proofs.Steps.{kept_now, made_now, step}

-- no call was made
pub no_call : {tells shows : Type 0} {past : List Entry} {names : List (List ℕ)} {saved : ℕ} {pairs : Pairs} {meta : Option Meta} {old new : Slot}
    → Book tells shows past names saved pairs meta old → Stays tells old new → Book tells shows past names saved pairs meta new
no_call b s = kept_now b s b.kept (λ known f. f) b.holds

quiet_holds : (known : Known) (saved : ℕ) (image : Image) (past : List Entry) (names : List (List ℕ)) (meta : Option Meta)
    → HoldsFor known saved image past names meta → HoldsFor known saved (Quiet ∷ image) past names meta
quiet_holds known saved image past names None h = h
quiet_holds known saved image past names (Some m) h = h

-- a call changed nothing
pub quiet_call : {tells shows : Type 0} {past : List Entry} {names : List (List ℕ)} {saved : ℕ} {pairs : Pairs} {meta : Option Meta} {old new : Slot}
    → Book tells shows past names saved pairs meta old → Goes tells Quiet old new → Book tells shows past names saved pairs meta new
quiet_call {past = past} {names = names} {saved = saved} {meta = meta} {old = old} b g =
    step Quiet b g b.kept (λ t known f i. quiet_holds known saved (image old.told) past names meta (b.holds t known f i))

-- a call that reads, whatever it answered
pub read_call : {T : Type 0} {tells shows : Type 0} {past : List Entry} {names : List (List ℕ)} {saved : ℕ} {pairs : Pairs} {meta : Option Meta} {old new : Slot} (result : Result T DiskError)
    → Book tells shows past names saved pairs meta old → Does tells Quiet old new result → Book tells shows past names saved pairs meta new
read_call (Ok x) b d = quiet_call b d
read_call (Err Failed) b d = quiet_call b d
read_call (Err NoMemory) b d = no_call b d

-- a save or a clear that wasn't done
pub failed_call : {tells shows : Type 0} {past : List Entry} {names : List (List ℕ)} {saved : ℕ} {pairs : Pairs} {meta : Option Meta} {old new : Slot} (T : Type 0) (c : FileCall) (why : DiskError)
    → Book tells shows past names saved pairs meta old → Does {T = T} tells c old new (Err why) → Book tells shows past names saved pairs meta new
failed_call T c Failed b d = quiet_call b d
failed_call T c NoMemory b d = no_call b d

-- ---- entries that change nothing

plain_names : (kind : FileKind) (names : List (List ℕ)) → is_plain kind ≡ true → names_before kind names ≡ names
plain_names (Bind print) names h = refl
plain_names (Write pos payload) names h = refl
plain_names (Read pos len) names h = refl
plain_names Stat names h = refl
plain_names (Opened access) names h = refl
plain_names Closed names h = refl
plain_names (UploadStart version) names h = refl
plain_names (UploadDropped start why) names h = refl
plain_names (Refused verb why) names h = refl
plain_names _ names h = absurd (true≢false (sym h))

plain_kept : (kind : FileKind) (by : By) (at : ℕ) (past : List Entry) → is_plain kind ≡ true → is_kept (made by at kind ∷ past) ≡ is_kept past
plain_kept (Bind print) by at past h = refl
plain_kept (Write pos payload) by at past h = refl
plain_kept (Read pos len) by at past h = refl
plain_kept Stat by at past h = refl
plain_kept (Opened access) by at past h = refl
plain_kept Closed by at past h = refl
plain_kept (UploadStart version) by at past h = refl
plain_kept (UploadDropped start why) by at past h = refl
plain_kept (Refused verb why) by at past h = refl
plain_kept _ by at past h = absurd (true≢false (sym h))

plain_facts : (kind : FileKind) (by : By) (at saved : ℕ) (past : List Entry) (names : List (List ℕ)) → is_plain kind ≡ true
    → facts_of saved (made by at kind ∷ past) names ≡ facts_of saved past names
plain_facts (Bind print) by at saved past names h = refl
plain_facts (Write pos payload) by at saved past names h = rw h refl
plain_facts (Read pos len) by at saved past names h = refl
plain_facts Stat by at saved past names h = refl
plain_facts (Opened access) by at saved past names h = refl
plain_facts Closed by at saved past names h = refl
plain_facts (UploadStart version) by at saved past names h = refl
plain_facts (UploadDropped start why) by at saved past names h = refl
plain_facts (Refused verb why) by at saved past names h = refl
plain_facts _ by at saved past names h = absurd (true≢false (sym h))

no_bytes : (pos n p : ℕ) → (n == 0) ≡ true → (nat_le pos p && nat_lt p (pos + n)) ≡ false
no_bytes pos n p h = grind (arith, nat_tests)

plain_byte : (known : Known) (kind : FileKind) (p old : ℕ) → is_plain kind ≡ true → byte_after known kind p old ≡ old
plain_byte known (Bind print) p old h = refl
plain_byte known (Write pos payload) p old h = rw (no_bytes pos (payload_len payload) p h) refl
plain_byte known (Read pos len) p old h = refl
plain_byte known Stat p old h = refl
plain_byte known (Opened access) p old h = refl
plain_byte known Closed p old h = refl
plain_byte known (UploadStart version) p old h = refl
plain_byte known (UploadDropped start why) p old h = refl
plain_byte known (Refused verb why) p old h = refl
plain_byte known _ p old h = absurd (true≢false (sym h))

same_keeps : {known : Known} {text : Option (List ℕ)} {stored : ℕ → Option ℕ} {facts facts' : MetaFacts} {bytes bytes' : ℕ → ℕ} {meta : Meta}
    → facts' ≡ facts → bytes' ≡ bytes → Keeps known text stored facts bytes meta → Keeps known text stored facts' bytes' meta
same_keeps {known = known} {text = text} {stored = stored} {facts = facts} {facts' = facts'} {bytes = bytes} {bytes' = bytes'} {meta = meta} e f k =
    subst (λ (x : MetaFacts). Keeps known text stored x bytes' meta) (sym e) (subst (λ (x : ℕ → ℕ). Keeps known text stored facts x meta) (sym f) k)

same_holds : (known : Known) (saved : ℕ) (image : Image) (past past' : List Entry) (names : List (List ℕ)) (meta : Option Meta)
    → facts_of saved past' names ≡ facts_of saved past names → ((p : ℕ) → byte_at known past' p ≡ byte_at known past p)
    → HoldsFor known saved image past names meta → HoldsFor known saved image past' names meta
same_holds known saved image past past' names None e f h = h
same_holds known saved image past past' names (Some m) e f h = same_keeps e (λ i p. f p i) h

same_meta : (kept kept' : Bool) (facts facts' : MetaFacts) (meta : Option Meta) → kept' ≡ kept → facts' ≡ facts → HasMeta kept facts meta → HasMeta kept' facts' meta
same_meta kept kept' facts facts' meta k e h = subst (λ (x : MetaFacts). HasMeta kept' x meta) (sym e) (subst (λ (x : Bool). HasMeta x facts meta) (sym k) h)

pub plain_entry : {tells shows : Type 0} {past : List Entry} {names : List (List ℕ)} {saved : ℕ} {pairs : Pairs} {meta : Option Meta} {slot : Slot} (by : By) (at : ℕ) (kind : FileKind)
    → Book tells shows past names saved pairs meta slot → at ≡ slot.calls → is_plain kind ≡ true
    → Book tells shows (made by at kind ∷ past) names saved pairs meta slot
plain_entry {past = past} {names = names} {saved = saved} {meta = meta} {slot = slot} by at kind b is plain =
    made_now (made by at kind) b is (plain_names kind names plain) (λ known f. older_fits f)
    (same_meta (is_kept past) (is_kept (made by at kind ∷ past)) (facts_of saved past names) (facts_of saved (made by at kind ∷ past) names) meta
    (plain_kept kind by at past plain) (plain_facts kind by at saved past names plain) b.kept)
    (λ t known f i. same_holds known saved (image slot.told) past (made by at kind ∷ past) names meta (plain_facts kind by at saved past names plain)
    (λ p. plain_byte known kind p (byte_at known past p) plain) (b.holds t known (older_fits f) i))

-- one more object was given
pub more_pairs : {tells shows : Type 0} {past : List Entry} {names : List (List ℕ)} {saved : ℕ} {pairs : Pairs} {meta : Option Meta} {slot : Slot} (pair : Fingerprint × List ℕ)
    → Book tells shows past names saved pairs meta slot → Book tells shows past names saved (pair ∷ pairs) meta slot
more_pairs pair b = kept_now b (record { calls = refl; told = λ t. refl }) b.kept (λ known f. fewer_fits f) (λ t known f i. b.holds t known (fewer_fits f) i)

touched_facts : {facts : MetaFacts} {m : Meta} (now : ℕ) → HasFacts facts m → HasFacts facts (touched_meta now m)
touched_facts now h = record {
  path = h.path;
  size = h.size;
  base_end = h.base_end;
  base = h.base;
  dirty = h.dirty;
  mtime = h.mtime;
  fits = record { path = h.fits.path; size = h.fits.size; base = h.fits.base; base_end = h.fits.base_end; ranges = h.fits.ranges; dirty = h.fits.dirty; intent = h.fits.intent };
}

-- the time of the last use is what the caller makes it
pub touched : {tells shows : Type 0} {past : List Entry} {names : List (List ℕ)} {saved : ℕ} {pairs : Pairs} {m m' : Meta} {slot : Slot} (now : ℕ)
    → Book tells shows past names saved pairs (Some m) slot → m' ≡ touched_meta now m → Book tells shows past names saved pairs (Some m') slot
touched {tells} {shows} {past} {names} {saved} {pairs} {m} {m'} {slot} now b is = subst (λ (x : Meta). Book tells shows past names saved pairs (Some x) slot) (sym is)
    (kept_now b (record { calls = refl; told = λ t. refl }) (b.kept.0, touched_facts now b.kept.1) (λ known f. f)
    (λ t known f i. let k = b.holds t known f i in record { present = k.present; saved = k.saved; ranges = k.ranges; pending = k.pending }))
