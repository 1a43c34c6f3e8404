-- That what an upload committed is the whole content.
use Rattle.std.proofs.Common.{◌≡◌, ◌<◌, ℕ, zero, suc, ◌+◌, true, List, [], ◌∷◌, sym, ap, ◌∙◌, arith, subst}
use Rattle.std.specs.Prelude.{slice_index}
use Rattle.vfs_names.specs.declared.fingerprint.Fingerprint.{Fingerprint}
use Rattle.vfs_names.specs.declared.who.By.{By}
use Rattle.vfs_outside.specs.Image.{Image}
use Rattle.item_core.specs.declared.entry.Entry.{Entry}
use Rattle.item_core.specs.declared.entry.FileKind.TheVariants as kinds
use Rattle.item_core.specs.Content.{Known, byte_at, bytes_at, content_of}
use Rattle.item_core.specs.History.{is_dirty, is_kept, size_of}
use Rattle.item_core.specs.Legal.{IsLegal}
use Rattle.item_core.proofs.LawProofs.{dirty_kept}
use Rattle.item_image.specs.Entries.{made}
use Rattle.item_image.specs.Premise.{Fits, IsHanded, IsOfImage, Pairs}
use Rattle.item_image.proofs.Premises.{handed_more, handed_uploaded}

index_at : (known : Known) (past : List Entry) (pos n i : ℕ) → i < n → slice_index (bytes_at known past pos n) i ≡ byte_at known past (pos + i)
index_at known past pos zero i lt = absurd (omega (arith, lt))
index_at known past pos (suc n) zero lt = ap (byte_at known past) (let e : pos ≡ pos + 0 = omega arith in e)
index_at known past pos (suc n) (suc i) lt =
    index_at known past (suc pos) n i (omega (arith, lt)) ∙ ap (byte_at known past) (let e : suc pos + i ≡ pos + suc i = omega arith in e)

-- an object of the whole content was handed out, and is what the file was uploaded as
pub handed_whole : (shows : Type 0) (first : Image) (past : List Entry) (pairs handed : Pairs) (by : By) (at start : ℕ) (print : Fingerprint) (bytes : List ℕ)
    → IsHanded shows handed first past pairs
    → ((known : Known) → Fits shows known past pairs → IsOfImage known first → bytes ≡ content_of known past)
    → IsHanded shows ((print, bytes) ∷ handed) first (made by at (kinds.Uploaded start print) ∷ past) pairs
handed_whole shows first past pairs handed by at start print bytes is content =
    handed_uploaded shows ((print, bytes) ∷ handed) first past pairs by at start print (handed_more shows ((print, bytes) ∷ []) handed first past pairs is)
    (λ known h i f p lt. ap (λ (xs : List ℕ). slice_index xs p) (h.0.1 ∙ content known f i) ∙ index_at known past 0 (size_of past) p lt ∙ ap (byte_at known past) (let e : 0 + p ≡ p = omega arith in e))

-- an object was handed out, and nothing else has changed
pub handed_one : (shows : Type 0) (first : Image) (past : List Entry) (pairs handed : Pairs) (print : Fingerprint) (bytes : List ℕ)
    → IsHanded shows handed first past pairs → IsHanded shows ((print, bytes) ∷ handed) first past pairs
handed_one shows first past pairs handed print bytes is = handed_more shows ((print, bytes) ∷ []) handed first past pairs is

-- another spelling of what was handed out, of the history and of the objects
pub handed_same : (shows : Type 0) (first : Image) (past past' : List Entry) (pairs pairs' handed handed' : Pairs) → handed' ≡ handed → past' ≡ past → pairs' ≡ pairs
    → IsHanded shows handed first past pairs → IsHanded shows handed' first past' pairs'
handed_same shows first past past' pairs pairs' handed handed' h e p is =
    subst (λ (x : Pairs). IsHanded shows x first past' pairs') (sym h)
    (subst (λ (x : List Entry). IsHanded shows handed first x pairs') (sym e) (subst (λ (x : Pairs). IsHanded shows handed first past x) (sym p) is))

-- a file of which a pass may go on with an upload is changed, and so is kept
pub changed_kept : (past : List Entry) → IsLegal past → is_dirty past ≡ true → is_kept past ≡ true
changed_kept past legal dirty = dirty_kept past legal dirty
