-- What an upload leaves that was carried out after its start: by the commit of a whole stage and a save, or by a refusal.
use Rattle.std.proofs.Common.{◌≡◌, ℕ, ◌∷◌, List, refl, sym, ap, ◌∙◌, inl, inr, arith, subst}
use Rattle.byte_ranges.specs.declared.Span.{Span}
use Rattle.byte_ranges.specs.Ranges.{has}
use Rattle.vfs_names.specs.declared.fingerprint.Fingerprint.{Fingerprint}
use Rattle.vfs_names.specs.declared.who.By.{By}
use Rattle.vfs_outside.specs.Image.{Image}
use Rattle.vfs_outside.specs.Outside.{Outside, StaysAlone}
use Rattle.vfs_outside.specs.Slot.{Told}
use Rattle.item_core.specs.declared.entry.Entry.{Entry}
use Rattle.item_core.specs.declared.entry.FileKind.TheVariants as kinds
use Rattle.item_core.specs.Content.{Known, content_of}
use Rattle.item_core.specs.Names.{name_of}
use Rattle.item_image.specs.Entries.{made}
use Rattle.item_image.specs.Premise.{IsHanded, IsOfImage, Pairs}
use Rattle.item_upload.specs.Finishing.{IsContent, IsUnsaved, MayHand}
use Rattle.item_upload.specs.Whole.{MayCommitWhole, MayHandWhole}
use Rattle.item_upload.proofs.Filling.{fits_before}
use Rattle.item_upload.proofs.Stopping.{committed_before}
use Rattle.item_upload.proofs.Contents.{handed_same}
use Rattle.sparse_item.specs.Answers.{Enters}
use Rattle.sparse_item.specs.Item.{IsAllHere, Item}
use Rattle.sparse_item.specs.Moves.{GoesOn}
use Rattle.sparse_item.specs.Stores.{IsLaterStore}
use Rattle.sparse_item.specs.Uploading.{Uploading}

-- ---- what stays of the file

-- the file has the same number, names, objects and saved times
abbrev pub StaysFile : Item → Item → Type 0
StaysFile old new = new ≡ record old { log = new.log; base = new.base; here = new.here; pending = new.pending; slot = new.slot }

pub stays_on : (first item new : Item) → StaysFile first item → StaysFile item new → StaysFile first new
stays_on first item new x y = y ∙ ap (λ (v : Item). record v { log = new.log; base = new.base; here = new.here; pending = new.pending; slot = new.slot }) x

pub stays_as : (old new : Item) {is : Item} → new ≡ is → StaysFile old is → StaysFile old new
stays_as old new e h = subst (λ (v : Item). StaysFile old v) (sym e) h

pub all_here_as : (here here' : List Span) (n n' : ℕ) → here' ≡ here → n' ≡ n → IsAllHere here n → IsAllHere here' n'
all_here_as here here' n n' e is all = λ p lt. ap (λ (h : List Span). has h p) e ∙ all p (omega (arith, lt, is))

pub name_as : (old new : Item) → new.log.past ≡ old.log.past → new.names ≡ old.names → name_of new.log.past new.names ≡ name_of old.log.past old.names
name_as old new same names = ap (λ (xs : List Entry). name_of xs new.names) same ∙ ap (λ (ns : List (List ℕ)). name_of old.log.past ns) names

-- the end of the upload that began in the same history
pub enters_before : (by : By) (old mid new : Item) (u v : Uploading) (print : Fingerprint) → mid.log.past ≡ old.log.past → v ≡ u → Enters by (kinds.Uploaded v.start print) mid new
    → Enters by (kinds.Uploaded u.start print) old new
enters_before by old mid new u v print same is enters =
    enters ∙ ap (λ (x : Uploading). made by new.slot.calls (kinds.Uploaded x.start print) ∷ mid.log.past) is
    ∙ ap (λ (xs : List Entry). made by new.slot.calls (kinds.Uploaded u.start print) ∷ xs) same

-- ---- the content

-- what is the content after calls that left history, objects and first image as they were
pub content_before : {tells shows : Type 0} (old new : Item) (bytes : List ℕ) → new.log.past ≡ old.log.past → new.pairs ≡ old.pairs → GoesOn tells old.slot new.slot
    → IsContent tells shows new bytes → IsContent tells shows old bytes
content_before {tells} {shows} old new bytes same given goes h =
    λ t known fits image. h t known (fits_before known new.log.past old.log.past new.pairs old.pairs (sym same) (sym given) fits) (image_after t known image) ∙ ap (content_of known) same where
      image_after : tells → (known : Known) → IsOfImage known old.slot.told.first → IsOfImage known new.slot.told.first
      image_after t known image = subst (λ (i : Image). IsOfImage known i) (sym (ap (λ (x : Told). x.first) (goes.told t).1)) image

-- nothing was committed, or the whole content was, by the store before calls that left it alone
pub commits_before : {tells shows : Type 0} (first old : Item) (bytes : List ℕ) (a b c : Outside) → name_of old.log.past old.names ≡ name_of first.log.past first.names → StaysAlone a b → IsLaterStore b c
    → IsContent tells shows first bytes → IsUnsaved old bytes b c → MayCommitWhole tells shows first a c
commits_before first old bytes a b c name alone later content (inl none) = inl (λ others. none others ∙ alone.alone (omega (arith, others, later.others)))
commits_before first old bytes a b c name alone later content (inr put) = inr (record {
  print = put.0;
  bytes = bytes;
  content = content;
  put = committed_before first old bytes a b c put.0 name alone later put.1;
})

pub hands_before : {tells store shows : Type 0} (first : Item) (bytes : List ℕ) (a b c : Outside) → b.handed ≡ a.handed → (store → IsContent tells shows first bytes) → MayHand bytes b c
    → MayHandWhole tells store shows first a c
hands_before first bytes a b c same content (inl none) = inl (none ∙ same)
hands_before first bytes a b c same content (inr one) = inr (record {
  print = one.0;
  bytes = bytes;
  content = content;
  handed = one.1 ∙ ap (λ (ps : Pairs). (one.0, bytes) ∷ ps) same;
})

-- ---- a history whose uploads are shown to be whole

-- another spelling of it
pub handed_as : (shows : Type 0) (first first' : Image) (past past' : List Entry) (pairs pairs' handed handed' : Pairs) → first' ≡ first → handed' ≡ handed → past' ≡ past → pairs' ≡ pairs
    → IsHanded shows handed first past pairs → IsHanded shows handed' first' past' pairs'
handed_as shows first first' past past' pairs pairs' handed handed' f h e p is =
    subst (λ (i : Image). IsHanded shows handed' i past' pairs') (sym f) (handed_same shows first past past' pairs pairs' handed handed' h e p is)

first_as : {tells : Type 0} (old new : Item) → GoesOn tells old.slot new.slot → tells → new.slot.told.first ≡ old.slot.told.first
first_as old new goes t = ap (λ (x : Told). x.first) (goes.told t).1

-- calls that handed out nothing and left the history as it was
pub handed_still : (shows : Type 0) (old new : Item) (a b : Outside) → new.log.past ≡ old.log.past → new.pairs ≡ old.pairs → b.handed ≡ a.handed
    → IsHanded shows a.handed old.slot.told.first old.log.past old.pairs → IsHanded shows b.handed old.slot.told.first new.log.past new.pairs
handed_still shows old new a b same given handed is = handed_same shows old.slot.told.first old.log.past new.log.past old.pairs new.pairs a.handed b.handed handed same given is

-- the same, and then one that carries it on
pub handed_through : {tells : Type 0} (shows : Type 0) (old mid new : Item) (a b c : Outside) → tells → GoesOn tells old.slot mid.slot → mid.log.past ≡ old.log.past → mid.pairs ≡ old.pairs → b.handed ≡ a.handed
    → (IsHanded shows b.handed mid.slot.told.first mid.log.past mid.pairs → IsHanded shows c.handed mid.slot.told.first new.log.past new.pairs)
    → IsHanded shows a.handed old.slot.told.first old.log.past old.pairs → IsHanded shows c.handed old.slot.told.first new.log.past new.pairs
handed_through shows old mid new a b c t goes same given handed carries is =
    let first = first_as old mid goes t in
    let there = handed_as shows old.slot.told.first mid.slot.told.first old.log.past mid.log.past old.pairs mid.pairs a.handed b.handed first handed same given is in
    handed_as shows mid.slot.told.first old.slot.told.first new.log.past new.log.past new.pairs new.pairs c.handed c.handed (sym first) refl refl refl (carries there)
