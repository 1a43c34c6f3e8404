-- Which files are kept, and have metadata in memory.
use Rattle.std.proofs.Common.{◌≡◌, ℕ, ◌<◌, true, false, Option, None, List, sym, ◌∙◌, arith, subst}
use Rattle.std.proofs.lemmas.Bool.{true≢false}
use Rattle.vfs_outside.specs.Slot.{Slot}
use Rattle.item_core.specs.declared.entry.Entry.{Entry}
use Rattle.item_core.specs.History.{is_kept, opens_by}
use Rattle.item_core.specs.Legal.{IsLegal}
use Rattle.item_core.proofs.Counts.{opens_by_le}
use Rattle.item_core.proofs.LawProofs.{open_kept}
use Rattle.item_meta.specs.declared.meta.Meta.{Meta}
use Rattle.item_image.specs.Book.{HasMeta}
use Rattle.item_image.specs.Facts.{facts_of}
use Rattle.item_image.specs.Premise.{Pairs}
use Rattle.base_object.specs.Base.{Base}
use Rattle.sparse_item.specs.Item.{Saved}
use Rattle.sparse_item.specs.Sound.{IsSound}

-- a kept file has metadata
pub no_meta : {tells shows : Type 0} {past : List Entry} {names : List (List ℕ)} {saved : Saved} {pairs : Pairs} {meta : Option Meta} {slot : Slot} {base : Base} {atime : ℕ}
    → IsSound tells shows past names saved pairs meta slot base atime → is_kept past ≡ true → meta ≡ None → ⊥
no_meta {past = past} {names = names} {saved = saved} b kept none =
    let gone : is_kept past ≡ false = subst (λ (m : Option Meta). HasMeta (is_kept past) (facts_of saved.mtime past names) m) none b.book.kept in
    true≢false (sym kept ∙ gone)

-- a file of which a pass has a handle is kept
pub opened_kept : (past : List Entry) (pass : ℕ) → IsLegal past → 0 < opens_by pass past → is_kept past ≡ true
opened_kept past pass legal h = open_kept past legal (omega (arith, opens_by_le past legal pass, h))
