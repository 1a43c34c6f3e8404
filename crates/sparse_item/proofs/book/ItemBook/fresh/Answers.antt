use Rattle.std.proofs.Common.{reverse, sym, ap}
use Rattle.sparse_item.specs.Views.{pairs_of}
use Rattle.sparse_item.proofs.Steps.{fresh_sound}
use Rattle.sparse_item.proofs.book.ItemBook.fresh.Goals as goal

pub invariant_of-result : goal.invariant_of-result
invariant_of-result g c = fresh_sound _ _ c.new.ensures.past (ap reverse c.new-2.ensures.items) (ap (pairs_of g.O.Object.print_of g.O.Object.bytes) c.new-4.ensures.items)
    c.new-3.ensures c.requires.new.calls (λ t. g.met.F.CacheFile.counted t c.args.file) c.requires.blank c.none.ensures.state c.none.ensures.object (sym c.of-2.ensures)
