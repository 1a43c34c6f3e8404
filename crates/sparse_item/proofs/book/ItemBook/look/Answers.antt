use Rattle.std.proofs.Common.{◌≡◌, ℕ, zero, suc, [], refl, sym, ap, ◌∙◌, arith}
use Rattle.byte_ranges.specs.Ranges.{count_below}
use Rattle.sparse_item.specs.Item.{Item}
use Rattle.sparse_item.specs.Views.{here_of}
use Rattle.sparse_item.proofs.book.ItemBook.look.Goals as goal

none_below : (n : ℕ) → count_below [] n ≡ 0
none_below zero = refl
none_below (suc n) = omega (arith, none_below n)

pub returns-in-None-clause-bytes : goal.returns-in-None-clause-bytes
returns-in-None-clause-bytes g c n below = c.look_with-in-None.ensures.kept
    ∙ sym (ap (λ (v : Item). count_below v.here n) (sym c.self.view_is) ∙ ap (λ m. count_below (here_of m) n) c.in-None.is ∙ none_below n)
