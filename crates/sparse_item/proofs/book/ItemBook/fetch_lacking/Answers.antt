use Rattle.std.proofs.Common.{◌≡◌, ◌∙◌, refl, sym, ap}
use Rattle.item_core.specs.History.{base_end_of}
use Rattle.sparse_item.specs.Item.{Item}
use Rattle.sparse_item.specs.Views.{here_of}
use Rattle.sparse_item.proofs.Refusals.{base_end_is, fetches_same}
use Rattle.sparse_item.proofs.Steps.{touched_sound, with_meta}
use Rattle.sparse_item.proofs.book.ItemBook.fetch_lacking.Goals.{in-Ok, in-Err}
use Rattle.sparse_item.proofs.book.ItemBook.fetch_lacking.Goals as goal

pub invariant_of-self : goal.invariant_of-self
invariant_of-self g c = c.fetch_part.ensures.stands _ _ _ _ _ (touched_sound c.self.inside.atime (with_meta c.self.invariant c.in-Some.is) refl)

pub returns-clause-asks : goal.returns-clause-asks
returns-clause-asks g c =
    let here : c.in-Some.meta.ranges ≡ c.args.self.now.here = sym (ap here_of c.in-Some.is) ∙ ap (λ (v : Item). v.here) c.self.view_is in
    let end : c.in-Some.meta.base_end ≡ base_end_of c.args.self.now.log.past = base_end_is (with_meta c.self.invariant c.in-Some.is) ∙ ap (λ (v : Item). base_end_of v.log.past) c.self.view_is in
    let base : c.self.inside.base ≡ c.args.self.now.base = ap (λ (v : Item). v.base) c.self.view_is in
    let same : c.fetch_part.result ≡ c.match-fetch_part.result = elim c.match-fetch_part.branch [
      | in-Ok w ↦ w.in-Ok.is ∙ sym w.result-is
      | in-Err w ↦ w.in-Err.is ∙ sym w.result-is
    ] in
    fetches_same c.args.plan.now c.args.part _ _ _ _ _ _ c.fetch_part.new.meta.ranges c.fetch_part.new.base _ _ here end base same c.fetch_part.ensures.asks
