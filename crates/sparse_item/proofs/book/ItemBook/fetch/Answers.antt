use Rattle.std.proofs.Common.{List, refl, subst}
use Rattle.byte_ranges.specs.Ranges.{has}
use Rattle.byte_ranges.specs.declared.Span.{Span}
use Rattle.item_core.specs.History.{base_end_of}
use Rattle.downloaders.specs.declared.Ask.{Ask}
use Rattle.downloaders.specs.Rules.{AreAsks}
use Rattle.base_object.specs.Pulls.{progress_of}
use Rattle.base_object.proofs.ReadsOn.{no_asks}
use Rattle.sparse_item.specs.Fetching.{Fetches, object_part}
use Rattle.sparse_item.proofs.Nexts.{brings_none}
use Rattle.sparse_item.proofs.book.ItemBook.fetch.Goals as goal

pub returns-in-Some-clause-asks : goal.returns-in-Some-clause-asks
returns-in-Some-clause-asks g c =
    let old = c.args.self.now in
    let new = c.fetch_lacking.new.self in
    subst (λ (part : Span). (asks : List Ask) → AreAsks c.args.plan.now part (base_end_of old.log.past) (λ p. has old.here p) old.base.crew asks
    → Fetches asks (base_end_of old.log.past) (λ p. has old.here p) (λ p. has new.here p) (progress_of old.base) (progress_of new.base) c.fetch_lacking.result)
    c.in-Some.ensures.part c.fetch_lacking.ensures.asks

pub returns-in-None-clause-asks : goal.returns-in-None-clause-asks
returns-in-None-clause-asks g c asks all =
    let old = c.args.self.now in
    brings_none (base_end_of old.log.past) (λ p. has old.here p) (λ p. has old.here p) asks _ _
    (no_asks c.args.plan.now (object_part old.log.past c.args.span) (base_end_of old.log.past) (λ p. has old.here p) old.base.crew asks (c.in-None.ensures.none refl) all) refl (λ p. refl)
