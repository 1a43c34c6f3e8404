use Rattle.std.proofs.Common.{◌∙◌, sym, string_bytes}
use Rattle.run_words.proofs.Loop.{grown, stuck, repeated, not_found, was_found, has_more}
use Rattle.run_words.proofs.read.options_of.Goals as goal

pub returns-in_default-clause-none : goal.returns-in_default-clause-none
returns-in_default-clause-none c = λ given e apart.
    stuck _ _ c.loop-rest.values c.loop-rest.invariant c.in_default.ensures.none
    (has_more string_bytes c.loop-rest.rest.now (sym c.is_empty.ensures ∙ c.loop-rest-test.true)) given e

pub returns-then-is_some-clause-none : goal.returns-then-is_some-clause-none
returns-then-is_some-clause-none c = λ given e apart.
    repeated _ _ _ c.loop-rest.values (record {
      name = c.in-Some.taken.name;
      value = c.in-Some.taken.value.now;
      joined = c.in-Some.ensures.found.0;
    })
    c.loop-rest.invariant c.in-Some.ensures.found.1
    (was_found c.get.result _ c.get.ensures (sym c.is_some.ensures ∙ c.if-is_some.true)) given e apart

pub loop-rest-preserved : goal.loop-rest-preserved
loop-rest-preserved c =
    grown _ _ _ c.loop-rest.values c.put.new.self (record {
      name = c.in-Some.taken.name;
      value = c.in-Some.taken.value.now;
      joined = c.in-Some.ensures.found.0;
    })
    c.loop-rest.invariant c.in-Some.ensures.found.1
    (not_found c.get.result _ c.get.ensures (sym c.is_some.ensures ∙ c.if-is_some.false)) c.put.ensures
