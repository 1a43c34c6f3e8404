use Rattle.std.proofs.Common.{arith}
use Rattle.run_words.proofs.Meaning.{transfers_are}
use Rattle.run_words.proofs.read.transfers_of.Goals as goal

pub returns-in_default-clause-none : goal.returns-in_default-clause-none
returns-in_default-clause-none c = λ transfers p.
    let same = transfers_are c.args.word.now c.in-Some.n transfers c.in-Some.ensures.found.0 c.in-Some.ensures.found.1 p in
    absurd (omega (arith, same, p.most))

pub returns-in_default-2-clause-none : goal.returns-in_default-2-clause-none
returns-in_default-2-clause-none c = λ transfers p.
    let same = transfers_are c.args.word.now c.in-Some.n transfers c.in-Some.ensures.found.0 c.in-Some.ensures.found.1 p in
    absurd (omega (arith, same, p.least))
