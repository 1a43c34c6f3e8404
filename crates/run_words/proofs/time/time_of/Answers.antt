use Rattle.std.proofs.Common.{ap, sym, ◌∙◌, arith}
use Rattle.run_words.specs.Times.{millis_of}
use Rattle.run_words.proofs.TimeWords.{same_time}
use Rattle.run_words.proofs.time.time_of.Goals as goal

pub returns-else-millis-le-MAX_TIME-clause-none : goal.returns-else-millis-le-MAX_TIME-clause-none
returns-else-millis-le-MAX_TIME-clause-none c = λ millis p.
    let same = p.value ∙ ap millis_of (same_time c.args.word.now p.time c.in-Some.time p.spells c.in-Some.ensures.found)
    ∙ sym c.to_millis-millis.ensures in
    absurd (omega (arith, same, p.most))
