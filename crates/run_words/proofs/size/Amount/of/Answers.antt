use Rattle.std.proofs.Common.{codes}
use Rattle.run_words.proofs.SizeWords.{no_amount, differs}
use Rattle.run_words.proofs.size.Amount.of.Goals as goal

pub returns-in-None-clause-none : goal.returns-in-None-clause-none
returns-in-None-clause-none c =
    no_amount c.args.word.now c.in-None.ensures.none
    (differs c.args.word.now c.as_slice.result.now
    (codes "off") c.eq.result c.eq.ensures c.as_slice.ensures c.if-eq.false)
