use Rattle.std.proofs.Common.{codes, arith}
use Rattle.run_words.proofs.SizeWords.{too_big, no_size, differs}
use Rattle.run_words.proofs.size.size_of.Goals as goal

pub returns-in_default-clause-none : goal.returns-in_default-clause-none
returns-in_default-clause-none c = λ size p.
    too_big c.args.word.now c.in-Some.size size c.in-Some.ensures.found.0 c.in-Some.ensures.found.1 (omega arith)
    (differs c.args.word.now c.as_slice.result.now
    (codes "0") c.eq.result c.eq.ensures c.as_slice.ensures c.if-eq.false) p

pub returns-in_default-2-clause-none : goal.returns-in_default-2-clause-none
returns-in_default-2-clause-none c = λ size p.
    no_size c.args.word.now size c.in_default.ensures.none
    (differs c.args.word.now c.as_slice.result.now
    (codes "0") c.eq.result c.eq.ensures c.as_slice.ensures c.if-eq.false) p
