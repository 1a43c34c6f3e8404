use Rattle.run_words.proofs.Cuts.{before_cut, before_end}
use Rattle.run_words.proofs.option.cut.Goals as goal

pub returns-in-Some-clause-before : goal.returns-in-Some-clause-before
returns-in-Some-clause-before c = before_cut c.args.word.now c.split_once.result c.in-Some.name c.in-Some.value
    c.split_once.ensures.cases c.in-Some.is

pub returns-in-None-clause-before : goal.returns-in-None-clause-before
returns-in-None-clause-before c = before_end c.args.word.now c.split_once.result c.split_once.ensures.cases
    c.in-None.is
