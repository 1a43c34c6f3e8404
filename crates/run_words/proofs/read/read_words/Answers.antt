use Rattle.run_words.specs.Values.{found_in}
use Rattle.run_words.specs.Words.{meaning}
use Rattle.run_words.proofs.Meaning.{asks, asks_nothing}
use Rattle.run_words.proofs.read.read_words.Goals as goal

pub returns-in-Some-asked-clause-read : goal.returns-in-Some-asked-clause-read
returns-in-Some-asked-clause-read c =
    let given = c.in-Some.ensures.found in
    asks _ given.0 (found_in c.in-Some.values) (meaning c.in-Some-asked.run') given.1 given.2
    c.in-Some-asked.ensures.found

pub returns-in-None-clause-refused : goal.returns-in-None-clause-refused
returns-in-None-clause-refused c =
    let given = c.in-Some.ensures.found in
    asks_nothing _ given.0 (found_in c.in-Some.values) given.1 given.2 c.in-None.ensures.none
