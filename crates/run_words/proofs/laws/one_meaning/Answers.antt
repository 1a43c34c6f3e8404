use Rattle.run_words.proofs.Meaning.{one_meaning_of}
use Rattle.run_words.proofs.laws.one_meaning.Goals as goal

pub returns : goal.returns
returns c = one_meaning_of
