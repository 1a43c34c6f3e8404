use Rattle.std.proofs.Common.{◌≡◌, length}
use Rattle.session_script.specs.Words.{words_of, has_gap}
use Rattle.session_script.proofs.words.has_gap.Given as goal

abbrev pub invariant-loop-word : goal.invariant-loop-word
invariant-loop-word l = has_gap l.words ≡ has_gap (words_of l.text)

abbrev pub decreases-loop-word : goal.decreases-loop-word
decreases-loop-word l = length l.words
