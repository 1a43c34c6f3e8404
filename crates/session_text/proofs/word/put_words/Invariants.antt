use Rattle.std.proofs.Common.{◌≡◌, ◌++◌, drop, map}
use Rattle.session_text.specs.Printed.{Keeps, word_text}
use Rattle.session_text.specs.Words.{spaced}
use Rattle.session_text.proofs.word.put_words.Given as goal

abbrev pub invariant-loop-word : goal.invariant-loop-word
invariant-loop-word l = (l.out ++ spaced (map word_text (drop l.word-index l.words)) ≡ l.fn.out ++ spaced (map word_text l.words)) × Keeps l.fn.out l.out
