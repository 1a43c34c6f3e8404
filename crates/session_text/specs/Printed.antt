-- What the printers keep among themselves: the words of a line, and that a blob only grows.
use Rattle.std.specs.Prelude.{◌≡◌, ℕ, List, decimal, length, take}
use Rattle.session_script.specs.Words.{access_word, path_word}
use Rattle.session_text.specs.Names.{who_text, base_text, dirty_text, payload_text}
use Rattle.session_text.specs.Refusals.{refusal_text, verb_text}
use Rattle.session_text.specs.declared.word.Word.{Word}
use Rattle.session_text.specs.declared.word.Word.TheVariants.{Text, Number, Item, Who, Access, Dirty, Path, Print, Base, Payload, Verb, Why}
use Rattle.vfs_names.specs.Fingerprint.{print_text}

-- how a word is written
abbrev pub word_text : Word → List ℕ
word_text (Text text) = text.now
word_text (Number n) = decimal n
word_text (Item item) = decimal item.0
word_text (Who actor) = who_text actor
word_text (Access access) = access_word access
word_text (Dirty dirty) = dirty_text dirty
word_text (Path path) = path_word path.now
word_text (Print print) = print_text print
word_text (Base base) = base_text base
word_text (Payload payload) = payload_text payload.now
word_text (Verb verb) = verb_text verb
word_text (Why why) = refusal_text why

-- the old bytes stand at the front of the new ones
pub record Keeps (old new : List ℕ) : Type 0 where
  pub front : take (length old) new ≡ old
