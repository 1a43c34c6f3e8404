-- What is found of the options while their words are read.
use Rattle.std.specs.Prelude.{◌≡◌, ℕ, None, List, Option}
use Rattle.std.specs.Option.{option_copied}
use Rattle.std.specs.List.{slice_index_or}
use Rattle.run_words.specs.declared.name.Name.{Name}
use Rattle.run_words.specs.declared.values.Values.{Values}
use Rattle.run_words.specs.Options.{Given, place, value_of}

-- the value that was found of an option
abbrev pub found_in : Values → Name → Option (List ℕ)
found_in values name = option_copied (slice_index_or values.places (place name) None)

-- of each option the value that is given was found
abbrev pub HaveFound : Values → List Given → Type 0
HaveFound values given = (name : Name) → found_in values name ≡ value_of given name
