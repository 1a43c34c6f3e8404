-- The options of the command line, as they are spelled. A word is its bytes.
use Rattle.std.specs.Prelude.{ℕ, ◌==◌, Bool, List, [], ◌∷◌, ◌++◌, codes, Option, Some, None, if◌then◌else◌}
use Rattle.run_words.specs.declared.name.Name.{Name}
use Rattle.run_words.specs.declared.name.Name.TheVariants.{Remote, Cache, CacheMode, WorkerTurns, ChunkSize, ChunkLimit, WriteBack, Transfers}

-- the word of each option
abbrev pub word_of : Name → List ℕ
word_of Remote = codes "--remote"
word_of Cache = codes "--cache"
word_of CacheMode = codes "--vfs-cache-mode"
word_of WorkerTurns = codes "--worker-turns"
word_of ChunkSize = codes "--vfs-read-chunk-size"
word_of ChunkLimit = codes "--vfs-read-chunk-size-limit"
word_of WriteBack = codes "--vfs-write-back"
word_of Transfers = codes "--transfers"

-- the place of each option among all of them, by which options are told apart
abbrev pub place : Name → ℕ
place Remote = 0
place Cache = 1
place CacheMode = 2
place WorkerTurns = 3
place ChunkSize = 4
place ChunkLimit = 5
place WriteBack = 6
place Transfers = 7

-- an option that is given, with its value
pub record Given : Type 0 where
  pub name : Name
  pub value : List ℕ
  -- whether it is spelled `--name=value`
  pub joined : Bool

-- `--name=value` is one word, `--name value` two
abbrev pub spelled : Given → List (List ℕ)
spelled given =
    if given.joined
    then (word_of given.name ++ codes "=" ++ given.value) ∷ []
    else word_of given.name ∷ given.value ∷ []

-- what is given for an option
abbrev pub value_of : List Given → Name → Option (List ℕ)
value_of [] name = None
value_of (given ∷ later) name =
    if place given.name == place name then Some given.value else value_of later name
