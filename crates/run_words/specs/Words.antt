-- The words of the command line, and what they ask for. A word is its bytes.
use Rattle.std.specs.Prelude.{◌≡◌, ◌≢◌, ℕ, ◌≤◌, ◌==◌, false, nat_eq, List, ◌∷◌, length, codes, decimal, Option, Some, unwrap_or, flat_map, AllPairs}
use Rattle.std.specs.List.{list_any, starts_with}
use Rattle.downloaders.specs.declared.Plan.{Plan}
use Rattle.run_words.specs.declared.name.Name.{Name}
use Rattle.run_words.specs.declared.name.Name.TheVariants.{Remote, Cache, CacheMode, WorkerTurns, ChunkSize, ChunkLimit, WriteBack, Transfers}
use Rattle.run_words.specs.declared.read.RunWords.{RunWords}
use Rattle.run_words.specs.Options.{Given, spelled, value_of}
use Rattle.run_words.specs.Sizes.{IsChunk, IsLimit}
use Rattle.run_words.specs.Times.{IsTime}

-- the word names a directory: it has 1 to 1,024 bytes, none of them NUL, and doesn't begin as an option does
pub record IsDir (word : List ℕ) : Type 0 where
  pub least : 1 ≤ length word
  pub most : length word ≤ 1024
  pub no_nul : list_any (λ byte. byte == 0) word ≡ false
  pub no_option : starts_with nat_eq word (codes "-") ≡ false

-- the word is a number of transfers, 1 to 16
pub record IsTransfers (word : List ℕ) (transfers : ℕ) : Type 0 where
  pub spelled : word ≡ decimal transfers
  pub least : 1 ≤ transfers
  pub most : transfers ≤ 16

-- what the words ask for
pub record Asked : Type 0 where
  pub remote : List ℕ
  pub cache : List ℕ
  pub plan : Plan
  -- in milliseconds
  pub write_back : ℕ
  pub transfers : ℕ

-- the values of the options ask for this: each is in form, and what isn't given has its default
pub record Ask (value : Name → Option (List ℕ)) (asked : Asked) : Type 0 where
  pub remote : value Remote ≡ Some asked.remote
  pub remote_dir : IsDir asked.remote
  pub cache : value Cache ≡ Some asked.cache
  pub cache_dir : IsDir asked.cache
  pub mode : value CacheMode ≡ Some (codes "full")
  pub turns : value WorkerTurns ≡ Some (codes "0")
  pub chunk : IsChunk (unwrap_or (value ChunkSize) (codes "128M")) asked.plan.chunk
  pub limit : IsLimit (unwrap_or (value ChunkLimit) (codes "off")) asked.plan.limit
  pub write_back : IsTime (unwrap_or (value WriteBack) (codes "5s")) asked.write_back
  pub transfers : IsTransfers (unwrap_or (value Transfers) (codes "4")) asked.transfers

-- the words are `run` and then these options, each at most once
pub record AreGiven (words : List (List ℕ)) (given : List Given) : Type 0 where
  pub spelled : words ≡ codes "run" ∷ flat_map spelled given
  pub once : AllPairs (λ a b. a.name ≢ b.name) given

-- the words are in the language, and ask for this
abbrev pub AreWords : List (List ℕ) → Asked → Type 0
AreWords words asked = (given : List Given) × AreGiven words given × Ask (λ name. value_of given name) asked

-- what was read
abbrev pub meaning : RunWords → Asked
meaning run = record {
  remote = run.remote.now;
  cache = run.cache.now;
  plan = run.plan;
  write_back = run.write_back;
  transfers = run.transfers;
}
