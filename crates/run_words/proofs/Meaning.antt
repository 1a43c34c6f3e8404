-- Words ask for one thing at most.
use Rattle.std.proofs.Common.{◌≡◌, ℕ, List, codes, Option, unwrap_or, flat_map, sym, ap, ap₂, subst, ◌∙◌, ◌^◌, ◌<◌, decimal, arith}
use Rattle.std.proofs.lemmas.Fmt.{decimal_injective}
use Rattle.std.proofs.lemmas.Option.{same_Some}
use Rattle.downloaders.specs.declared.Limit.{Limit}
use Rattle.run_words.specs.declared.name.Name.{Name}
use Rattle.run_words.specs.declared.name.Name.TheVariants.{Remote, Cache, CacheMode, WorkerTurns, ChunkSize, ChunkLimit, WriteBack, Transfers}
use Rattle.run_words.specs.Options.{Given, spelled, value_of}
use Rattle.run_words.specs.Sizes.{chunk_of, limit_of, IsChunk, IsLimit}
use Rattle.run_words.specs.Times.{IsTime}
use Rattle.run_words.specs.Words.{IsTransfers, Asked, Ask, AreGiven, AreWords}
use Rattle.run_words.proofs.Spelling.{same_given, tails}
use Rattle.run_words.proofs.SizeWords.{same_amount}
use Rattle.run_words.proofs.TimeWords.{same_millis}

-- the words of a chunk size and of its limit ask for one of each
same_chunk : (word : List ℕ) (a b : Option ℕ) → IsChunk word a → IsChunk word b → a ≡ b
same_chunk word a b (x, reads, is) (y, others, same) =
    is ∙ ap chunk_of (same_amount word x y reads others) ∙ sym same

same_limit : (word : List ℕ) (a b : Limit) → IsLimit word a → IsLimit word b → a ≡ b
same_limit word a b (x, reads, is) (y, others, same) =
    is ∙ ap limit_of (same_amount word x y reads others) ∙ sym same

-- a word is one number of transfers
pub transfers_are : (word : List ℕ) (n transfers : ℕ) → n < 2 ^ 64 → word ≡ decimal n → IsTransfers word transfers
    → n ≡ transfers
transfers_are word n transfers small is p = decimal_injective n transfers small (omega (arith, p.most))
    (sym is ∙ p.spelled)

same_transfers : (word : List ℕ) (a b : ℕ) → IsTransfers word a → IsTransfers word b → a ≡ b
same_transfers word a b p q = transfers_are word a b (omega (arith, p.most)) p.spelled q

abbrev made : List ℕ → List ℕ → Option ℕ → Limit → ℕ → ℕ → Asked
made remote cache chunk limit write_back transfers = record {
  remote = remote;
  cache = cache;
  plan = record { chunk = chunk; limit = limit };
  write_back = write_back;
  transfers = transfers;
}

-- the values ask for one thing at most
same_asked : (value : Name → Option (List ℕ)) (a b : Asked) → Ask value a → Ask value b → a ≡ b
same_asked value a b p q =
    ap₂ (λ remote cache. made remote cache a.plan.chunk a.plan.limit a.write_back a.transfers)
    (same_Some a.remote b.remote (sym p.remote ∙ q.remote))
    (same_Some a.cache b.cache (sym p.cache ∙ q.cache))
    ∙ ap₂ (λ chunk limit. made b.remote b.cache chunk limit a.write_back a.transfers)
    (same_chunk _ a.plan.chunk b.plan.chunk p.chunk q.chunk)
    (same_limit _ a.plan.limit b.plan.limit p.limit q.limit)
    ∙ ap₂ (made b.remote b.cache b.plan.chunk b.plan.limit)
    (same_millis _ a.write_back b.write_back p.write_back q.write_back)
    (same_transfers _ a.transfers b.transfers p.transfers q.transfers)

-- the same values ask for the same
ask_at : (f g : Name → Option (List ℕ)) (asked : Asked) → ((name : Name) → f name ≡ g name) → Ask f asked
    → Ask g asked
ask_at f g asked same ask = record {
  remote = sym (same Remote) ∙ ask.remote;
  remote_dir = ask.remote_dir;
  cache = sym (same Cache) ∙ ask.cache;
  cache_dir = ask.cache_dir;
  mode = sym (same CacheMode) ∙ ask.mode;
  turns = sym (same WorkerTurns) ∙ ask.turns;
  chunk = subst (λ x. IsChunk (unwrap_or x (codes "128M")) asked.plan.chunk) (same ChunkSize) ask.chunk;
  limit = subst (λ x. IsLimit (unwrap_or x (codes "off")) asked.plan.limit) (same ChunkLimit) ask.limit;
  write_back = subst (λ x. IsTime (unwrap_or x (codes "5s")) asked.write_back) (same WriteBack) ask.write_back;
  transfers = subst (λ x. IsTransfers (unwrap_or x (codes "4")) asked.transfers) (same Transfers) ask.transfers;
}

-- words have one list of options at most
same_words : (given other : List Given) (words : List (List ℕ)) → AreGiven words given → AreGiven words other
    → given ≡ other
same_words given other words p q =
    same_given given other
    (tails (codes "run") (codes "run") (flat_map spelled given) (flat_map spelled other)
    (sym p.spelled ∙ q.spelled))

pub one_meaning_of : (words : List (List ℕ)) (a b : Asked) → AreWords words a → AreWords words b → a ≡ b
one_meaning_of words a b (given, p, ask) (other, q, ask') =
    let same = same_words given other words p q in
    same_asked (λ name. value_of given name) a b ask
    (subst (λ g. Ask (λ name. value_of g name) b) (sym same) ask')

-- where the values of the options that were found ask for nothing, their words ask for nothing
pub asks_nothing : (words : List (List ℕ)) (given : List Given) (value : Name → Option (List ℕ))
    → AreGiven words given → ((name : Name) → value name ≡ value_of given name)
    → ((asked : Asked) → Ask value asked → ⊥) → (asked : Asked) → AreWords words asked → ⊥
asks_nothing words given value p found none asked (other, q, ask) =
    let same = same_words other given words q p in
    none asked
    (ask_at (λ name. value_of other name) value asked
    (λ name. ap (λ g. value_of g name) same ∙ sym (found name)) ask)

pub asks : (words : List (List ℕ)) (given : List Given) (value : Name → Option (List ℕ)) (asked : Asked)
    → AreGiven words given → ((name : Name) → value name ≡ value_of given name) → Ask value asked
    → AreWords words asked
asks words given value asked p found ask =
    (given, p, ask_at value (λ name. value_of given name) asked found ask)
