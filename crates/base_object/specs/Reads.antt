-- What a read leaves that pulls until no byte of its span is missing.
use Rattle.std.specs.Prelude.{◌≡◌, ◌+◌, ℕ, ◌||◌, ◌++◌, Bool, false, true, min, length, List, [], ◌∷◌, Result, Ok, Err}
use Rattle.std.specs.List.{AllByRecursion}
use Rattle.byte_ranges.specs.declared.Span.{Span}
use Rattle.byte_ranges.specs.Ranges.{is_in}
use Rattle.downloaders.specs.declared.Ask.{Ask}
use Rattle.downloaders.specs.declared.Plan.{Plan}
use Rattle.downloaders.specs.Orders.{here_in_the_end, requests_in, team_in_the_end}
use Rattle.downloaders.specs.Rules.{AreAsks}
use Rattle.vfs_names.specs.declared.refusal.Refusal.{Refusal}
use Rattle.base_object.specs.declared.block.Block.{Block}
use Rattle.base_object.specs.Pulls.{Progress, past_pull, to_pull}

-- all of these asks were made
pub record MakesAll (asks : List Ask) (old new : Progress) : Type 0 where
  pub asked : new.asked ≡ old.asked ++ requests_in asks
  pub crew : new.crew ≡ team_in_the_end asks old.crew

-- of the requests of these asks a front was made
pub record MakesFront (asks : List Ask) (old new : Progress) : Type 0 where
  pub front : List (ℕ × ℕ)
  pub back : List (ℕ × ℕ)
  pub split : requests_in asks ≡ front ++ back
  pub asked : new.asked ≡ old.asked ++ front

abbrev pub Reads : {T : Type 0} → List Ask → Progress → Progress → Result T Refusal → Type 0
Reads asks old new (Ok x) = MakesAll asks old new
Reads asks old new (Err why) = MakesFront asks old new

-- the byte is one of a block's, below the base end
abbrev pub in_block : ℕ → Block → ℕ → Bool
in_block base_end block p =
    is_in (record { start = block.pos; end = min (block.pos + length block.bytes) base_end }) p

abbrev pub in_blocks : ℕ → List Block → ℕ → Bool
in_blocks base_end [] p = false
in_blocks base_end (block ∷ rest) p = in_block base_end block p || in_blocks base_end rest p

-- Blocks that meet this were added, and the bytes that are here beside those that were are theirs, below the base end.
pub record AddsBlocks (meets : Block → Type 0) (base_end : ℕ) (here here' : ℕ → Bool) (old new : List Block) : Type 0 where
  pub more : List Block
  pub added : new ≡ old ++ more
  pub each : AllByRecursion meets more
  pub grown : (p : ℕ) → here' p ≡ (here p || in_blocks base_end more p)

-- The first pull of the asks was made, its bytes are here, and the others are the asks that are left.
pub record GoesOn (plan : Plan) (span : Span) (base_end : ℕ) (asks : List Ask) (here here' : ℕ → Bool) (old new : Progress) : Type 0 where
  pub asked : new.asked ≡ old.asked ++ requests_in (to_pull asks)
  pub crew : new.crew ≡ team_in_the_end (to_pull asks) old.crew
  pub rest : AreAsks plan span base_end here' new.crew (past_pull asks)
  pub grown : (p : ℕ) → here_in_the_end asks base_end here p ≡ here_in_the_end (past_pull asks) base_end here' p

-- what one pull of a read leaves, which tells whether there are more
abbrev pub ReadsNext : Plan → Span → ℕ → List Ask → (ℕ → Bool) → (ℕ → Bool) → Progress → Progress → Result Bool Refusal → Type 0
ReadsNext plan span base_end asks here here' old new (Ok true) = GoesOn plan span base_end asks here here' old new
ReadsNext plan span base_end asks here here' old new (Ok false) =
    (asks ≡ []) × (new ≡ old) × ((p : ℕ) → here' p ≡ here p)
ReadsNext plan span base_end asks here here' old new (Err why) = MakesFront asks old new
