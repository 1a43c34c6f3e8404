-- What is left of the asks once their first pull was made.
use Rattle.std.proofs.Common.{◌≡◌, ◌&&◌, ℕ, ◌+◌, Bool, ◌||◌, nat_le, nat_lt, min, List, [], ◌∷◌, ◌++◌, length, refl, sym, ◌∙◌, ap, subst}
use Rattle.byte_ranges.specs.declared.Span.{Span}
use Rattle.downloaders.specs.declared.Ask.{Ask}
use Rattle.downloaders.specs.declared.Ask.TheVariants.{Done, Request, Pull}
use Rattle.downloaders.specs.declared.Plan.{Plan}
use Rattle.downloaders.specs.Crew.{Team}
use Rattle.downloaders.specs.Orders.{requests_in, here_in_the_end, team_in_the_end}
use Rattle.downloaders.specs.Rules.{here_after, team_after, AreAsks}
use Rattle.base_object.specs.declared.block.Block.{Block}
use Rattle.base_object.specs.Pulls.{IsPullOf, here_with, past_pull, to_pull}

-- the asks are those up to the first pull, and the rest
pub asks_split : (asks : List Ask) → asks ≡ to_pull asks ++ past_pull asks
asks_split [] = refl
asks_split (Done ∷ rest) = ap (λ z. Done ∷ z) (asks_split rest)
asks_split (Request run start end chunk ∷ rest) = ap (λ z. Request run start end chunk ∷ z) (asks_split rest)
asks_split (Pull run pos len ∷ rest) = refl

pub requests_split : (asks : List Ask) → requests_in asks ≡ requests_in (to_pull asks) ++ requests_in (past_pull asks)
requests_split [] = refl
requests_split (Done ∷ rest) = requests_split rest
requests_split (Request run start end chunk ∷ rest) = ap (λ z. (start, end) ∷ z) (requests_split rest)
requests_split (Pull run pos len ∷ rest) = refl

pub team_split : (asks : List Ask) (team : Team) → team_in_the_end asks team ≡ team_in_the_end (past_pull asks) (team_in_the_end (to_pull asks) team)
team_split [] team = refl
team_split (Done ∷ rest) team = team_split rest team
team_split (Request run start end chunk ∷ rest) team = team_split rest (team_after (Request run start end chunk) team)
team_split (Pull run pos len ∷ rest) team = refl

-- the block's bytes are here where the pull's are
same_here : (run pos len base_end : ℕ) (here here' : ℕ → Bool) (block : Block) → block.pos ≡ pos → length block.bytes ≡ len → ((p : ℕ) → here' p ≡ here_with block base_end here p) → (p : ℕ) → here_after (Pull run pos len) base_end here p ≡ here' p
same_here run pos len base_end here here' block at size h p =
    ap (λ (q : ℕ). here p || (nat_le q p && nat_lt p (min (q + len) base_end))) (sym at)
    ∙ ap (λ (n : ℕ). here p || (nat_le block.pos p && nat_lt p (min (block.pos + n) base_end))) (sym size) ∙ sym (h p)

-- once the bytes of the first pull are here, the rest are the asks of what is here then, and of the crew then
pub rest_are_asks : (plan : Plan) (span : Span) (base_end : ℕ) (here here' : ℕ → Bool) (team : Team) (asks : List Ask) (block : Block) → AreAsks plan span base_end here team asks → IsPullOf block asks → ((p : ℕ) → here' p ≡ here_with block base_end here p) → AreAsks plan span base_end here' (team_in_the_end (to_pull asks) team) (past_pull asks)
rest_are_asks plan span base_end here here' team [] block all is_pull h = absurd is_pull
rest_are_asks plan span base_end here here' team (Done ∷ rest) block all is_pull h = absurd all
rest_are_asks plan span base_end here here' team (Request run start end chunk ∷ rest) block all is_pull h =
    rest_are_asks plan span base_end here here' (team_after (Request run start end chunk) team) rest block all.1 is_pull h
rest_are_asks plan span base_end here here' team (Pull run pos len ∷ rest) block all is_pull h =
    let same = same_here run pos len base_end here here' block is_pull.0 is_pull.1 h in
    subst (λ (z : ℕ → Bool). AreAsks plan span base_end z (team_after (Pull run pos len) team) rest) (λ i p. same p i) all.1

pub here_split : (base_end : ℕ) (here here' : ℕ → Bool) (asks : List Ask) (block : Block) → IsPullOf block asks → ((p : ℕ) → here' p ≡ here_with block base_end here p) → (p : ℕ) → here_in_the_end asks base_end here p ≡ here_in_the_end (past_pull asks) base_end here' p
here_split base_end here here' [] block is_pull h p = absurd is_pull
here_split base_end here here' (Done ∷ rest) block is_pull h p = here_split base_end here here' rest block is_pull h p
here_split base_end here here' (Request run start end chunk ∷ rest) block is_pull h p = here_split base_end here here' rest block is_pull h p
here_split base_end here here' (Pull run pos len ∷ rest) block is_pull h p =
    let same = same_here run pos len base_end here here' block is_pull.0 is_pull.1 h in
    ap (λ (z : ℕ → Bool). here_in_the_end rest base_end z p) (λ i q. same q i)
