-- What one pull of a read comes to, and all of them.
use Rattle.std.proofs.Common.{◌≡◌, ℕ, Bool, List, [], ◌++◌, Option, Some, None, Ok, Err, refl, sym, ◌∙◌, ap, subst, inl, inr}
use Rattle.std.proofs.lemmas.List.{append-nil}
use Rattle.byte_ranges.specs.declared.Span.{Span}
use Rattle.downloaders.specs.declared.Ask.{Ask}
use Rattle.downloaders.specs.declared.Plan.{Plan}
use Rattle.downloaders.specs.Crew.{Team}
use Rattle.downloaders.specs.Orders.{requests_in}
use Rattle.downloaders.specs.Rules.{AllHere, AreAsks}
use Rattle.downloaders.proofs.Plans.{asks_once}
use Rattle.vfs_names.specs.declared.refusal.Refusal.{Refusal}
use Rattle.vfs_names.specs.declared.refusal.Refusal.TheVariants as refusals
use Rattle.base_object.specs.declared.block.Block.{Block}
use Rattle.base_object.specs.declared.state.BaseState.{BaseState}
use Rattle.base_object.specs.declared.state.BaseState.TheVariants.{Absent, Bound, Unbound, Lost}
use Rattle.base_object.specs.Pulls.{Brings, IfBlock, Progress, Pulls, WantsMemory, asked_in, here_with, past_pull, to_pull}
use Rattle.base_object.specs.Reads.{GoesOn, MakesFront}
use Rattle.base_object.proofs.Rest.{here_split, requests_split, rest_are_asks}

pub goes_on : (plan : Plan) (span : Span) (base_end : ℕ) (here here' : ℕ → Bool) (asks : List Ask) (block : Block) (old new : Progress) → AreAsks plan span base_end here old.crew asks → Brings asks block old new → ((p : ℕ) → here' p ≡ here_with block base_end here p) → GoesOn plan span base_end asks here here' old new
goes_on plan span base_end here here' asks block old new all b h = record {
  asked = b.asked;
  crew = b.crew;
  rest = subst (λ (z : Team). AreAsks plan span base_end here' z (past_pull asks)) (sym b.crew)
      (rest_are_asks plan span base_end here here' old.crew asks block all b.is_pull h);
  grown = here_split base_end here here' asks block b.is_pull h;
}

pub front_made : (asks : List Ask) (old new : Progress) → new.asked ≡ old.asked ++ requests_in (to_pull asks) → MakesFront asks old new
front_made asks old new e = record { front = requests_in (to_pull asks); back = requests_in (past_pull asks); split = requests_split asks; asked = e }

no_more : (xs : List (ℕ × ℕ)) → xs ≡ xs ++ []
no_more xs = sym (append-nil xs)

pub none_made : (asks : List Ask) (old new : Progress) → new.asked ≡ old.asked ++ [] → MakesFront asks old new
none_made asks old new e = record { front = []; back = requests_in asks; split = refl; asked = e }

wanted : (asks : List Ask) (old new : Progress) → WantsMemory asks old new → MakesFront asks old new
wanted asks old new (inl e) = none_made asks old new (ap (λ (p : Progress). p.asked) e ∙ no_more old.asked)
wanted asks old new (inr (inl b)) = none_made asks old new b.asked
wanted asks old new (inr (inr b)) = front_made asks old new b.asked

lost_made : (state : BaseState) (asks : List Ask) (old new : Progress) → new.asked ≡ old.asked ++ asked_in state (requests_in (to_pull asks)) → MakesFront asks old new
lost_made Absent asks old new e = none_made asks old new e
lost_made (Bound held) asks old new e = front_made asks old new e
lost_made (Unbound held) asks old new e = none_made asks old new e
lost_made (Lost held found) asks old new e = none_made asks old new e

-- a pull that is refused made a front of the requests
pub pull_refused : (state : BaseState) (asks : List Ask) (old new : Progress) (why : Refusal) → Pulls state asks old new (Err why) → MakesFront asks old new
pull_refused state asks old new refusals.RemoteFault p = front_made asks old new p.asked
pull_refused state asks old new refusals.NoMemory p = wanted asks old new p
pull_refused state asks old new (refusals.Stale held what) p = lost_made state asks old new p.asked
pull_refused state asks old new refusals.NotFound p = absurd p
pull_refused state asks old new refusals.Exists p = absurd p
pull_refused state asks old new refusals.IsDir p = absurd p
pull_refused state asks old new refusals.NotDir p = absurd p
pull_refused state asks old new refusals.NotEmpty p = absurd p
pull_refused state asks old new refusals.BadHandle p = absurd p
pull_refused state asks old new refusals.NotReadable p = absurd p
pull_refused state asks old new refusals.NotWritable p = absurd p
pull_refused state asks old new refusals.TableFull p = absurd p
pull_refused state asks old new refusals.InUse p = absurd p
pull_refused state asks old new refusals.Unsupported p = absurd p
pull_refused state asks old new refusals.TooBig p = absurd p
pull_refused state asks old new refusals.DiskFault p = absurd p
pull_refused state asks old new refusals.HistoryFull p = absurd p

-- where all is here there is no ask
pub no_asks : (plan : Plan) (span : Span) (base_end : ℕ) (here : ℕ → Bool) (team : Team) (asks : List Ask) → AllHere here span base_end → AreAsks plan span base_end here team asks → asks ≡ []
no_asks plan span base_end here team asks h all = asks_once plan span base_end here team asks [] all h

-- a pull that brought a block, or none
pub brought : (state : BaseState) (asks : List Ask) (old new : Progress) (found : Option Block) (block : Block) → found ≡ Some block → Pulls state asks old new (Ok found) → Brings asks block old new
brought state asks old new found block e p = subst (λ (o : Option Block). Pulls state asks old new (Ok o)) e p

pub idle : (state : BaseState) (asks : List Ask) (old new : Progress) (found : Option Block) → found ≡ None → Pulls state asks old new (Ok found) → new ≡ old
idle state asks old new found e p = subst (λ (o : Option Block). Pulls state asks old new (Ok o)) e p

pub block_of : (meets : Block → Type 0) (found : Option Block) (block : Block) → found ≡ Some block → IfBlock {E = Refusal} (Ok found) meets → meets block
block_of meets found block e p = subst (λ (o : Option Block). IfBlock {E = Refusal} (Ok o) meets) e p
