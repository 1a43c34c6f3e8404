-- What one pull of a read comes to, by the asks of the rules.
use Rattle.std.proofs.Common.{◌≡◌, ℕ, ◌+◌, Bool, ◌||◌, ◌&&◌, nat_le, nat_lt, min, List, [], ◌∷◌, ◌++◌, append_assoc, Err, refl, sym, ◌∙◌, ap, subst, inl, inr}
use Rattle.byte_ranges.specs.declared.Span.{Span}
use Rattle.downloaders.specs.declared.Ask.{Ask}
use Rattle.downloaders.specs.declared.Ask.TheVariants.{Done, Request, Pull}
use Rattle.downloaders.specs.declared.Plan.{Plan}
use Rattle.downloaders.specs.Crew.{Team}
use Rattle.downloaders.specs.Orders.{here_in_the_end, requests_in, team_in_the_end}
use Rattle.downloaders.specs.Rules.{AreAsks, team_after}
use Rattle.vfs_names.specs.declared.refusal.Refusal.{Refusal}
use Rattle.vfs_names.specs.declared.refusal.Refusal.TheVariants as refusals
use Rattle.base_object.specs.declared.block.Block.{Block}
use Rattle.base_object.specs.declared.state.BaseState.{BaseState}
use Rattle.base_object.specs.declared.state.BaseState.TheVariants.{Absent, Bound, Unbound, Lost}
use Rattle.base_object.specs.Pulls.{Brings, IsPullOf, Progress, Pulls, WantsMemory, asked_in, here_with, past_pull, to_pull}
use Rattle.base_object.specs.Reads.{GoesOn, MakesAll, MakesFront}
use Rattle.base_object.proofs.Rest.{requests_split}
use Rattle.sparse_item.specs.Fetching.{BringsNext}

no_more : (xs : List (ℕ × ℕ)) → xs ≡ xs ++ []
no_more [] = refl
no_more (x ∷ xs) = ap (λ z. x ∷ z) (no_more xs)

-- a block's bytes are those of the pull that it is
pub pulled_here : (base_end : ℕ) (here : ℕ → Bool) (asks : List Ask) (block : Block) (p : ℕ) → IsPullOf block asks → here_in_the_end (to_pull asks) base_end here p ≡ here_with block base_end here p
pulled_here base_end here [] block p is = absurd is
pulled_here base_end here (Done ∷ rest) block p is = pulled_here base_end here rest block p is
pulled_here base_end here (Request run start end chunk ∷ rest) block p is = pulled_here base_end here rest block p is
pulled_here base_end here (Pull run pos len ∷ rest) block p is =
    ap (λ (q : ℕ). here p || (nat_le q p && nat_lt p (min (q + len) base_end))) (sym is.0)
    ∙ ap (λ (n : ℕ). here p || (nat_le block.pos p && nat_lt p (min (block.pos + n) base_end))) (sym is.1)

pub brings_next : (base_end : ℕ) (here here' : ℕ → Bool) (asks : List Ask) (block : Block) (old new : Progress) → Brings asks block old new → ((p : ℕ) → here' p ≡ here_with block base_end here p)
    → BringsNext asks base_end here here' old new
brings_next base_end here here' asks block old new b h = record {
  makes = record { asked = b.asked; crew = b.crew };
  grown = λ p. h p ∙ sym (pulled_here base_end here asks block p b.is_pull);
}

-- there was nothing to pull
pub brings_none : (base_end : ℕ) (here here' : ℕ → Bool) (asks : List Ask) (old new : Progress) → asks ≡ [] → new ≡ old → ((p : ℕ) → here' p ≡ here p) → BringsNext asks base_end here here' old new
brings_none base_end here here' asks old new none same h = subst (λ z. BringsNext z base_end here here' old new) (sym none) (record {
  makes = record { asked = ap (λ (x : Progress). x.asked) same ∙ no_more old.asked; crew = ap (λ (x : Progress). x.crew) same };
  grown = h;
})

all_made : (asks : List Ask) (old new : Progress) → new.asked ≡ old.asked ++ requests_in (to_pull asks) → MakesFront (to_pull asks) old new
all_made asks old new e = record { front = requests_in (to_pull asks); back = []; split = no_more (requests_in (to_pull asks)); asked = e }

none_made : (asks : List Ask) (old new : Progress) → new.asked ≡ old.asked ++ [] → MakesFront (to_pull asks) old new
none_made asks old new e = record { front = []; back = requests_in (to_pull asks); split = refl; asked = e }

-- the pull was made, and then the block wasn't stored
pub pulled_only : (asks : List Ask) (block : Block) (old new : Progress) → Brings asks block old new → MakesFront (to_pull asks) old new
pulled_only asks block old new b = all_made asks old new b.asked

pub nothing_made : (asks : List Ask) (old new : Progress) → new ≡ old → MakesFront (to_pull asks) old new
nothing_made asks old new e = none_made asks old new (ap (λ (x : Progress). x.asked) e ∙ no_more old.asked)

wanted : (asks : List Ask) (old new : Progress) → WantsMemory asks old new → MakesFront (to_pull asks) old new
wanted asks old new (inl e) = nothing_made asks old new e
wanted asks old new (inr (inl b)) = none_made asks old new b.asked
wanted asks old new (inr (inr b)) = all_made asks old new b.asked

lost_made : (state : BaseState) (asks : List Ask) (old new : Progress) → new.asked ≡ old.asked ++ asked_in state (requests_in (to_pull asks)) → MakesFront (to_pull asks) old new
lost_made Absent asks old new e = none_made asks old new e
lost_made (Bound held) asks old new e = all_made asks old new e
lost_made (Unbound held) asks old new e = none_made asks old new e
lost_made (Lost held what) asks old new e = none_made asks old new e

-- a pull that is refused made a front of the requests before it
pub pull_refused : (state : BaseState) (asks : List Ask) (old new : Progress) (why : Refusal) → Pulls state asks old new (Err why) → MakesFront (to_pull asks) old new
pull_refused state asks old new refusals.RemoteFault p = all_made asks old new p.asked
pull_refused state asks old new refusals.NoMemory p = wanted asks old new p
pull_refused state asks old new (refusals.Stale held what) p = lost_made state asks old new p.asked
pull_refused state asks old new refusals.NotFound p = absurd p
pull_refused state asks old new refusals.Exists p = absurd p
pull_refused state asks old new refusals.IsDir p = absurd p
pull_refused state asks old new refusals.NotDir p = absurd p
pull_refused state asks old new refusals.NotEmpty p = absurd p
pull_refused state asks old new refusals.BadHandle p = absurd p
pull_refused state asks old new refusals.NotReadable p = absurd p
pull_refused state asks old new refusals.NotWritable p = absurd p
pull_refused state asks old new refusals.TableFull p = absurd p
pull_refused state asks old new refusals.InUse p = absurd p
pull_refused state asks old new refusals.Unsupported p = absurd p
pull_refused state asks old new refusals.TooBig p = absurd p
pull_refused state asks old new refusals.DiskFault p = absurd p
pull_refused state asks old new refusals.HistoryFull p = absurd p

-- what a front of the first asks is, a front of all is
pub front_of_all : (asks : List Ask) (old new : Progress) → MakesFront (to_pull asks) old new → MakesFront asks old new
front_of_all asks old new f = record {
  front = f.front;
  back = f.back ++ requests_in (past_pull asks);
  split = requests_split asks ∙ ap (λ z. z ++ requests_in (past_pull asks)) f.split ∙ append_assoc f.front f.back (requests_in (past_pull asks));
  asked = f.asked;
}

-- ---- the asks after the first pull

rest_after : (plan : Plan) (span : Span) (base_end : ℕ) (here : ℕ → Bool) (team : Team) (asks : List Ask) → AreAsks plan span base_end here team asks
    → AreAsks plan span base_end (λ p. here_in_the_end (to_pull asks) base_end here p) (team_in_the_end (to_pull asks) team) (past_pull asks)
rest_after plan span base_end here team [] all = all
rest_after plan span base_end here team (Done ∷ rest) all = absurd all
rest_after plan span base_end here team (Request run start end chunk ∷ rest) all = rest_after plan span base_end here (team_after (Request run start end chunk) team) rest all.1
rest_after plan span base_end here team (Pull run pos len ∷ rest) all = all.1

ends_after : (base_end : ℕ) (here : ℕ → Bool) (asks : List Ask) (p : ℕ) → here_in_the_end asks base_end here p ≡ here_in_the_end (past_pull asks) base_end (λ q. here_in_the_end (to_pull asks) base_end here q) p
ends_after base_end here [] p = refl
ends_after base_end here (Done ∷ rest) p = ends_after base_end here rest p
ends_after base_end here (Request run start end chunk ∷ rest) p = ends_after base_end here rest p
ends_after base_end here (Pull run pos len ∷ rest) p = refl

pub next_goes_on : (plan : Plan) (span : Span) (base_end : ℕ) (here here' : ℕ → Bool) (asks : List Ask) (old new : Progress) → AreAsks plan span base_end here old.crew asks
    → BringsNext asks base_end here here' old new → GoesOn plan span base_end asks here here' old new
next_goes_on plan span base_end here here' asks old new all b = record {
  asked = b.makes.asked;
  crew = b.makes.crew;
  rest = subst (λ (z : Team). AreAsks plan span base_end here' z (past_pull asks)) (sym b.makes.crew)
      (subst (λ (z : ℕ → Bool). AreAsks plan span base_end z (team_in_the_end (to_pull asks) old.crew) (past_pull asks)) (λ i p. sym (b.grown p) i) (rest_after plan span base_end here old.crew asks all));
  grown = λ p. ends_after base_end here asks p ∙ ap (λ (z : ℕ → Bool). here_in_the_end (past_pull asks) base_end z p) (λ i q. sym (b.grown q) i);
}

-- with no ask left nothing changed
pub none_left : (base_end : ℕ) (here here' : ℕ → Bool) (asks : List Ask) (old new : Progress) → asks ≡ [] → BringsNext asks base_end here here' old new → (new ≡ old) × ((p : ℕ) → here' p ≡ here p)
none_left base_end here here' asks old new none b =
    let c : BringsNext [] base_end here here' old new = subst (λ z. BringsNext z base_end here here' old new) none b in
    let crew : new.crew ≡ old.crew = c.makes.crew in
    let asked : new.asked ≡ old.asked = c.makes.asked ∙ sym (no_more old.asked) in
    ((λ i. record { asked = asked i; crew = crew i }), c.grown)

-- a read of which nothing is missing made nothing
pub reads_none : (asks : List Ask) (old new : Progress) → asks ≡ [] → new ≡ old → MakesAll asks old new
reads_none asks old new none same = subst (λ z. MakesAll z old new) (sym none) (record { asked = ap (λ (x : Progress). x.asked) same ∙ no_more old.asked; crew = ap (λ (x : Progress). x.crew) same })

pub front_none : (asks : List Ask) (old new : Progress) → new ≡ old → MakesFront asks old new
front_none asks old new same = record { front = []; back = requests_in asks; split = refl; asked = ap (λ (x : Progress). x.asked) same ∙ no_more old.asked }

-- all asks are a front of them
pub front_all : (asks : List Ask) (old new : Progress) → MakesAll asks old new → MakesFront asks old new
front_all asks old new all = record { front = requests_in asks; back = []; split = no_more (requests_in asks); asked = all.asked }
