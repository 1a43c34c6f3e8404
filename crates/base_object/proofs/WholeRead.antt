-- A read that pulls one block after another.
use Rattle.std.proofs.Common.{◌≡◌, ℕ, Bool, true, false, ◌||◌, List, [], ◌∷◌, ◌++◌, append_assoc, Option, Some, None, Ok, refl, sym, ◌∙◌, ap, subst, arith}
use Rattle.std.specs.List.{AllByRecursion}
use Rattle.std.proofs.Math.Bool.{or-false}
use Rattle.std.proofs.lemmas.List.{append-nil}
use Rattle.byte_ranges.specs.declared.Span.{Span}
use Rattle.byte_ranges.proofs.Spans.{or_assoc}
use Rattle.downloaders.specs.declared.Ask.{Ask}
use Rattle.downloaders.specs.declared.Plan.{Plan}
use Rattle.downloaders.specs.Orders.{here_in_the_end, requests_in, team_in_the_end}
use Rattle.downloaders.specs.Rules.{AreAsks}
use Rattle.base_object.specs.declared.block.Block.{Block}
use Rattle.base_object.specs.Base.{IsLaterOf, ObjectFacts, bytes_of}
use Rattle.base_object.specs.Pulls.{IsBlock, Progress, past_pull, to_pull}
use Rattle.base_object.specs.Reads.{AddsBlocks, GoesOn, MakesAll, MakesFront, ReadsNext, in_block, in_blocks}
use Rattle.base_object.proofs.Rest.{requests_split, team_split}

-- of these asks the requests so far were made, and these are left
pub record UnderWay (plan : Plan) (span : Span) (base_end : ℕ) (asks : List Ask) (here here' : ℕ → Bool) (old new : Progress) : Type 0 where
  pub made : List (ℕ × ℕ)
  pub left : List Ask
  pub split : requests_in asks ≡ made ++ requests_in left
  pub asked : new.asked ≡ old.asked ++ made
  pub rest : AreAsks plan span base_end here' new.crew left
  pub crew : team_in_the_end asks old.crew ≡ team_in_the_end left new.crew
  pub grown : (p : ℕ) → here_in_the_end asks base_end here p ≡ here_in_the_end left base_end here' p

pub begins : (plan : Plan) (span : Span) (base_end : ℕ) (asks : List Ask) (here : ℕ → Bool) (old : Progress) → AreAsks plan span base_end here old.crew asks → UnderWay plan span base_end asks here here old old
begins plan span base_end asks here old all = record {
  made = [];
  left = asks;
  split = refl;
  asked = sym (append-nil old.asked);
  rest = all;
  crew = refl;
  grown = λ p. refl;
}

regroup : (a b c d e : List (ℕ × ℕ)) → a ≡ b ++ c → c ≡ d ++ e → a ≡ (b ++ d) ++ e
regroup a b c d e x y = x ∙ ap (λ z. b ++ z) y ∙ sym (append_assoc b d e)

longer : (a b c d e : List (ℕ × ℕ)) → a ≡ b ++ d → b ≡ c ++ e → a ≡ c ++ (e ++ d)
longer a b c d e x y = x ∙ ap (λ z. z ++ d) y ∙ append_assoc c e d

pub continues : (plan : Plan) (span : Span) (base_end : ℕ) (asks : List Ask) (here here' here'' : ℕ → Bool) (old mid new : Progress) (u : UnderWay plan span base_end asks here here' old mid) → GoesOn plan span base_end u.left here' here'' mid new → UnderWay plan span base_end asks here here'' old new
continues plan span base_end asks here here' here'' old mid new u g = record {
  made = u.made ++ requests_in (to_pull u.left);
  left = past_pull u.left;
  split = regroup (requests_in asks) u.made (requests_in u.left) (requests_in (to_pull u.left)) (requests_in (past_pull u.left)) u.split (requests_split u.left);
  asked = longer new.asked mid.asked old.asked (requests_in (to_pull u.left)) u.made g.asked u.asked;
  rest = g.rest;
  crew = u.crew ∙ team_split u.left mid.crew ∙ ap (team_in_the_end (past_pull u.left)) (sym g.crew);
  grown = λ p. u.grown p ∙ g.grown p;
}

pub finishes : (plan : Plan) (span : Span) (base_end : ℕ) (asks : List Ask) (here here' : ℕ → Bool) (old mid new : Progress) (u : UnderWay plan span base_end asks here here' old mid) → u.left ≡ [] → new ≡ mid → MakesAll asks old new
finishes plan span base_end asks here here' old mid new u none same =
    let all : requests_in asks ≡ u.made = u.split ∙ ap (λ (l : List Ask). u.made ++ requests_in l) none ∙ append-nil u.made in
    record {
      asked = ap (λ (p : Progress). p.asked) same ∙ u.asked ∙ ap (λ z. old.asked ++ z) (sym all);
      crew = ap (λ (p : Progress). p.crew) same ∙ sym (u.crew ∙ ap (λ (l : List Ask). team_in_the_end l mid.crew) none);
    }

pub all_here : (plan : Plan) (span : Span) (base_end : ℕ) (asks : List Ask) (here here' here'' : ℕ → Bool) (old mid : Progress) (u : UnderWay plan span base_end asks here here' old mid) → u.left ≡ [] → ((p : ℕ) → here'' p ≡ here' p) → (p : ℕ) → here'' p ≡ here_in_the_end asks base_end here p
all_here plan span base_end asks here here' here'' old mid u none same p =
    same p ∙ sym (u.grown p ∙ ap (λ (l : List Ask). here_in_the_end l base_end here' p) none)

pub breaks_off : (plan : Plan) (span : Span) (base_end : ℕ) (asks : List Ask) (here here' : ℕ → Bool) (old mid new : Progress) (u : UnderWay plan span base_end asks here here' old mid) → MakesFront u.left mid new → MakesFront asks old new
breaks_off plan span base_end asks here here' old mid new u f = record {
  front = u.made ++ f.front;
  back = f.back;
  split = regroup (requests_in asks) u.made (requests_in u.left) f.front f.back u.split f.split;
  asked = longer new.asked mid.asked old.asked f.front u.made f.asked u.asked;
}

all_both : (meets : Block → Type 0) (xs ys : List Block) → AllByRecursion meets xs → AllByRecursion meets ys → AllByRecursion meets (xs ++ ys)
all_both meets [] ys a b = b
all_both meets (x ∷ xs) ys a b = (a.0, all_both meets xs ys a.1 b)

in_both : (base_end : ℕ) (xs ys : List Block) (p : ℕ) → in_blocks base_end (xs ++ ys) p ≡ (in_blocks base_end xs p || in_blocks base_end ys p)
in_both base_end [] ys p = refl
in_both base_end (x ∷ xs) ys p = ap (λ b. in_block base_end x p || b) (in_both base_end xs ys p) ∙ or_assoc (in_block base_end x p) (in_blocks base_end xs p) (in_blocks base_end ys p)

pub blocks_none : (meets : Block → Type 0) (base_end : ℕ) (here : ℕ → Bool) (blocks : List Block) → AddsBlocks meets base_end here here blocks blocks
blocks_none meets base_end here blocks = record { more = []; added = sym (append-nil blocks); each = tt; grown = λ p. sym (or-false (here p)) }

pub blocks_on : (meets : Block → Type 0) (base_end : ℕ) (here here' here'' : ℕ → Bool) (old mid new : List Block) → AddsBlocks meets base_end here here' old mid → AddsBlocks meets base_end here' here'' mid new → AddsBlocks meets base_end here here'' old new
blocks_on meets base_end here here' here'' old mid new a b = record {
  more = a.more ++ b.more;
  added = b.added ∙ ap (λ z. z ++ b.more) a.added ∙ append_assoc old a.more b.more;
  each = all_both meets a.more b.more a.each b.each;
  grown = λ p. b.grown p ∙ ap (λ z. z || in_blocks base_end b.more p) (a.grown p)
      ∙ sym (or_assoc (here p) (in_blocks base_end a.more p) (in_blocks base_end b.more p))
      ∙ ap (λ z. here p || z) (sym (in_both base_end a.more b.more p));
}

later_bytes : (a b : Option ObjectFacts) → IsLaterOf a b → bytes_of b ≡ bytes_of a
later_bytes None None l = refl
later_bytes None (Some y) l = absurd l
later_bytes (Some x) None l = absurd l
later_bytes (Some x) (Some y) l = l.bytes

-- the blocks of an object that was read further are its
pub same_blocks : (tells : Type 0) (a b : Option ObjectFacts) (base_end : ℕ) (here here' : ℕ → Bool) (old new : List Block) → IsLaterOf a b → AddsBlocks (IsBlock tells (bytes_of b) base_end) base_end here here' old new → AddsBlocks (IsBlock tells (bytes_of a) base_end) base_end here here' old new
same_blocks tells a b base_end here here' old new l adds =
    subst (λ (bytes : List ℕ). AddsBlocks (IsBlock tells bytes base_end) base_end here here' old new) (later_bytes a b l) adds

pub going : (plan : Plan) (span : Span) (base_end : ℕ) (asks : List Ask) (here here' : ℕ → Bool) (old new : Progress) (more : Bool) → more ≡ true → ReadsNext plan span base_end asks here here' old new (Ok more) → GoesOn plan span base_end asks here here' old new
going plan span base_end asks here here' old new more e r = subst (λ (b : Bool). ReadsNext plan span base_end asks here here' old new (Ok b)) e r

pub ended : (plan : Plan) (span : Span) (base_end : ℕ) (asks : List Ask) (here here' : ℕ → Bool) (old new : Progress) (more : Bool) → more ≡ false → ReadsNext plan span base_end asks here here' old new (Ok more) → (asks ≡ []) × (new ≡ old) × ((p : ℕ) → here' p ≡ here p)
ended plan span base_end asks here here' old new more e r = subst (λ (b : Bool). ReadsNext plan span base_end asks here here' old new (Ok b)) e r

pub later_same : (a : Option ObjectFacts) → IsLaterOf a a
later_same None = tt
later_same (Some x) = record { print = refl; bytes = refl; faults = omega arith; changes = omega arith }

pub later_on : (a b c : Option ObjectFacts) → IsLaterOf a b → IsLaterOf b c → IsLaterOf a c
later_on None None None x y = tt
later_on None None (Some z) x y = absurd y
later_on None (Some b) c x y = absurd x
later_on (Some a) None c x y = absurd x
later_on (Some a) (Some b) None x y = absurd y
later_on (Some a) (Some b) (Some c) x y = record {
  print = y.print ∙ x.print;
  bytes = y.bytes ∙ x.bytes;
  faults = omega (arith, x.faults, y.faults);
  changes = omega (arith, x.changes, y.changes);
}
