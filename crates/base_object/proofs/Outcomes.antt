-- What a request and a pull after it come to.
use Rattle.std.proofs.Common.{◌≡◌, ℕ, ◌<◌, ◌≤◌, true, List, [], ◌∷◌, ◌++◌, length, Result, Ok, Err, refl, sym, ◌∙◌, ap, subst, arith, inl, inr}
use Rattle.std.specs.Prelude.{IfOk, OnOk, OnErr}
use Rattle.std.proofs.lemmas.Bool.{cases_Bool, eq-eqb}
use Rattle.downloaders.specs.declared.Ask.{Ask}
use Rattle.downloaders.specs.declared.Ask.TheVariants.{Request, Pull}
use Rattle.downloaders.specs.declared.Downloader.{Downloader}
use Rattle.downloaders.specs.Crew.{Team, is_at, without, after_request, after_pull, after_end}
use Rattle.vfs_outside.specs.Object.{IsPart}
use Rattle.vfs_outside.specs.declared.object.ObjectError.{ObjectError}
use Rattle.vfs_outside.specs.declared.object.ObjectError.TheVariants.{Changed, Failed, NoMemory}
use Rattle.base_object.specs.declared.block.Block.{Block}
use Rattle.base_object.specs.Pulls.{Brings, FailsAsked, IsBlock, Progress, PullsFirst}

without_twice : (run : ℕ) (list : List Downloader) → without run (without run list) ≡ without run list
without_twice run [] = refl
without_twice run (d ∷ rest) = elim (cases_Bool (is_at run d)) [
  | inl here ↦ rw here (without_twice run rest)
  | inr other ↦ rw (other, other) (ap (λ z. d ∷ z) (without_twice run rest))
]

without_first : (run : ℕ) (d : Downloader) (list : List Downloader) → is_at run d ≡ true → without run (d ∷ without run list) ≡ without run list
without_first run d list at = rw at (without_twice run list)

-- a downloader that asked and then ended leaves the others as they were
pub end_asked : (run start end chunk : ℕ) (team : Team) → after_end run (after_request run start end chunk team) ≡ after_end run team
end_asked run start end chunk team =
    let d : Downloader = record { run = run; pos = start; end = end; chunk = chunk } in
    let whole : List Downloader → Team = λ l. record { direct = team.direct; list = l } in
    ap whole (without_first run d team.list (eq-eqb run run refl))

-- what a request and then a pull of its downloader come to
pub first_pulled : (run start end chunk n len : ℕ) (rest : List Ask) (asked asked' asked'' : List (ℕ × ℕ)) (crew crew' crew'' : Team) (result : Result Block ObjectError) → n ≡ len → asked' ≡ asked ++ (start, end) ∷ [] → crew' ≡ after_request run start end chunk crew → asked'' ≡ asked' → IfOk result (λ block. block.pos ≡ start) → IfOk result (λ block. length block.bytes ≡ n) → OnOk result (crew'' ≡ after_pull run n crew') → OnErr result (crew'' ≡ after_end run crew') → PullsFirst (Request run start end chunk ∷ Pull run start len ∷ rest) (record { asked = asked; crew = crew }) (record { asked = asked''; crew = crew'' }) result
first_pulled run start end chunk n len rest asked asked' asked'' crew crew' crew'' (Ok block) e a q same pos size ok err = record {
  is_pull = (pos, size ∙ e);
  asked = same ∙ a;
  crew = ok ∙ ap (λ z. after_pull run z crew') e ∙ ap (after_pull run len) q;
}
first_pulled run start end chunk n len rest asked asked' asked'' crew crew' crew'' (Err Changed) e a q same pos size ok err = record {
  asked = same ∙ a;
  crew = err ∙ ap (after_end run) q ∙ end_asked run start end chunk crew;
}
first_pulled run start end chunk n len rest asked asked' asked'' crew crew' crew'' (Err Failed) e a q same pos size ok err = record {
  asked = same ∙ a;
  crew = err ∙ ap (after_end run) q ∙ end_asked run start end chunk crew;
}
first_pulled run start end chunk n len rest asked asked' asked'' crew crew' crew'' (Err NoMemory) e a q same pos size ok err = inr (inr (record {
  asked = same ∙ a;
  crew = err ∙ ap (after_end run) q ∙ end_asked run start end chunk crew;
}))

-- what was said of asks of a front is said of all asks
pub brings_all : (asks asks' : List Ask) (block : Block) (old new : Progress) → asks ≡ asks' → Brings asks' block old new → Brings asks block old new
brings_all asks asks' block old new e b = subst (λ z. Brings z block old new) (sym e) b

pub fails_all : (asks asks' : List Ask) (why : ObjectError) (old new : Progress) → asks ≡ asks' → FailsAsked asks' old new why → FailsAsked asks old new why
fails_all asks asks' why old new e b = subst (λ z. FailsAsked z old new why) (sym e) b

pub block_is : (tells : Type 0) (bytes : List ℕ) (base_end : ℕ) (block : Block) (pos len : ℕ) → block.pos ≡ pos → length block.bytes ≡ len → 1 ≤ len → len ≤ 131072 → pos < base_end → (tells → IsPart bytes block.pos block.bytes) → IsBlock tells bytes base_end block
block_is tells bytes base_end block pos len at size some most below told = record {
  some = omega (arith, size);
  most = omega (arith, size);
  below = omega (arith, at);
  told = told;
}
