-- How changes of others that were met add up, and what a call that met them says.
use Rattle.std.proofs.Common.{◌≡◌, ◌∙◌, ap, refl, ℕ, arith, true, false}
use Rattle.remote_memory.specs.Script.{CountsListing}
use Rattle.remote_memory.specs.Stores.{MetOthers}
use Rattle.remote_memory.specs.declared.remote.MemoryRemote.{MemoryRemote}
use Rattle.remote_memory.specs.declared.script.RemoteCall.{RemoteCall}
use Rattle.remote_memory.specs.declared.script.RemoteCall.TheVariants as call

pub met_none : (r : MemoryRemote) → MetOthers r r
met_none r = record {
  handed = refl;
  changes = refl;
  lists = refl;
  revs = omega arith;
  faults = refl;
  others = omega arith;
  alone = λ e. refl;
}

-- changes were met, then the plan alone moved, and then more were met
pub met_later : (first old mid new : MemoryRemote) → MetOthers first old → mid.stock ≡ old.stock → mid.faults ≡ old.faults → mid.others ≡ old.others → MetOthers mid new → MetOthers first new
met_later first old mid new a stock faults others b = record {
  handed = b.handed ∙ ap (λ s. s.handed) stock ∙ a.handed;
  changes = b.changes ∙ ap (λ s. s.changes) stock ∙ a.changes;
  lists = b.lists ∙ ap (λ s. s.lists) stock ∙ a.lists;
  revs = omega (arith, a.revs, ap (λ s. s.revs) stock, b.revs);
  faults = b.faults ∙ faults ∙ a.faults;
  others = omega (arith, a.others, b.others, others);
  alone = λ e. b.alone e ∙ ap (λ s. s.nodes.items) stock ∙ a.alone (omega (arith, e, b.others, others));
}

-- a call that got its number and then failed didn't lower the count of listings
pub counts_less : (c : RemoteCall) (old new : ℕ) → CountsListing c old new true → CountsListing c old new false
counts_less call.Attach old new h = h
counts_less call.List old new h = omega (arith, h)
counts_less call.OpenObject old new h = h
counts_less call.Stage old new h = h
counts_less call.Append old new h = h
counts_less call.Commit old new h = h
