use Rattle.std.proofs.Common.{◌∙◌, ap, sym, arith, length, reverse}
use Rattle.one_session.specs.Causes.{ends_gone}
use Rattle.one_session.specs.State.{file_at}
use Rattle.one_session.specs.Views.{histories}
use Rattle.one_session.proofs.Starts.{sound_none}
use Rattle.one_session.proofs.Tables.{none_by, none_open}
use Rattle.one_session.proofs.store.Store.new.Goals as goal

pub returns-clause-sound : goal.returns-clause-sound
returns-clause-sound g c = record {
  sound = sound_none _ _ _ _ c.new.ensures.entries c.new-2.ensures (ap histories c.new-3.ensures.items) (c.in-Ok.ensures.items_if_clones_equal (none_by _ (λ k h. absurd h)));
  limit = c.new.ensures.limit ∙ sym c.new-3.ensures.limit;
  items = λ n lt. absurd (omega (arith, lt, ap length c.new-3.ensures.items));
  settled = λ path. ap (λ l. ends_gone (reverse l) path) c.new.ensures.entries;
}

pub returns-clause-handles : goal.returns-clause-handles
returns-clause-handles g c = λ handle. ap (λ l. file_at l handle) (c.in-Ok.ensures.items_if_clones_equal (none_by _ (λ k h. absurd h))) ∙ none_open 256 handle
