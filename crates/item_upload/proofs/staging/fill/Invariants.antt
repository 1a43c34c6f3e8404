use Rattle.std.proofs.Common.{◌≡◌, ◌≤◌, ◌-◌, ℕ, true}
use Rattle.byte_ranges.specs.Ranges.{has}
use Rattle.vfs_outside.specs.Outside.{StaysAlone}
use Rattle.item_core.specs.History.{size_of}
use Rattle.base_object.specs.Base.{IsLaterOf}
use Rattle.item_upload.specs.Whole.{IsCurrent, IsStagedTo}
use Rattle.sparse_item.specs.Moves.{GoesOn}
use Rattle.sparse_item.specs.Stores.{IsLaterStore}
use Rattle.item_upload.proofs.staging.fill.Given as goal

abbrev pub invariant-loop-pos : goal.invariant-loop-pos
invariant-loop-pos g l = record {
  staged : IsStagedTo g.F.CacheFile.tells g.R.Remote.tells g.R.Object.Object.tells l.item l.pos (g.R.Remote.stage_len l.stage) (g.R.Remote.staged l.stage);
  most : l.pos ≤ size_of l.initial.item.log.past;
  current : IsCurrent l.item l.upload;
  upload : l.upload ≡ l.initial.upload;
  here : (p : ℕ) → has l.initial.item.here p ≡ true → has l.item.here p ≡ true;
  object : IsLaterOf l.initial.item.base.object l.item.base.object;
  state : l.item.base.state ≡ l.initial.item.base.state;
  slot : GoesOn g.F.CacheFile.tells l.initial.item.slot l.item.slot;
  store : IsLaterStore (g.R.Remote.outside l.initial.remote) (g.R.Remote.outside l.remote);
  handed : (g.R.Remote.outside l.remote).handed ≡ (g.R.Remote.outside l.initial.remote).handed;
  alone : StaysAlone (g.R.Remote.outside l.initial.remote) (g.R.Remote.outside l.remote);
  same : l.item ≡ record l.initial.item { base = l.item.base; here = l.item.here; pending = l.item.pending; slot = l.item.slot };
}

abbrev pub decreases-loop-pos : goal.decreases-loop-pos
decreases-loop-pos g l = size_of l.initial.item.log.past - l.pos
