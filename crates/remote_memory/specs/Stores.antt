-- What a store in memory tells.
use Rattle.std.specs.Prelude.{◌≡◌, ◌≤◌, ℕ, List, map, reverse}
use Rattle.std.specs.declared.snapshot.Snapshot.{Snapshot}
use Rattle.vfs_names.specs.declared.fingerprint.Fingerprint.{Fingerprint}
use Rattle.vfs_outside.specs.Outside.{Outside}
use Rattle.remote_memory.specs.Nodes.{fingerprint_of, store_of}
use Rattle.remote_memory.specs.declared.node.Stored.{Stored}
use Rattle.remote_memory.specs.declared.stock.Stock.{Stock}
use Rattle.remote_memory.specs.declared.remote.MemoryRemote.{MemoryRemote}
use Rattle.remote_memory.specs.declared.script.Change.{Change}
use Rattle.remote_memory.specs.declared.script.Fault.{Fault}
use Rattle.remote_memory.specs.declared.script.Planned.{Planned}
use Rattle.remote_memory.specs.declared.script.PullAt.{PullAt}

-- the pairs that were handed out, the newest first
abbrev pub handed_of : List (Snapshot Stored) → List (Fingerprint × List ℕ)
handed_of handed = map (λ (s : Snapshot Stored). (fingerprint_of s.value, s.value.bytes)) (reverse handed)

-- what a store tells whose calls failed so often, and that met so many changes of others
abbrev pub outside_with : Stock → ℕ → ℕ → Outside
outside_with stock faults others = record {
  store = store_of stock.nodes.items;
  handed = handed_of stock.handed.items;
  faults = faults;
  changes = stock.changes;
  lists = stock.lists;
  others = others;
}

abbrev pub outside_of : MemoryRemote → Outside
outside_of r = outside_with r.stock r.faults r.others

-- how many objects were put or committed, which is the revision of the last one
abbrev pub puts_of : MemoryRemote → ℕ
puts_of r = r.stock.revs

-- nothing is told anew but what stands in the store
pub record SameMarks (old new : Outside) : Type 0 where
  pub handed : new.handed ≡ old.handed
  pub faults : new.faults ≡ old.faults
  pub changes : new.changes ≡ old.changes
  pub lists : new.lists ≡ old.lists
  pub others : new.others ≡ old.others

-- what is planned: the changes of others, the calls that fail, the pulls that fail and those that find another object
pub record Plans : Type 0 where
  pub changes : List (ℕ × Change)
  pub faults : List Fault
  pub failing_pulls : List PullAt
  pub changing_pulls : List PullAt

abbrev pub plans_of : MemoryRemote → Plans
plans_of r = record {
  changes = map (λ (p : Planned). (p.before, p.change)) r.planned.items;
  faults = r.fails.items;
  failing_pulls = r.pull_fails.items;
  changing_pulls = r.pull_changes.items;
}

-- changes of others were met: each is counted, and nothing moves but what stands in the store and the last revision
pub record MetOthers (old new : MemoryRemote) : Type 0 where
  pub handed : new.stock.handed ≡ old.stock.handed
  pub changes : new.stock.changes ≡ old.stock.changes
  pub lists : new.stock.lists ≡ old.stock.lists
  pub revs : old.stock.revs ≤ new.stock.revs
  pub faults : new.faults ≡ old.faults
  pub others : old.others ≤ new.others
  pub alone : new.others ≡ 0 → new.stock.nodes.items ≡ old.stock.nodes.items
