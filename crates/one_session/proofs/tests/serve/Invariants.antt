use Rattle.std.proofs.Common.{◌≤◌, false, length}
use Rattle.std.specs.List.{AllByRecursion}
use Rattle.vfs_names.specs.declared.who.By.{By}
use Rattle.vfs_names.specs.declared.who.Actor.TheVariants.{Session}
use Rattle.cache_memory.specs.Disks.{disk_of}
use Rattle.remote_memory.specs.Stores.{outside_of}
use Rattle.vfs_outside.specs.declared.tree.TreeEntry.{TreeEntry}
use Rattle.one_session.specs.Causes.{AreGiven, AreSaved}
use Rattle.one_session.specs.Slots.{Lends}
use Rattle.one_session.specs.Views.{given_all}
use Rattle.one_session.specs.Whole.{IsUpTo}
use Rattle.one_session.proofs.tests.serve.Given as goal

abbrev pub invariant-loop-line : goal.invariant-loop-line
invariant-loop-line l = record {
  later : IsUpTo (record { who = record { epoch = 0; phase = 1; actor = Session 1 }; pass = 0; tree = false; now = 7 }) l.session.files;
  lends : Lends (Unit {0}) (length l.session.files) (disk_of l.disk);
  given : AreGiven (Unit {0}) (outside_of l.remote).handed (given_all l.session.items);
  saved : AreSaved (Unit {0}) (Unit {0}) (outside_of l.remote).handed l.session.files;
  tree_later : AllByRecursion (λ (e : TreeEntry). e.by.who.phase ≤ 1) l.session.tree;
}
