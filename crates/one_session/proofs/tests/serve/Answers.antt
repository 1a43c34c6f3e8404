use Rattle.std.proofs.Common.{◌≡◌, ◌≤◌, false, ap, arith, subst, sym}
use Rattle.std.specs.List.{AllByRecursion}
use Rattle.vfs_names.specs.declared.who.By.{By}
use Rattle.vfs_names.specs.declared.who.Actor.TheVariants.{Session}
use Rattle.remote_memory.specs.Stores.{outside_of}
use Rattle.vfs_outside.specs.declared.tree.TreeEntry.{TreeEntry}
use Rattle.one_session.specs.Causes.{AreGiven, AreSaved}
use Rattle.one_session.specs.State.{State}
use Rattle.one_session.specs.Views.{given_all}
use Rattle.one_session.specs.Whole.{IsUpTo}
use Rattle.one_session.proofs.Makers.{all_append, all_mono}
use Rattle.one_session.proofs.tests.serve.Goals as goal

pub serve-requires-clause-given : goal.serve-requires-clause-given
serve-requires-clause-given c = subst (λ (s : State). AreGiven (Unit {0}) (outside_of c.loop-line.remote).handed (given_all s.items)) (sym c.in_ok-reserve.ensures.ok) c.loop-line.invariant.given

pub serve-requires-clause-later : goal.serve-requires-clause-later
serve-requires-clause-later c = subst (λ (s : State). IsUpTo (record { who = record { epoch = 0; phase = 1; actor = Session 1 }; pass = 0; tree = false; now = 7 }) s.files) (sym c.in_ok-reserve.ensures.ok) c.loop-line.invariant.later

pub serve-requires-clause-saved : goal.serve-requires-clause-saved
serve-requires-clause-saved c = subst (λ (s : State). AreSaved (Unit {0}) (Unit {0}) (outside_of c.loop-line.remote).handed s.files) (sym c.in_ok-reserve.ensures.ok) c.loop-line.invariant.saved

pub serve-requires-clause-tree_later : goal.serve-requires-clause-tree_later
serve-requires-clause-tree_later c = subst (λ (s : State). AllByRecursion (λ (e : TreeEntry). e.by.who.phase ≤ 1) s.tree) (sym c.in_ok-reserve.ensures.ok) c.loop-line.invariant.tree_later

pub loop-line-preserved : goal.loop-line-preserved
loop-line-preserved c =
    let by : By = record { who = record { epoch = 0; phase = 1; actor = Session 1 }; pass = 0; tree = false; now = 7 } in
    let grown = c.serve.ensures.served.1 in
    let before = subst (λ (s : State). AllByRecursion (λ (e : TreeEntry). e.by.who.phase ≤ 1) s.tree) (sym c.in_ok-reserve.ensures.ok) c.loop-line.invariant.tree_later in
    record {
      later = c.serve.ensures.later;
      lends = c.serve.ensures.lends;
      given = c.serve.ensures.given;
      saved = c.serve.ensures.saved;
      tree_later = subst (AllByRecursion (λ (e : TreeEntry). e.by.who.phase ≤ 1)) (sym grown.grew)
          (all_append (λ (e : TreeEntry). e.by.who.phase ≤ 1) _ grown.more before
          (all_mono (λ (e : TreeEntry). e.by ≡ by) (λ (e : TreeEntry). e.by.who.phase ≤ 1) (λ e q. omega (arith, ap (λ (b : By). b.who.phase) q)) grown.more grown.made));
    }
