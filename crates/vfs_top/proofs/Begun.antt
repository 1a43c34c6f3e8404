-- A session that was asked for no call yet.
use Rattle.std.proofs.Common.{◌≡◌, ◌≤◌, ◌^◌, ℕ, Option, List, [], filter, length, reverse, ap, arith, refl, subst, sym}
use Rattle.std.specs.List.{AllByRecursion}
use Rattle.vfs_names.specs.declared.fingerprint.Fingerprint.{Fingerprint}
use Rattle.run_words.specs.Words.{Asked}
use Rattle.session_script.specs.declared.call.Line.{Line}
use Rattle.vfs_outside.specs.Disk.{Disk}
use Rattle.vfs_outside.specs.Outside.{Outside}
use Rattle.vfs_outside.proofs.Told.{appends_nothing}
use Rattle.item_core.specs.Content.{Known}
use Rattle.sparse_item.specs.Item.{Item}
use Rattle.vfs_outside.specs.declared.tree.TreeEntry.{TreeEntry}
use Rattle.one_session.specs.Causes.{AreGiven, AreSaved}
use Rattle.one_session.specs.Served.{Fits, Knows, Served}
use Rattle.one_session.specs.State.{History, State}
use Rattle.one_session.specs.Steps.{AreSteps, SendsFile}
use Rattle.one_session.specs.Views.{given_all}
use Rattle.one_session.specs.Whole.{IsUpTo}
use Rattle.vfs_top.specs.Around.{Around}
use Rattle.vfs_top.specs.Event.{maker_at}
use Rattle.vfs_top.specs.Going.{CanDoAll, IsGoing, IsUnderWay, IsUntouched, now}
use Rattle.vfs_top.specs.Phases.{IsByPhase, IsLaterRemote, history_limit, is_mains, terms_of}
use Rattle.vfs_top.specs.declared.phase.Phase.{Phase}
use Rattle.vfs_top.proofs.Going.{remote_same}

-- no file was given anything
none_given : (tells : Type 0) (handed : List (Fingerprint × List ℕ)) (items : List Item) → items ≡ [] → AreGiven tells handed (given_all items)
none_given tells handed items none = subst (λ l. AreGiven tells handed (given_all l)) (sym none) (λ known h. tt)

-- nothing was saved
none_saved : (kept tells : Type 0) (handed : List (Fingerprint × List ℕ)) (files : List History) → files ≡ [] → AreSaved kept tells handed files
none_saved kept tells handed files none = subst (AreSaved kept tells handed) (sym none) (λ k known h item. tt)

-- nothing was done
pub none_gone : (kept tells : Type 0) (run : Asked) (start o : Around) (w : Option (List ℕ)) (f : ℕ) (lines : List Line) (s : State)
    → start.moment ≤ o.moment → o.remote ≡ start.remote → o.disk ≡ start.disk → Fits 1 (Knows kept tells o.remote.handed) [] s → s.limit ≡ history_limit → s.terms ≡ terms_of run → s.files ≡ []
    → IsUntouched s → CanDoAll lines → length lines ≤ 65536 → length lines ≤ s.room → IsGoing kept tells run start o.moment lines lines [] [] (now s w f o)
none_gone kept tells run start o w f lines s sooner same same_disk fits limit terms files untouched can few room = record {
  asked = refl;
  no_sooner = sooner;
  timely = tt;
  fits = fits;
  given = none_given tells o.remote.handed s.items untouched.items;
  saved = none_saved kept tells o.remote.handed s.files files;
  limit = limit;
  terms = terms;
  entered = untouched.queue;
  causes = tt;
  steps = subst (λ l. AreSteps (SendsFile kept tells history_limit s.tree) run.plan start.disk.faults o.disk.faults s.items [] (reverse l)) (sym untouched.steps) untouched.items;
  sent = tt;
  stored = ap (filter is_mains) untouched.tree;
  ticked = tt;
  ordered = subst (IsByPhase (λ (e : TreeEntry). e.by.who.phase)) (sym untouched.tree) tt;
  disk_faults = omega (arith, ap (λ (d : Disk). d.faults) same_disk);
  remote = subst (IsLaterRemote start.remote) (sym same) (remote_same start.remote);
  can = can;
  room = room;
  few = omega (arith, few);
}

-- all lines are left
pub all_left : (kept tells : Type 0) (run : Asked) (start o : Around) (w : Option (List ℕ)) (f : ℕ) (lines : List Line) (p : Phase) (s : State)
    → p.by ≡ maker_at 1 o.moment → p.before ≡ 0 → start.moment ≤ o.moment → o.remote ≡ start.remote → o.disk ≡ start.disk → Fits 1 (Knows kept tells o.remote.handed) [] s → s.limit ≡ history_limit → s.terms ≡ terms_of run → s.files ≡ []
    → IsUntouched s → CanDoAll lines → length lines ≤ 65536 → length lines ≤ s.room → o.moment ≤ 2 ^ 62 → IsUnderWay kept tells run (now s w f start) lines lines p (now s w f o)
all_left kept tells run start o w f lines p s maker none sooner same same_disk fits limit terms files untouched can few room small = record {
  events = [];
  first = o.moment;
  most = small;
  is_now = refl;
  maker = maker;
  past = record {
    files = subst (IsUpTo p.by) (sym files) (λ item. tt);
    tree = subst (AllByRecursion (λ (e : TreeEntry). e.by.who.phase ≤ p.by.who.phase)) (sym untouched.tree) tt;
  };
  whole = tt;
  going = none_gone kept tells run start o w f lines s sooner same same_disk fits limit terms files untouched can few room;
  told = record {
    text = appends_nothing w;
    faults = omega arith;
    before = none;
    inside = omega (arith, none);
  };
}

-- whatever the room for more records
pub fits_still : (holds : Known → Type 0) (served : List Served) (s : State) (room : ℕ) → Fits 1 holds served s → Fits 1 holds served (record s { room = room })
fits_still holds served s room f = record { matching = f.matching; handles = f.handles; records = f.records; tree_end = f.tree_end; file_end = f.file_end }

-- and there is no file
pub untouched_still : (s : State) (room : ℕ) → IsUntouched s → IsUntouched (record s { room = room })
untouched_still s room u = record { items = u.items; steps = u.steps; queue = u.queue; tree = u.tree }
