-- A session's calls, from none on.
use Rattle.std.proofs.Common.{◌≡◌, ◌<◌, ◌≤◌, ◌++◌, ◌∙◌, append-nil, inl, inr, ap, sym, refl, subst, arith, ℕ, zero, suc, None, List, [], ◌∷◌, drop, length, reverse}
use Rattle.std.specs.List.{AllByRecursion}
use Rattle.vfs_names.specs.declared.fingerprint.Fingerprint.{Fingerprint}
use Rattle.vfs_names.specs.declared.who.Actor.TheVariants.{Session}
use Rattle.vfs_names.specs.declared.who.By.{By}
use Rattle.vfs_outside.specs.Outside.{Outside}
use Rattle.vfs_outside.specs.declared.tree.TreeEntry.{TreeEntry}
use Rattle.item_core.specs.Content.{Known}
use Rattle.item_core.specs.declared.entry.Entry.{Entry}
use Rattle.item_core.specs.Legal.{IsLegal, IsTimely}
use Rattle.session_script.specs.declared.call.Call.{Call}
use Rattle.session_script.specs.declared.call.CallLine.{CallLine}
use Rattle.session_text.specs.declared.reply.Record.{Record}
use Rattle.one_session.specs.Calls.{TreeDoes}
use Rattle.one_session.specs.Causes.{CauseOf, HasRemoteCause}
use Rattle.one_session.specs.Did.{Did, Grows}
use Rattle.one_session.specs.Matching.{entries_of}
use Rattle.one_session.specs.Served.{Fits, Knows, Serves, file_phase, in_file_of, in_tree_of, tree_phase}
use Rattle.one_session.specs.Sound.{IsSound}
use Rattle.one_session.specs.State.{History, State, Step, entries_in, file_at}
use Rattle.one_session.specs.Whole.{IsMade, IsWhole, IsWholeFile}
use Rattle.one_session.proofs.Makers.{AreBy, tree_by}
use Rattle.one_session.proofs.Serving.{goes, holds_part}

-- nothing was served yet
pub fits_none : (holds : Known → Type 0) (s : State) → s.tree ≡ [] → s.files ≡ [] → ((handle : ℕ) → file_at s.table handle ≡ None) → s.records ≡ [] → Fits 1 holds [] s
fits_none holds s tree files table records = record {
  matching = record {
    own = tt;
    answered = tt;
    tree = ap (entries_of in_tree_of 1) tree;
    file = λ item. ap (λ l. entries_of in_file_of 1 (entries_in l item)) files;
    full = tt;
  };
  handles = table;
  records = records;
  tree_end = record { inside = omega arith; others = ap (λ l. entries_of in_tree_of 1 (drop 0 l)) tree };
  file_end = λ item. record { inside = omega arith; others = ap (λ l. entries_of in_file_of 1 (drop 0 (entries_in l item))) files };
}

-- what a call does to the histories and handles is told whatever was recorded
pub did_with : (holds : Known → Type 0) (by : By) (c : Call) (done : Record) (s t : State) (r r' : List Record) (x x' : List Step) (n n' : ℕ) → Did 1 holds by c done s t → Did 1 holds by c done (record s { records = r; steps = x; room = n }) (record t { records = r'; steps = x'; room = n' })
did_with holds by c done s t r r' x x' n n' d = record { answered = d.answered; handles = d.handles; full = d.full; limit = d.limit; in_tree = d.in_tree; in_file = d.in_file }

-- the tree grows by what its maker adds
pub grown_by : (session : ℕ) (by : By) (files : List History) (c : Call) (done : Record) (old new : List TreeEntry) → Grows in_tree_of session (TreeDoes by files c done) done.tree old new
    → (more : List TreeEntry) × (new ≡ old ++ more) × AreBy by more
grown_by session by files c done old new (inl h) = ([], h.0 ∙ sym (append-nil old), tt)
grown_by session by files c done old new (inr h) = (h.0 ++ h.1 ∷ [], h.2, tree_by by files c done old (h.0 ++ h.1 ∷ []) h.6)

-- a call was served
pub serves : (kept tells : Type 0) (more before : List (Fingerprint × List ℕ)) (by : By) (line : CallLine) (done : Record) (s t : State) (r r' : List Record) (x x' : List Step) (n n' : ℕ) → by.who.actor ≡ Session 1 → done.line ≡ line.line → r' ≡ r ++ done ∷ []
    → AllByRecursion (λ (e : TreeEntry). tree_phase e ≤ by.who.phase) s.tree → ((item : ℕ) → AllByRecursion (λ (e : Entry). file_phase e ≤ by.who.phase) (entries_in s.files item))
    → Did 1 (Knows kept tells (more ++ before)) by line.call done s t → Serves 1 kept tells before (more ++ before) by line done (record s { records = r; steps = x; room = n }) (record t { records = r'; steps = x'; room = n' })
serves kept tells more before by line done s t r r' x x' n n' own numbered recorded tree_later file_later d = let did = did_with (Knows kept tells (more ++ before)) by line.call done s t r r' x x' n n' d in let grew = grown_by 1 by t.files line.call done s.tree t.tree d.in_tree in record {
  fits = goes 1 (Knows kept tells before) (Knows kept tells (more ++ before)) (λ known h. (h.0, holds_part tells more before known h.1)) by line done (record s { records = r; steps = x; room = n }) (record t { records = r'; steps = x'; room = n' }) own numbered did tree_later file_later recorded;
  records = recorded;
  limit = d.limit;
  more = grew.0;
  grew = grew.1;
  made = grew.2;
}

-- a call that asks the remote for nothing
pub quiet : (c : Call) (done : Record) (entries : List TreeEntry) (o : Outside) → CauseOf c done entries o o → HasRemoteCause c done entries o o
quiet c done entries o cause = record { faults = omega arith; changes = omega arith; more = []; handed = refl; cause = cause }

-- what is known of each file's history makes it whole
pub record IsKnown (entries : List Entry) : Type 0 where
  pub timely : IsTimely (reverse entries)
  pub made : AllByRecursion (IsMade 1) (reverse entries)

each_whole : (files : List History) → AllByRecursion (λ (file : History). IsLegal (reverse file.entries)) files → ((i : ℕ) → i < length files → IsKnown (entries_in files i)) → AllByRecursion (IsWholeFile 1) files
each_whole [] legal known = tt
each_whole (file ∷ files) legal known = (
  record { legal = legal.0; timely = (known zero (omega arith)).timely; made = (known zero (omega arith)).made },
  each_whole files legal.1 (λ i lt. known (suc i) (omega (arith, lt))),
)

pub whole : (s : State) (paths : List (List ℕ)) → IsSound s.tree paths s.files s.table → AllByRecursion (λ (file : History). IsLegal (reverse file.entries)) s.files → IsWhole 1 s.tree s.files
whole s paths sound legal = record {
  each = each_whole s.files legal (λ i lt. let f = sound.each i lt in record { timely = f.own.timely; made = f.own.made });
  numbered = sound.numbered;
  named = sound.named;
  made = sound.made;
}
