use Rattle.std.proofs.Common.{◌∙◌, ap, sym, refl, subst, true, ◌≡◌, ◌<◌, ◌≤◌, ◌-◌, ◌+◌, ◌++◌, ◌∷◌, [], Some, None, ℕ, List, length, arith, length-append, reverse, set}
use Rattle.std.proofs.lemmas.List.{length-map}
use Rattle.item_core.specs.History.{held_by}
use Rattle.item_core.specs.declared.entry.FileKind.TheVariants as file
use Rattle.one_session.specs.Calls.{in_tree}
use Rattle.one_session.specs.Sound.{IsSound}
use Rattle.one_session.specs.Start.{MayStart, front_of, given_by, is_create, named_by, opened_kind, opening}
use Rattle.one_session.specs.State.{entries_in}
use Rattle.one_session.specs.Views.{Numbered, Shelf, add_to, given_all, histories, item_in, stored}
use Rattle.one_session.specs.Whole.{IsUpTo}
use Rattle.one_session.proofs.Held.{opening_length, was_held}
use Rattle.one_session.proofs.Items.{items_on, sound_on}
use Rattle.one_session.proofs.Keeping.{goes_on, up_to}
use Rattle.one_session.proofs.Begun.{named_turned, opened_item}
use Rattle.one_session.proofs.Shelves.{item_past, touched_given, touched_given_same, touched_grown, touched_same}
use Rattle.one_session.proofs.Putting.{again_end, again_held, again_sound}
use Rattle.one_session.specs.Causes.{is_gone}
use Rattle.one_session.proofs.Meeting.{opened_not_gone, settled_more}
use Rattle.one_session.proofs.store.Store.put_again.Goals as goal

-- the histories after the file was begun and opened
pub returns-in-Ok-clause-files : goal.returns-in-Ok-clause-files
returns-in-Ok-clause-files g c = let start = c.args.start in
    let made = (item_in c.begin.new.self.items c.args.item).slot.calls in
    rw c.note_open.ensures.files (touched_grown c.args.self.now.files.items c.begin.new.self.items c.args.item c.begin.ensures.one c.requires.inside (opening c.args.by c.args.access made (front_of g.O.Object.print_of start)) (named_by c.args.path start)
    c.in-Ok.ensures.did.ok (c.in-Ok.ensures.did.names_now ∙ ap (λ l. l ++ (item_in c.args.self.now.files.items c.args.item).names) (named_turned c.args.path start)))

pub returns-in-Ok-clause-given : goal.returns-in-Ok-clause-given
returns-in-Ok-clause-given g c = rw c.note_open.ensures.files (touched_given c.args.self.now.files.items c.begin.new.self.items c.args.item c.begin.ensures.one c.requires.inside (given_by g.O.Object.print_of g.O.Object.bytes c.args.start) c.in-Ok.ensures.did.pairs_now)

pub returns-in-Ok-clause-later : goal.returns-in-Ok-clause-later
returns-in-Ok-clause-later g c = let start = c.args.start in
    let made = (item_in c.begin.new.self.items c.args.item).slot.calls in
    let front = front_of g.O.Object.print_of start in
    let lt : c.args.item < length (histories c.args.self.now.files.items) = omega (arith, length-map c.args.self.now.files.items stored, c.requires.inside) in
    let grown = touched_grown c.args.self.now.files.items c.begin.new.self.items c.args.item c.begin.ensures.one c.requires.inside (opening c.args.by c.args.access made front) (named_by c.args.path start)
    c.in-Ok.ensures.did.ok (c.in-Ok.ensures.did.names_now ∙ ap (λ l. l ++ (item_in c.args.self.now.files.items c.args.item).names) (named_turned c.args.path start)) in
    rw (c.note_open.ensures.files, grown) (up_to (histories c.args.self.now.files.items) _ c.args.item c.args.by true made (front ++ file.Opened c.args.access ∷ [])
    (goes_on _ c.args.item (opening c.args.by c.args.access made front) (named_by c.args.path start) lt) c.requires.later)

pub returns-in-Err-clause-same_files : goal.returns-in-Err-clause-same_files
returns-in-Err-clause-same_files g c = touched_same c.args.self.now.files.items c.begin.new.self.items c.args.item c.begin.ensures.one c.requires.inside c.in-Err.ensures.did.err c.in-Err.ensures.did.has_same.names

pub returns-in-Err-clause-same_given : goal.returns-in-Err-clause-same_given
returns-in-Err-clause-same_given g c = touched_given_same c.args.self.now.files.items c.begin.new.self.items c.args.item c.begin.ensures.one c.requires.inside c.in-Err.ensures.did.has_same.pairs

pub returns-in-Err-clause-later : goal.returns-in-Err-clause-later
returns-in-Err-clause-later g c = subst (IsUpTo c.args.by) (sym (touched_same c.args.self.now.files.items c.begin.new.self.items c.args.item c.begin.ensures.one c.requires.inside c.in-Err.ensures.did.err c.in-Err.ensures.did.has_same.names)) c.requires.later

pub returns-in-Err-clause-sound : goal.returns-in-Err-clause-sound
returns-in-Err-clause-sound g c = let s = c.requires.sound in
    let same = touched_same c.args.self.now.files.items c.begin.new.self.items c.args.item c.begin.ensures.one c.requires.inside c.in-Err.ensures.did.err c.in-Err.ensures.did.has_same.names in record {
      sound = subst (λ l. IsSound c.args.self.now.tree.entries c.args.self.now.paths.paths l c.args.self.now.table.items) (sym same) s.sound;
      limit = s.limit ∙ sym c.begin.ensures.limit;
      items = rw c.begin.ensures.limit (items_on g.F.CacheFile.tells c.args.self.now.files.limit c.args.self.now.files.items c.begin.new.self.items c.args.item c.begin.ensures.one c.requires.inside
          (sound_on g.F.CacheFile.tells c.args.self.now.files.limit c.args.item (item_in c.args.self.now.files.items c.args.item) (item_in c.begin.new.self.items c.args.item) [] (s.items c.args.item c.requires.inside) c.in-Err.ensures.did.same c.in-Err.ensures.did.err) s.items);
      settled = s.settled;
    }

pub returns-in-Ok-clause-sound : goal.returns-in-Ok-clause-sound
returns-in-Ok-clause-sound g c =
    let made = (item_in c.begin.new.self.items c.args.item).slot.calls in
    let print = held_by (reverse (entries_in (histories c.begin.new.self.items) c.args.item)) in
    let small : c.args.handle < length c.args.self.now.table.items = omega (arith, c.requires.sound.sound.size, c.ranges.handle) in
    let named = subst (λ p. (item_in c.begin.new.self.items c.args.item).names ≡ named_by p c.args.start ++ (item_in c.args.self.now.files.items c.args.item).names) c.requires.same c.in-Ok.ensures.did.names_now in
    let tree : c.note_open.new.self.tree.entries ≡ c.args.self.now.tree.entries ++ in_tree c.args.by (opened_kind (is_create c.args.start) c.args.own c.args.item print) ∷ [] =
    c.note_open.ensures.tree ∙ ap (λ b. c.args.self.now.tree.entries ++ in_tree c.args.by (opened_kind b c.args.own c.args.item print) ∷ []) c.creates-created.ensures in
    again_sound g.O.Object.print_of g.F.CacheFile.tells c.args.self.now c.note_open.new.self c.args.handle c.args.item made c.args.by c.args.own c.args.access c.args.start print c.requires.sound small c.requires.closed c.requires.actor c.requires.pass c.requires.later
    tree c.note_open.ensures.limit (ap (λ (f : Shelf). f.limit) c.note_open.ensures.files ∙ c.begin.ensures.limit) c.note_open.ensures.table c.requires.inside c.requires.at c.requires.may (ap (λ (p : Numbered). p.paths) c.note_open.ensures.paths) (rw c.note_open.ensures.files c.begin.ensures.one) (rw c.note_open.ensures.files c.in-Ok.ensures.did.same)
    (rw c.note_open.ensures.files c.in-Ok.ensures.did.ok) (rw c.note_open.ensures.files named)

pub returns-in-Ok-clause-tree : goal.returns-in-Ok-clause-tree
returns-in-Ok-clause-tree g c =
    let made = (item_in c.begin.new.self.items c.args.item).slot.calls in
    let print = held_by (reverse (entries_in (histories c.begin.new.self.items) c.args.item)) in
    let small : c.args.handle < length c.args.self.now.table.items = omega (arith, c.requires.sound.sound.size, c.ranges.handle) in
    let named = subst (λ p. (item_in c.begin.new.self.items c.args.item).names ≡ named_by p c.args.start ++ (item_in c.args.self.now.files.items c.args.item).names) c.requires.same c.in-Ok.ensures.did.names_now in
    let tree : c.note_open.new.self.tree.entries ≡ c.args.self.now.tree.entries ++ in_tree c.args.by (opened_kind (is_create c.args.start) c.args.own c.args.item print) ∷ [] =
    c.note_open.ensures.tree ∙ ap (λ b. c.args.self.now.tree.entries ++ in_tree c.args.by (opened_kind b c.args.own c.args.item print) ∷ []) c.creates-created.ensures in (
      print,
      tree,
      again_held g.O.Object.print_of g.F.CacheFile.tells c.args.self.now c.note_open.new.self c.args.handle c.args.item made c.args.by c.args.own c.args.access c.args.start print c.requires.sound small c.requires.closed c.requires.actor c.requires.pass c.requires.later
          tree c.note_open.ensures.limit (ap (λ (f : Shelf). f.limit) c.note_open.ensures.files ∙ c.begin.ensures.limit) c.note_open.ensures.table c.requires.inside c.requires.at c.requires.may (ap (λ (p : Numbered). p.paths) c.note_open.ensures.paths) (rw c.note_open.ensures.files c.begin.ensures.one) (rw c.note_open.ensures.files c.in-Ok.ensures.did.same)
          (rw c.note_open.ensures.files c.in-Ok.ensures.did.ok) (rw c.note_open.ensures.files named) (ap (λ (f : Shelf). held_by (reverse (entries_in (histories f.items) c.args.item))) (sym c.note_open.ensures.files)),
    )

pub returns-in-Ok-clause-in_file : goal.returns-in-Ok-clause-in_file
returns-in-Ok-clause-in_file g c =
    let made = (item_in c.begin.new.self.items c.args.item).slot.calls in
    let print = held_by (reverse (entries_in (histories c.begin.new.self.items) c.args.item)) in
    let small : c.args.handle < length c.args.self.now.table.items = omega (arith, c.requires.sound.sound.size, c.ranges.handle) in
    let named = subst (λ p. (item_in c.begin.new.self.items c.args.item).names ≡ named_by p c.args.start ++ (item_in c.args.self.now.files.items c.args.item).names) c.requires.same c.in-Ok.ensures.did.names_now in
    let tree : c.note_open.new.self.tree.entries ≡ c.args.self.now.tree.entries ++ in_tree c.args.by (opened_kind (is_create c.args.start) c.args.own c.args.item print) ∷ [] =
    c.note_open.ensures.tree ∙ ap (λ b. c.args.self.now.tree.entries ++ in_tree c.args.by (opened_kind b c.args.own c.args.item print) ∷ []) c.creates-created.ensures in
    c.note_open.ensures.in_file ∙ ap (λ n. Some (record { 0 = c.args.item }, n)) (ap (λ (f : Shelf). length (entries_in (histories f.items) c.args.item) - 1) (sym c.note_open.ensures.files) ∙ again_end g.O.Object.print_of g.F.CacheFile.tells c.args.self.now c.note_open.new.self c.args.handle c.args.item made c.args.by c.args.own c.args.access c.args.start print c.requires.sound small c.requires.closed c.requires.actor c.requires.pass c.requires.later
    tree c.note_open.ensures.limit (ap (λ (f : Shelf). f.limit) c.note_open.ensures.files ∙ c.begin.ensures.limit) c.note_open.ensures.table c.requires.inside c.requires.at c.requires.may (ap (λ (p : Numbered). p.paths) c.note_open.ensures.paths) (rw c.note_open.ensures.files c.begin.ensures.one) (rw c.note_open.ensures.files c.in-Ok.ensures.did.same)
    (rw c.note_open.ensures.files c.in-Ok.ensures.did.ok) (rw c.note_open.ensures.files named))
