use Rattle.std.proofs.Common.{append-nil, ◌∙◌, ap, sym, refl, subst, ◌≡◌, ◌<◌, ◌≤◌, ◌-◌, ◌++◌, ◌∷◌, [], ℕ, Some, length, min, arith, reverse}
use Rattle.std.proofs.lemmas.List.{length-map}
use Rattle.item_core.specs.History.{held_by, is_owed}
use Rattle.one_session.specs.Calls.{in_tree}
use Rattle.one_session.specs.Slots.{IsSoundItem}
use Rattle.one_session.specs.Start.{is_create, named_by, opened_kind}
use Rattle.one_session.specs.State.{entries_in}
use Rattle.one_session.specs.Views.{Numbered, Shelf, histories, stored}
use Rattle.one_session.proofs.Owed.{start_owed}
use Rattle.one_session.proofs.Putting.{new_end, new_held, new_later, new_sound}
use Rattle.one_session.proofs.store.Store.put_new.Goals as goal

pub overflow_cast-item : goal.overflow_cast-item
overflow_cast-item g c = omega (arith, c.min-item.ensures, c.len-2.ensures, c.len-2.type_inv)

-- each file has its entries in the tree
number : (item files entries a b : ℕ) {count : ℕ} → item ≡ min a b → a ≡ files → b ≡ entries → count ≡ files → count ≤ entries → item ≡ files
number item files entries a b e f g h l = grind (arith, e, f, g, h, l)

pub returns-in-Ok-clause-sound : goal.returns-in-Ok-clause-sound
returns-in-Ok-clause-sound g c =
    let numbered : c.min-item.result ≡ length c.args.self.now.files.items = number c.min-item.result _ _ c.len.result c.len-2.result c.min-item.ensures c.len.ensures c.len-2.ensures (length-map c.args.self.now.files.items stored) c.requires.sound.sound.few in
    let x = c.in-Ok.file in
    let made = x.slot.calls in
    let print = held_by (reverse (entries_in (histories c.add.new.self.items) c.min-item.result)) in
    let small : c.args.handle < length c.args.self.now.table.items = omega (arith, c.requires.sound.sound.size, c.ranges.handle) in
    let named = subst (λ p. x.names ≡ named_by p c.args.start) c.requires.same c.in-Ok.ensures.begun.names_now in
    let tree : c.note_open.new.self.tree.entries ≡ c.args.self.now.tree.entries ++ in_tree c.args.by (opened_kind (is_create c.args.start) c.args.own c.min-item.result print) ∷ [] =
    c.note_open.ensures.tree ∙ ap (λ b. c.args.self.now.tree.entries ++ in_tree c.args.by (opened_kind b c.args.own c.min-item.result print) ∷ []) c.creates-created.ensures in
    let limit : c.note_open.new.self.files.limit ≡ c.args.self.now.files.limit = ap (λ (f : Shelf). f.limit) c.note_open.ensures.files ∙ c.add.ensures.limit in
    let paths : c.note_open.new.self.paths.paths ≡ c.args.self.now.paths.paths ++ c.args.own ∷ [] = ap (λ (p : Numbered). p.paths) c.note_open.ensures.paths ∙ c.push.ensures ∙ ap (λ t. c.args.self.now.paths.paths ++ t ∷ []) c.requires.text in
    let items : c.note_open.new.self.files.items ≡ c.args.self.now.files.items ++ x ∷ [] = ap (λ (f : Shelf). f.items) c.note_open.ensures.files ∙ c.add.ensures.items in
    let sound_end = subst (λ l. IsSoundItem g.F.CacheFile.tells l c.min-item.result x) c.limit-limit.ensures c.in-Ok.ensures.begun.sound in
    new_sound g.O.Object.print_of g.F.CacheFile.tells c.args.self.now c.note_open.new.self c.args.handle c.min-item.result made c.args.by c.args.own c.args.access c.args.start print c.requires.sound small c.requires.closed c.requires.actor c.requires.pass c.requires.later
    tree c.note_open.ensures.limit limit c.note_open.ensures.table x numbered c.requires.absent c.requires.may paths items c.in-Ok.ensures.begun.past named sound_end

pub returns-in-Ok-clause-later : goal.returns-in-Ok-clause-later
returns-in-Ok-clause-later g c =
    let numbered : c.min-item.result ≡ length c.args.self.now.files.items = number c.min-item.result _ _ c.len.result c.len-2.result c.min-item.ensures c.len.ensures c.len-2.ensures (length-map c.args.self.now.files.items stored) c.requires.sound.sound.few in
    let x = c.in-Ok.file in
    let made = x.slot.calls in
    let print = held_by (reverse (entries_in (histories c.add.new.self.items) c.min-item.result)) in
    let small : c.args.handle < length c.args.self.now.table.items = omega (arith, c.requires.sound.sound.size, c.ranges.handle) in
    let named = subst (λ p. x.names ≡ named_by p c.args.start) c.requires.same c.in-Ok.ensures.begun.names_now in
    let tree : c.note_open.new.self.tree.entries ≡ c.args.self.now.tree.entries ++ in_tree c.args.by (opened_kind (is_create c.args.start) c.args.own c.min-item.result print) ∷ [] =
    c.note_open.ensures.tree ∙ ap (λ b. c.args.self.now.tree.entries ++ in_tree c.args.by (opened_kind b c.args.own c.min-item.result print) ∷ []) c.creates-created.ensures in
    let limit : c.note_open.new.self.files.limit ≡ c.args.self.now.files.limit = ap (λ (f : Shelf). f.limit) c.note_open.ensures.files ∙ c.add.ensures.limit in
    let paths : c.note_open.new.self.paths.paths ≡ c.args.self.now.paths.paths ++ c.args.own ∷ [] = ap (λ (p : Numbered). p.paths) c.note_open.ensures.paths ∙ c.push.ensures ∙ ap (λ t. c.args.self.now.paths.paths ++ t ∷ []) c.requires.text in
    let items : c.note_open.new.self.files.items ≡ c.args.self.now.files.items ++ x ∷ [] = ap (λ (f : Shelf). f.items) c.note_open.ensures.files ∙ c.add.ensures.items in
    let sound_end = subst (λ l. IsSoundItem g.F.CacheFile.tells l c.min-item.result x) c.limit-limit.ensures c.in-Ok.ensures.begun.sound in
    new_later g.O.Object.print_of g.F.CacheFile.tells c.args.self.now c.note_open.new.self c.args.handle c.min-item.result made c.args.by c.args.own c.args.access c.args.start print c.requires.sound small c.requires.closed c.requires.actor c.requires.pass c.requires.later
    tree c.note_open.ensures.limit limit c.note_open.ensures.table x numbered c.requires.absent c.requires.may paths items c.in-Ok.ensures.begun.past named sound_end

pub returns-in-Ok-clause-tree : goal.returns-in-Ok-clause-tree
returns-in-Ok-clause-tree g c =
    let numbered : c.min-item.result ≡ length c.args.self.now.files.items = number c.min-item.result _ _ c.len.result c.len-2.result c.min-item.ensures c.len.ensures c.len-2.ensures (length-map c.args.self.now.files.items stored) c.requires.sound.sound.few in
    let x = c.in-Ok.file in
    let made = x.slot.calls in
    let print = held_by (reverse (entries_in (histories c.add.new.self.items) c.min-item.result)) in
    let small : c.args.handle < length c.args.self.now.table.items = omega (arith, c.requires.sound.sound.size, c.ranges.handle) in
    let named = subst (λ p. x.names ≡ named_by p c.args.start) c.requires.same c.in-Ok.ensures.begun.names_now in
    let tree : c.note_open.new.self.tree.entries ≡ c.args.self.now.tree.entries ++ in_tree c.args.by (opened_kind (is_create c.args.start) c.args.own c.min-item.result print) ∷ [] =
    c.note_open.ensures.tree ∙ ap (λ b. c.args.self.now.tree.entries ++ in_tree c.args.by (opened_kind b c.args.own c.min-item.result print) ∷ []) c.creates-created.ensures in
    let limit : c.note_open.new.self.files.limit ≡ c.args.self.now.files.limit = ap (λ (f : Shelf). f.limit) c.note_open.ensures.files ∙ c.add.ensures.limit in
    let paths : c.note_open.new.self.paths.paths ≡ c.args.self.now.paths.paths ++ c.args.own ∷ [] = ap (λ (p : Numbered). p.paths) c.note_open.ensures.paths ∙ c.push.ensures ∙ ap (λ t. c.args.self.now.paths.paths ++ t ∷ []) c.requires.text in
    let items : c.note_open.new.self.files.items ≡ c.args.self.now.files.items ++ x ∷ [] = ap (λ (f : Shelf). f.items) c.note_open.ensures.files ∙ c.add.ensures.items in
    let sound_end = subst (λ l. IsSoundItem g.F.CacheFile.tells l c.min-item.result x) c.limit-limit.ensures c.in-Ok.ensures.begun.sound in
    let held = new_held g.O.Object.print_of g.F.CacheFile.tells c.args.self.now c.note_open.new.self c.args.handle c.min-item.result made c.args.by c.args.own c.args.access c.args.start print c.requires.sound small c.requires.closed c.requires.actor c.requires.pass c.requires.later
    tree c.note_open.ensures.limit limit c.note_open.ensures.table x numbered c.requires.absent c.requires.may paths items c.in-Ok.ensures.begun.past named sound_end (ap (λ (f : Shelf). held_by (reverse (entries_in (histories f.items) c.min-item.result))) (sym c.note_open.ensures.files)) in
    rw (sym numbered) (print, tree, held)

pub returns-in-Ok-clause-in_file : goal.returns-in-Ok-clause-in_file
returns-in-Ok-clause-in_file g c =
    let numbered : c.min-item.result ≡ length c.args.self.now.files.items = number c.min-item.result _ _ c.len.result c.len-2.result c.min-item.ensures c.len.ensures c.len-2.ensures (length-map c.args.self.now.files.items stored) c.requires.sound.sound.few in
    let x = c.in-Ok.file in
    let made = x.slot.calls in
    let print = held_by (reverse (entries_in (histories c.add.new.self.items) c.min-item.result)) in
    let small : c.args.handle < length c.args.self.now.table.items = omega (arith, c.requires.sound.sound.size, c.ranges.handle) in
    let named = subst (λ p. x.names ≡ named_by p c.args.start) c.requires.same c.in-Ok.ensures.begun.names_now in
    let tree : c.note_open.new.self.tree.entries ≡ c.args.self.now.tree.entries ++ in_tree c.args.by (opened_kind (is_create c.args.start) c.args.own c.min-item.result print) ∷ [] =
    c.note_open.ensures.tree ∙ ap (λ b. c.args.self.now.tree.entries ++ in_tree c.args.by (opened_kind b c.args.own c.min-item.result print) ∷ []) c.creates-created.ensures in
    let limit : c.note_open.new.self.files.limit ≡ c.args.self.now.files.limit = ap (λ (f : Shelf). f.limit) c.note_open.ensures.files ∙ c.add.ensures.limit in
    let paths : c.note_open.new.self.paths.paths ≡ c.args.self.now.paths.paths ++ c.args.own ∷ [] = ap (λ (p : Numbered). p.paths) c.note_open.ensures.paths ∙ c.push.ensures ∙ ap (λ t. c.args.self.now.paths.paths ++ t ∷ []) c.requires.text in
    let items : c.note_open.new.self.files.items ≡ c.args.self.now.files.items ++ x ∷ [] = ap (λ (f : Shelf). f.items) c.note_open.ensures.files ∙ c.add.ensures.items in
    let sound_end = subst (λ l. IsSoundItem g.F.CacheFile.tells l c.min-item.result x) c.limit-limit.ensures c.in-Ok.ensures.begun.sound in
    rw (sym numbered) (c.note_open.ensures.in_file ∙ ap (λ n. Some (record { 0 = c.min-item.result }, n)) (ap (λ (f : Shelf). length (entries_in (histories f.items) c.min-item.result) - 1) (sym c.note_open.ensures.files) ∙ new_end g.O.Object.print_of g.F.CacheFile.tells c.args.self.now c.note_open.new.self c.args.handle c.min-item.result made c.args.by c.args.own c.args.access c.args.start print c.requires.sound small c.requires.closed c.requires.actor c.requires.pass c.requires.later
    tree c.note_open.ensures.limit limit c.note_open.ensures.table x numbered c.requires.absent c.requires.may paths items c.in-Ok.ensures.begun.past named sound_end))

pub add-requires-clause-owed : goal.add-requires-clause-owed
add-requires-clause-owed g c = ap is_owed (c.in-Ok.ensures.begun.past ∙ sym (append-nil _)) ∙ start_owed g.O.Object.print_of c.args.by c.args.access c.in-Ok.file.slot.calls c.args.start [] c.requires.may
