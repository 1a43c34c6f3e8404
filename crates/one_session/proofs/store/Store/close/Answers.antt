use Rattle.std.proofs.Common.{◌∙◌, ◌++◌, ap, sym, refl, ◌≡◌, ◌<◌, Some, length, arith, reverse}
use Rattle.item_core.specs.History.{is_dirty}
use Rattle.session_text.specs.declared.reply.Reply.TheVariants.{Done}
use Rattle.one_session.specs.Served.{Knows}
use Rattle.one_session.specs.Standing.{recorded}
use Rattle.one_session.specs.State.{entries_in, file_at}
use Rattle.one_session.specs.Views.{histories}
use Rattle.one_session.proofs.Closes.{shut_count, shut_did, shut_given, shut_items, shut_later, shut_parts, shut_placed, shut_settled}
use Rattle.one_session.proofs.Handles.{handle_inside, handle_ready}
use Rattle.one_session.proofs.Shelves.{item_past}
use Rattle.one_session.proofs.Waiting.{news_done}
use Rattle.one_session.proofs.store.Store.close.Goals as goal

pub close_handle-requires-clause-open : goal.close_handle-requires-clause-open
close_handle-requires-clause-open g c = let at : file_at c.args.self.now.table.items c.args.handle ≡ Some c.in-Some.opened = sym c.file_of.ensures ∙ c.in-Some.is in
    handle_ready g.F.CacheFile.tells c.args.self.now c.args.handle c.in-Some.opened c.args.by.pass c.requires.sound at c.requires.pass

pub returns-clause-sound : goal.returns-clause-sound
returns-clause-sound g c = let at : file_at c.args.self.now.table.items c.args.handle ≡ Some c.in-Some.opened = sym c.file_of.ensures ∙ c.in-Some.is in
    let lt : c.in-Some.opened.item < length c.args.self.now.files.items = handle_inside g.F.CacheFile.tells c.args.self.now c.args.handle c.in-Some.opened c.requires.sound at in
    let small : c.args.handle < length c.args.self.now.table.items = omega (arith, c.requires.sound.sound.size, c.ranges.handle) in
    let was : c.in-Ok.dirty ≡ is_dirty (reverse (entries_in (histories c.args.self.now.files.items) c.in-Some.opened.item)) = c.in-Ok.ensures.dirty ∙ ap is_dirty (sym (item_past c.args.self.now.files.items c.in-Some.opened.item lt)) in record {
      sound = shut_parts g.F.CacheFile.tells c.args.self.now c.close_handle.new.self.items c.push.new.self.entries c.args.handle c.in-Some.opened c.args.by c.in-Ok.dirty c.requires.sound at small c.requires.actor c.requires.pass c.requires.later was c.push.ensures.entries c.in-Ok.ensures.one c.in-Ok.ensures.did;
      limit = c.push.ensures.limit ∙ c.requires.sound.limit ∙ sym c.close_handle.ensures.limit;
      items = shut_items g.F.CacheFile.tells c.args.self.now c.close_handle.new.self.items c.push.new.self.entries c.args.handle c.in-Some.opened c.args.by c.in-Ok.dirty c.requires.sound at small c.requires.actor c.requires.pass c.requires.later was c.push.ensures.entries c.in-Ok.ensures.one c.in-Ok.ensures.did c.close_handle.new.self.limit c.close_handle.ensures.limit;
      settled = shut_settled g.F.CacheFile.tells c.args.self.now c.close_handle.new.self.items c.push.new.self.entries c.args.handle c.in-Some.opened c.args.by c.in-Ok.dirty c.requires.sound at small c.requires.actor c.requires.pass c.requires.later was c.push.ensures.entries c.in-Ok.ensures.one c.in-Ok.ensures.did;
    }

pub returns-clause-count : goal.returns-clause-count
returns-clause-count g c = let at : file_at c.args.self.now.table.items c.args.handle ≡ Some c.in-Some.opened = sym c.file_of.ensures ∙ c.in-Some.is in
    let lt : c.in-Some.opened.item < length c.args.self.now.files.items = handle_inside g.F.CacheFile.tells c.args.self.now c.args.handle c.in-Some.opened c.requires.sound at in
    let small : c.args.handle < length c.args.self.now.table.items = omega (arith, c.requires.sound.sound.size, c.ranges.handle) in
    let was : c.in-Ok.dirty ≡ is_dirty (reverse (entries_in (histories c.args.self.now.files.items) c.in-Some.opened.item)) = c.in-Ok.ensures.dirty ∙ ap is_dirty (sym (item_past c.args.self.now.files.items c.in-Some.opened.item lt)) in
    shut_count g.F.CacheFile.tells c.args.self.now c.close_handle.new.self.items c.push.new.self.entries c.args.handle c.in-Some.opened c.args.by c.in-Ok.dirty c.requires.sound at small c.requires.actor c.requires.pass c.requires.later was c.push.ensures.entries c.in-Ok.ensures.one c.in-Ok.ensures.did

pub returns-clause-later : goal.returns-clause-later
returns-clause-later g c = let at : file_at c.args.self.now.table.items c.args.handle ≡ Some c.in-Some.opened = sym c.file_of.ensures ∙ c.in-Some.is in
    let lt : c.in-Some.opened.item < length c.args.self.now.files.items = handle_inside g.F.CacheFile.tells c.args.self.now c.args.handle c.in-Some.opened c.requires.sound at in
    let small : c.args.handle < length c.args.self.now.table.items = omega (arith, c.requires.sound.sound.size, c.ranges.handle) in
    let was : c.in-Ok.dirty ≡ is_dirty (reverse (entries_in (histories c.args.self.now.files.items) c.in-Some.opened.item)) = c.in-Ok.ensures.dirty ∙ ap is_dirty (sym (item_past c.args.self.now.files.items c.in-Some.opened.item lt)) in
    shut_later g.F.CacheFile.tells c.args.self.now c.close_handle.new.self.items c.push.new.self.entries c.args.handle c.in-Some.opened c.args.by c.in-Ok.dirty c.requires.sound at small c.requires.actor c.requires.pass c.requires.later was c.push.ensures.entries c.in-Ok.ensures.one c.in-Ok.ensures.did

pub returns-clause-did : goal.returns-clause-did
returns-clause-did g c = λ handed given line. let at : file_at c.args.self.now.table.items c.args.handle ≡ Some c.in-Some.opened = sym c.file_of.ensures ∙ c.in-Some.is in
    let lt : c.in-Some.opened.item < length c.args.self.now.files.items = handle_inside g.F.CacheFile.tells c.args.self.now c.args.handle c.in-Some.opened c.requires.sound at in
    let small : c.args.handle < length c.args.self.now.table.items = omega (arith, c.requires.sound.sound.size, c.ranges.handle) in
    let was : c.in-Ok.dirty ≡ is_dirty (reverse (entries_in (histories c.args.self.now.files.items) c.in-Some.opened.item)) = c.in-Ok.ensures.dirty ∙ ap is_dirty (sym (item_past c.args.self.now.files.items c.in-Some.opened.item lt)) in
    shut_did g.F.CacheFile.tells c.args.self.now c.close_handle.new.self.items c.push.new.self.entries c.args.handle c.in-Some.opened c.args.by c.in-Ok.dirty c.requires.sound at small c.requires.actor c.requires.pass c.requires.later was c.push.ensures.entries c.in-Ok.ensures.one c.in-Ok.ensures.did (recorded line (record { reply = Done; tree = Some c.len-in_tree.result; file = Some (record { 0 = c.in-Some.opened.item }, c.end-in_file.result) })) c.len-in_tree.result c.end-in_file.result refl refl refl c.len-in_tree.ensures c.end-in_file.ensures c.close_handle.new.self.limit c.close_handle.ensures.limit c.close_handle.new.self.queue.entries c.close_handle.new.self.queue.terms (Knows g.F.CacheFile.tells g.O.Object.tells handed)

pub returns-clause-given : goal.returns-clause-given
returns-clause-given g c = let at : file_at c.args.self.now.table.items c.args.handle ≡ Some c.in-Some.opened = sym c.file_of.ensures ∙ c.in-Some.is in
    let lt : c.in-Some.opened.item < length c.args.self.now.files.items = handle_inside g.F.CacheFile.tells c.args.self.now c.args.handle c.in-Some.opened c.requires.sound at in
    let small : c.args.handle < length c.args.self.now.table.items = omega (arith, c.requires.sound.sound.size, c.ranges.handle) in
    let was : c.in-Ok.dirty ≡ is_dirty (reverse (entries_in (histories c.args.self.now.files.items) c.in-Some.opened.item)) = c.in-Ok.ensures.dirty ∙ ap is_dirty (sym (item_past c.args.self.now.files.items c.in-Some.opened.item lt)) in
    shut_given g.F.CacheFile.tells c.args.self.now c.close_handle.new.self.items c.push.new.self.entries c.args.handle c.in-Some.opened c.args.by c.in-Ok.dirty c.requires.sound at small c.requires.actor c.requires.pass c.requires.later was c.push.ensures.entries c.in-Ok.ensures.one c.in-Ok.ensures.did

pub returns-clause-stepped : goal.returns-clause-stepped
returns-clause-stepped g c = λ plan line. let at : file_at c.args.self.now.table.items c.args.handle ≡ Some c.in-Some.opened = sym c.file_of.ensures ∙ c.in-Some.is in
    let lt : c.in-Some.opened.item < length c.args.self.now.files.items = handle_inside g.F.CacheFile.tells c.args.self.now c.args.handle c.in-Some.opened c.requires.sound at in
    let small : c.args.handle < length c.args.self.now.table.items = omega (arith, c.requires.sound.sound.size, c.ranges.handle) in
    let was : c.in-Ok.dirty ≡ is_dirty (reverse (entries_in (histories c.args.self.now.files.items) c.in-Some.opened.item)) = c.in-Ok.ensures.dirty ∙ ap is_dirty (sym (item_past c.args.self.now.files.items c.in-Some.opened.item lt)) in
    (shut_placed g.F.CacheFile.tells c.args.self.now c.close_handle.new.self.items c.push.new.self.entries c.args.handle c.in-Some.opened c.args.by c.in-Ok.dirty c.requires.sound at small c.requires.actor c.requires.pass c.requires.later was c.push.ensures.entries c.in-Ok.ensures.one c.in-Ok.ensures.did (recorded line (record { reply = Done; tree = Some c.len-in_tree.result; file = Some (record { 0 = c.in-Some.opened.item }, c.end-in_file.result) })) c.len-in_tree.result c.end-in_file.result refl refl refl c.len-in_tree.ensures c.end-in_file.ensures c.args.self.now.files.items, tt)

pub returns-clause-queued : goal.returns-clause-queued
returns-clause-queued g c = λ line. c.in-Ok.ensures.queue ∙ ap (λ l. c.args.self.now.files.queue.entries ++ l) (sym (news_done c.args.self.now.files.queue.terms.write_back c.args.by Done (Some (record { 0 = c.in-Some.opened.item }, c.end-in_file.result)) c.in-Some.opened.item c.end-in_file.result
    (record { before = c.args.self.now.files.items; after = c.close_handle.new.self.items }) refl refl))
