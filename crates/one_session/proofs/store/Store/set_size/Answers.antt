use Rattle.std.proofs.Common.{◌∙◌, ◌++◌, ap, sym, refl, ◌≡◌, ◌<◌, Some, Err}
use Rattle.vfs_names.specs.declared.refusal.Verb.TheVariants as verb
use Rattle.vfs_names.specs.declared.refusal.Refusal.{Refusal}
use Rattle.vfs_names.specs.declared.refusal.Refusal.TheVariants as refusals
use Rattle.item_core.specs.declared.entry.FileKind.TheVariants as file
use Rattle.session_script.specs.declared.call.Call.TheVariants as call
use Rattle.session_text.specs.declared.reply.Reply.TheVariants as reply
use Rattle.one_session.proofs.Doing.{size_done, size_refused}
use Rattle.one_session.specs.Served.{Knows}
use Rattle.one_session.specs.State.{file_at, item_at, item_in}
use Rattle.one_session.specs.Standing.{recorded}
use Rattle.one_session.proofs.Changes.{one_caused, one_entered, one_later, one_placed, one_sound, refusal_caused, refusal_did, refusal_later, refusal_placed, refusal_sound, size_calm, size_silent, sized_caused}
use Rattle.one_session.proofs.Handles.{handle_full, handle_kept, handle_ready, same_count, same_given}
use Rattle.one_session.proofs.Waiting.{enters_nothing, news_refused, news_done}
use Rattle.one_session.proofs.store.Store.set_size.Goals as goal

pub set_size-requires-clause-open : goal.set_size-requires-clause-open
set_size-requires-clause-open g c = let at : file_at c.args.self.now.table.items c.args.handle ≡ Some c.in-Some.opened = sym c.file_of.ensures ∙ c.in-Some.is in
    handle_ready g.F.CacheFile.tells c.args.self.now c.args.handle c.in-Some.opened c.args.by.pass c.requires.sound at c.requires.pass

pub set_size-requires-clause-kept : goal.set_size-requires-clause-kept
set_size-requires-clause-kept g c = let at : file_at c.args.self.now.table.items c.args.handle ≡ Some c.in-Some.opened = sym c.file_of.ensures ∙ c.in-Some.is in
    handle_kept g.F.CacheFile.tells c.args.self.now c.args.handle c.in-Some.opened c.requires.sound at

pub returns-in-Ok-clause-sound : goal.returns-in-Ok-clause-sound
returns-in-Ok-clause-sound g c = let at : file_at c.args.self.now.table.items c.args.handle ≡ Some c.in-Some.opened = sym c.file_of.ensures ∙ c.in-Some.is in
    one_sound g.F.CacheFile.tells c.args.self.now (record c.args.self.now { files = c.set_size.new.self }) c.args.handle c.end-place.result c.in-Some.opened c.args.by (recorded 0 c.of_file.result) c.requires.sound at c.requires.actor c.requires.pass c.requires.later refl refl refl c.set_size.ensures.limit c.set_size.ensures.one c.of_file.ensures.tree c.end-place.ensures c.set_size.ensures.did.same c.set_size.ensures.did.has_same (item_in c.set_size.new.self.items c.in-Some.opened.item).slot.calls (file.SetSize c.args.size) (size_calm c.args.size) c.in-Ok.ensures.did.ok c.of_file.ensures.file

pub returns-in-Ok-clause-count : goal.returns-in-Ok-clause-count
returns-in-Ok-clause-count g c = let at : file_at c.args.self.now.table.items c.args.handle ≡ Some c.in-Some.opened = sym c.file_of.ensures ∙ c.in-Some.is in
    same_count g.F.CacheFile.tells c.args.self.now (record c.args.self.now { files = c.set_size.new.self }) c.args.handle c.in-Some.opened c.args.by c.requires.sound at c.requires.later refl refl refl c.set_size.ensures.limit c.set_size.ensures.one c.set_size.ensures.did.same c.set_size.ensures.did.has_same

pub returns-in-Ok-clause-later : goal.returns-in-Ok-clause-later
returns-in-Ok-clause-later g c = let at : file_at c.args.self.now.table.items c.args.handle ≡ Some c.in-Some.opened = sym c.file_of.ensures ∙ c.in-Some.is in
    one_later g.F.CacheFile.tells c.args.self.now (record c.args.self.now { files = c.set_size.new.self }) c.args.handle c.end-place.result c.in-Some.opened c.args.by (recorded 0 c.of_file.result) c.requires.sound at c.requires.actor c.requires.pass c.requires.later refl refl refl c.set_size.ensures.limit c.set_size.ensures.one c.of_file.ensures.tree c.end-place.ensures c.set_size.ensures.did.same c.set_size.ensures.did.has_same (item_in c.set_size.new.self.items c.in-Some.opened.item).slot.calls (file.SetSize c.args.size) (size_calm c.args.size) c.in-Ok.ensures.did.ok c.of_file.ensures.file

pub returns-in-Ok-clause-did : goal.returns-in-Ok-clause-did
returns-in-Ok-clause-did g c = λ handed given line. let at : file_at c.args.self.now.table.items c.args.handle ≡ Some c.in-Some.opened = sym c.file_of.ensures ∙ c.in-Some.is in
    size_done (Knows g.F.CacheFile.tells g.O.Object.tells handed) c.args.by _ _ _ c.args.handle c.args.size c.end-place.result _ c.in-Some.opened (one_entered g.F.CacheFile.tells c.args.self.now (record c.args.self.now { files = c.set_size.new.self }) c.args.handle c.end-place.result c.in-Some.opened c.args.by (recorded line c.of_file.result) c.requires.sound at c.requires.actor c.requires.pass c.requires.later refl refl refl c.set_size.ensures.limit c.set_size.ensures.one c.of_file.ensures.tree c.end-place.ensures c.set_size.ensures.did.same c.set_size.ensures.did.has_same (item_in c.set_size.new.self.items c.in-Some.opened.item).slot.calls (file.SetSize c.args.size) (size_calm c.args.size) c.in-Ok.ensures.did.ok c.of_file.ensures.file) c.of_file.ensures.reply

pub returns-in-Ok-clause-given : goal.returns-in-Ok-clause-given
returns-in-Ok-clause-given g c = let at : file_at c.args.self.now.table.items c.args.handle ≡ Some c.in-Some.opened = sym c.file_of.ensures ∙ c.in-Some.is in
    same_given g.F.CacheFile.tells c.args.self.now (record c.args.self.now { files = c.set_size.new.self }) c.args.handle c.in-Some.opened c.args.by c.requires.sound at c.requires.later refl refl refl c.set_size.ensures.limit c.set_size.ensures.one c.set_size.ensures.did.same c.set_size.ensures.did.has_same

pub returns-in-Ok-clause-stepped : goal.returns-in-Ok-clause-stepped
returns-in-Ok-clause-stepped g c = λ plan line. let at : file_at c.args.self.now.table.items c.args.handle ≡ Some c.in-Some.opened = sym c.file_of.ensures ∙ c.in-Some.is in
    (one_placed g.F.CacheFile.tells c.args.self.now (record c.args.self.now { files = c.set_size.new.self }) c.args.handle c.end-place.result c.in-Some.opened c.args.by (recorded line c.of_file.result) c.requires.sound at c.requires.actor c.requires.pass c.requires.later refl refl refl c.set_size.ensures.limit c.set_size.ensures.one c.of_file.ensures.tree c.end-place.ensures c.set_size.ensures.did.same c.set_size.ensures.did.has_same (item_in c.set_size.new.self.items c.in-Some.opened.item).slot.calls (file.SetSize c.args.size) (size_calm c.args.size) c.in-Ok.ensures.did.ok c.of_file.ensures.file (call.Size c.args.handle c.args.size) refl, one_caused g.F.CacheFile.tells c.args.self.now (record c.args.self.now { files = c.set_size.new.self }) c.args.handle c.end-place.result c.in-Some.opened c.args.by (recorded line c.of_file.result) c.requires.sound at c.requires.actor c.requires.pass c.requires.later refl refl refl c.set_size.ensures.limit c.set_size.ensures.one c.of_file.ensures.tree c.end-place.ensures c.set_size.ensures.did.same c.set_size.ensures.did.has_same (item_in c.set_size.new.self.items c.in-Some.opened.item).slot.calls (file.SetSize c.args.size) (size_calm c.args.size) c.in-Ok.ensures.did.ok c.of_file.ensures.file (sized_caused c.of_file.result.reply (item_in c.args.self.now.files.items c.in-Some.opened.item) (item_in c.set_size.new.self.items c.in-Some.opened.item) c.of_file.ensures.reply))

pub returns-in-Err-clause-sound : goal.returns-in-Err-clause-sound
returns-in-Err-clause-sound g c = let at : file_at c.args.self.now.table.items c.args.handle ≡ Some c.in-Some.opened = sym c.file_of.ensures ∙ c.in-Some.is in
    refusal_sound g.F.CacheFile.tells c.args.self.now (record c.args.self.now { files = c.set_size.new.self }) c.args.handle c.end-place.result c.in-Some.opened c.args.by (recorded 0 c.of_refusal.result) c.requires.sound at c.requires.actor c.requires.pass c.requires.later refl refl refl c.set_size.ensures.limit c.set_size.ensures.one c.of_refusal.ensures.tree c.end-place.ensures c.set_size.ensures.did.same c.set_size.ensures.did.has_same (call.Size c.args.handle c.args.size) verb.Size c.in-Err.why c.in-Err.ensures.did.err c.in-Err.ensures.did.causes c.of_refusal.ensures.reply c.of_refusal.ensures.file

pub returns-in-Err-clause-count : goal.returns-in-Err-clause-count
returns-in-Err-clause-count g c = let at : file_at c.args.self.now.table.items c.args.handle ≡ Some c.in-Some.opened = sym c.file_of.ensures ∙ c.in-Some.is in
    same_count g.F.CacheFile.tells c.args.self.now (record c.args.self.now { files = c.set_size.new.self }) c.args.handle c.in-Some.opened c.args.by c.requires.sound at c.requires.later refl refl refl c.set_size.ensures.limit c.set_size.ensures.one c.set_size.ensures.did.same c.set_size.ensures.did.has_same

pub returns-in-Err-clause-later : goal.returns-in-Err-clause-later
returns-in-Err-clause-later g c = let at : file_at c.args.self.now.table.items c.args.handle ≡ Some c.in-Some.opened = sym c.file_of.ensures ∙ c.in-Some.is in
    refusal_later g.F.CacheFile.tells c.args.self.now (record c.args.self.now { files = c.set_size.new.self }) c.args.handle c.end-place.result c.in-Some.opened c.args.by (recorded 0 c.of_refusal.result) c.requires.sound at c.requires.actor c.requires.pass c.requires.later refl refl refl c.set_size.ensures.limit c.set_size.ensures.one c.of_refusal.ensures.tree c.end-place.ensures c.set_size.ensures.did.same c.set_size.ensures.did.has_same (call.Size c.args.handle c.args.size) verb.Size c.in-Err.why c.in-Err.ensures.did.err c.in-Err.ensures.did.causes c.of_refusal.ensures.reply c.of_refusal.ensures.file

pub returns-in-Err-clause-did : goal.returns-in-Err-clause-did
returns-in-Err-clause-did g c = λ handed given line. let at : file_at c.args.self.now.table.items c.args.handle ≡ Some c.in-Some.opened = sym c.file_of.ensures ∙ c.in-Some.is in
    refusal_did g.F.CacheFile.tells c.args.self.now (record c.args.self.now { files = c.set_size.new.self }) c.args.handle c.end-place.result c.in-Some.opened c.args.by (recorded line c.of_refusal.result) c.requires.sound at c.requires.actor c.requires.pass c.requires.later refl refl refl c.set_size.ensures.limit c.set_size.ensures.one c.of_refusal.ensures.tree c.end-place.ensures c.set_size.ensures.did.same c.set_size.ensures.did.has_same (call.Size c.args.handle c.args.size) verb.Size c.in-Err.why c.in-Err.ensures.did.err c.in-Err.ensures.did.causes c.of_refusal.ensures.reply c.of_refusal.ensures.file (Knows g.F.CacheFile.tells g.O.Object.tells handed) (λ none w. size_silent (file_at c.args.self.now.table.items c.args.handle) c.in-Some.opened c.args.size (recorded line c.of_refusal.result) c.in-Err.why at c.of_refusal.ensures.reply c.of_refusal.ensures.tree none (λ e. c.in-Err.ensures.did.big (ap Err e)) w)
    (λ e. (c.in-Some.opened.item, ap item_at at, handle_full g.F.CacheFile.tells c.args.self.now c.args.handle c.in-Some.opened c.requires.sound at (c.in-Err.ensures.did.full (ap Err e)))) (λ e x. size_refused (Knows g.F.CacheFile.tells g.O.Object.tells handed) c.args.by _ _ _ c.args.handle c.args.size c.end-place.result _ c.in-Some.opened e x)

pub returns-in-Err-clause-given : goal.returns-in-Err-clause-given
returns-in-Err-clause-given g c = let at : file_at c.args.self.now.table.items c.args.handle ≡ Some c.in-Some.opened = sym c.file_of.ensures ∙ c.in-Some.is in
    same_given g.F.CacheFile.tells c.args.self.now (record c.args.self.now { files = c.set_size.new.self }) c.args.handle c.in-Some.opened c.args.by c.requires.sound at c.requires.later refl refl refl c.set_size.ensures.limit c.set_size.ensures.one c.set_size.ensures.did.same c.set_size.ensures.did.has_same

pub returns-in-Err-clause-stepped : goal.returns-in-Err-clause-stepped
returns-in-Err-clause-stepped g c = λ plan line. let at : file_at c.args.self.now.table.items c.args.handle ≡ Some c.in-Some.opened = sym c.file_of.ensures ∙ c.in-Some.is in
    (refusal_placed g.F.CacheFile.tells c.args.self.now (record c.args.self.now { files = c.set_size.new.self }) c.args.handle c.end-place.result c.in-Some.opened c.args.by (recorded line c.of_refusal.result) c.requires.sound at c.requires.actor c.requires.pass c.requires.later refl refl refl c.set_size.ensures.limit c.set_size.ensures.one c.of_refusal.ensures.tree c.end-place.ensures c.set_size.ensures.did.same c.set_size.ensures.did.has_same (call.Size c.args.handle c.args.size) verb.Size c.in-Err.why c.in-Err.ensures.did.err c.in-Err.ensures.did.causes c.of_refusal.ensures.reply c.of_refusal.ensures.file refl, refusal_caused g.F.CacheFile.tells c.args.self.now (record c.args.self.now { files = c.set_size.new.self }) c.args.handle c.end-place.result c.in-Some.opened c.args.by (recorded line c.of_refusal.result) c.requires.sound at c.requires.actor c.requires.pass c.requires.later refl refl refl c.set_size.ensures.limit c.set_size.ensures.one c.of_refusal.ensures.tree c.end-place.ensures c.set_size.ensures.did.same c.set_size.ensures.did.has_same (call.Size c.args.handle c.args.size) verb.Size c.in-Err.why c.in-Err.ensures.did.err c.in-Err.ensures.did.causes c.of_refusal.ensures.reply c.of_refusal.ensures.file)

pub returns-in-Ok-clause-queued : goal.returns-in-Ok-clause-queued
returns-in-Ok-clause-queued g c = λ line. c.in-Ok.ensures.queue ∙ ap (λ l. c.args.self.now.files.queue.entries ++ l) (sym (news_done c.args.self.now.files.queue.terms.write_back c.args.by c.of_file.result.reply c.of_file.result.file c.in-Some.opened.item c.end-place.result
    (record { before = c.args.self.now.files.items; after = c.set_size.new.self.items }) c.of_file.ensures.reply c.of_file.ensures.file))

pub returns-in-Err-clause-queued : goal.returns-in-Err-clause-queued
returns-in-Err-clause-queued g c = λ line. enters_nothing _ _ _ c.in-Err.ensures.still
    (news_refused c.args.self.now.files.queue.terms.write_back c.args.by c.of_refusal.result.reply c.of_refusal.result.file c.in-Err.why (record { before = c.args.self.now.files.items; after = c.set_size.new.self.items }) c.of_refusal.ensures.reply)
