use Rattle.std.proofs.Common.{◌∙◌, ◌++◌, ap, sym, refl, subst, ◌≡◌, Some, Err}
use Rattle.vfs_names.specs.Payload.{payload_len}
use Rattle.vfs_names.specs.declared.refusal.Verb.TheVariants as verb
use Rattle.item_core.specs.declared.entry.FileKind.TheVariants as file
use Rattle.session_script.specs.declared.call.Call.TheVariants as call
use Rattle.session_text.specs.declared.reply.Reply.TheVariants as reply
use Rattle.sparse_item.specs.Answers.{IsTooFar, save_of}
use Rattle.one_session.proofs.Doing.{write_done, write_refused}
use Rattle.one_session.specs.Served.{Knows}
use Rattle.one_session.specs.State.{file_at, item_at, item_in}
use Rattle.one_session.specs.Standing.{recorded}
use Rattle.one_session.proofs.Changes.{one_caused, one_entered, one_later, one_placed, one_sound, refusal_caused, refusal_did, refusal_later, refusal_placed, refusal_sound, unwrote_took, write_calm, write_silent, wrote_caused, wrote_took}
use Rattle.one_session.proofs.Handles.{handle_full, handle_ready, same_count, same_given}
use Rattle.one_session.proofs.Waiting.{enters_nothing, news_refused, news_wrote}
use Rattle.one_session.proofs.store.Store.write.Goals as goal

pub write-requires-clause-open : goal.write-requires-clause-open
write-requires-clause-open g c = let at : file_at c.args.self.now.table.items c.args.handle ≡ Some c.in-Some.opened = sym c.file_of.ensures ∙ c.in-Some.is in
    handle_ready g.F.CacheFile.tells c.args.self.now c.args.handle c.in-Some.opened c.args.by.pass c.requires.sound at c.requires.pass

pub returns-in-Ok-write-clause-sound : goal.returns-in-Ok-write-clause-sound
returns-in-Ok-write-clause-sound g c = let at : file_at c.args.self.now.table.items c.args.handle ≡ Some c.in-Some.opened = sym c.file_of.ensures ∙ c.in-Some.is in
    one_sound g.F.CacheFile.tells c.args.self.now (record c.args.self.now { files = c.write.new.self }) c.args.handle c.end-place.result c.in-Some.opened c.args.by (recorded 0 c.of_file.result) c.requires.sound at c.requires.actor c.requires.pass c.requires.later refl refl refl c.write.ensures.limit c.write.ensures.one c.of_file.ensures.tree c.end-place.ensures c.write.ensures.did.same c.write.ensures.did.has_same (save_of (item_in c.args.self.now.files.items c.in-Some.opened.item) c.args.payload.now) (file.Write c.args.pos c.args.payload.now) (write_calm c.args.pos c.args.payload.now) (rw c.in-Ok.ensures at c.in-Ok-write.ensures.did.ok) c.of_file.ensures.file

pub returns-in-Ok-write-clause-count : goal.returns-in-Ok-write-clause-count
returns-in-Ok-write-clause-count g c = let at : file_at c.args.self.now.table.items c.args.handle ≡ Some c.in-Some.opened = sym c.file_of.ensures ∙ c.in-Some.is in
    same_count g.F.CacheFile.tells c.args.self.now (record c.args.self.now { files = c.write.new.self }) c.args.handle c.in-Some.opened c.args.by c.requires.sound at c.requires.later refl refl refl c.write.ensures.limit c.write.ensures.one c.write.ensures.did.same c.write.ensures.did.has_same

pub returns-in-Ok-write-clause-later : goal.returns-in-Ok-write-clause-later
returns-in-Ok-write-clause-later g c = let at : file_at c.args.self.now.table.items c.args.handle ≡ Some c.in-Some.opened = sym c.file_of.ensures ∙ c.in-Some.is in
    one_later g.F.CacheFile.tells c.args.self.now (record c.args.self.now { files = c.write.new.self }) c.args.handle c.end-place.result c.in-Some.opened c.args.by (recorded 0 c.of_file.result) c.requires.sound at c.requires.actor c.requires.pass c.requires.later refl refl refl c.write.ensures.limit c.write.ensures.one c.of_file.ensures.tree c.end-place.ensures c.write.ensures.did.same c.write.ensures.did.has_same (save_of (item_in c.args.self.now.files.items c.in-Some.opened.item) c.args.payload.now) (file.Write c.args.pos c.args.payload.now) (write_calm c.args.pos c.args.payload.now) (rw c.in-Ok.ensures at c.in-Ok-write.ensures.did.ok) c.of_file.ensures.file

pub returns-in-Ok-write-clause-did : goal.returns-in-Ok-write-clause-did
returns-in-Ok-write-clause-did g c = λ handed given line. let at : file_at c.args.self.now.table.items c.args.handle ≡ Some c.in-Some.opened = sym c.file_of.ensures ∙ c.in-Some.is in
    write_done (Knows g.F.CacheFile.tells g.O.Object.tells handed) c.args.by _ _ _ c.args.handle c.args.pos c.end-place.result _ c.in-Some.opened c.args.payload.now (one_entered g.F.CacheFile.tells c.args.self.now (record c.args.self.now { files = c.write.new.self }) c.args.handle c.end-place.result c.in-Some.opened c.args.by (recorded line c.of_file.result) c.requires.sound at c.requires.actor c.requires.pass c.requires.later refl refl refl c.write.ensures.limit c.write.ensures.one c.of_file.ensures.tree c.end-place.ensures c.write.ensures.did.same c.write.ensures.did.has_same (save_of (item_in c.args.self.now.files.items c.in-Some.opened.item) c.args.payload.now) (file.Write c.args.pos c.args.payload.now) (write_calm c.args.pos c.args.payload.now) (rw c.in-Ok.ensures at c.in-Ok-write.ensures.did.ok) c.of_file.ensures.file) (c.of_file.ensures.reply ∙ ap reply.Wrote (c.in-Ok-write.ensures.did.count ∙ ap payload_len c.in-Ok.ensures))

pub returns-in-Ok-write-clause-given : goal.returns-in-Ok-write-clause-given
returns-in-Ok-write-clause-given g c = let at : file_at c.args.self.now.table.items c.args.handle ≡ Some c.in-Some.opened = sym c.file_of.ensures ∙ c.in-Some.is in
    same_given g.F.CacheFile.tells c.args.self.now (record c.args.self.now { files = c.write.new.self }) c.args.handle c.in-Some.opened c.args.by c.requires.sound at c.requires.later refl refl refl c.write.ensures.limit c.write.ensures.one c.write.ensures.did.same c.write.ensures.did.has_same

pub returns-in-Ok-write-clause-stepped : goal.returns-in-Ok-write-clause-stepped
returns-in-Ok-write-clause-stepped g c = λ plan line. let at : file_at c.args.self.now.table.items c.args.handle ≡ Some c.in-Some.opened = sym c.file_of.ensures ∙ c.in-Some.is in
    (one_placed g.F.CacheFile.tells c.args.self.now (record c.args.self.now { files = c.write.new.self }) c.args.handle c.end-place.result c.in-Some.opened c.args.by (recorded line c.of_file.result) c.requires.sound at c.requires.actor c.requires.pass c.requires.later refl refl refl c.write.ensures.limit c.write.ensures.one c.of_file.ensures.tree c.end-place.ensures c.write.ensures.did.same c.write.ensures.did.has_same (save_of (item_in c.args.self.now.files.items c.in-Some.opened.item) c.args.payload.now) (file.Write c.args.pos c.args.payload.now) (write_calm c.args.pos c.args.payload.now) (rw c.in-Ok.ensures at c.in-Ok-write.ensures.did.ok) c.of_file.ensures.file (call.Write c.args.handle c.args.pos c.args.payload.now) (wrote_took c.args.handle c.args.pos c.in-Ok-write.n c.args.payload.now c.of_file.result.reply (item_in c.args.self.now.files.items c.in-Some.opened.item) (item_in c.write.new.self.items c.in-Some.opened.item) c.of_file.ensures.reply), one_caused g.F.CacheFile.tells c.args.self.now (record c.args.self.now { files = c.write.new.self }) c.args.handle c.end-place.result c.in-Some.opened c.args.by (recorded line c.of_file.result) c.requires.sound at c.requires.actor c.requires.pass c.requires.later refl refl refl c.write.ensures.limit c.write.ensures.one c.of_file.ensures.tree c.end-place.ensures c.write.ensures.did.same c.write.ensures.did.has_same (save_of (item_in c.args.self.now.files.items c.in-Some.opened.item) c.args.payload.now) (file.Write c.args.pos c.args.payload.now) (write_calm c.args.pos c.args.payload.now) (rw c.in-Ok.ensures at c.in-Ok-write.ensures.did.ok) c.of_file.ensures.file (wrote_caused c.in-Ok-write.n c.of_file.result.reply (item_in c.args.self.now.files.items c.in-Some.opened.item) (item_in c.write.new.self.items c.in-Some.opened.item) c.of_file.ensures.reply))

pub returns-in-Err-clause-sound : goal.returns-in-Err-clause-sound
returns-in-Err-clause-sound g c = let at : file_at c.args.self.now.table.items c.args.handle ≡ Some c.in-Some.opened = sym c.file_of.ensures ∙ c.in-Some.is in
    refusal_sound g.F.CacheFile.tells c.args.self.now (record c.args.self.now { files = c.write.new.self }) c.args.handle c.end-place.result c.in-Some.opened c.args.by (recorded 0 c.of_refusal.result) c.requires.sound at c.requires.actor c.requires.pass c.requires.later refl refl refl c.write.ensures.limit c.write.ensures.one c.of_refusal.ensures.tree c.end-place.ensures c.write.ensures.did.same c.write.ensures.did.has_same (call.Write c.args.handle c.args.pos c.args.payload.now) verb.Write c.in-Err.why c.in-Err.ensures.did.err c.in-Err.ensures.did.causes c.of_refusal.ensures.reply c.of_refusal.ensures.file

pub returns-in-Err-clause-count : goal.returns-in-Err-clause-count
returns-in-Err-clause-count g c = let at : file_at c.args.self.now.table.items c.args.handle ≡ Some c.in-Some.opened = sym c.file_of.ensures ∙ c.in-Some.is in
    same_count g.F.CacheFile.tells c.args.self.now (record c.args.self.now { files = c.write.new.self }) c.args.handle c.in-Some.opened c.args.by c.requires.sound at c.requires.later refl refl refl c.write.ensures.limit c.write.ensures.one c.write.ensures.did.same c.write.ensures.did.has_same

pub returns-in-Err-clause-later : goal.returns-in-Err-clause-later
returns-in-Err-clause-later g c = let at : file_at c.args.self.now.table.items c.args.handle ≡ Some c.in-Some.opened = sym c.file_of.ensures ∙ c.in-Some.is in
    refusal_later g.F.CacheFile.tells c.args.self.now (record c.args.self.now { files = c.write.new.self }) c.args.handle c.end-place.result c.in-Some.opened c.args.by (recorded 0 c.of_refusal.result) c.requires.sound at c.requires.actor c.requires.pass c.requires.later refl refl refl c.write.ensures.limit c.write.ensures.one c.of_refusal.ensures.tree c.end-place.ensures c.write.ensures.did.same c.write.ensures.did.has_same (call.Write c.args.handle c.args.pos c.args.payload.now) verb.Write c.in-Err.why c.in-Err.ensures.did.err c.in-Err.ensures.did.causes c.of_refusal.ensures.reply c.of_refusal.ensures.file

pub returns-in-Err-clause-did : goal.returns-in-Err-clause-did
returns-in-Err-clause-did g c = λ handed given line. let at : file_at c.args.self.now.table.items c.args.handle ≡ Some c.in-Some.opened = sym c.file_of.ensures ∙ c.in-Some.is in
    refusal_did g.F.CacheFile.tells c.args.self.now (record c.args.self.now { files = c.write.new.self }) c.args.handle c.end-place.result c.in-Some.opened c.args.by (recorded line c.of_refusal.result) c.requires.sound at c.requires.actor c.requires.pass c.requires.later refl refl refl c.write.ensures.limit c.write.ensures.one c.of_refusal.ensures.tree c.end-place.ensures c.write.ensures.did.same c.write.ensures.did.has_same (call.Write c.args.handle c.args.pos c.args.payload.now) verb.Write c.in-Err.why c.in-Err.ensures.did.err c.in-Err.ensures.did.causes c.of_refusal.ensures.reply c.of_refusal.ensures.file (Knows g.F.CacheFile.tells g.O.Object.tells handed) (λ none w. write_silent (file_at c.args.self.now.table.items c.args.handle) c.in-Some.opened c.args.pos c.args.payload.now (recorded line c.of_refusal.result) c.in-Err.why at c.of_refusal.ensures.reply c.of_refusal.ensures.tree none (λ e. subst (λ p. IsTooFar c.args.pos (payload_len p)) c.in-Ok.ensures (c.in-Err.ensures.did.big (ap Err e))) w)
    (λ e. (c.in-Some.opened.item, ap item_at at, handle_full g.F.CacheFile.tells c.args.self.now c.args.handle c.in-Some.opened c.requires.sound at (c.in-Err.ensures.did.full (ap Err e)))) (λ e x. write_refused (Knows g.F.CacheFile.tells g.O.Object.tells handed) c.args.by _ _ _ c.args.handle c.args.pos c.end-place.result _ c.in-Some.opened c.args.payload.now e x)

pub returns-in-Err-clause-given : goal.returns-in-Err-clause-given
returns-in-Err-clause-given g c = let at : file_at c.args.self.now.table.items c.args.handle ≡ Some c.in-Some.opened = sym c.file_of.ensures ∙ c.in-Some.is in
    same_given g.F.CacheFile.tells c.args.self.now (record c.args.self.now { files = c.write.new.self }) c.args.handle c.in-Some.opened c.args.by c.requires.sound at c.requires.later refl refl refl c.write.ensures.limit c.write.ensures.one c.write.ensures.did.same c.write.ensures.did.has_same

pub returns-in-Err-clause-stepped : goal.returns-in-Err-clause-stepped
returns-in-Err-clause-stepped g c = λ plan line. let at : file_at c.args.self.now.table.items c.args.handle ≡ Some c.in-Some.opened = sym c.file_of.ensures ∙ c.in-Some.is in
    (refusal_placed g.F.CacheFile.tells c.args.self.now (record c.args.self.now { files = c.write.new.self }) c.args.handle c.end-place.result c.in-Some.opened c.args.by (recorded line c.of_refusal.result) c.requires.sound at c.requires.actor c.requires.pass c.requires.later refl refl refl c.write.ensures.limit c.write.ensures.one c.of_refusal.ensures.tree c.end-place.ensures c.write.ensures.did.same c.write.ensures.did.has_same (call.Write c.args.handle c.args.pos c.args.payload.now) verb.Write c.in-Err.why c.in-Err.ensures.did.err c.in-Err.ensures.did.causes c.of_refusal.ensures.reply c.of_refusal.ensures.file (unwrote_took c.args.handle c.args.pos c.args.payload.now c.of_refusal.result.reply c.in-Err.why (item_in c.args.self.now.files.items c.in-Some.opened.item) (item_in c.write.new.self.items c.in-Some.opened.item) c.of_refusal.ensures.reply), refusal_caused g.F.CacheFile.tells c.args.self.now (record c.args.self.now { files = c.write.new.self }) c.args.handle c.end-place.result c.in-Some.opened c.args.by (recorded line c.of_refusal.result) c.requires.sound at c.requires.actor c.requires.pass c.requires.later refl refl refl c.write.ensures.limit c.write.ensures.one c.of_refusal.ensures.tree c.end-place.ensures c.write.ensures.did.same c.write.ensures.did.has_same (call.Write c.args.handle c.args.pos c.args.payload.now) verb.Write c.in-Err.why c.in-Err.ensures.did.err c.in-Err.ensures.did.causes c.of_refusal.ensures.reply c.of_refusal.ensures.file)

pub returns-in-Ok-write-clause-queued : goal.returns-in-Ok-write-clause-queued
returns-in-Ok-write-clause-queued g c = λ line. c.in-Ok-write.ensures.queue ∙ ap (λ l. c.args.self.now.files.queue.entries ++ l) (sym (news_wrote c.args.self.now.files.queue.terms.write_back c.args.by c.of_file.result.reply c.of_file.result.file c.in-Some.opened.item c.end-place.result _
    (record { before = c.args.self.now.files.items; after = c.write.new.self.items }) c.of_file.ensures.reply c.of_file.ensures.file))

pub returns-in-Err-clause-queued : goal.returns-in-Err-clause-queued
returns-in-Err-clause-queued g c = λ line. enters_nothing _ _ _ c.in-Err.ensures.still
    (news_refused c.args.self.now.files.queue.terms.write_back c.args.by c.of_refusal.result.reply c.of_refusal.result.file c.in-Err.why (record { before = c.args.self.now.files.items; after = c.write.new.self.items }) c.of_refusal.ensures.reply)
