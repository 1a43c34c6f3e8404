use Rattle.std.proofs.Common.{◌∙◌, ap, sym, refl, ◌≡◌, ◌<◌, Some, Err}
use Rattle.one_session.specs.Served.{Knows}
use Rattle.one_session.specs.State.{file_at}
use Rattle.one_session.specs.Standing.{recorded}
use Rattle.one_session.proofs.Handles.{handle_full, handle_ready, same_count, same_given}
use Rattle.one_session.proofs.ReadsDone.{read_did, read_later, read_sound, read_stepped, unread_did, unread_later, unread_sound, unread_stepped}
use Rattle.one_session.proofs.store.Store.read.Goals as goal

pub read-requires-clause-open : goal.read-requires-clause-open
read-requires-clause-open g c = let at : file_at c.args.self.now.table.items c.args.handle ≡ Some c.in-Some.opened = sym c.file_of.ensures ∙ c.in-Some.is in
    handle_ready g.F.CacheFile.tells c.args.self.now c.args.handle c.in-Some.opened c.args.by.pass c.requires.sound at c.requires.pass

pub returns-in-Ok-clause-sound : goal.returns-in-Ok-clause-sound
returns-in-Ok-clause-sound g c = let at : file_at c.args.self.now.table.items c.args.handle ≡ Some c.in-Some.opened = sym c.file_of.ensures ∙ c.in-Some.is in
    read_sound g.F.CacheFile.tells g.O.Object.tells c.args.plan.now c.args.self.now (record c.args.self.now { files = c.read.new.self }) c.args.handle c.args.pos c.args.len c.end-place.result c.in-Some.opened c.args.by (recorded 0 c.of_file.result) c.requires.sound at c.requires.actor c.requires.pass c.requires.later refl refl refl c.read.ensures.limit c.read.ensures.one c.of_file.ensures.tree c.end-place.ensures c.in-Ok.found c.in-Ok.ensures.did c.of_file.ensures.reply c.of_file.ensures.file

pub returns-in-Ok-clause-count : goal.returns-in-Ok-clause-count
returns-in-Ok-clause-count g c = let at : file_at c.args.self.now.table.items c.args.handle ≡ Some c.in-Some.opened = sym c.file_of.ensures ∙ c.in-Some.is in
    same_count g.F.CacheFile.tells c.args.self.now (record c.args.self.now { files = c.read.new.self }) c.args.handle c.in-Some.opened c.args.by c.requires.sound at c.requires.later refl refl refl c.read.ensures.limit c.read.ensures.one c.read.ensures.did.same c.read.ensures.did.has_same

pub returns-in-Ok-clause-later : goal.returns-in-Ok-clause-later
returns-in-Ok-clause-later g c = let at : file_at c.args.self.now.table.items c.args.handle ≡ Some c.in-Some.opened = sym c.file_of.ensures ∙ c.in-Some.is in
    read_later g.F.CacheFile.tells g.O.Object.tells c.args.plan.now c.args.self.now (record c.args.self.now { files = c.read.new.self }) c.args.handle c.args.pos c.args.len c.end-place.result c.in-Some.opened c.args.by (recorded 0 c.of_file.result) c.requires.sound at c.requires.actor c.requires.pass c.requires.later refl refl refl c.read.ensures.limit c.read.ensures.one c.of_file.ensures.tree c.end-place.ensures c.in-Ok.found c.in-Ok.ensures.did c.of_file.ensures.reply c.of_file.ensures.file

pub returns-in-Ok-clause-did : goal.returns-in-Ok-clause-did
returns-in-Ok-clause-did g c = λ handed given saved line. let at : file_at c.args.self.now.table.items c.args.handle ≡ Some c.in-Some.opened = sym c.file_of.ensures ∙ c.in-Some.is in
    read_did g.F.CacheFile.tells g.O.Object.tells c.args.plan.now c.args.self.now (record c.args.self.now { files = c.read.new.self }) c.args.handle c.args.pos c.args.len c.end-place.result c.in-Some.opened c.args.by (recorded line c.of_file.result) c.requires.sound at c.requires.actor c.requires.pass c.requires.later refl refl refl c.read.ensures.limit c.read.ensures.one c.of_file.ensures.tree c.end-place.ensures c.in-Ok.found c.in-Ok.ensures.did c.of_file.ensures.reply c.of_file.ensures.file handed given saved

pub returns-in-Ok-clause-given : goal.returns-in-Ok-clause-given
returns-in-Ok-clause-given g c = let at : file_at c.args.self.now.table.items c.args.handle ≡ Some c.in-Some.opened = sym c.file_of.ensures ∙ c.in-Some.is in
    same_given g.F.CacheFile.tells c.args.self.now (record c.args.self.now { files = c.read.new.self }) c.args.handle c.in-Some.opened c.args.by c.requires.sound at c.requires.later refl refl refl c.read.ensures.limit c.read.ensures.one c.read.ensures.did.same c.read.ensures.did.has_same

pub returns-in-Ok-clause-stepped : goal.returns-in-Ok-clause-stepped
returns-in-Ok-clause-stepped g c = λ line. let at : file_at c.args.self.now.table.items c.args.handle ≡ Some c.in-Some.opened = sym c.file_of.ensures ∙ c.in-Some.is in
    read_stepped g.F.CacheFile.tells g.O.Object.tells c.args.plan.now c.args.self.now (record c.args.self.now { files = c.read.new.self }) c.args.handle c.args.pos c.args.len c.end-place.result c.in-Some.opened c.args.by (recorded line c.of_file.result) c.requires.sound at c.requires.actor c.requires.pass c.requires.later refl refl refl c.read.ensures.limit c.read.ensures.one c.of_file.ensures.tree c.end-place.ensures c.in-Ok.found c.in-Ok.ensures.did c.of_file.ensures.reply c.of_file.ensures.file

pub returns-in-Err-clause-sound : goal.returns-in-Err-clause-sound
returns-in-Err-clause-sound g c = let at : file_at c.args.self.now.table.items c.args.handle ≡ Some c.in-Some.opened = sym c.file_of.ensures ∙ c.in-Some.is in
    unread_sound g.F.CacheFile.tells g.O.Object.tells c.args.plan.now c.args.self.now (record c.args.self.now { files = c.read.new.self }) c.args.handle c.args.pos c.args.len c.end-place.result c.in-Some.opened c.args.by (recorded 0 c.of_refusal.result) c.requires.sound at c.requires.actor c.requires.pass c.requires.later refl refl refl c.read.ensures.limit c.read.ensures.one c.of_refusal.ensures.tree c.end-place.ensures c.in-Err.why c.in-Err.ensures.did c.of_refusal.ensures.reply c.of_refusal.ensures.file

pub returns-in-Err-clause-count : goal.returns-in-Err-clause-count
returns-in-Err-clause-count g c = let at : file_at c.args.self.now.table.items c.args.handle ≡ Some c.in-Some.opened = sym c.file_of.ensures ∙ c.in-Some.is in
    same_count g.F.CacheFile.tells c.args.self.now (record c.args.self.now { files = c.read.new.self }) c.args.handle c.in-Some.opened c.args.by c.requires.sound at c.requires.later refl refl refl c.read.ensures.limit c.read.ensures.one c.read.ensures.did.same c.read.ensures.did.has_same

pub returns-in-Err-clause-later : goal.returns-in-Err-clause-later
returns-in-Err-clause-later g c = let at : file_at c.args.self.now.table.items c.args.handle ≡ Some c.in-Some.opened = sym c.file_of.ensures ∙ c.in-Some.is in
    unread_later g.F.CacheFile.tells g.O.Object.tells c.args.plan.now c.args.self.now (record c.args.self.now { files = c.read.new.self }) c.args.handle c.args.pos c.args.len c.end-place.result c.in-Some.opened c.args.by (recorded 0 c.of_refusal.result) c.requires.sound at c.requires.actor c.requires.pass c.requires.later refl refl refl c.read.ensures.limit c.read.ensures.one c.of_refusal.ensures.tree c.end-place.ensures c.in-Err.why c.in-Err.ensures.did c.of_refusal.ensures.reply c.of_refusal.ensures.file

pub returns-in-Err-clause-did : goal.returns-in-Err-clause-did
returns-in-Err-clause-did g c = λ handed given saved line. let at : file_at c.args.self.now.table.items c.args.handle ≡ Some c.in-Some.opened = sym c.file_of.ensures ∙ c.in-Some.is in
    unread_did g.F.CacheFile.tells g.O.Object.tells c.args.plan.now c.args.self.now (record c.args.self.now { files = c.read.new.self }) c.args.handle c.args.pos c.args.len c.end-place.result c.in-Some.opened c.args.by (recorded line c.of_refusal.result) c.requires.sound at c.requires.actor c.requires.pass c.requires.later refl refl refl c.read.ensures.limit c.read.ensures.one c.of_refusal.ensures.tree c.end-place.ensures c.in-Err.why c.in-Err.ensures.did c.of_refusal.ensures.reply c.of_refusal.ensures.file (Knows g.F.CacheFile.tells g.O.Object.tells handed) (λ e. handle_full g.F.CacheFile.tells c.args.self.now c.args.handle c.in-Some.opened c.requires.sound at (c.in-Err.ensures.did.full (ap Err e)))

pub returns-in-Err-clause-given : goal.returns-in-Err-clause-given
returns-in-Err-clause-given g c = let at : file_at c.args.self.now.table.items c.args.handle ≡ Some c.in-Some.opened = sym c.file_of.ensures ∙ c.in-Some.is in
    same_given g.F.CacheFile.tells c.args.self.now (record c.args.self.now { files = c.read.new.self }) c.args.handle c.in-Some.opened c.args.by c.requires.sound at c.requires.later refl refl refl c.read.ensures.limit c.read.ensures.one c.read.ensures.did.same c.read.ensures.did.has_same

pub returns-in-Err-clause-stepped : goal.returns-in-Err-clause-stepped
returns-in-Err-clause-stepped g c = λ line. let at : file_at c.args.self.now.table.items c.args.handle ≡ Some c.in-Some.opened = sym c.file_of.ensures ∙ c.in-Some.is in
    unread_stepped g.F.CacheFile.tells g.O.Object.tells c.args.plan.now c.args.self.now (record c.args.self.now { files = c.read.new.self }) c.args.handle c.args.pos c.args.len c.end-place.result c.in-Some.opened c.args.by (recorded line c.of_refusal.result) c.requires.sound at c.requires.actor c.requires.pass c.requires.later refl refl refl c.read.ensures.limit c.read.ensures.one c.of_refusal.ensures.tree c.end-place.ensures c.in-Err.why c.in-Err.ensures.did c.of_refusal.ensures.reply c.of_refusal.ensures.file
