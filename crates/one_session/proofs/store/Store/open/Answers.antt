use Rattle.std.proofs.Common.{[], refl, arith, ◌∙◌, ◌≡◌, ◌<◌, sym, subst, length, Some}
use Rattle.std.proofs.lemmas.List.{length-map}
use Rattle.session_script.specs.declared.call.Call.TheVariants as call
use Rattle.one_session.specs.Served.{Knows}
use Rattle.one_session.specs.Slots.{Lends}
use Rattle.one_session.specs.Standing.{recorded, state_of, step_between}
use Rattle.one_session.specs.Views.{histories, stored}
use Rattle.one_session.proofs.Deciding.{own_cause, remote_cause}
use Rattle.one_session.proofs.Doing.{did_same}
use Rattle.one_session.proofs.Numbering.{as_many, caused_more, handle_cause}
use Rattle.one_session.proofs.Served.{quiet}
use Rattle.one_session.specs.Tree.{item_of}
use Rattle.one_session.proofs.store.Store.open.Goals as goal

pub returns-in-Err-clause-cause : goal.returns-in-Err-clause-cause
returns-in-Err-clause-cause g c = λ line. remote_cause c.args.handle c.args.path.now c.args.how _ _ _ (g.R.Remote.outside c.args.remote.now) _ [] (omega arith) (omega arith) refl (omega arith) (omega arith) refl
    (own_cause c.args.path.now _ _ _ _ c.in-Err.why c.bare-in-Err.ensures.reply c.in-Err.ensures.causes)

pub returns-then-is_some-clause-cause : goal.returns-then-is_some-clause-cause
returns-then-is_some-clause-cause g c = λ line. let outside = g.R.Remote.outside c.args.remote.now in
    quiet (call.Open c.args.handle c.args.path.now c.args.how) (recorded line c.bare.result) c.args.self.now.tree.entries outside (handle_cause c.args.path.now (recorded line c.bare.result) c.args.self.now.tree.entries outside outside c.bare.ensures.reply)

pub returns-in-Some-clause-lends : goal.returns-in-Some-clause-lends
returns-in-Some-clause-lends g c = let s = c.requires.sound.sound in
    let holds = Knows g.F.CacheFile.tells g.O.Object.tells [] in
    let old = state_of c.args.self.now [] [] 0 in
    let new = state_of c.open_again.new.self [] [] 0 in
    let at : item_of c.args.self.now.tree.entries c.args.path.now ≡ Some c.in-Some.item = sym (s.found c.args.path.now) ∙ sym c.find.ensures.found ∙ c.in-Some.is in
    let inside : c.in-Some.item < length (histories c.args.self.now.files.items) = omega (arith, c.in-Some.ensures.within, s.count) in
    let did = did_same holds c.args.by (call.Open c.args.handle c.args.path.now c.args.how) (recorded 0 c.open_again.result) old _ _ c.reserve.ensures.entries (c.open_again.ensures.did [] 0) in
    let count : length (histories c.open_again.new.self.files.items) ≡ length (histories c.args.self.now.files.items) =
    as_many holds c.args.by (recorded 0 c.open_again.result) old new c.args.handle c.in-Some.item c.args.path.now c.args.how s.numbered c.open_again.ensures.sound.sound.numbered at inside did in
    let same : length c.args.self.now.files.items ≡ length c.open_again.new.self.files.items = omega (arith, count, length-map c.args.self.now.files.items stored, length-map c.open_again.new.self.files.items stored) in
    subst (λ n. Lends g.D.CacheDisk.tells n (g.D.CacheDisk.disk c.args.disk.now)) same c.requires.lends

pub returns-in-Some-clause-did : goal.returns-in-Some-clause-did
returns-in-Some-clause-did g c = λ handed line. did_same (Knows g.F.CacheFile.tells g.O.Object.tells handed) c.args.by (call.Open c.args.handle c.args.path.now c.args.how) (recorded line c.open_again.result) (state_of c.args.self.now [] [] 0) _ _ c.reserve.ensures.entries (c.open_again.ensures.did handed line)

pub returns-in-Some-clause-stepped : goal.returns-in-Some-clause-stepped
returns-in-Some-clause-stepped g c = λ plan line. caused_more plan _ _ c.args.handle c.args.path.now c.args.how (recorded line c.open_again.result) (step_between c.args.self.now c.open_again.new.self) (c.open_again.ensures.stepped plan line)

pub returns-in-None-clause-did : goal.returns-in-None-clause-did
returns-in-None-clause-did g c = λ handed line. did_same (Knows g.F.CacheFile.tells g.O.Object.tells handed) c.args.by (call.Open c.args.handle c.args.path.now c.args.how) (recorded line c.open_new.result) (state_of c.args.self.now [] [] 0) _ _ c.reserve.ensures.entries (c.open_new.ensures.did handed line)
