use Rattle.std.proofs.Common.{◌∙◌, ◌-◌, ap, length, min, subst, sym, vec_capacity, vec_len}
use Rattle.std.specs.Prelude.{IfOk, IfSome}
use Rattle.one_session.specs.Causes.{AreGiven, AreSaved}
use Rattle.one_session.specs.Sending.{SendsNext}
use Rattle.one_session.specs.Served.{Fits, Knows}
use Rattle.one_session.specs.Standing.{state_of}
use Rattle.one_session.specs.State.{State}
use Rattle.one_session.specs.Views.{given_all}
use Rattle.one_session.proofs.Leaving.{turned_count, turned_fits, turned_given, turned_or_not, turned_saved, turned_sent}
use Rattle.one_session.proofs.session.OneSession.upload_next.Goals as goal

pub returns-clause-sent : goal.returns-clause-sent
returns-clause-sent g c =
    let records = c.self.inside.records in
    let steps = c.self.inside.steps in
    let room = min (vec_capacity records - vec_len records) (vec_capacity steps - vec_len steps) in
    let o = g.R.Remote.outside c.args.remote.now in
    let o' = g.R.Remote.outside c.upload_next.new.remote in
    subst (λ (s : State). IfOk c.upload_next.result (λ ended. IfSome ended (SendsNext g.F.CacheFile.tells g.O.Object.tells g.O.Object.tells c.args.by s (state_of c.upload_next.new.self records.items steps.items room) o o'))) c.self.view_is
    (turned_sent g.F.CacheFile.tells g.R.Remote.tells g.O.Object.tells c.args.by c.self.inside.store c.upload_next.new.self o o' records.items steps.items room c.upload_next.result g.met.R.Remote.told_by_objects c.upload_next.ensures.sent)

pub returns-clause-fits : goal.returns-clause-fits
returns-clause-fits g c = λ served f. turned_fits g.F.CacheFile.tells g.R.Remote.tells g.O.Object.tells c.args.by c.self.inside.store c.upload_next.new.self (g.R.Remote.outside c.args.remote.now) (g.R.Remote.outside c.upload_next.new.remote) c.requires.actor c.self.invariant _ _ _ served
    (turned_or_not g.F.CacheFile.tells g.R.Remote.tells g.O.Object.tells c.args.by c.self.inside.store c.upload_next.new.self (g.R.Remote.outside c.args.remote.now) (g.R.Remote.outside c.upload_next.new.remote) c.upload_next.result
    c.upload_next.ensures.sent c.upload_next.ensures.still c.upload_next.ensures.uncalled c.upload_next.ensures.err c.upload_next.ensures.err_uncalled)
    (subst (λ (s : State). Fits 1 (Knows g.F.CacheFile.tells g.O.Object.tells (g.R.Remote.outside c.args.remote.now).handed) served s) (sym c.self.view_is) f)

pub returns-clause-given : goal.returns-clause-given
returns-clause-given g c = turned_given g.F.CacheFile.tells g.R.Remote.tells g.O.Object.tells c.args.by c.self.inside.store c.upload_next.new.self (g.R.Remote.outside c.args.remote.now) (g.R.Remote.outside c.upload_next.new.remote) c.requires.actor c.self.invariant
    (turned_or_not g.F.CacheFile.tells g.R.Remote.tells g.O.Object.tells c.args.by c.self.inside.store c.upload_next.new.self (g.R.Remote.outside c.args.remote.now) (g.R.Remote.outside c.upload_next.new.remote) c.upload_next.result
    c.upload_next.ensures.sent c.upload_next.ensures.still c.upload_next.ensures.uncalled c.upload_next.ensures.err c.upload_next.ensures.err_uncalled)
    (subst (λ (s : State). AreGiven g.O.Object.tells (g.R.Remote.outside c.args.remote.now).handed (given_all s.items)) (sym c.self.view_is) c.requires.given)

pub returns-clause-saved : goal.returns-clause-saved
returns-clause-saved g c = turned_saved g.F.CacheFile.tells g.R.Remote.tells g.O.Object.tells c.args.by c.self.inside.store c.upload_next.new.self (g.R.Remote.outside c.args.remote.now) (g.R.Remote.outside c.upload_next.new.remote) c.requires.actor c.self.invariant g.met.R.Remote.told_by_objects
    (subst (λ (s : State). AreGiven g.O.Object.tells (g.R.Remote.outside c.args.remote.now).handed (given_all s.items)) (sym c.self.view_is) c.requires.given)
    (turned_or_not g.F.CacheFile.tells g.R.Remote.tells g.O.Object.tells c.args.by c.self.inside.store c.upload_next.new.self (g.R.Remote.outside c.args.remote.now) (g.R.Remote.outside c.upload_next.new.remote) c.upload_next.result
    c.upload_next.ensures.sent c.upload_next.ensures.still c.upload_next.ensures.uncalled c.upload_next.ensures.err c.upload_next.ensures.err_uncalled)
    (subst (λ (s : State). AreSaved g.F.CacheFile.tells g.O.Object.tells (g.R.Remote.outside c.args.remote.now).handed s.files) (sym c.self.view_is) c.requires.saved)

pub returns-clause-count : goal.returns-clause-count
returns-clause-count g c = turned_count g.F.CacheFile.tells g.R.Remote.tells g.O.Object.tells c.args.by c.self.inside.store c.upload_next.new.self (g.R.Remote.outside c.args.remote.now) (g.R.Remote.outside c.upload_next.new.remote) c.requires.actor c.self.invariant
    (turned_or_not g.F.CacheFile.tells g.R.Remote.tells g.O.Object.tells c.args.by c.self.inside.store c.upload_next.new.self (g.R.Remote.outside c.args.remote.now) (g.R.Remote.outside c.upload_next.new.remote) c.upload_next.result
    c.upload_next.ensures.sent c.upload_next.ensures.still c.upload_next.ensures.uncalled c.upload_next.ensures.err c.upload_next.ensures.err_uncalled)
    ∙ ap (λ (s : State). length s.files) c.self.view_is
