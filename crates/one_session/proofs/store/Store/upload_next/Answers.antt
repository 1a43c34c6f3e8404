use Rattle.std.proofs.Common.{◌∙◌, ◌++◌, ap, refl}
use Rattle.one_session.specs.Turns.{noted_by}
use Rattle.one_session.proofs.Sent.{all_kept, turn_sound}
use Rattle.one_session.proofs.store.Store.upload_next.Goals as goal

pub upload_next-requires-clause-kept : goal.upload_next-requires-clause-kept
upload_next-requires-clause-kept g c = all_kept g.F.CacheFile.tells c.args.self.now c.requires.sound

pub returns-in-Ok-Some-clause-sound : goal.returns-in-Ok-Some-clause-sound
returns-in-Ok-Some-clause-sound g c =
    (turn_sound g.F.CacheFile.tells g.R.Remote.tells g.O.Object.tells c.args.self.now (record c.args.self.now { tree = c.note_turn.new.tree; files = c.upload_next.new.self }) c.args.by _ _ _ _ c.in-Ok-Some.turn c.requires.sound c.requires.actor c.requires.pass c.requires.later
    (rw c.in-Ok-Some.field-0-is at c.in-Ok-Some.ensures.turn) (c.note_turn.ensures.entries ∙ ap (λ l. l ++ noted_by c.args.by c.in-Ok-Some.turn) c.make_ready-ready.ensures.entries) (c.note_turn.ensures.limit ∙ c.make_ready-ready.ensures.limit) refl refl c.upload_next.ensures.limit).0

pub returns-in-Ok-Some-clause-later : goal.returns-in-Ok-Some-clause-later
returns-in-Ok-Some-clause-later g c =
    (turn_sound g.F.CacheFile.tells g.R.Remote.tells g.O.Object.tells c.args.self.now (record c.args.self.now { tree = c.note_turn.new.tree; files = c.upload_next.new.self }) c.args.by _ _ _ _ c.in-Ok-Some.turn c.requires.sound c.requires.actor c.requires.pass c.requires.later
    (rw c.in-Ok-Some.field-0-is at c.in-Ok-Some.ensures.turn) (c.note_turn.ensures.entries ∙ ap (λ l. l ++ noted_by c.args.by c.in-Ok-Some.turn) c.make_ready-ready.ensures.entries) (c.note_turn.ensures.limit ∙ c.make_ready-ready.ensures.limit) refl refl c.upload_next.ensures.limit).1
