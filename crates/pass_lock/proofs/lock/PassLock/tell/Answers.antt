use Rattle.std.proofs.Common.{rules, ap, ◌∙◌}
use Rattle.pass_lock.proofs.Numbers.{Has-first}
use Rattle.pass_lock.proofs.Keeps.{splits_note, joins, merges}
use Rattle.pass_lock.proofs.lock.PassLock.tell.Goals as goal

pub split_seat-note-requires : goal.split_seat-note-requires
split_seat-note-requires g c = (c.requires.from_own, search rules, splits_note g.S.Logged.entries g.S.Logged.belongs g.S.Logged.terms _ _ c.requires.from_free)

pub join_seat-requires : goal.join_seat-requires
join_seat-requires g c =
    let to = c.args.to.now in
    let note = ap (λ m. m.0) c.split_seat-note.ensures.4 in (
      c.requires.own,
      c.split_seat-note.ensures.3 ∙ c.requires.from_own,
      ap (λ m. m.1) c.split_seat-note.ensures.4,
      search rules,
      joins g.S.Logged.entries g.S.Logged.belongs g.S.Logged.terms _ _ _ _ c.requires.free (ap (λ v. v.holds) note) (to.number, Has-first _ _ to.named) to.settled.1 (ap (λ v. v.told_numbers) note),
    )

pub load-requires : goal.load-requires
load-requires g c = (c.join_seat.ensures.0 ∙ c.requires.own, search rules, merges g.S.Logged.entries g.S.Logged.belongs g.S.Logged.terms _ _ _ (ap (λ m. m.0.holds) c.join_seat.ensures.2))
