use Rattle.std.proofs.Common.{◌≡◌, ◌≤◌, true, arith, sym, subst, ◌∙◌}
use Rattle.std.proofs.lemmas.List.{reverse-append}
use Rattle.std.proofs.lemmas.Bool.{and_parts, false≢true}
use Rattle.writeback_queue.specs.History.{is_waiting}
use Rattle.writeback_queue.specs.Queue.{Queue, past_of}
use Rattle.writeback_queue.proofs.Steps.{moves, stands_at, absent}
use Rattle.writeback_queue.proofs.book.QueueBook.set_due.Goals as goal

pub unreachable-requires : goal.unreachable-requires
unreachable-requires c =
    let waits = subst (λ (q : Queue). is_waiting (past_of q) c.args.item ≡ true) (sym c.self.view_is) c.requires.waits in
    let gone = absent _ _ _ _ _ c.self.invariant.0 c.deref.ensures.value c.args.item _ c.place_of.ensures c.in_default.is in
    false≢true (sym gone ∙ (and_parts _ _ waits).0)

pub invariant_of-self : goal.invariant_of-self
invariant_of-self c =
    let entered = rw c.unwrap.ensures at c.push.ensures.items in
    let waits = subst (λ (q : Queue). is_waiting (past_of q) c.args.item ≡ true) (sym c.self.view_is) c.requires.waits in
    let at = stands_at _ _ _ _ _ c.self.invariant.0 c.deref.ensures.value c.args.item _ _ _ c.place_of.ensures c.in-Some.is c.index_mut.ensures.value in
    let spare : 1 ≤ c.self.inside.spare = subst (λ (q : Queue). 1 ≤ q.spare) (sym c.self.view_is) c.requires.room in
    let room = c.self.invariant.1 in (
      rw (entered, reverse-append) (moves _ _ _ _ c.self.invariant.0 c.args.by c.args.item c.args.due waits _ _ at),
      record {
        in_history = omega (arith, spare, room.in_history, c.push.ensures.upper_bound, c.push.ensures.capacity);
        in_members = omega (arith, spare, room.in_members);
        small = omega (arith, spare, room.small, c.push.ensures.upper_bound);
      },
    )
