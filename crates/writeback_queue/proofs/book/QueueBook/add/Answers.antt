use Rattle.std.proofs.Common.{◌≡◌, ◌≤◌, false, arith, sym, subst}
use Rattle.std.proofs.lemmas.List.{reverse-append}
use Rattle.writeback_queue.specs.History.{is_member}
use Rattle.writeback_queue.specs.Queue.{Queue, past_of}
use Rattle.writeback_queue.proofs.Steps.{adds}
use Rattle.writeback_queue.proofs.book.QueueBook.add.Goals as goal

pub invariant_of-self : goal.invariant_of-self
invariant_of-self c =
    let entered = rw c.unwrap.ensures at c.push.ensures.items in
    let kept = rw c.unwrap-2.ensures at c.push-2.ensures.items in
    let absent = subst (λ (q : Queue). is_member (past_of q) c.args.item ≡ false) (sym c.self.view_is) c.requires.absent in
    let spare : 2 ≤ c.self.inside.spare = subst (λ (q : Queue). 2 ≤ q.spare) (sym c.self.view_is) c.requires.room in
    let room = c.self.invariant.1 in (
      rw (entered, kept, reverse-append) (adds _ _ _ _ c.self.invariant.0 c.args.by c.args.item c.args.due absent c.requires.pass),
      record {
        in_history = omega (arith, spare, room.in_history, c.push.ensures.upper_bound, c.push.ensures.capacity, c.push-2.ensures.upper_bound);
        in_members = omega (arith, spare, room.in_members, c.push-2.ensures.upper_bound, c.push-2.ensures.capacity);
        small = omega (arith, spare, room.small, c.push.ensures.upper_bound, c.push-2.ensures.upper_bound);
      },
    )
