use Rattle.std.proofs.Common.{◌≡◌, true, refl, ap, ◌+◌, arith, sym, subst, ◌∙◌}
use Rattle.std.proofs.lemmas.List.{reverse-append, length-reverse}
use Rattle.std.proofs.lemmas.Bool.{and_parts, false≢true}
use Rattle.writeback_queue.specs.History.{is_uploading}
use Rattle.writeback_queue.specs.Queue.{Queue, past_of}
use Rattle.writeback_queue.proofs.Steps.{fails_again, stands_at, absent, one_uploading, fails_below}
use Rattle.writeback_queue.proofs.book.QueueBook.fail.Goals as goal

pub unreachable-requires : goal.unreachable-requires
unreachable-requires c =
    let uploads = subst (λ (q : Queue). is_uploading (past_of q) c.args.item ≡ true) (sym c.self.view_is) c.requires.uploads in
    let gone = absent _ _ _ _ _ c.self.invariant.0 c.deref.ensures.value c.args.item _ c.place_of.ensures c.in_default.is in
    false≢true (sym gone ∙ (and_parts _ _ uploads).0)

pub overflow_add-member : goal.overflow_add-member
overflow_add-member c =
    let at = stands_at _ _ _ _ _ c.self.invariant.0 c.deref.ensures.value c.args.item _ _ _ c.place_of.ensures c.in-Some.is c.index_mut-member.ensures.value in
    let failed = fails_below _ _ _ _ _ _ at in
    let room = c.self.invariant.1 in
    omega (arith, failed, at.inside, room.small, length-reverse c.self.inside.entries.items, c.self.inside.entries.ok.0, c.self.inside.members.ok.0)

pub overflow_sub-self : goal.overflow_sub-self
overflow_sub-self c =
    let at = stands_at _ _ _ _ _ c.self.invariant.0 c.deref.ensures.value c.args.item _ _ _ c.place_of.ensures c.in-Some.is c.index_mut-member.ensures.value in
    let uploads = subst (λ (q : Queue). is_uploading (past_of q) c.args.item ≡ true) (sym c.self.view_is) c.requires.uploads in
    one_uploading _ _ _ _ c.self.invariant.0 _ _ _ at uploads

pub invariant_of-self : goal.invariant_of-self
invariant_of-self c =
    let entered = rw c.unwrap.ensures at c.push.ensures.items in
    let uploads = subst (λ (q : Queue). is_uploading (past_of q) c.args.item ≡ true) (sym c.self.view_is) c.requires.uploads in
    let at = stands_at _ _ _ _ _ c.self.invariant.0 c.deref.ensures.value c.args.item _ _ _ c.place_of.ensures c.in-Some.is c.index_mut-member.ensures.value in
    let some = one_uploading _ _ _ _ c.self.invariant.0 _ _ _ at uploads in
    let room = c.self.invariant.1 in (
      rw (entered, reverse-append) (fails_again _ _ _ _ c.self.invariant.0 c.args.by c.args.item _ _ uploads _ _ at refl (ap (λ n. c.args.by.now + n) c.delay_after.ensures)),
      record {
        in_history = omega (arith, some, room.in_history, c.push.ensures.upper_bound, c.push.ensures.capacity);
        in_members = omega (arith, some, room.in_members);
        small = omega (arith, some, room.small, c.push.ensures.upper_bound);
      },
    )
