use Rattle.std.proofs.Common.{◌≡◌, ◌<◌, ◌≤◌, false, List, refl, inl, inr, arith, sym, subst}
use Rattle.std.specs.List.{All}
use Rattle.std.proofs.lemmas.Bool.{false≢true}
use Rattle.std.proofs.lemmas.List.{reverse-append}
use Rattle.writeback_queue.specs.declared.member.Member.{Member}
use Rattle.writeback_queue.specs.Legal.{IsNext}
use Rattle.writeback_queue.specs.Members.{is_due}
use Rattle.writeback_queue.specs.Queue.{Queue, past_of, IsIdle, IsBusy}
use Rattle.writeback_queue.specs.History.{uploads}
use Rattle.writeback_queue.proofs.Steps.{nothing_due, first_next, next_due, takes}
use Rattle.writeback_queue.proofs.book.QueueBook.take.Goals as goal

pub returns-then-self-clause-none : goal.returns-then-self-clause-none
returns-then-self-clause-none c =
    let busy = rw c.self.invariant.0.count at c.if-self.true in
    (λ _. inr (subst IsBusy c.self.view_is busy), λ _. refl)

pub returns-in_default-clause-none : goal.returns-in_default-clause-none
returns-in_default-clause-none c =
    let none = subst (λ (ms : List Member). All (λ m. is_due c.args.by.now m ≡ false) ms) c.deref.ensures.value c.in_default.ensures.none in
    let idle = nothing_due _ _ _ _ c.self.invariant.0 c.args.by.now none in
    (λ _. inl (subst (λ (q : Queue). IsIdle q c.args.by.now) c.self.view_is idle), λ _. refl)

pub invariant_of-self : goal.invariant_of-self
invariant_of-self c =
    let entered = rw c.unwrap.ensures at c.push.ensures.items in
    let first = first_next _ _ _ _ _ c.self.invariant.0 c.deref.ensures.value c.args.by.now _ _ c.in-Some.ensures.first c.index_mut-member.ensures.value in
    let spare : 2 ≤ c.self.inside.spare = subst (λ (q : Queue). 2 ≤ q.spare) (sym c.self.view_is) c.requires.room in
    let room = c.self.invariant.1 in (
      rw (entered, reverse-append) (takes _ _ _ _ c.self.invariant.0 c.args.by _ first.1 c.if-self.false _ _ first.0),
      record {
        in_history = omega (arith, spare, room.in_history, c.push.ensures.upper_bound, c.push.ensures.capacity);
        in_members = omega (arith, spare, room.in_members);
        small = omega (arith, spare, room.small, c.push.ensures.upper_bound);
      },
    )

pub returns-clause-legal : goal.returns-clause-legal
returns-clause-legal c = (invariant_of-self c).0.legal

pub returns-clause-next : goal.returns-clause-next
returns-clause-next c =
    let first = first_next _ _ _ _ _ c.self.invariant.0 c.deref.ensures.value c.args.by.now _ _ c.in-Some.ensures.first c.index_mut-member.ensures.value in
    subst (λ (q : Queue). IsNext q.terms.write_back (past_of q) c.args.by.now c.index_mut-member.result.now.item) c.self.view_is first.1

pub returns-clause-none : goal.returns-clause-none
returns-clause-none c =
    let next = returns-clause-next c in
    let free = rw c.self.invariant.0.count at c.if-self.false in
    let not_busy = subst (λ (q : Queue). uploads (past_of q) < q.terms.transfers) c.self.view_is free in (
      λ some. absurd (false≢true (sym some)),
      λ why. elim why [ inl idle ↦ absurd (next_due _ _ _ _ next idle) | inr busy ↦ absurd (omega arith) ],
    )
