use Rattle.std.proofs.Common.{◌≡◌, true, false, refl, ap, ◌≤◌, add-zero, arith, sym, subst}
use Rattle.std.proofs.lemmas.List.{reverse-append, append-nil}
use Rattle.std.specs.Prelude.{reverse}
use Rattle.writeback_queue.specs.declared.member.Member.{Member}
use Rattle.writeback_queue.specs.History.{is_member, is_taken}
use Rattle.writeback_queue.specs.Queue.{Queue, past_of}
use Rattle.writeback_queue.proofs.Steps.{removes, stands_at, absent, uploads_some, at_most_one, number_of}
use Rattle.writeback_queue.proofs.book.QueueBook.remove.Goals as goal

pub returns-in_default-clause-gone : goal.returns-in_default-clause-gone
returns-in_default-clause-gone c =
    subst (λ (q : Queue). is_member (past_of q) c.args.item ≡ false) c.self.view_is
    (absent _ _ _ _ _ c.self.invariant.0 c.deref.ensures.value c.args.item _ c.place_of.ensures c.in_default.is)

pub returns-in_default-clause-entries : goal.returns-in_default-clause-entries
returns-in_default-clause-entries c =
    let gone = returns-in_default-clause-gone c in rw gone (sym (append-nil c.args.self.now.entries))

pub returns-in_default-clause-spare : goal.returns-in_default-clause-spare
returns-in_default-clause-spare c = let gone = returns-in_default-clause-gone c in rw (gone, add-zero) refl

pub overflow_sub-self : goal.overflow_sub-self
overflow_sub-self c =
    let at = stands_at _ _ _ _ _ c.self.invariant.0 c.deref.ensures.value c.args.item _ _ _ c.place_of.ensures c.in-Some.is c.remove-member.ensures.value in
    rw ((number_of _ _ c.from-freed.ensures)) (uploads_some _ _ _ _ c.self.invariant.0 _ _ _ at)

pub invariant_of-self : goal.invariant_of-self
invariant_of-self c =
    let entered = rw c.unwrap.ensures at c.push.ensures.items in
    let at = stands_at _ _ _ _ _ c.self.invariant.0 c.deref.ensures.value c.args.item _ _ _ c.place_of.ensures c.in-Some.is c.remove-member.ensures.value in
    let freed : c.from-freed.result ≤ c.self.inside.uploading = rw ((number_of _ _ c.from-freed.ensures)) (uploads_some _ _ _ _ c.self.invariant.0 _ _ _ at) in
    let one : c.from-freed.result ≤ 1 = rw ((number_of _ _ c.from-freed.ensures)) (at_most_one c.remove-member.result.uploading) in
    let room = c.self.invariant.1 in (
      rw (entered, reverse-append, c.remove-member.ensures.items, (number_of _ _ c.from-freed.ensures)) (removes _ _ _ _ c.self.invariant.0 c.args.by c.args.item c.requires.pass _ _ at),
      record {
        in_history = omega (arith, freed, one, room.in_history, c.push.ensures.upper_bound, c.push.ensures.capacity, c.remove-member.ensures.len);
        in_members = omega (arith, freed, one, room.in_members, c.remove-member.ensures.len, c.remove-member.ensures.capacity);
        small = omega (arith, freed, one, room.small, c.push.ensures.upper_bound, c.remove-member.ensures.len);
      },
    )

pub returns-clause-legal : goal.returns-clause-legal
returns-clause-legal c = (invariant_of-self c).0.legal

pub returns-clause-entries : goal.returns-clause-entries
returns-clause-entries c =
    let entered = rw c.unwrap.ensures at c.push.ensures.items in
    let at = stands_at _ _ _ _ _ c.self.invariant.0 c.deref.ensures.value c.args.item _ _ _ c.place_of.ensures c.in-Some.is c.remove-member.ensures.value in
    let there : is_member (reverse c.self.inside.entries.items) c.args.item ≡ true = at.is_there in
    rw (← c.self.view_is, there) entered

pub returns-clause-spare : goal.returns-clause-spare
returns-clause-spare c =
    let at = stands_at _ _ _ _ _ c.self.invariant.0 c.deref.ensures.value c.args.item _ _ _ c.place_of.ensures c.in-Some.is c.remove-member.ensures.value in
    let there : is_member (reverse c.self.inside.entries.items) c.args.item ≡ true = at.is_there in
    let up : c.remove-member.result.uploading ≡ is_taken (reverse c.self.inside.entries.items) c.args.item = ap (λ (m : Member). m.uploading) at.is_row in
    rw (← c.self.view_is, (number_of _ _ c.from-freed.ensures), there, up) refl
