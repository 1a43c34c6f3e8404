use Rattle.std.proofs.Common.{◌≡◌, ◌<◌, false, length, take, get_or}
use Rattle.std.specs.List.{All}
use Rattle.std.specs.Option.{MatchOption}
use Rattle.writeback_queue.specs.declared.member.Member.{Member}
use Rattle.writeback_queue.specs.Members.{is_due, IsFirst}
use Rattle.writeback_queue.proofs.member.first_due.Given as goal

-- the first of those that the loop has passed
abbrev pub invariant-loop-at : goal.invariant-loop-at
invariant-loop-at l = MatchOption l.first
    (All (λ m. is_due l.now m ≡ false) (take l.at l.members))
    (λ best. (best < length l.members) × ((d : Member) → IsFirst l.now (take l.at l.members) (get_or l.members best d)))
