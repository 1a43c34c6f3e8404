use Rattle.std.proofs.Common.{nat_eq}
use Rattle.std.proofs.lemmas.List.Filters.{dedup_is}
use Rattle.cache_folder.proofs.Orders.{rises, same_numbers}
use Rattle.cache_folder.proofs.held.sort_once.Goals as goal

pub returns-clause-rising : goal.returns-clause-rising
returns-clause-rising c = rises c.sort_unstable.new.self.items c.dedup.new.self.items c.sort_unstable.ensures.sorted
    (dedup_is nat_eq c.sort_unstable.new.self.items c.dedup.new.self.items c.dedup.ensures.filtered)

pub returns-clause-same : goal.returns-clause-same
returns-clause-same c = same_numbers c.args.slots.now.items c.sort_unstable.new.self.items c.dedup.new.self.items c.sort_unstable.ensures.permutation
    (dedup_is nat_eq c.sort_unstable.new.self.items c.dedup.new.self.items c.dedup.ensures.filtered)
