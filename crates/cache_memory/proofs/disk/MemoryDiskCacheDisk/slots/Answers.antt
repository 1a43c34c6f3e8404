use Rattle.std.proofs.Common.{◌≡◌, subst}
use Rattle.std.specs.BTreeMap.{IsOrdered}
use Rattle.std.specs.Ordering.{nat_cmp}
use Rattle.cache_memory.specs.Slots.{slots_with_meta}
use Rattle.cache_memory.proofs.Listed.{listed_all, listed_rise}
use Rattle.cache_memory.proofs.disk.MemoryDiskCacheDisk.slots.Goals as goal

pub returns-in-Ok-listed-clause-rising : goal.returns-in-Ok-listed-clause-rising
returns-in-Ok-listed-clause-rising c = listed_rise c.begin.new.self.slots c.in-Ok-listed.slots.items c.in-Ok-listed.ensures.ordered c.in-Ok-listed.ensures.items

pub returns-in-Ok-listed-clause-all : goal.returns-in-Ok-listed-clause-all
returns-in-Ok-listed-clause-all c = λ s out. listed_all c.args.self.now.slots c.in-Ok-listed.slots.items (subst (IsOrdered nat_cmp) c.in-Ok.ensures.slots c.in-Ok-listed.ensures.ordered)
    (subst (λ m. c.in-Ok-listed.slots.items ≡ slots_with_meta m.entries) c.in-Ok.ensures.slots c.in-Ok-listed.ensures.items) s
