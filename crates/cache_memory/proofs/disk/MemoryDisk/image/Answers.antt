use Rattle.std.proofs.Common.{◌≡◌, ◌∙◌, ap, map, rules, ℕ, List, ◌==◌}
use Rattle.std.specs.Prelude.{if◌then◌else◌, None}
use Rattle.std.specs.List.{list_any}
use Rattle.std.specs.Map.Iter.{deref}
use Rattle.std.proofs.lemmas.Map.Iter.{iter_end}
use Rattle.cache_memory.specs.Disks.{cut_kept, disk_of}
use Rattle.cache_memory.specs.Slots.{kept_at, kept_in}
use Rattle.cache_memory.proofs.Cuts.{cuts_all}
use Rattle.cache_memory.proofs.disk.MemoryDisk.image.Goals as goal

pub returns-clause-shelves : goal.returns-clause-shelves
returns-clause-shelves c =
    let e : map deref c.loop-slot.yielded ≡ c.keys-slot-items.result = search (rules, iter_end) in
    let kept : (ks : List ℕ) → map deref c.loop-slot.yielded ≡ ks → (s : ℕ) → kept_at c.loop-slot.slots s ≡ (if list_any (λ x. s == x) ks then cut_kept c.args.cuts.now (disk_of c.args.self.now) s else kept_in None) =
    λ ks h s. c.loop-slot.invariant s ∙ ap (λ l. if list_any (λ x. s == x) l then cut_kept c.args.cuts.now (disk_of c.args.self.now) s else kept_in None) h in
    cuts_all c.args.cuts.now c.args.self.now c.loop-slot.slots c.keys-slot-items.result c.keys-slot-items.ensures.has (kept c.keys-slot-items.result e)
