use Rattle.std.proofs.Common.{◌∙◌, ap, sym, length}
use Rattle.cache_memory.specs.Helds.{told_of}
use Rattle.cache_memory.proofs.Calls.{made_anew}
use Rattle.cache_memory.proofs.held.Held.after.Goals as goal

pub returns-in-Ok : goal.returns-in-Ok
returns-in-Ok c = made_anew c.args.self.now.before.items c.args.self.now.since.items c.as_slice.result.now c.as_slice-2.result.now c.args.count c.min-count.result c.len.result
    (told_of c.new-held.result) (told_of c.replay.new.self) (told_of c.replay-2.new.self) (told_of c.hand_out.new.self)
    c.as_slice.ensures.value c.as_slice-2.ensures.value (c.len.ensures ∙ sym c.as_slice-2.ensures.len ∙ ap length c.as_slice-2.ensures.value) c.min-count.ensures
    c.new-held.ensures c.in_ok-replay.ensures c.in_ok-replay-2.ensures c.in-Ok.ensures.ok
