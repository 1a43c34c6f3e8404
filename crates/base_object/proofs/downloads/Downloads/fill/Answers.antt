use Rattle.std.proofs.Common.{sym, ◌∙◌, rules}
use Rattle.downloaders.specs.Crew.{after_end, after_pull}
use Rattle.base_object.proofs.StreamsKept.{direct_pulled, direct_same, streams_pulled, streams_ended}
use Rattle.base_object.proofs.downloads.Downloads.fill.Goals as goal

pub invariant_of-self : goal.invariant_of-self
invariant_of-self g c = (
  direct_same (after_pull c.args.run c.len-len.result c.self.inside.crew) c.pulled.new.self c.pulled.ensures (direct_pulled c.args.run c.len-len.result c.self.inside.crew c.self.invariant.0),
  streams_pulled _ _ _ _ _ c.self.inside.streams c.put.new.self c.self.inside.crew c.pulled.new.self c.args.run _ c.in-Some.stream c.pull.new.stream
      c.self.invariant.1 c.pull.ensures.same.same_print (sym c.take.ensures.result ∙ c.in-Some.is)
      c.pulled.ensures c.put.ensures.there c.in-Ok.ensures.source
      (search rules) c.in-Ok.ensures.finish (λ q n. c.put.ensures.others q n ∙ c.take.ensures.others q n),
)

pub invariant_of-self-in-Err-1 : goal.invariant_of-self-in-Err-1
invariant_of-self-in-Err-1 g c = (
  direct_same (after_end c.args.run c.self.inside.crew) c.ended.new.self c.ended.ensures c.self.invariant.0,
  streams_ended _ _ _ _ _ c.self.inside.streams c.take.new.self c.self.inside.crew c.ended.new.self c.args.run
      c.self.invariant.1 c.pull.ensures.same.same_print c.ended.ensures c.take.ensures.free c.take.ensures.others,
)
