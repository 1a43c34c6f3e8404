use Rattle.std.proofs.Common.{refl}
use Rattle.downloaders.specs.Crew.{after_end}
use Rattle.base_object.proofs.StreamsKept.{direct_same, streams_ended}
use Rattle.base_object.proofs.downloads.Downloads.end.Goals as goal

pub invariant_of-self : goal.invariant_of-self
invariant_of-self g c = (
  direct_same (after_end c.args.run c.self.inside.crew) c.ended.new.self c.ended.ensures c.self.invariant.0,
  streams_ended _ _ _ _ _ c.self.inside.streams c.take-stream.new.self c.self.inside.crew c.ended.new.self c.args.run
      c.self.invariant.1 refl c.ended.ensures c.take-stream.ensures.free c.take-stream.ensures.others,
)
