use Rattle.std.proofs.Common.{sym, ◌∙◌}
use Rattle.downloaders.specs.Crew.{after_request}
use Rattle.downloaders.specs.declared.Downloader.{Downloader}
use Rattle.base_object.proofs.StreamsKept.{direct_same, streams_front}
use Rattle.base_object.proofs.downloads.Downloads.request.Goals as goal

pub invariant_of-self : goal.invariant_of-self
invariant_of-self g c =
    let d : Downloader = record { run = c.args.run; pos = c.args.start; end = c.args.end; chunk = c.args.chunk } in (
      direct_same (after_request c.args.run c.args.start c.args.end c.args.chunk c.self.inside.crew) c.requested.new.self c.requested.ensures c.self.invariant.0,
      streams_front _ _ _ _ _ c.self.inside.streams c.put.new.self c.self.inside.crew c.requested.new.self d c.in-Ok.stream
          c.self.invariant.1 c.request.ensures.same.same_print c.requested.ensures c.put.ensures.there
          (record { own = c.in-Ok.ensures.source ∙ sym c.request.ensures.same.same_print; at = c.in-Ok.ensures.range.0; to = c.in-Ok.ensures.range.1 })
          c.put.ensures.others,
    )
