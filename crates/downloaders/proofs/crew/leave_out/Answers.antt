use Rattle.std.proofs.Common.{rules, not}
use Rattle.arrayvec.proofs.ArrayVecLemmas.{filter-from_retain}
use Rattle.downloaders.specs.declared.Downloader.{Downloader}
use Rattle.downloaders.specs.Crew.{is_at}
use Rattle.downloaders.proofs.crew.leave_out.Goals as goal

pub returns : goal.returns
returns c =
    filter-from_retain _ (λ (d : Downloader). not (is_at c.args.run d)) _ (λ x b f' y k. search rules) _ _ c.retain.ensures.filtered
