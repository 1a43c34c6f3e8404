use Rattle.std.proofs.Common.{◌≡◌, arith}
use Rattle.item_core.specs.History.{version_of}
use Rattle.item_upload.proofs.Contents.{changed_kept}
use Rattle.item_upload.proofs.blocks.block.Goals as goal

pub upload_bytes-requires-clause-kept : goal.upload_bytes-requires-clause-kept
upload_bytes-requires-clause-kept g c =
    let past = c.args.item.now.log.past in
    let present : c.args.upload.now.version ≡ version_of past = omega (arith, c.version-was.ensures, c.version-now.ensures, c.if-was-now.false) in
    changed_kept past c.entries.ensures.legal (c.requires.dirty present)
