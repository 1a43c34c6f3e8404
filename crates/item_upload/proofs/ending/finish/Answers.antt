use Rattle.std.proofs.Common.{◌≡◌, ap, arith}
use Rattle.item_core.specs.History.{version_of}
use Rattle.sparse_item.specs.Item.{Item}
use Rattle.item_upload.proofs.Contents.{changed_kept, handed_same, handed_whole}
use Rattle.item_upload.proofs.ending.finish.Goals as goal

pub commit_to_path-requires : goal.commit_to_path-requires
commit_to_path-requires g c =
    let past = c.args.item.now.log.past in
    let present : c.args.upload.now.version ≡ version_of past = omega (arith, c.version-was.ensures, c.version-now.ensures, c.if-was-now.false) in
    record { kept = changed_kept past c.entries.ensures.legal (c.requires.staged present).dirty }

pub returns-in-Ok-upload_save-clause-whole : goal.returns-in-Ok-upload_save-clause-whole
returns-in-Ok-upload_save-clause-whole g c file store is =
    let item = c.args.item.now in
    let past = item.log.past in
    let new = c.upload_save.new.self in
    let shows = g.R.Object.Object.tells in
    let first = item.slot.told.first in
    let handed = (g.R.Remote.outside c.args.remote.now).handed in
    let bytes = g.R.Remote.staged c.args.stage in
    let present : c.args.upload.now.version ≡ version_of past = omega (arith, c.version-was.ensures, c.version-now.ensures, c.if-was-now.false) in
    handed_same shows first _ new.log.past item.pairs new.pairs _ (g.R.Remote.outside c.commit_to_path.new.remote).handed
    c.in-Ok.ensures.handed c.in-Ok-upload_save.ensures.ok (ap (λ (v : Item). v.pairs) c.in-Ok-upload_save.ensures.saved)
    (handed_whole shows first past item.pairs handed c.args.by new.slot.calls _ c.in-Ok.print bytes is (λ known f i. (c.requires.staged present).content store file known f i))
