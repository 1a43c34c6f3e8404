use Rattle.std.proofs.Common.{◌≡◌, false, take}
use Rattle.std.specs.List.{list_any}
use Rattle.vfs_names.specs.Path.{same_text}
use Rattle.item_meta.proofs.object.is_among.Given as goal

abbrev pub invariant-loop-name : goal.invariant-loop-name
invariant-loop-name l = list_any (λ name. same_text l.key name.now) (take l.name-index l.names) ≡ false
