use Rattle.std.proofs.Common.{rules, ◌∙◌, string_bytes}
use Rattle.vfs_names.proofs.Slashes.{take_is_path}
use Rattle.vfs_names.proofs.path.VPath.parent.Goals as goal

pub invariant_of-result : goal.invariant_of-result
invariant_of-result c = take_is_path (string_bytes c.self.inside.text) _ c.in-Some.slash c.self.invariant (search rules) (search rules) (c.in-Ok.ensures.ok ∙ search rules)
