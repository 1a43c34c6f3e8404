use Rattle.std.proofs.Common.{ap, ◌∙◌, ◌++◌, [], ◌∷◌, map, cond, string_bytes}
use Rattle.std.specs.List.{position}
use Rattle.std.proofs.lemmas.List.{map-append}
use Rattle.vfs_names.specs.Path.{same_text}
use Rattle.one_session.proofs.PathLists.{absent_any}
use Rattle.one_session.proofs.paths.Paths.push.Goals as goal

pub returns : goal.returns
returns c = ap (map string_bytes) (c.in-Ok.ensures.keys ∙ ap (λ b. cond b c.self.inside.set.keys (c.self.inside.set.keys ++ c.args.text ∷ [])) (absent_any string_bytes (same_text (string_bytes c.args.text)) c.self.inside.set.keys (ap (λ v. position (same_text (string_bytes c.args.text)) v.paths) c.self.view_is ∙ c.requires.absent)))
    ∙ map-append string_bytes c.self.inside.set.keys (c.args.text ∷ []) ∙ ap (λ v. v.paths ++ string_bytes c.args.text ∷ []) c.self.view_is
