use Rattle.std.proofs.Common.{ap, sym, ◌∙◌, string_bytes}
use Rattle.std.specs.List.{position}
use Rattle.vfs_names.specs.Path.{same_text}
use Rattle.one_session.proofs.PathLists.{position-map}
use Rattle.one_session.proofs.paths.Paths.find.Goals as goal

pub returns-clause-found : goal.returns-clause-found
returns-clause-found c = c.get_index_of.ensures.index ∙ ap (λ text. position (λ k. same_text text (string_bytes k)) c.self.inside.set.keys) c.as_str.ensures.text
    ∙ sym (position-map string_bytes (same_text c.args.path.now) c.self.inside.set.keys) ∙ ap (λ v. position (same_text c.args.path.now) v.paths) c.self.view_is
