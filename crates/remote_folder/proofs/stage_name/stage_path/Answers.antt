use Rattle.std.proofs.Common.{rules, string_bytes}
use Rattle.remote_folder.proofs.Unlisted.{path_of_pieces, stage_hidden}
use Rattle.remote_folder.proofs.stage_name.stage_path.Goals as goal

pub returns-clause-path : goal.returns-clause-path
returns-clause-path c = path_of_pieces c.args.folder.now (string_bytes c.push.new.self) (string_bytes c.push_str.new.self) (string_bytes c.push_str-2.new.self) c.format.result.now c.args.number
    (search rules) (search rules) (search rules) (search rules)

pub returns-clause-hidden : goal.returns-clause-hidden
returns-clause-hidden c = stage_hidden c.args.number
