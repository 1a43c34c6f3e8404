use Rattle.std.proofs.Common.{refl, sym}
use Rattle.session_script.proofs.FlagWords.{only_flags}
use Rattle.session_script.proofs.flags.take_flags.Goals as goal

pub returns-clause-only : goal.returns-clause-only
returns-clause-only c = λ how same e. only_flags c.take-create.result c.take-excl.result c.take-trunc.result c.take-append.result c.args.words.now c.take-create.new.self c.take-excl.new.self c.take-trunc.new.self c.take-append.new.self c.take-create.ensures c.take-excl.ensures c.take-trunc.ensures c.take-append.ensures _ how refl refl refl refl (sym same) e
