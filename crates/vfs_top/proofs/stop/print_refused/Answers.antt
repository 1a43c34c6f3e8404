use Rattle.std.proofs.Common.{◌∙◌, ◌++◌, ap, codes, decimal}
use Rattle.session_script.specs.Reasons.{why_text}
use Rattle.vfs_top.proofs.Pieces.{four_pieces}
use Rattle.vfs_top.proofs.stop.print_refused.Goals as goal

pub returns : goal.returns
returns c =
    four_pieces _ (codes "script line ") (decimal c.args.line) (codes ": ") (why_text c.args.why) _ _ _ _
    c.in_ok-append.ensures.ok
    c.in_ok-print_number.ensures
    c.in_ok-append-2.ensures.ok
    (c.in_ok-append-3.ensures.ok ∙ ap (λ l. c.append-2.new.self ++ l) (c.as_bytes.ensures.value ∙ c.text.ensures))
