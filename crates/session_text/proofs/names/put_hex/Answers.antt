use Rattle.std.proofs.Common.{◌∙◌}
use Rattle.session_text.proofs.Digits.{piece_put, all_put}
use Rattle.session_text.proofs.Kept.{kept_on}
use Rattle.session_text.proofs.names.put_hex.Goals as goal

pub loop-piece-preserved : goal.loop-piece-preserved
loop-piece-preserved c =
    (piece_put _ _ _ _ _ _ _ c.in-Some.ensures.steps.1.0 c.in_ok-put_piece.ensures.ok c.loop-piece.invariant.0, c.in-Some.ensures.steps.0 ∙ c.loop-piece.invariant.1, kept_on _ _ _ c.loop-piece.invariant.2 c.put_piece.ensures.kept)

pub returns-clause-ok : goal.returns-clause-ok
returns-clause-ok c = all_put _ _ _ _ c.in-None.ensures.steps.1.0 c.loop-piece.invariant.0
