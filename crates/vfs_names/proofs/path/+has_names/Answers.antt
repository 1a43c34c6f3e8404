use Rattle.std.proofs.Common.{◌∙◌, sym, lit<}
use Rattle.vfs_names.proofs.Slashes.{one_name, more_names, bad_name}
use Rattle.vfs_names.proofs.path.+has_names.Goals as goal

pub returns-in-None : goal.returns-in-None
returns-in-None t c = c.is_name.ensures ∙ sym (one_name _ (c.in-None.ensures.byte (lit< tt) (λ w o f. f)))

pub returns-then-is_name : goal.returns-then-is_name
returns-then-is_name t c = more_names _ _ _ c.has_names.result (c.in-Some.ensures.byte (lit< tt) (λ w o f. f)) (sym c.is_name-in-Some.ensures ∙ c.if-is_name.true) c.has_names.ensures

pub returns-else-is_name : goal.returns-else-is_name
returns-else-is_name t c = bad_name _ _ _ c.is_name-in-Some.result (c.in-Some.ensures.byte (lit< tt) (λ w o f. f)) (sym c.is_name-in-Some.ensures ∙ c.if-is_name.false) c.if-is_name.false
