use Rattle.std.proofs.Common.{◌∙◌, ap}
use Rattle.hex.specs.Hex.{encode_lower}
use Rattle.item_meta.proofs.Digits.{is_digits, refused, other_digits}
use Rattle.item_meta.proofs.intent.bytes_of.Goals as goal

pub returns-in_default : goal.returns-in_default
returns-in_default c = record { found = tt; none = refused c.args.digits.now c.in-Err.error c.in-Err.ensures.err c.in_default.not-OutOfMemory }

pub returns-then-eq-clause-found : goal.returns-then-eq-clause-found
returns-then-eq-clause-found c =
    rw c.from_vec.ensures (is_digits c.args.digits.now c.in-Ok.bytes.items c.as_str.result.now c.in-Ok.ensures.ok (c.as_str.ensures.value ∙ c.in_ok-spelled.ensures ∙ ap encode_lower c.as_slice.ensures.value) c.if-eq.ensures)

pub returns-else-eq-clause-none : goal.returns-else-eq-clause-none
returns-else-eq-clause-none c = other_digits c.args.digits.now c.in-Ok.bytes.items c.as_str.result.now c.in-Ok.ensures.ok (c.as_str.ensures.value ∙ c.in_ok-spelled.ensures ∙ ap encode_lower c.as_slice.ensures.value) c.if-eq.ensures
