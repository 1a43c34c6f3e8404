use Rattle.std.proofs.Common.{◌≡◌, ◌∙◌, sym, Some, false, subst}
use Rattle.serde_json.specs.Read.{read}
use Rattle.serde_json.specs.View.{view}
use Rattle.item_meta.specs.Object.{has_only}
use Rattle.item_meta.specs.Rows.{own_keys, IsFirstWrongIn}
use Rattle.item_meta.specs.declared.field.Field.TheVariants.{Extra, V}
use Rattle.item_meta.proofs.First.{first_shape, first_extra, first_v, told}
use Rattle.item_meta.proofs.read.object_of.Goals as goal

pub returns-in-Err-clause-bad : goal.returns-in-Err-clause-bad
returns-in-Err-clause-bad c = λ field same.
    let text = c.args.text.now in
    let bad = c.in-Err.ensures.bad field same in
    subst (IsFirstWrongIn text (read text)) (sym bad.0) (first_shape text (read text) bad.1)

pub returns-then-not-has_only-clause-bad : goal.returns-then-not-has_only-clause-bad
returns-then-not-has_only-clause-bad c = λ field same.
    let text = c.args.text.now in
    let o = Some (view c.in-Ok.value) in
    let foreign : has_only own_keys o ≡ false = sym c.has_only.ensures ∙ c.if-not-has_only.true in
    subst (λ p. IsFirstWrongIn text p field) (sym c.in-Ok.ensures.reads)
    (told text o Extra field same (first_extra text o c.in-Ok.ensures.shape (λ h. cc)))

pub returns-then-not-has_version-clause-bad : goal.returns-then-not-has_version-clause-bad
returns-then-not-has_version-clause-bad c = λ field same.
    let text = c.args.text.now in
    let o = Some (view c.in-Ok.value) in
    subst (λ p. IsFirstWrongIn text p field) (sym c.in-Ok.ensures.reads)
    (told text o V field same (first_v text o c.in-Ok.ensures.shape (sym c.has_only.ensures ∙ c.if-not-has_only.false)
    (λ h. let yes = c.has_version.ensures.1 h in let bad : c.has_version.result ≡ false = c.if-not-has_version.true in cc)))
