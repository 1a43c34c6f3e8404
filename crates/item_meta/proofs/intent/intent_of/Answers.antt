use Rattle.std.proofs.Common.{◌≡◌, Some, false, IsTrue, refl, sym, ap, ◌∙◌, codes, subst}
use Rattle.serde_json.specs.Find.{get}
use Rattle.serde_json.specs.View.{view}
use Rattle.item_meta.specs.Object.{is_null, IsWriteIn}
use Rattle.item_meta.proofs.Unique.{other_intent}
use Rattle.item_meta.proofs.intent.intent_of.Goals as goal

pub returns-then-not-is_intent : goal.returns-then-not-is_intent
returns-then-not-is_intent c =
    let at : get (codes "intent") (view c.args.value.now) ≡ Some (view c.in-Some.found.now) = sym c.in-Some.ensures in
    let intent = c.in-Some-write.intent in (
      refl,
      other_intent (get (codes "intent") (view c.args.value.now)) c.args.size c.args.ranges.now c.args.dirty intent
          (ap is_null at ∙ sym c.is_null.ensures ∙ c.if-is_null.false)
          (subst (λ o. IsWriteIn o intent) (sym at) (rw c.in-Some-write.is at c.in-Ok.ensures.found))
          (λ h. let yes : IsTrue c.is_intent.result = c.is_intent.ensures.1 h in let bad : c.is_intent.result ≡ false = c.if-not-is_intent.true in cc),
    )
