use Rattle.std.proofs.Common.{◌≡◌, ◌+◌, ◌-◌, ◌≤◌, min, List, [], ◌∷◌, ◌++◌, length, reverse, vec_len, vec_capacity, refl, sym, ◌∙◌, ap, subst, arith}
use Rattle.std.proofs.lemmas.List.{reverse-append, length-reverse}
use Rattle.item_core.specs.declared.entry.Entry.{Entry}
use Rattle.item_core.specs.declared.facts.Facts.{Facts}
use Rattle.item_core.specs.Effects.{raises, is_opened, is_closed, is_start, is_end, places}
use Rattle.item_core.specs.History.{version_of, opens_of, begun_of}
use Rattle.item_core.specs.Legal.{MayFollow}
use Rattle.item_core.specs.Log.{Log}
use Rattle.item_core.specs.Step.{moved, IsTold}
use Rattle.item_core.proofs.Steps.{count_le, placed, told_after}
use Rattle.item_core.proofs.history.Core.push.Goals as goal

pub after-self-inside-requires-clause-version : goal.after-self-inside-requires-clause-version
after-self-inside-requires-clause-version c =
    let past : List Entry = reverse c.self.inside.entries.items in
    let counted : version_of past ≤ length past = count_le raises past in
    let len : length past ≡ length c.self.inside.entries.items = length-reverse c.self.inside.entries.items in
    let same : c.self.inside.facts.version ≡ version_of past = c.self.invariant.0.version in
    omega (arith, c.self.inside.entries.ok.0, c.self.invariant.1)

pub unwrap-requires : goal.unwrap-requires
unwrap-requires c =
    let past : List Entry = reverse c.self.inside.entries.items in
    let P : Log → Type 0 = λ log. MayFollow log.past c.args.entry in
    let may : MayFollow past c.args.entry = subst P (sym c.self.view_is) c.requires.legal in
    let Q : Log → Type 0 = λ log. places c.args.entry.kind ≤ log.spare in
    let room : places c.args.entry.kind ≤ min (vec_capacity c.self.inside.entries) c.self.inside.limit - (vec_len c.self.inside.entries + (c.self.inside.facts.opens + c.self.inside.facts.begun)) = subst Q (sym c.self.view_is) c.requires.place in
    let used = placed c.args.entry.kind past c.args.entry.by c.self.invariant.0.legal may.allowed in
    let opens : c.self.inside.facts.opens ≡ opens_of past = c.self.invariant.0.opens in
    let begun : c.self.inside.facts.begun ≡ begun_of past = c.self.invariant.0.begun in
    c.push.ensures.succeeds (omega (arith, c.self.invariant.1))

pub invariant_of-self : goal.invariant_of-self
invariant_of-self c =
    let past : List Entry = reverse c.self.inside.entries.items in
    let P : Log → Type 0 = λ log. MayFollow log.past c.args.entry in
    let may : MayFollow past c.args.entry = subst P (sym c.self.view_is) c.requires.legal in
    let Q : Log → Type 0 = λ log. places c.args.entry.kind ≤ log.spare in
    let room : places c.args.entry.kind ≤ min (vec_capacity c.self.inside.entries) c.self.inside.limit - (vec_len c.self.inside.entries + (c.self.inside.facts.opens + c.self.inside.facts.begun)) = subst Q (sym c.self.view_is) c.requires.place in
    let used = placed c.args.entry.kind past c.args.entry.by c.self.invariant.0.legal may.allowed in
    let opens : c.self.inside.facts.opens ≡ opens_of past = c.self.invariant.0.opens in
    let begun : c.self.inside.facts.begun ≡ begun_of past = c.self.invariant.0.begun in
    let opens' : c.after-self-inside.result.opens ≡ moved (is_opened c.args.entry.kind) (is_closed c.args.entry.kind) (opens_of past) = rw (c.after-self-inside.ensures, opens) refl in
    let begun' : c.after-self-inside.result.begun ≡ moved (is_start c.args.entry.kind) (is_end c.args.entry.kind) (begun_of past) = rw (c.after-self-inside.ensures, begun) refl in
    let items : c.push.new.self.items ≡ c.self.inside.entries.items ++ c.args.entry ∷ [] = rw c.unwrap.ensures at c.push.ensures.items in
    let grown : c.args.entry ∷ past ≡ reverse c.push.new.self.items = sym (ap reverse items ∙ reverse-append c.self.inside.entries.items (c.args.entry ∷ [])) in
    let T : List Entry → Type 0 = λ entries. IsTold entries c.after-self-inside.result in
    let F : Facts → Type 0 = λ facts. IsTold (c.args.entry ∷ past) facts in
    let told : IsTold (c.args.entry ∷ past) c.after-self-inside.result = subst F (sym c.after-self-inside.ensures) (told_after past c.self.inside.facts c.args.entry c.self.invariant.0 may) in
    (subst T grown told, omega (arith, c.self.invariant.1))

pub returns-clause-spare : goal.returns-clause-spare
returns-clause-spare c =
    let past : List Entry = reverse c.self.inside.entries.items in
    let P : Log → Type 0 = λ log. MayFollow log.past c.args.entry in
    let may : MayFollow past c.args.entry = subst P (sym c.self.view_is) c.requires.legal in
    let spare : c.args.self.now.spare ≡ min (vec_capacity c.self.inside.entries) c.self.inside.limit - (vec_len c.self.inside.entries + (c.self.inside.facts.opens + c.self.inside.facts.begun)) = ap (λ (log : Log). log.spare) (sym c.self.view_is) in
    let used = placed c.args.entry.kind past c.args.entry.by c.self.invariant.0.legal may.allowed in
    let opens : c.self.inside.facts.opens ≡ opens_of past = c.self.invariant.0.opens in
    let begun : c.self.inside.facts.begun ≡ begun_of past = c.self.invariant.0.begun in
    let opens' : c.after-self-inside.result.opens ≡ moved (is_opened c.args.entry.kind) (is_closed c.args.entry.kind) (opens_of past) = rw (c.after-self-inside.ensures, opens) refl in
    let begun' : c.after-self-inside.result.begun ≡ moved (is_start c.args.entry.kind) (is_end c.args.entry.kind) (begun_of past) = rw (c.after-self-inside.ensures, begun) refl in
    omega (arith, c.self.invariant.1)
