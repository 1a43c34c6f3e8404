use Rattle.std.proofs.Common.{◌∙◌, ap, sym, Some, subst, Err}
use Rattle.serde_json.specs.View.{view}
use Rattle.item_meta.specs.Rows.{IsFirstWrongIn}
use Rattle.item_meta.specs.declared.meta.Meta.{Meta}
use Rattle.item_meta.specs.declared.field.Field.TheVariants.{Spelling}
use Rattle.item_meta.specs.declared.field.MetaError.TheVariants.{BadMeta}
use Rattle.item_meta.proofs.Back.{only_memory, none_wrong, text_of_one, told_first}
use Rattle.item_meta.proofs.First.{told, told_by, first_spelling, in_range, other_text, one_text}
use Rattle.item_meta.proofs.read.read_meta.Goals as goal

pub returns-in-Err-meta_of-clause-bad : goal.returns-in-Err-meta_of-clause-bad
returns-in-Err-meta_of-clause-bad c = λ field same.
    let text = c.args.text.now in
    let o = Some (view c.in-Ok.value) in
    subst (λ p. IsFirstWrongIn text p field) (sym c.in-Ok.ensures.reads)
    (told_by text o c.in-Err-meta_of.error field (c.in-Err-meta_of.ensures text c.in-Ok.ensures.head) same)

pub returns-then-ne-clause-bad : goal.returns-then-ne-clause-bad
returns-then-ne-clause-bad c = λ field same.
    let text = c.args.text.now in
    let o = Some (view c.in-Ok.value) in
    subst (λ p. IsFirstWrongIn text p field) (sym c.in-Ok.ensures.reads)
    (told {T = Meta} text o Spelling field same (first_spelling text o c.in-Ok-meta_of.meta (c.in-Ok-meta_of.ensures text c.in-Ok.ensures.head) (λ spelled. other_text c.as_slice.result.now text c.ne.result c.ne.ensures c.if-ne.true (c.as_slice.ensures ∙ c.in-Ok-text_of.ensures.text ∙ sym spelled))))

pub returns-in-Err-clause-exact : goal.returns-in-Err-clause-exact
returns-in-Err-clause-exact c = λ meta is. only_memory c.args.text.now meta is c.in-Err.error (λ field same. c.in-Err.ensures.bad field (ap Err same))

pub returns-in-Err-clause-first : goal.returns-in-Err-clause-first
returns-in-Err-clause-first c = λ field first. told_first c.args.text.now c.in-Err.error field (λ found same. c.in-Err.ensures.bad found (ap Err same)) first

pub returns-in-Err-meta_of-clause-exact : goal.returns-in-Err-meta_of-clause-exact
returns-in-Err-meta_of-clause-exact c = λ meta is. only_memory c.args.text.now meta is c.in-Err-meta_of.error (λ field same. returns-in-Err-meta_of-clause-bad c field (ap Err same))

pub returns-in-Err-meta_of-clause-first : goal.returns-in-Err-meta_of-clause-first
returns-in-Err-meta_of-clause-first c = λ field first. told_first c.args.text.now c.in-Err-meta_of.error field (λ found same. returns-in-Err-meta_of-clause-bad c found (ap Err same)) first

pub returns-then-ne-clause-exact : goal.returns-then-ne-clause-exact
returns-then-ne-clause-exact c = λ meta is. only_memory c.args.text.now meta is (BadMeta Spelling) (λ field same. returns-then-ne-clause-bad c field (ap Err same))

pub returns-then-ne-clause-first : goal.returns-then-ne-clause-first
returns-then-ne-clause-first c = λ field first. told_first c.args.text.now (BadMeta Spelling) field (λ found same. returns-then-ne-clause-bad c found (ap Err same)) first

pub returns-clause-ok : goal.returns-clause-ok
returns-clause-ok c =
    let text = c.args.text.now in
    let o = Some (view c.in-Ok.value) in
    record {
      utf8 = c.in-Ok.ensures.head.shape.0;
      fits = c.in-Ok-text_of.ensures.fits;
      in_range = in_range text o c.in-Ok-meta_of.meta (c.in-Ok-meta_of.ensures text c.in-Ok.ensures.head);
      spelled = sym (one_text c.as_slice.result.now text c.ne.result c.ne.ensures c.if-ne.false) ∙ c.as_slice.ensures ∙ c.in-Ok-text_of.ensures.text;
    }

pub returns-clause-one : goal.returns-clause-one
returns-clause-one c = λ other is. text_of_one c.args.text.now other c.in-Ok-meta_of.meta is (returns-clause-ok c)

pub returns-clause-first : goal.returns-clause-first
returns-clause-first c = λ field first. absurd (none_wrong c.args.text.now c.in-Ok-meta_of.meta (returns-clause-ok c) field first)
