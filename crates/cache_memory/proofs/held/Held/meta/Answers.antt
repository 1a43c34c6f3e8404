use Rattle.std.proofs.Common.{◌∙◌, ap, sym, reverse}
use Rattle.std.specs.Prelude.{find}
use Rattle.cache_memory.specs.Stored.{sets_meta}
use Rattle.cache_memory.proofs.Calls.{meta_last, meta_none, meta_older, meta_only}
use Rattle.cache_memory.proofs.held.Held.meta.Goals as goal

pub returns-in-Some : goal.returns-in-Some
returns-in-Some c = c.text_of.ensures ∙ sym (meta_last (reverse c.args.self.now.since.items) (reverse c.args.self.now.before.items) c.in-Some.call.now
    (ap (λ l. find sets_meta (reverse l)) (sym c.as_slice.ensures.value) ∙ sym c.in-Some.ensures))

pub returns-in-Some-last_meta : goal.returns-in-Some-last_meta
returns-in-Some-last_meta c =
    c.text_of-in-Some-last_meta.ensures
    ∙ sym (meta_older (reverse c.args.self.now.since.items) (reverse c.args.self.now.before.items) (ap (λ l. find sets_meta (reverse l)) (sym c.as_slice.ensures.value) ∙ sym c.in-None.ensures)
    ∙ meta_only (reverse c.args.self.now.before.items) c.in-Some-last_meta.call.now (ap (λ l. find sets_meta (reverse l)) (sym c.as_slice-in-None.ensures.value) ∙ sym c.in-Some-last_meta.ensures))

pub returns-in-None-last_meta : goal.returns-in-None-last_meta
returns-in-None-last_meta c =
    sym (meta_older (reverse c.args.self.now.since.items) (reverse c.args.self.now.before.items) (ap (λ l. find sets_meta (reverse l)) (sym c.as_slice.ensures.value) ∙ sym c.in-None.ensures)
    ∙ meta_none (reverse c.args.self.now.before.items) (ap (λ l. find sets_meta (reverse l)) (sym c.as_slice-in-None.ensures.value) ∙ sym c.in-None-last_meta.ensures))
