use Rattle.std.proofs.Common.{ap, ◌∙◌}
use Rattle.serde_json.specs.Read.{read}
use Rattle.item_meta.proofs.Written.{text_from, reads_from}
use Rattle.item_meta.proofs.write.text_of.Goals as goal

pub returns-in-Ok-to_vec-clause-text : goal.returns-in-Ok-to_vec-clause-text
returns-in-Ok-to_vec-clause-text c = c.from_vec.ensures ∙ text_from c.args.meta.now _ _ c.in-Ok.ensures.value c.in-Ok-to_vec.ensures.text

pub returns-in-Ok-to_vec-clause-reads : goal.returns-in-Ok-to_vec-clause-reads
returns-in-Ok-to_vec-clause-reads c = ap read c.from_vec.ensures ∙ reads_from c.args.meta.now _ _ c.in-Ok.ensures.value c.in-Ok-to_vec.ensures.reads_back
