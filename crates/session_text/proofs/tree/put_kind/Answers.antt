-- The entry is this kind, and its words are those that were put.
use Rattle.session_text.proofs.tree.put_kind.Goals as goal

pub returns-in-DirectRead-clause-ok : goal.returns-in-DirectRead-clause-ok
returns-in-DirectRead-clause-ok c = rw c.in-DirectRead.is c.put_object-in-DirectRead.ensures.ok
