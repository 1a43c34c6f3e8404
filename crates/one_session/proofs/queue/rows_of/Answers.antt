use Rattle.std.proofs.Common.{◌≡◌, ◌∙◌, ◌++◌, ◌+◌, ℕ, ap, append-nil, append_assoc, sym}
use Rattle.item_core.specs.History.{is_owed}
use Rattle.sparse_item.specs.Item.{Item}
use Rattle.one_session.specs.Queued.{id_of, row_at, row_if}
use Rattle.one_session.proofs.Rest.{rest, rest_end, rest_more}
use Rattle.one_session.proofs.Shelves.{item_is}
use Rattle.one_session.proofs.queue.rows_of.Goals as goal

pub push_row-requires : goal.push_row-requires
push_row-requires g c = λ waits. c.requires.members (id_of c.loop-index.index) ∙ ap (λ (x : Item). is_owed x.log.past) (item_is c.args.files.now c.loop-index.index c.index-files-index.result c.loop-index-test.true c.index-files-index.is) ∙ sym c.owed.ensures ∙ waits

pub loop-index-preserved : goal.loop-index-preserved
loop-index-preserved g c =
    let w = c.args.queue.now.terms.write_back in
    let q = c.args.queue.now.entries in
    let i = c.loop-index.index in
    let left = rest (λ (file : ℕ × Item). is_owed file.1.log.past) (λ (file : ℕ × Item). row_at w q file.0) in
    ap (λ l. l ++ left (i + 1) c.args.files.now) (c.in_ok-push_row.ensures ∙ ap (λ b. c.loop-index.rows.items ++ row_if b w q i) c.owed.ensures)
    ∙ append_assoc c.loop-index.rows.items (row_if (is_owed c.index-files-index.result.log.past) w q i) (left (i + 1) c.args.files.now)
    ∙ ap (λ l. c.loop-index.rows.items ++ l) (sym (rest_more (λ (file : ℕ × Item). is_owed file.1.log.past) (λ (file : ℕ × Item). row_at w q file.0) c.args.files.now i c.index-files-index.result c.loop-index-test.true c.index-files-index.is))
    ∙ c.loop-index.invariant

pub returns : goal.returns
returns g c = sym (append-nil c.loop-index.rows.items)
    ∙ ap (λ l. c.loop-index.rows.items ++ l) (sym (rest_end (λ (file : ℕ × Item). is_owed file.1.log.past) (λ (file : ℕ × Item). row_at c.args.queue.now.terms.write_back c.args.queue.now.entries file.0) c.args.files.now c.loop-index.index c.loop-index-test.false))
    ∙ c.loop-index.invariant
