use Rattle.std.proofs.Common.{◌≡◌, ◌∙◌, ℕ, ap, refl}
use Rattle.std.proofs.lemmas.List.{reverse-reverse}
use Rattle.item_core.specs.History.{is_owed}
use Rattle.sparse_item.specs.Item.{Item}
use Rattle.one_session.specs.Queued.{is_owed_file, item_rows, queue_of, row_at, row_of}
use Rattle.one_session.specs.Views.{Shelf, histories, stored}
use Rattle.one_session.proofs.Rest.{rows_seen}
use Rattle.one_session.proofs.Shelves.{if_ok}
use Rattle.one_session.proofs.files.Files.queue_rows.Goals as goal

pub returns : goal.returns
returns g c =
    let w = c.self.inside.queue.terms.write_back in
    let q = c.self.inside.queue.entries in
    let items = c.self.inside.files.items in
    if_ok c.rows_of.result (λ rows e. e ∙ ap (item_rows w q) c.deref.ensures.value
    ∙ rows_seen (λ (file : ℕ × Item). is_owed file.1.log.past) (λ (file : ℕ × Item). row_at w q file.0) stored is_owed_file (row_of w q) (λ n x. ap is_owed (reverse-reverse x.log.past)) (λ n x. refl) 0 items
    ∙ ap (λ (v : Shelf). queue_of v.queue.terms.write_back v.queue.entries (histories v.items)) c.self.view_is) c.rows_of.ensures
