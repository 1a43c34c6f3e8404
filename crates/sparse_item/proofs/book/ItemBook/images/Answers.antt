use Rattle.item_image.proofs.Steps.{images}
use Rattle.sparse_item.proofs.book.ItemBook.images.Goals as goal

pub returns : goal.returns
returns g c = rw (← c.self.view_is) (λ t known f i k h. images c.self.invariant.book t known f i k h)
