-- What an open that begins so leaves of its file.
use Rattle.std.proofs.Common.{◌≡◌, ◌<◌, ℕ, ◌+◌, ◌++◌, ◌∙◌, ap, sym, refl, arith, true, List, [], ◌∷◌, length, map, reverse}
use Rattle.vfs_names.specs.declared.calls.Access.{Access}
use Rattle.vfs_names.specs.declared.fingerprint.Fingerprint.{Fingerprint}
use Rattle.vfs_names.specs.declared.who.By.{By}
use Rattle.item_core.specs.declared.entry.Entry.{Entry}
use Rattle.item_core.specs.Effects.{is_opened, is_start}
use Rattle.item_core.specs.History.{count_of}
use Rattle.sparse_item.specs.Item.{Item}
use Rattle.sparse_item.specs.Sound.{is_begun}
use Rattle.one_session.specs.Books.{IsSameFile, OpensBook}
use Rattle.one_session.specs.Slots.{IsSoundItem}
use Rattle.one_session.specs.Start.{front_of, named_by, opening}
use Rattle.one_session.specs.declared.start.Start.{Start}
use Rattle.one_session.specs.declared.start.Start.TheVariants.{Kept, Create, Bind, Adopt}
use Rattle.one_session.proofs.Items.{sound_on}

-- at most one path stands beside it
pub named_turned : {O S : Type 0} (path : List ℕ) (start : Start O S) → named_by path start ≡ reverse (named_by path start)
named_turned path Kept = refl
named_turned path Create = refl
named_turned path (Bind object) = refl
named_turned path (Adopt object) = refl

-- the file stays sound
pub opened_item : {O S : Type 0} (print_of : O → Fingerprint) (tells : Type 0) (limit n made : ℕ) (by : By) (access : Access) (start : Start O S) (old new : Item) → IsSoundItem tells limit n old → IsSameFile tells old new
    → new.log.past ≡ reverse (opening by access made (front_of print_of start)) ++ old.log.past → IsSoundItem tells limit n new
opened_item print_of tells limit n made by access start old new s same past = sound_on tells limit n old new (reverse (opening by access made (front_of print_of start))) s same past
