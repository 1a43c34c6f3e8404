use Rattle.std.proofs.lemmas.List.Filters.{dedup_is}
use Rattle.remote_folder.specs.Rows.{same_name}
use Rattle.remote_folder.proofs.rows.sort_once.Goals as goal

pub returns : goal.returns
returns c = record {
  sorted = c.sort_unstable.new.self.items;
  same = c.sort_unstable.ensures.permutation;
  in_order = c.sort_unstable.ensures.sorted;
  once = dedup_is same_name c.sort_unstable.new.self.items c.dedup.new.self.items c.dedup.ensures.filtered;
}
