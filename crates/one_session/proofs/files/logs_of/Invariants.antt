use Rattle.std.proofs.Common.{◌≡◌, ◌≤◌, ◌+◌, ◌++◌, length, map, reverse, vec_len, vec_capacity}
use Rattle.std.specs.List.{AllByRecursion}
use Rattle.std.specs.Vec.Iter.{into_iter_items, into_iter_len}
use Rattle.item_core.specs.Legal.{IsLegal}
use Rattle.one_session.specs.Logs.{history_of}
use Rattle.one_session.specs.State.{History}
use Rattle.one_session.specs.Views.{stored}
use Rattle.one_session.proofs.Lending.{GaveBack}
use Rattle.one_session.proofs.files.logs_of.Given as goal

abbrev pub invariant-loop-file : goal.invariant-loop-file
invariant-loop-file g l = record {
  all : l.yielded ++ into_iter_items l.file-iterator ≡ into_iter_items l.initial.file-iterator;
  left : into_iter_len l.file-iterator ≡ length (into_iter_items l.file-iterator);
  so_far : map history_of l.logs.items ≡ map stored l.yielded;
  room : vec_len l.logs + length (into_iter_items l.file-iterator) ≤ vec_capacity l.logs;
  legal : AllByRecursion (λ (file : History). IsLegal (reverse file.entries)) (map stored l.yielded);
  gave : GaveBack g.D.CacheDisk.tells g.O.Object.tells (into_iter_items l.initial.file-iterator) (length l.yielded) (g.D.CacheDisk.disk l.initial.disk) (g.D.CacheDisk.disk l.disk);
}
