use Rattle.std.proofs.Common.{◌++◌}
use Rattle.one_session.specs.Served.{Knows}
use Rattle.one_session.proofs.Served.{grown_by}
use Rattle.one_session.proofs.Serving.{goes, holds_part}
use Rattle.one_session.proofs.laws.what_a_call_does_matches.Goals as goal

pub returns : goal.returns
returns g c = λ session by line done s t more before own numbered recorded tree_later file_later did. record {
  fits = goes session (Knows g.F.CacheFile.tells g.O.Object.tells before) (Knows g.F.CacheFile.tells g.O.Object.tells (more ++ before)) (λ known h. (h.0, holds_part g.O.Object.tells more before known h.1)) by line done s t own numbered did tree_later file_later recorded;
  records = recorded;
  limit = did.limit;
  more = (grown_by session by t.files line.call done s.tree t.tree did.in_tree).0;
  grew = (grown_by session by t.files line.call done s.tree t.tree did.in_tree).1;
  made = (grown_by session by t.files line.call done s.tree t.tree did.in_tree).2;
}
