use Rattle.std.proofs.Common.{◌≤◌, length}
use Rattle.walk_search.specs.Asking.{question}
use Rattle.walk_search.specs.Enclosed.{AreReached}
use Rattle.walk_search.proofs.enclosed.is_shut_in.Given as goal

abbrev pub invariant-loop-followed : goal.invariant-loop-followed
invariant-loop-followed l = record {
  reached : AreReached (question l.asked) l.points.items l.followed;
  within : l.followed ≤ length l.points.items;
}
