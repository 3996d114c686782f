use Rattle.std.proofs.Common.{◌≡◌, ◌-◌, ◌+◌, ◌<◌, ◌≤◌}
use Rattle.dual_ascent.specs.Rounds.{rounds}
use Rattle.dual_orders.specs.Answered.{AreAnswers}
use Rattle.dual_orders.specs.SettledPairs.{pairs_of}
use Rattle.kept_trees.specs.Searching.{search_of, ascent_of, IsUnderWay, IsAscent}
use Rattle.kept_trees.proofs.rounds.go_on.Given as goal

-- the rounds that are left come to what all come to
abbrev pub invariant-loop : goal.invariant-loop
invariant-loop g l = record {
  rounds_left : rounds (search_of l.search) (pairs_of l.settled) (l.most - l.counter) (ascent_of l.now l.ascent)
      ≡ rounds (search_of l.search) (pairs_of l.settled) l.most (ascent_of l.initial.now l.initial.ascent);
  under_way : IsUnderWay l.search l.now;
  ascent : IsAscent l.search.part.problem.now l.ascent;
  answers : AreAnswers l.search.part.problem.now (pairs_of l.settled) l.held;
  stale : l.ascent.stale < 20;
  round : l.ascent.round ≤ l.counter;
  steps : l.steps + l.initial.now.branches ≡ l.initial.steps + l.now.branches;
}
