use Rattle.std.proofs.Common.{◌≡◌, ◌++◌, map, take}
use Rattle.dual_ascent.specs.Averages.{never}
use Rattle.dual_rounds.proofs.averages.push_never.Given as goal

abbrev pub invariant-loop-other : goal.invariant-loop-other
invariant-loop-other l = l.pairs.items ≡ l.initial.pairs.items ++ map (never l.line) (take l.other-index l.behind)
