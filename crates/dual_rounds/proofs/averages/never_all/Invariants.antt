use Rattle.std.proofs.Common.{◌≡◌, ◌++◌, drop}
use Rattle.dual_ascent.specs.Averages.{never_all}
use Rattle.dual_rounds.proofs.averages.never_all.Given as goal

-- the pairs of the lines that are still to come are lacking
abbrev pub invariant-loop-i : goal.invariant-loop-i
invariant-loop-i l = l.pairs.items ++ never_all (drop l.i l.lines) ≡ never_all l.lines
