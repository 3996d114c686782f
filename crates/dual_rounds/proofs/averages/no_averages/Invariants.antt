use Rattle.std.proofs.Common.{◌≡◌, map, take}
use Rattle.dual_ascent.specs.Averages.{never_all}
use Rattle.dual_rounds.specs.Ranges.{averages_of}
use Rattle.dual_rounds.proofs.averages.no_averages.Given as goal

abbrev pub invariant-loop-lines : goal.invariant-loop-lines
invariant-loop-lines l = averages_of l.averages.items ≡ map never_all (take l.lines-index l.lists)
