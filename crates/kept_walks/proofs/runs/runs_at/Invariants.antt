use Rattle.std.proofs.Common.{◌≡◌, filter, take}
use Rattle.kept_walks.specs.Straightening.{ends_at}
use Rattle.kept_walks.proofs.runs.runs_at.Given as goal

-- those of the runs so far
abbrev pub invariant-loop-run : goal.invariant-loop-run
invariant-loop-run l = l.found.items ≡ filter (ends_at l.nodes) (take l.run-index l.runs)
