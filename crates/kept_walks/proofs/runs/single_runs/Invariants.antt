use Rattle.std.proofs.Common.{◌≡◌, map}
use Rattle.std.specs.List.{range_with_len}
use Rattle.run_laying.specs.Attempts.{run_of}
use Rattle.kept_walks.proofs.runs.single_runs.Given as goal

-- the segments so far
abbrev pub invariant-loop-s : goal.invariant-loop-s
invariant-loop-s l = l.runs.items ≡ map (λ s. run_of l.graph (record { 0 = s })) (range_with_len 0 l.s)
