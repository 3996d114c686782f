use Rattle.std.proofs.Common.{◌≡◌, ◌++◌, replicate}
use Rattle.drawing_search.proofs.cutting.push_steps.Given as goal

-- the steps so far
abbrev pub invariant-loop : goal.invariant-loop
invariant-loop l = l.steps.items ≡ l.fn.steps.items ++ replicate l.counter l.run.dir
