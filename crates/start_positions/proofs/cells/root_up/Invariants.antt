use Rattle.std.proofs.Common.{◌≡◌, ◌-◌}
use Rattle.start_positions.specs.Cells.{root_from, root_up}
use Rattle.start_positions.proofs.cells.root_up.Given as goal

abbrev pub invariant-loop-m : goal.invariant-loop-m
invariant-loop-m l = root_from l.n l.m (100 - l.m) ≡ root_up l.n
