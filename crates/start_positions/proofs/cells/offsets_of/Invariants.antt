use Rattle.std.proofs.Common.{◌≡◌, ◌++◌, drop, map}
use Rattle.start_positions.specs.Cells.{offset_of, offsets_of}
use Rattle.start_positions.proofs.cells.offsets_of.Given as goal

abbrev pub invariant-loop-n : goal.invariant-loop-n
invariant-loop-n l = l.offsets.items ++ map (offset_of l.graph.places) (drop l.n l.graph.places) ≡ offsets_of l.graph.places
