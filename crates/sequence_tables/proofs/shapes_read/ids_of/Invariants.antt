use Rattle.std.proofs.Common.{take, length, ◌≤◌}
use Rattle.table_rows.specs.Ids.{AreSame}
use Rattle.sequence_tables.proofs.shapes_read.ids_of.Given as goal

abbrev pub invariant-loop-k : goal.invariant-loop-k
invariant-loop-k l = record { same : AreSame l.ids (take l.k l.shapes); few : length l.ids ≤ l.k }
