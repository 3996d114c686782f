use Rattle.std.proofs.Common.{◌≡◌, take}
use Rattle.sequence_tables.specs.KeptShapes.{kept_ids, shapes_of_ids}
use Rattle.sequence_tables.proofs.shapes_kept.kept_shapes.Given as goal

abbrev pub invariant-loop-k : goal.invariant-loop-k
invariant-loop-k l = record {
  ids : l.kept.ids ≡ kept_ids l.named l.ordered (take l.k l.ids);
  shapes : l.kept.shapes.items ≡ shapes_of_ids l.named l.ordered l.points (take l.k l.ids);
}
