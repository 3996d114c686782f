use Rattle.std.proofs.Common.{◌≡◌, map, take}
use Rattle.table_rows.specs.Ids.{place_among}
use Rattle.sequence_tables.proofs.shapes_kept.places_among.Given as goal

abbrev pub invariant-loop-k : goal.invariant-loop-k
invariant-loop-k l = l.places.items ≡ map (place_among l.kept) (take l.k l.ids)
