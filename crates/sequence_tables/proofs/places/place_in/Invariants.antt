use Rattle.std.proofs.Common.{◌≡◌, ◌+◌}
use Rattle.sequence_tables.proofs.PlaceRunLemmas.{places_before_run}
use Rattle.sequence_tables.proofs.places.place_in.Given as goal

abbrev pub invariant-loop-k : goal.invariant-loop-k
invariant-loop-k l = l.index ≡ places_before_run l.runs l.k + l.left
