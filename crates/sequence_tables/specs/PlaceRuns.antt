-- Places that are kept as runs.
use Rattle.std.specs.Prelude.{ℕ, List, ◌++◌}
use Rattle.std.specs.List.{flat_map, range_with_len}
use Rattle.sequence_tables.specs.declared.place_run.PlaceRun.{PlaceRun}

-- the places of a run
abbrev pub places_of_run : PlaceRun → List ℕ
places_of_run run = range_with_len run.first run.count

-- the places of runs, of which the last is given apart
abbrev pub places_of_runs : List PlaceRun → PlaceRun → List ℕ
places_of_runs runs last = flat_map places_of_run runs ++ places_of_run last
