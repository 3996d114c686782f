use Rattle.std.proofs.Common.{◌≡◌, [], take}
use Rattle.table_rows.specs.Firsts.{firsts_behind}
use Rattle.gtfs_tables.specs.Patterns.{trip_patterns, is_same_pattern}
use Rattle.gtfs_tables.proofs.patterns.patterns_of.Given as goal

abbrev pub invariant-loop-trip : goal.invariant-loop-trip
invariant-loop-trip l = l.seen ≡ firsts_behind is_same_pattern [] (trip_patterns (take l.trip l.lines) (take l.trip l.stations) (take l.trip l.shapes))
