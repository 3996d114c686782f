use Rattle.std.proofs.Common.{◌≡◌, map, take}
use Rattle.gtfs_tables.specs.PatternKeys.{pattern_of_key}
use Rattle.gtfs_tables.proofs.pattern_set.PatternSet.to_patterns.Given as goal

abbrev pub invariant-loop-key : goal.invariant-loop-key
invariant-loop-key l = l.patterns.items ≡ map pattern_of_key (take l.key-index l.keys)
