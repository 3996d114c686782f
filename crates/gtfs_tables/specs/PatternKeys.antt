-- Patterns as they are kept while they are found.
use Rattle.transit_feed.specs.declared.pattern.Pattern.{Pattern}
use Rattle.gtfs_tables.specs.declared.pattern_set.PatternKey.{PatternKey}

-- the pattern that a key stands for
abbrev pub pattern_of_key : PatternKey → Pattern
pattern_of_key key = record { line = key.line; stops = key.stops.items; shape = key.shape }
