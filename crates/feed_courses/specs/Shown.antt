-- What of a feed is shown: the patterns of lines that are not hidden, and what these use.
use Rattle.std.specs.Prelude.{ℕ, Bool, false, not, ◌==◌, List, length, filter, Option, Some, None, slice_get}
use Rattle.std.specs.List.{list_any, range_with_len}
use Rattle.map_base.specs.declared.ids.StationId.{StationId}
use Rattle.transit_feed.specs.declared.line.Line.{Line}
use Rattle.transit_feed.specs.declared.pattern.Pattern.{Pattern}
use Rattle.transit_feed.specs.Feeds.{Feed}

-- a line that is there is not hidden
abbrev pub is_open : Option Line → Bool
is_open None = false
is_open (Some line) = not line.hidden

-- the line of a pattern is not hidden
abbrev pub is_shown : List Line → Pattern → Bool
is_shown lines pattern = is_open (slice_get lines pattern.line.0)

-- the patterns that are shown, in the order of the feed
unfoldable pub shown_patterns : Feed → List Pattern
shown_patterns feed = filter (is_shown feed.lines) feed.patterns

-- some of these patterns is one of the line
abbrev pub has_pattern : List Pattern → ℕ → Bool
has_pattern patterns line = list_any (λ (p : Pattern). p.line.0 == line) patterns

-- the numbers of the lines that have one of these patterns, rising
abbrev pub lines_with : ℕ → List Pattern → List ℕ
lines_with count patterns = filter (has_pattern patterns) (range_with_len 0 count)

-- the lines that are not hidden and have a pattern
abbrev pub shown_lines : Feed → List ℕ
shown_lines feed = lines_with (length feed.lines) (shown_patterns feed)

-- a station stands in a pattern
abbrev pub serves : ℕ → Pattern → Bool
serves station pattern = list_any (λ (s : StationId). s.0 == station) pattern.stops

-- the numbers of the stations that stand in one of these patterns, rising
abbrev pub stations_in : ℕ → List Pattern → List ℕ
stations_in count patterns = filter (λ n. list_any (serves n) patterns) (range_with_len 0 count)

-- the stations that stand in a pattern that is shown
unfoldable pub used_stations : Feed → List ℕ
used_stations feed = stations_in (length feed.stations) (shown_patterns feed)
