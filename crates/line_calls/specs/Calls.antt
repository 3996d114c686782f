-- Which lines call at stations.
use Rattle.std.specs.Prelude.{ℕ, ◌==◌, ◌&&◌, Bool, List, [], length, map, filter}
use Rattle.std.specs.List.{list_any, range_with_len}
use Rattle.map_base.specs.declared.ids.LineId.{LineId}
use Rattle.graph_core.specs.declared.parts.NodeKind.{NodeKind}
use Rattle.graph_core.specs.declared.parts.NodeKind.TheVariants.{Station, Junction}
use Rattle.transit_feed.specs.declared.pattern.Pattern.{Pattern}
use Rattle.transit_feed.specs.Feeds.{Feed}
use Rattle.feed_courses.specs.Shown.{is_shown, serves}

-- a pattern of the line has the station
abbrev pub is_call : ℕ → ℕ → Pattern → Bool
is_call station line pattern = (pattern.line.0 == line) && serves station pattern

-- a line calls at a station: some pattern of it, which is shown, has the station
abbrev pub calls : Feed → ℕ → ℕ → Bool
calls feed station line = list_any (λ (p : Pattern). is_shown feed.lines p && is_call station line p) feed.patterns

-- the line of a number
abbrev pub line_numbered : ℕ → LineId
line_numbered n = record { 0 = n }

-- the lines that call at a station, rising
abbrev pub callers : Feed → ℕ → List LineId
callers feed station = map line_numbered (filter (calls feed station) (range_with_len 0 (length feed.lines)))

-- the lines that call at a node: none at a junction
abbrev pub callers_at : Feed → NodeKind → List LineId
callers_at feed (Station s) = callers feed s.0
callers_at feed Junction = []

-- the same of each node of a line graph, in node order
abbrev pub node_callers : Feed → List NodeKind → List (List LineId)
node_callers feed kinds = map (callers_at feed) kinds
