-- What a poster shows of station nodes: which lines end there, where one changes, and how large stations are. The lines
-- that call at nodes are told by lists, one for each node, each rising.
use Rattle.std.specs.Prelude.{ℕ, ◌+◌, ◌*◌, ◌==◌, ◌&&◌, Bool, true, false, nat_le, List, [], length, filter, if◌then◌else◌, Option, Some, None, slice_get, unwrap_or}
use Rattle.std.specs.List.{list_all, list_any}
use Rattle.std.specs.Str.{chars}
use Rattle.map_base.specs.declared.ids.NodeId.{NodeId}
use Rattle.map_base.specs.declared.ids.SegId.{SegId}
use Rattle.map_base.specs.declared.ids.LineId.{LineId}
use Rattle.graph_core.specs.declared.parts.GraphParts.{GraphParts}
use Rattle.octi_grid.specs.declared.dir.Dir.{Dir}
use Rattle.octi_grid.specs.declared.dir.Dir.TheVariants as dir
use Rattle.octi_grid.specs.Walks.{PlainWalk, end_port, start_port}
use Rattle.svg_writer.specs.declared.names.Names.{Names}
use Rattle.svg_writer.specs.Picture.{ends_at, lines_at, most_lines, name_of, round_at, walk_at}

-- the lines that call at node n
abbrev pub callers_at : List (List LineId) → ℕ → List LineId
callers_at callers n = unwrap_or (slice_get callers n) []

-- a line is one of these
abbrev pub has_line : LineId → List LineId → Bool
has_line l lines = list_any (λ (a : LineId). a.0 == l.0) lines

-- how many segments of a node a line is on
abbrev pub segments_with : GraphParts → ℕ → LineId → ℕ
segments_with g n l = length (filter (λ (s : SegId). has_line l (lines_at g.lines s.0)) (round_at g.rounds n))

-- a name has one to five characters
abbrev pub is_short : List ℕ → Bool
is_short name = nat_le 1 (length (chars name)) && nat_le (length (chars name)) 5

-- a line that calls at node n ends there: it is on exactly one of its segments, and its name is short
abbrev pub is_end : Names → GraphParts → ℕ → LineId → Bool
is_end names g n l = (segments_with g n l == 1) && is_short (name_of names l)

-- the lines that end at node n, rising
abbrev pub ending : Names → GraphParts → List (List LineId) → ℕ → List LineId
ending names g callers n = filter (is_end names g n) (callers_at callers n)

-- an interchange has at least three segments, and at least two lines call there
abbrev pub is_interchange : GraphParts → List (List LineId) → ℕ → Bool
is_interchange g callers n = nat_le 3 (length (round_at g.rounds n)) && nat_le 2 (length (callers_at callers n))

-- how far a station reaches from its centre
abbrev pub radius_at : GraphParts → List (List LineId) → ℕ → ℕ
radius_at g callers n = 7 * most_lines g.lines (round_at g.rounds n) + (if is_interchange g callers n then 7 else 3)

-- the direction in which a segment leaves node n, an end of it
abbrev pub port_at : ℕ → NodeId × NodeId → PlainWalk → Option Dir
port_at n ends walk = if ends.0.0 == n then start_port walk else end_port walk

-- a direction is to the east or to the west
abbrev pub is_level : Option Dir → Bool
is_level None = false
is_level (Some dir.N) = false
is_level (Some dir.NE) = false
is_level (Some dir.E) = true
is_level (Some dir.SE) = false
is_level (Some dir.S) = false
is_level (Some dir.SW) = false
is_level (Some dir.W) = true
is_level (Some dir.NW) = false

-- all segments of node n leave it to the east or to the west
abbrev pub leaves_level : GraphParts → List PlainWalk → ℕ → Bool
leaves_level g walks n = list_all (λ (s : SegId). is_level (port_at n (ends_at g.ends s.0) (walk_at walks s.0))) (round_at g.rounds n)
