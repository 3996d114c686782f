-- Which names a poster prints, and how wide they are.
use Rattle.std.specs.Prelude.{ℕ, ◌+◌, ◌==◌, ◌&&◌, Bool, false, List, [], ◌∷◌, map, sum_by, if◌then◌else◌, bytes_eq, Option, Some, None, slice_get, unwrap_or}
use Rattle.std.specs.List.{flat_map, list_any}
use Rattle.map_base.specs.declared.ids.NodeId.{NodeId}
use Rattle.map_base.specs.declared.ids.LineId.{LineId}
use Rattle.graph_core.specs.declared.parts.NodeKind.{NodeKind}
use Rattle.graph_core.specs.declared.parts.NodeKind.TheVariants.{Station, Junction}
use Rattle.graph_core.specs.declared.parts.GraphParts.{GraphParts}
use Rattle.svg_writer.specs.declared.names.Names.{Names}
use Rattle.svg_writer.specs.Picture.{name_of, station_name}
use Rattle.name_widths.specs.Widths.{text_width}
use Rattle.name_widths.specs.Words.{rest_of}
use Rattle.poster_rules.specs.Stations.{ending}

-- the name of a node, where it is a station
abbrev pub node_names : Names → NodeKind → List (List ℕ)
node_names names (Station s) = station_name names s.0 ∷ []
node_names names Junction = []

-- the names of all station nodes
abbrev pub all_names : Names → GraphParts → List (List ℕ)
all_names names g = flat_map (node_names names) g.kinds

-- the name of a node without a word with which more than half of these names begin, where it is a station
abbrev pub node_rest : List (List ℕ) → Names → NodeKind → Option (List ℕ)
node_rest all names (Station s) = Some (rest_of all (station_name names s.0))
node_rest all names Junction = None

-- the name of each node without such a word
abbrev pub all_rests : Names → GraphParts → List (Option (List ℕ))
all_rests names g = map (node_rest (all_names names g) names) g.kinds

-- that of node n
abbrev pub rest_at : List (Option (List ℕ)) → ℕ → Option (List ℕ)
rest_at rests n = unwrap_or (slice_get rests n) None

-- two stations have the same
abbrev pub are_same : Option (List ℕ) → Option (List ℕ) → Bool
are_same (Some a) (Some b) = bytes_eq a b
are_same (Some a) None = false
are_same None b = false

-- a segment joins node n to a lower station with the same: two platforms of one stop
abbrev pub is_second : GraphParts → List (Option (List ℕ)) → ℕ → Bool
is_second g rests n = list_any (λ (e : NodeId × NodeId). (e.1.0 == n) && are_same (rest_at rests e.0.0) (rest_at rests n)) g.ends

-- what is printed of it, where that is not empty and it is no second platform
abbrev pub unless_second : Bool → Option (List ℕ) → Option (List ℕ)
unless_second second None = None
unless_second second (Some []) = None
unless_second second (Some (c ∷ cs)) = if second then None else Some (c ∷ cs)

-- what is printed of node n, where it has a name to print
abbrev pub printed_at : GraphParts → List (Option (List ℕ)) → ℕ → Option (List ℕ)
printed_at g rests n = unless_second (is_second g rests n) (rest_at rests n)

-- how wide a text is with the names of these lines behind it, each four tenths apart
abbrev pub width_with : Names → List LineId → List ℕ → ℕ
width_with names lines text = text_width text + sum_by (λ (l : LineId). 4 + text_width (name_of names l)) lines

-- how wide what is printed of node n is, its lines that end there included
abbrev pub name_width : Names → GraphParts → List (List LineId) → ℕ → Option (List ℕ) → Option ℕ
name_width names g callers n None = None
name_width names g callers n (Some text) = Some (width_with names (ending names g callers n) text)
