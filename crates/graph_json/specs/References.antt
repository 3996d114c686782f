-- The graph that the features of a file make, and the first feature whose references don't hold.
use Rattle.std.specs.Prelude.{ℕ, ◌+◌, ◌==◌, ◌&&◌, Bool, true, false, nat_lt, List, [], ◌∷◌, length, map, filter_map, if◌then◌else◌, slice_index_or, Option, Some, None}
use Rattle.std.specs.List.{list_any, list_all}
use Rattle.map_base.specs.declared.ids.NodeId.{NodeId}
use Rattle.map_base.specs.declared.ids.SegId.{SegId}
use Rattle.map_base.specs.declared.ids.LineId.{LineId}
use Rattle.graph_core.specs.declared.parts.GraphParts.{GraphParts}
use Rattle.graph_core.specs.declared.parts.Join.{Join}
use Rattle.graph_core.specs.declared.parts.NodeKind.{NodeKind}
use Rattle.graph_core.specs.declared.parts.NodeKind.TheVariants.{Station, Junction}
use Rattle.graph_core.specs.Consistent.{lines_at}
use Rattle.graph_core.specs.Round.{segments_at}
use Rattle.graph_json.specs.declared.forms.NodeForm.{NodeForm}
use Rattle.graph_json.specs.declared.forms.SegmentForm.{SegmentForm}
use Rattle.graph_json.specs.declared.forms.Feature.{Feature}
use Rattle.graph_json.specs.declared.forms.Feature.TheVariants.{Node, Segment}

-- ---- the graph

abbrev pub node_in : Feature → Option NodeForm
node_in (Node n) = Some n
node_in (Segment s) = None

abbrev pub segment_in : Feature → Option SegmentForm
segment_in (Node n) = None
segment_in (Segment s) = Some s

-- the nodes and the segments among features, in order
abbrev pub nodes_in : List Feature → List NodeForm
nodes_in features = filter_map node_in features

abbrev pub segments_in : List Feature → List SegmentForm
segments_in features = filter_map segment_in features

-- a node with a name is a station: stations are numbered from s on, in the order of nodes
abbrev pub kinds_from : ℕ → List (Option (List ℕ)) → List NodeKind
kinds_from s [] = []
kinds_from s (Some name ∷ rest) = Station (record { 0 = s }) ∷ kinds_from (s + 1) rest
kinds_from s (None ∷ rest) = Junction ∷ kinds_from s rest

abbrev pub names_of_nodes : List NodeForm → List (Option (List ℕ))
names_of_nodes nodes = map (λ (n : NodeForm). n.name) nodes

abbrev pub graph_of : List NodeForm → List SegmentForm → GraphParts
graph_of nodes segments = record {
  kinds = kinds_from 0 (names_of_nodes nodes);
  places = map (λ (n : NodeForm). n.place) nodes;
  ends = map (λ (s : SegmentForm). s.ends) segments;
  lines = map (λ (s : SegmentForm). s.lines) segments;
  rounds = map (λ (n : NodeForm). n.round) nodes;
  joins = map (λ (n : NodeForm). n.joins) nodes;
}

-- ---- references

-- a number stands among these
abbrev pub has_seg : List SegId → SegId → Bool
has_seg round s = list_any (λ (r : SegId). r.0 == s.0) round

abbrev pub has_line : List LineId → LineId → Bool
has_line lines l = list_any (λ (k : LineId). k.0 == l.0) lines

-- each stands before the next
abbrev pub rises_from : {A : Type 0} → (A → A → Bool) → A → List A → Bool
rises_from before a [] = true
rises_from before a (b ∷ rest) = before a b && rises_from before b rest

abbrev pub rises : {A : Type 0} → (A → A → Bool) → List A → Bool
rises before [] = true
rises before (a ∷ rest) = rises_from before a rest

abbrev pub is_below : LineId → LineId → Bool
is_below a b = nat_lt a.0 b.0

-- a segment leads from a lower to an upper node
abbrev pub leads_up : ℕ → NodeId × NodeId → Bool
leads_up nodes ends = nat_lt ends.0.0 ends.1.0 && nat_lt ends.1.0 nodes

-- there are lines, which rise and are listed
abbrev pub are_sound_lines : ℕ → List LineId → Bool
are_sound_lines listed lines =
    nat_lt 0 (length lines) && (rises is_below lines && list_all (λ (l : LineId). nat_lt l.0 listed) lines)

-- a segment leads from a lower to an upper node, and has lines, which rise and are listed
abbrev pub is_sound_segment : ℕ → ℕ → NodeId × NodeId → List LineId → Bool
is_sound_segment nodes listed ends lines = leads_up nodes ends && are_sound_lines listed lines

-- a round is not empty, and holds exactly the segments that end at the node, each once
abbrev pub is_sound_round : List (NodeId × NodeId) → ℕ → List SegId → Bool
is_sound_round ends n round =
    nat_lt 0 (length round) && (length round == length (segments_at n ends) && list_all (has_seg round) (segments_at n ends))

-- one connection stands before another: by the lesser segment, then by the greater, then by line
abbrev pub is_before : Join → Join → Bool
is_before a b =
    if a.e.0 == b.e.0 then (if a.f.0 == b.f.0 then nat_lt a.line.0 b.line.0 else nat_lt a.f.0 b.f.0)
    else nat_lt a.e.0 b.e.0

-- a connection is of two segments of the round, the lesser first, and of a line on both
abbrev pub is_sound_join : List (List LineId) → List SegId → Join → Bool
is_sound_join lines round j =
    nat_lt j.e.0 j.f.0 && (has_seg round j.e && (has_seg round j.f
    && (has_line (lines_at lines j.e) j.line && has_line (lines_at lines j.f) j.line)))

-- connections rise, and the references of each hold
abbrev pub joins_hold : List (List LineId) → List SegId → List Join → Bool
joins_hold lines round joins = rises is_before joins && list_all (is_sound_join lines round) joins

-- the references of node n hold
abbrev pub node_holds : GraphParts → ℕ → Bool
node_holds g n =
    is_sound_round g.ends n (slice_index_or g.rounds n [])
    && joins_hold g.lines (slice_index_or g.rounds n []) (slice_index_or g.joins n [])

-- the references of segment s hold, where so many lines are listed
abbrev pub segment_holds : GraphParts → ℕ → ℕ → Bool
segment_holds g listed s = is_sound_segment (length g.kinds) listed (slice_index_or g.ends s (record { 0 = 0 }, record { 0 = 0 })) (slice_index_or g.lines s [])

-- the feature is a node
abbrev pub is_node : Feature → Bool
is_node (Node n) = true
is_node (Segment s) = false

-- Of features, of which each is told to be a node or a segment, numbered from i on, before which n nodes and s segments
-- have come: the first whose references don't hold in the graph.
abbrev pub broken_from : GraphParts → ℕ → ℕ → ℕ → ℕ → List Bool → Option ℕ
broken_from g listed i n s [] = None
broken_from g listed i n s (true ∷ rest) = if node_holds g n then broken_from g listed (i + 1) (n + 1) s rest else Some i
broken_from g listed i n s (false ∷ rest) = if segment_holds g listed s then broken_from g listed (i + 1) n (s + 1) rest else Some i
