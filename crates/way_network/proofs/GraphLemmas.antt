-- What is made of the used edges of a network is the network's graph.
use Rattle.std.proofs.Common.{◌≡◌, refl, sym, ◌∙◌, ap, subst, ℕ, ◌<◌, ◌≤◌, Bool, true, false, cond, ◌&&◌, ◌||◌, eqb, List, [], ◌∷◌, Ok, Err, Result, length, get_or, map, filter, All, eq-eqb, arith}
use Rattle.std.specs.List.{range_with_len}
use Rattle.std.proofs.lemmas.Bool.{le-leb, lt-leb}
use Rattle.std.proofs.lemmas.List.{length-map}
use Rattle.std.proofs.lemmas.List.Elements.{All-head, All-tail, All-map, All-weaker, All-filter, filter_passes}
use Rattle.std.proofs.lemmas.List.Folds.{list_any_at}
use Rattle.map_base.specs.declared.ids.StationId.{StationId}
use Rattle.map_base.specs.declared.point.Point.{Point}
use Rattle.map_base.specs.declared.limit.Limit.{Limit}
use Rattle.map_base.specs.declared.limit.LimitKind.{LimitKind}
use Rattle.map_base.specs.declared.limit.LimitKind.TheVariants.{Nodes, Segments}
use Rattle.map_base.specs.Faults.{HasCause}
use Rattle.map_base.specs.Limits.{limit_most, limit_of, unless_above}
use Rattle.graph_core.specs.declared.parts.Join.{Join}
use Rattle.graph_core.specs.declared.parts.GraphParts.{GraphParts}
use Rattle.graph_core.specs.Consistent.{IsConsistent}
use Rattle.way_network.specs.declared.way.Way.{Way}
use Rattle.way_network.specs.declared.way.Passage.{Passage}
use Rattle.way_network.specs.declared.edges.UsedEdge.{UsedEdge}
use Rattle.map_base.specs.declared.limit_fault.LimitFault.{LimitFault}
use Rattle.map_base.specs.declared.limit_fault.LimitFault.TheVariants.{Limit as AboveLimit, NoMemory}
use Rattle.way_network.specs.Edges.{runs_over, is_used, line_runs_over}
use Rattle.way_network.specs.Chains.{Network, has_node}
use Rattle.way_network.specs.Segments.{nodes_of, segment_chains, ends_of}
use Rattle.way_network.specs.Joins.{joins_at}
use Rattle.way_network.specs.Graphs.{network_over, kind_at, graph_over, graph_within}
use Rattle.way_network.specs.Tables.{edge_table}
use Rattle.way_network.specs.Uses.{has_number}
use Rattle.way_network.specs.Nodes.{node_points_in, NodeTable}
use Rattle.way_network.specs.Rows.{all_chains, AreEdgesOver}
use Rattle.way_network.specs.Numbers.{EndsBelow}
use Rattle.way_network.specs.Crossings.{crossing_of, is_passage_at, joins_among, IsWithin}
use Rattle.way_network.specs.RowGraphs.{crossings_at, row_graph, AreNodesOver, ArePassages}
use Rattle.way_network.specs.Faults.{IsAbove}
use Rattle.way_network.specs.Premises.{IsNetwork, IsPassage}
use Rattle.way_network.proofs.RisingLists.{has_filtered}
use Rattle.way_network.proofs.NodeLemmas.{nodes_told}
use Rattle.way_network.proofs.NetworkRows.{nodes_known, length-edge_table, table_over, segments_are, rounds_are, lines_are, ends_below}
use Rattle.way_network.proofs.JoinLemmas.{joins_told}
use Rattle.way_network.proofs.SegmentFacts.{segment_within}
use Rattle.way_network.proofs.Consistency.{consistent}

-- ---- limits

above-limit : {A : Type 0} (kind : LimitKind) (count : ℕ) (next : Result A Limit) → limit_most kind < count → unless_above kind count next ≡ Err (limit_of kind)
above-limit kind count next above = ap (λ (b : Bool). cond b next (Err (limit_of kind))) (lt-leb count (limit_most kind) above)

within-limit : {A : Type 0} (kind : LimitKind) (count : ℕ) (next : Result A Limit) → count ≤ limit_most kind → unless_above kind count next ≡ next
within-limit kind count next within = ap (λ (b : Bool). cond b next (Err (limit_of kind))) (le-leb count (limit_most kind) within)

HasCause-above : (kind : LimitKind) (count : ℕ) (fault : LimitFault) (outcome : Result GraphParts Limit) → IsAbove kind count fault → (limit_most kind < count → outcome ≡ Err (limit_of kind)) → HasCause outcome fault
HasCause-above kind count (AboveLimit limit) outcome cause refused = refused cause.1 ∙ ap Err (sym cause.0)
HasCause-above kind count NoMemory outcome cause refused = tt

-- too many nodes
pub nodes_cause : (parts : GraphParts) (count : ℕ) (fault : LimitFault) → count ≡ length parts.kinds → IsAbove Nodes count fault → HasCause (graph_within parts) fault
nodes_cause parts count fault same cause =
    HasCause-above Nodes count fault (graph_within parts) cause
    (λ above. above-limit Nodes (length parts.kinds) (unless_above Segments (length parts.ends) (Ok parts)) (subst (λ (n : ℕ). 10000 < n) same above))

-- too many segments
pub segments_cause : (parts : GraphParts) (count : ℕ) (fault : LimitFault) → length parts.kinds ≤ 10000 → count ≡ length parts.ends → IsAbove Segments count fault → HasCause (graph_within parts) fault
segments_cause parts count fault few same cause =
    HasCause-above Segments count fault (graph_within parts) cause
    (λ above. within-limit Nodes (length parts.kinds) (unless_above Segments (length parts.ends) (Ok parts)) few
    ∙ above-limit Segments (length parts.ends) (Ok parts) (subst (λ (n : ℕ). 20000 < n) same above))

within_limits : (parts : GraphParts) → length parts.kinds ≤ 10000 → length parts.ends ≤ 20000 → graph_within parts ≡ Ok parts
within_limits parts few_nodes few_segments =
    within-limit Nodes (length parts.kinds) (unless_above Segments (length parts.ends) (Ok parts)) few_nodes ∙ within-limit Segments (length parts.ends) (Ok parts) few_segments

-- ---- what is kept of a network

-- the used edges don't depend on the stations
pub table_is : (stations : List StationId) (points : List Point) (lines : ℕ) (ways : List Way) (count : ℕ) (rows : List (List UsedEdge)) → count ≡ length points →
    rows ≡ edge_table (record { stations = 0; points = count; lines = lines; ways = ways }) → rows ≡ edge_table (network_over stations points lines ways)
table_is stations points lines ways count rows same made = made ∙ ap (λ (n : ℕ). edge_table (record { stations = 0; points = n; lines = lines; ways = ways })) same

-- the nodes that are kept are those of a network
pub record AreNodesOf (g : Network) (table : NodeTable) : Type 0 where
  pub point_each : table.points ≡ g.points
  pub nodes : table.nodes ≡ nodes_of g

pub nodes_found : (g : Network) (rows : List (List UsedEdge)) → rows ≡ edge_table g → node_points_in g.stations rows ≡ nodes_of g
nodes_found g rows table = ap (node_points_in g.stations) table ∙ nodes_told g

pub nodes_are : (g : Network) (rows : List (List UsedEdge)) (nodes : NodeTable) → rows ≡ edge_table g → nodes ≡ record { points = length rows; nodes = node_points_in g.stations rows } → AreNodesOf g nodes
nodes_are g rows nodes table made = record {
  point_each = ap (λ (n : NodeTable). n.points) made ∙ ap length table ∙ length-edge_table g;
  nodes = ap (λ (n : NodeTable). n.nodes) made ∙ nodes_found g rows table;
}

nodes_below : (g : Network) (n : ℕ) (nodes : List ℕ) → n ≡ g.points → nodes ≡ nodes_of g → All (λ p. p < n) nodes
nodes_below g n nodes count same = subst (λ (m : ℕ). All (λ p. p < m) nodes) (sym count) (subst (All (λ p. p < g.points)) (sym same) (nodes_known g))

pub nodes_over : (points : List Point) (g : Network) (rows : List (List UsedEdge)) (nodes : NodeTable) → IsNetwork points g → rows ≡ edge_table g → AreNodesOf g nodes → AreNodesOver points rows nodes
nodes_over points g rows nodes network table are = record {
  edges = subst (λ (rs : List (List UsedEdge)). AreEdgesOver points rs) (sym table) (table_over points g network);
  row_each = are.point_each ∙ sym (ap length table ∙ length-edge_table g);
  known = nodes_below g (length rows) nodes.nodes (ap length table ∙ length-edge_table g) are.nodes;
}

pub chains_found : (points : List Point) (g : Network) (rows : List (List UsedEdge)) (nodes : NodeTable) → rows ≡ edge_table g → AreNodesOf g nodes → all_chains points rows nodes.nodes ≡ segment_chains points g
chains_found points g rows nodes table are =
    ap (λ (rs : List (List UsedEdge)). all_chains points rs nodes.nodes) table ∙ ap (all_chains points (edge_table g)) are.nodes ∙ segments_are points g

pub chains_end_below : (points : List Point) (g : Network) (rows : List (List UsedEdge)) (chains : List (List ℕ)) → rows ≡ edge_table g → chains ≡ segment_chains points g → All (EndsBelow (length rows)) chains
chains_end_below points g rows chains table same =
    subst (λ (n : ℕ). All (EndsBelow n) chains) (sym (ap length table ∙ length-edge_table g)) (subst (All (EndsBelow g.points)) (sym same) (ends_below points g))

-- ---- passages

-- where a line runs a way runs
runs_used : (ways : List Way) (p q line : ℕ) → line_runs_over ways p q line ≡ true → is_used ways p q ≡ true
runs_used [] p q line runs = runs
runs_used (w ∷ ways) p q line runs = of_tests (eqb w.line.0 line) (runs_over p q w.points) (line_runs_over ways p q line) (is_used ways p q) (runs_used ways p q line) runs
  where
    of_tests : (a b c d : Bool) → (c ≡ true → d ≡ true) → ((a && b) || c) ≡ true → (b || d) ≡ true
    of_tests a true c d later e = refl
    of_tests true false c d later e = later e
    of_tests false false c d later e = later e

-- a number of the nodes is a node
number_is_node : (g : Network) (p : ℕ) → has_number (nodes_of g) p ≡ true → has_node g p ≡ true
number_is_node g p there = second (has_number (range_with_len 0 g.points) p) (has_node g p) (sym (has_filtered (has_node g) p (range_with_len 0 g.points)) ∙ there)
  where
    second : (a b : Bool) → (a && b) ≡ true → b ≡ true
    second true b e = e
    second false b e = absurd (cc)

module _ (points : List Point) (g : Network) (network : IsNetwork points g) where
  passage_within : (x : Passage) → IsPassage g x → is_passage_at (nodes_of g) x ≡ true → IsWithin (length (segment_chains points g)) g.lines (crossing_of (segment_chains points g) x)
  passage_within x is at = record {
    e = segment_within points g network x.at x.from (number_is_node g x.at at) (runs_used g.ways x.at x.from x.line.0 is.comes);
    f = segment_within points g network x.at x.to (number_is_node g x.at at) (runs_used g.ways x.at x.to x.line.0 is.goes);
    line = is.line;
  }

  passages_within : (passages : List Passage) → All (IsPassage g) passages → All (IsWithin (length (segment_chains points g)) g.lines) (crossings_at (nodes_of g) (segment_chains points g) passages)
  passages_within passages all =
      let chains = segment_chains points g in
      All-map (IsWithin (length chains) g.lines) (crossing_of chains) (filter (is_passage_at (nodes_of g)) passages)
      (λ k d below. passage_within (get_or (filter (is_passage_at (nodes_of g)) passages) k d) (All-filter (is_passage_at (nodes_of g)) (IsPassage g) passages all k d below)
      (filter_passes (is_passage_at (nodes_of g)) passages k d below))

  pub passages_are : (passages : List Passage) (nodes : NodeTable) (chains : List (List ℕ)) → All (IsPassage g) passages → AreNodesOf g nodes → chains ≡ segment_chains points g → length chains ≤ 20000 →
      ArePassages g.lines passages nodes chains
  passages_are passages nodes chains all are same few = record {
    few = omega (arith, few);
    known = subst (λ (n : ℕ). All (λ (x : Passage). x.at < n) passages) (sym are.point_each) (All-weaker (IsPassage g) (λ (x : Passage). x.at < g.points) (λ x is. is.known) passages all);
    within = subst (λ (cs : List (List ℕ)). All (IsWithin (length cs) g.lines) (crossings_at nodes.nodes cs passages)) (sym same)
        (subst (λ (ns : List ℕ). All (IsWithin (length (segment_chains points g)) g.lines) (crossings_at ns (segment_chains points g) passages)) (sym are.nodes) (passages_within passages all));
  }

-- ---- the graph

each_there : (xs : List ℕ) → All (λ p. has_number xs p ≡ true) xs
each_there xs k d below = list_any_at (eqb (get_or xs k d)) xs k d below (eq-eqb (get_or xs k d) (get_or xs k d) refl)

same_at_each : {Y : Type 0} (f h : ℕ → Y) (xs : List ℕ) → All (λ p. f p ≡ h p) xs → map f xs ≡ map h xs
same_at_each f h [] same = refl
same_at_each f h (x ∷ xs) same = ap (λ y. y ∷ map f xs) (All-head (λ p. f p ≡ h p) x xs same) ∙ ap (λ ys. h x ∷ ys) (same_at_each f h xs (All-tail (λ p. f p ≡ h p) x xs same))

joins_are : (nodes : List ℕ) (chains : List (List ℕ)) (passages : List Passage) (lines : ℕ) →
    map (joins_among (crossings_at nodes chains passages) (length chains) lines) nodes ≡ map (joins_at chains passages lines) nodes
joins_are nodes chains passages lines =
    same_at_each (joins_among (crossings_at nodes chains passages) (length chains) lines) (joins_at chains passages lines) nodes
    (All-weaker (λ p. has_number nodes p ≡ true) (λ p. joins_among (crossings_at nodes chains passages) (length chains) lines p ≡ joins_at chains passages lines p)
    (λ p there. joins_told chains passages nodes lines p there) nodes (each_there nodes))

-- the graph that is told from the used edges of a network
row_graph_is : (stations : List StationId) (points : List Point) (g : Network) (passages : List Passage) →
    row_graph stations points (map (joins_among (crossings_at (nodes_of g) (segment_chains points g) passages) (length (segment_chains points g)) g.lines) (nodes_of g)) (edge_table g) (nodes_of g) (segment_chains points g)
    ≡ graph_over stations points g passages
row_graph_is stations points g passages =
    let graph = graph_over stations points g passages in
    λ i. record {
      kinds = graph.kinds;
      places = graph.places;
      ends = graph.ends;
      lines = lines_are points g i;
      rounds = rounds_are points g (segment_chains points g) i;
      joins = joins_are (nodes_of g) (segment_chains points g) passages g.lines i;
    }

pub graph_made : (stations : List StationId) (points : List Point) (g : Network) (passages : List Passage) (rows : List (List UsedEdge)) (nodes : NodeTable) (chains : List (List ℕ)) (joins : List (List Join)) (parts : GraphParts) →
    rows ≡ edge_table g → AreNodesOf g nodes → chains ≡ segment_chains points g → joins ≡ map (joins_among (crossings_at nodes.nodes chains passages) (length chains) g.lines) nodes.nodes →
    parts ≡ row_graph stations points joins rows nodes.nodes chains → parts ≡ graph_over stations points g passages
graph_made stations points g passages rows nodes chains joins parts table are same joined made =
    let all : List ℕ → List (List ℕ) → List (List Join) = λ ns cs. map (joins_among (crossings_at ns cs passages) (length cs) g.lines) ns in
    made ∙ ap (λ (js : List (List Join)). row_graph stations points js rows nodes.nodes chains) joined
    ∙ ap (λ (rs : List (List UsedEdge)). row_graph stations points (all nodes.nodes chains) rs nodes.nodes chains) table
    ∙ ap (λ (ns : List ℕ). row_graph stations points (all ns chains) (edge_table g) ns chains) are.nodes
    ∙ ap (λ (cs : List (List ℕ)). row_graph stations points (all (nodes_of g) cs) (edge_table g) (nodes_of g) cs) same
    ∙ row_graph_is stations points g passages

pub graph_fits : (stations : List StationId) (points : List Point) (g : Network) (passages : List Passage) (parts : GraphParts) → IsNetwork points g → All (IsPassage g) passages → length (nodes_of g) ≤ 10000 →
    length (segment_chains points g) ≤ 20000 → parts ≡ graph_over stations points g passages → IsConsistent parts
graph_fits stations points g passages parts network all few_nodes few_segments made = subst IsConsistent (sym made) (consistent points stations g passages network all few_nodes few_segments)

pub node_count : (stations : List StationId) (points : List Point) (g : Network) (passages : List Passage) → length (graph_over stations points g passages).kinds ≡ length (nodes_of g)
node_count stations points g passages = length-map (nodes_of g) (λ p. kind_at stations p)

pub segment_count : (stations : List StationId) (points : List Point) (g : Network) (passages : List Passage) → length (graph_over stations points g passages).ends ≡ length (segment_chains points g)
segment_count stations points g passages = length-map (segment_chains points g) (ends_of g)

pub graph_is_whole : (stations : List StationId) (points : List Point) (g : Network) (passages : List Passage) (parts : GraphParts) → length (nodes_of g) ≤ 10000 → length (segment_chains points g) ≤ 20000 →
    parts ≡ graph_over stations points g passages → graph_within (graph_over stations points g passages) ≡ Ok parts
graph_is_whole stations points g passages parts few_nodes few_segments made =
    let graph = graph_over stations points g passages in
    within_limits graph (omega (arith, node_count stations points g passages, few_nodes)) (omega (arith, segment_count stations points g passages, few_segments)) ∙ ap Ok (sym made)
