-- The terms of a line graph.
use Rattle.std.specs.Prelude.{ℕ, zero, suc, ◌+◌, ◌-◌, ◌*◌, ◌%◌, ◌<◌, ◌≤◌, ◌==◌, nat_lt, Bool, true, false, List, [], ◌∷◌, ◌++◌, length, map, flat_map, All, if◌then◌else◌, slice_index, slice_index_or}
use Rattle.std.specs.declared.cmp.Ordering.{Ordering}
use Rattle.std.specs.Ordering.{nat_cmp, ordering_then}
use Rattle.map_base.specs.declared.ids.NodeId.{NodeId}
use Rattle.map_base.specs.declared.ids.SegId.{SegId}
use Rattle.map_base.specs.declared.ids.LineId.{LineId}
use Rattle.map_base.specs.declared.weights.Weights.{Weights}
use Rattle.map_base.specs.Settings.{IsImportance}
use Rattle.graph_core.specs.declared.parts.NodeKind.{NodeKind}
use Rattle.graph_core.specs.declared.parts.NodeKind.TheVariants.{Station, Junction}
use Rattle.graph_core.specs.declared.parts.Join.{Join}
use Rattle.graph_core.specs.declared.parts.GraphParts.{GraphParts}
use Rattle.sorted_lists.specs.Sorting as sorted
use Rattle.order_model.specs.declared.term.Term.{Term}
use Rattle.order_model.specs.declared.term.Term.TheVariants as term
use Rattle.order_terms.specs.declared.found.Way.{Way}
use Rattle.order_terms.specs.declared.found.Kind.{Kind}
use Rattle.order_terms.specs.declared.found.Kind.TheVariants.{Side, Link, Apart}
use Rattle.order_terms.specs.declared.found.Found.{Found}

-- Which lines go on from a segment.

-- how many segments stand before this one in the round
abbrev pub place_in : List SegId → SegId → ℕ
place_in [] s = 0
place_in (r ∷ rs) s = if r.0 == s.0 then 0 else 1 + place_in rs s

-- how many places clockwise after the segment e the segment f stands
abbrev pub turn_of : List SegId → SegId → SegId → ℕ
turn_of round e f = (place_in round f + length round - place_in round e) % length round

-- a line that goes on from e to f
abbrev pub way : List SegId → SegId → LineId → SegId → Way
way round e line f = record { line = line; to = f; turn = turn_of round e f }

-- the way out of the segment e that a join gives its line, if it joins e
abbrev pub way_by : List SegId → SegId → Join → List Way
way_by round e j = if j.e.0 == e.0 then way round e j.line j.f ∷ [] else if j.f.0 == e.0 then way round e j.line j.e ∷ [] else []

-- the ways out of the segment e at a node
abbrev pub ways_from : List SegId → List Join → SegId → List Way
ways_from round joins e = flat_map (way_by round e) joins

-- What two lines make that leave a segment together.

-- a term of weight 0 is not made
abbrev pub if_weighed : ℕ → Found → List Found
if_weighed w x = if nat_lt 0 w then x ∷ [] else []

-- what two lines make that both go on from the segment e to another, the lesser line first
abbrev pub found_together : Kind → SegId → Way → Way → Found
found_together k e u v = record { lesser = u.line; greater = v.line; kind = k; seg = e; to = u.to; beside = u.to; first = u.line }

-- what two lines make that both go on from the segment e to another, told at the lesser of the two segments
abbrev pub together : Weights → SegId → Way → Way → List Found
together w e u v =
    if nat_lt e.0 u.to.0 then if_weighed w.link (found_together Link e u v) ++ if_weighed w.sep (found_together Apart e u v) else []

-- two lines, the lesser first, that part: line A goes on to the segment that comes first clockwise after e, line B
-- to the other. It costs where A stands left of B as seen from the node, so at the lower end of e B is wanted
-- first, and at the upper end A
abbrev pub parting : Bool → SegId → LineId → LineId → Way → Way → Found
parting at_lower e lesser greater a b = record { lesser = lesser; greater = greater; kind = Side; seg = e; to = a.to; beside = b.to; first = if at_lower then b.line else a.line }

abbrev pub parted_by : Bool → SegId → Way → Way → Found
parted_by at_lower e u v = if nat_lt u.turn v.turn then parting at_lower e u.line v.line u v else parting at_lower e u.line v.line v u

-- what two ways out of the segment e make, where the first has the lesser line
abbrev pub found_by : Weights → Bool → SegId → Way → Way → List Found
found_by w at_lower e u v =
    if nat_lt u.line.0 v.line.0 then (if u.to.0 == v.to.0 then together w e u v else if_weighed w.split (parted_by at_lower e u v)) else []

-- what all ways out of the segment e make, two by two
abbrev pub found_among : Weights → Bool → SegId → List Way → List Found
found_among w at_lower e ways = flat_map (λ u. flat_map (found_by w at_lower e u) ways) ways

-- The terms of a node, and of the graph.

-- the lower end of a segment is this node
abbrev pub is_lower_end : List (NodeId × NodeId) → ℕ → SegId → Bool
is_lower_end ends n s = (slice_index_or ends s.0 (record { 0 = n }, record { 0 = n })).0.0 == n

-- what is found at a node of this round and these joins, segment by segment of the round
abbrev pub found_around : Weights → List (NodeId × NodeId) → ℕ → List SegId → List Join → List Found
found_around w ends n round joins = flat_map (λ e. found_among w (is_lower_end ends n e) e (ways_from round joins e)) round

-- what is found at a node of the graph
abbrev pub found_at : Weights → GraphParts → ℕ → List Found
found_at w g n = found_around w g.ends n (slice_index_or g.rounds n []) (slice_index_or g.joins n [])

-- the place of a kind in the order of terms
abbrev pub kind_index : Kind → ℕ
kind_index Side = 0
kind_index Link = 1
kind_index Apart = 2

-- the order of the terms of a node: by the lesser line, then by the greater, then by kind, by segment, by the
-- segments that they go on to, and by the line that is wanted first
abbrev pub order_of : Found → Found → Ordering
order_of x y =
    ordering_then (nat_cmp x.lesser.0 y.lesser.0)
    (ordering_then (nat_cmp x.greater.0 y.greater.0)
    (ordering_then (nat_cmp (kind_index x.kind) (kind_index y.kind))
    (ordering_then (nat_cmp x.seg.0 y.seg.0)
    (ordering_then (nat_cmp x.to.0 y.to.0)
    (ordering_then (nat_cmp x.beside.0 y.beside.0) (nat_cmp x.first.0 y.first.0))))))

-- in the order of terms
abbrev pub in_order : List Found → List Found
in_order found = sorted.in_order order_of found

-- the other of two lines
abbrev pub other_line : Found → LineId
other_line x = if x.first.0 == x.lesser.0 then x.greater else x.lesser

-- the node is the lower end of both segments, or the upper end of both
abbrev pub is_flip : List (NodeId × NodeId) → ℕ → SegId → SegId → Bool
is_flip ends n e f = elim (is_lower_end ends n e) [ true ↦ is_lower_end ends n f | false ↦ if is_lower_end ends n f then false else true ]

-- the weight of a term of two lines: that of its kind, times the importance of both lines. Importance is at least 1, so
-- it is 0 just where that of the kind is
abbrev pub weighed : List ℕ → ℕ → Found → ℕ
weighed importance w x = w * (slice_index importance x.lesser.0 * slice_index importance x.greater.0)

-- the term that was found
abbrev pub term_of_kind : Weights → List ℕ → List (NodeId × NodeId) → ℕ → Found → Kind → Term
term_of_kind w importance ends n x Side = term.Side x.seg x.first (other_line x) (weighed importance w.split x)
term_of_kind w importance ends n x Link = term.Link x.seg x.to (is_flip ends n x.seg x.to) x.lesser x.greater (weighed importance w.link x)
term_of_kind w importance ends n x Apart = term.Apart x.seg x.to x.lesser x.greater (weighed importance w.sep x)

abbrev pub term_of : Weights → List ℕ → List (NodeId × NodeId) → ℕ → Found → Term
term_of w importance ends n x = term_of_kind w importance ends n x x.kind

-- no weights
abbrev pub no_weights : Weights
no_weights = record { link = 0; split = 0; sep = 0 }

-- the weights at a kind of node: of the two weights those at a junction come first, then those at a station
abbrev pub weights_at : List Weights → NodeKind → Weights
weights_at weights Junction = slice_index_or weights 0 no_weights
weights_at weights (Station s) = slice_index_or weights 1 no_weights

-- the terms of a node of the graph, in order
abbrev pub terms_at : GraphParts → List Weights → List ℕ → ℕ → List Term
terms_at g weights importance n =
    let w : Weights = weights_at weights (slice_index_or g.kinds n Junction) in map (term_of w importance g.ends n) (in_order (found_at w g n))

-- the terms of the nodes below n, node by node
abbrev pub terms_below : GraphParts → List Weights → List ℕ → ℕ → List Term
terms_below g weights importance zero = []
terms_below g weights importance (suc n) = terms_below g weights importance n ++ terms_at g weights importance n

-- the terms of a line graph, by the weights at a junction and at a station, and the importance of each line
abbrev pub graph_terms : GraphParts → List Weights → List ℕ → List Term
graph_terms g weights importance = terms_below g weights importance (length g.kinds)

-- the line has its importance
abbrev pub HasImportance : List ℕ → LineId → Type 0
HasImportance importance a = (a.0 < length importance) × IsImportance (slice_index importance a.0)

-- all lines of segments have
abbrev pub HaveImportance : List ℕ → List (List LineId) → Type 0
HaveImportance importance lines = All (All (HasImportance importance)) lines

-- some segments of the graph, and no more than it may have
pub record IsSegmentsOf (ends : List (NodeId × NodeId)) (round : List SegId) : Type 0 where
  pub some : 0 < length round
  pub few : length round ≤ 20000
  pub known : All (λ s. s.0 < length ends) round

-- what was found names segments of the graph, and lines that have their importance
pub record IsWithinGraph (ends : List (NodeId × NodeId)) (importance : List ℕ) (x : Found) : Type 0 where
  pub seg_known : x.seg.0 < length ends
  pub to_known : x.to.0 < length ends
  pub lesser : HasImportance importance x.lesser
  pub greater : HasImportance importance x.greater
