-- When the walks of a drawing are legal.
use Rattle.std.specs.Prelude.{ℕ, ◌≡◌, ◌+◌, ◌%◌, ◌==◌, ◌&&◌, ◌||◌, nat_lt, not, Bool, true, List, [], ◌∷◌, ◌++◌, length, map, if◌then◌else◌, Option, Some, None, slice_get, unsigned_abs, is_none}
use Rattle.std.specs.List.{list_all, list_any, flat_map, filter_map, zip}
use Rattle.map_base.specs.declared.ids.NodeId.{NodeId}
use Rattle.map_base.specs.declared.ids.SegId.{SegId}
use Rattle.graph_core.specs.declared.parts.GraphParts.{GraphParts}
use Rattle.octi_grid.specs.declared.dir.Dir.{Dir}
use Rattle.octi_grid.specs.declared.point.GridPoint.{GridPoint}
use Rattle.octi_grid.specs.declared.drawing.DrawWhy.{DrawWhy}
use Rattle.octi_grid.specs.declared.drawing.DrawWhy.TheVariants as why
use Rattle.octi_grid.specs.declared.drawing.DrawingStop.{DrawingStop}
use Rattle.octi_grid.specs.declared.drawing.DrawingStop.TheVariants as stop
use Rattle.octi_grid.specs.Ways.{are_one, doubled}
use Rattle.octi_grid.specs.Costs.{clockwise_from}
use Rattle.octi_grid.specs.Walks.{PlainWalk, end_point, doubled_of, start_port, end_port}

-- the two ends of a segment, with its walk
abbrev pub Leg : Type 0
Leg = (NodeId × NodeId) × PlainWalk

-- the segments that have a walk, in order
abbrev pub legs_of : List (NodeId × NodeId) → List PlainWalk → List Leg
legs_of ends walks = zip ends walks

-- a node, and a point where a walk puts it
abbrev pub Put : Type 0
Put = ℕ × GridPoint

-- a walk puts the lower end of its segment at its start, and the upper end at its end
abbrev pub puts_by : Leg → List Put
puts_by l = (l.0.0.0, l.1.start) ∷ (l.0.1.0, end_point l.1) ∷ []

-- where walks put nodes, in order
abbrev pub puts_of : List Leg → List Put
puts_of legs = flat_map puts_by legs

-- both coordinates are even
abbrev pub is_even : GridPoint → Bool
is_even p = unsigned_abs p.x % 2 == 0 && unsigned_abs p.y % 2 == 0

-- two ends of walks are put on one point exactly where they are ends at one node
abbrev pub agree : Put → Put → Bool
agree p q = if p.0 == q.0 then are_one p.1 q.1 else not (are_one p.1 q.1)

-- Ends: each walk joins the points of its end nodes, each node's point is even, and distinct nodes have distinct points
abbrev pub ends_hold : List Leg → Bool
ends_hold legs = list_all (λ p. is_even p.1 && list_all (agree p) (puts_of legs)) (puts_of legs)

-- the point is one of these
abbrev pub is_among : List GridPoint → GridPoint → Bool
is_among points p = list_any (are_one p) points

-- no point is there twice
abbrev pub are_distinct : List GridPoint → Bool
are_distinct [] = true
are_distinct (p ∷ ps) = not (is_among ps p) && are_distinct ps

-- both walks put one node at this doubled point
abbrev pub is_common_end : Leg → Leg → GridPoint → Bool
is_common_end l m d = list_any (λ p. are_one (doubled p.1) d && list_any (λ q. p.0 == q.0 && are_one (doubled q.1) d) (puts_by m)) (puts_by l)

-- two walks share no doubled point but at a common end node
abbrev pub are_apart : Leg → Leg → Bool
are_apart l m = list_all (λ d. not (is_among (doubled_of m.1) d) || is_common_end l m d) (doubled_of l.1)

-- each of two of these walks, an earlier and a later one, are apart
abbrev pub all_apart : List Leg → Bool
all_apart [] = true
all_apart (l ∷ ls) = list_all (are_apart l) ls && all_apart ls

-- the node of the put is no end of the segment, and the walk doesn't meet its point
abbrev pub is_clear : Leg → Put → Bool
is_clear l p = l.0.0.0 == p.0 || l.0.1.0 == p.0 || not (is_among (doubled_of l.1) (doubled p.1))

-- Meets: no doubled point is repeated in a walk, shared by two walks but at a common end node, or another node's point
abbrev pub meets_hold : List Leg → Bool
meets_hold legs = list_all (λ l. are_distinct (doubled_of l.1)) legs && all_apart legs && list_all (λ l. list_all (is_clear l) (puts_of legs)) legs

-- each number is above the one before it
abbrev pub are_rising : ℕ → List ℕ → Bool
are_rising low [] = true
are_rising low (n ∷ ns) = nat_lt low n && are_rising n ns

-- directions are distinct and in clockwise order: seen clockwise from the first, each is further than the one before it
abbrev pub are_clockwise : List Dir → Bool
are_clockwise [] = true
are_clockwise (d ∷ ds) = are_rising 0 (map (clockwise_from d) ds)

-- the port of a walk at an end node of its segment
abbrev pub port_at : ℕ → Leg → Option Dir
port_at n l = if l.0.0.0 == n then start_port l.1 else end_port l.1

-- the port of a walk at an end node of its segment, where there is a walk
abbrev pub port_where : ℕ → Option Leg → Option Dir
port_where n None = None
port_where n (Some l) = port_at n l

-- the port at a node of a segment
abbrev pub port_of : List Leg → ℕ → SegId → Option Dir
port_of legs n s = port_where n (slice_get legs s.0)

-- from node n on, the ports round each node are distinct and in clockwise order of the round
abbrev pub ports_from : List Leg → ℕ → List (List SegId) → Bool
ports_from legs n [] = true
ports_from legs n (round ∷ rounds) = are_clockwise (filter_map (port_of legs n) round) && ports_from legs (n + 1) rounds

-- Ports: round each node they are distinct and in clockwise order of the round
abbrev pub ports_hold : List (List SegId) → List Leg → Bool
ports_hold rounds legs = ports_from legs 0 rounds

-- the first reason why walks are not legal, where there is one
abbrev pub why_illegal : List (List SegId) → List Leg → Option DrawWhy
why_illegal rounds legs =
    if not (ends_hold legs) then Some why.Ends
    else if not (meets_hold legs) then Some why.Meets
    else if not (ports_hold rounds legs) then Some why.Ports
    else None

-- walks of the first segments of a graph are legal
abbrev pub legal : GraphParts → List PlainWalk → Bool
legal graph walks = is_none (why_illegal graph.rounds (legs_of graph.ends walks))

-- walk k with this reason, or what comes after
abbrev pub illegal_at : ℕ → Option DrawWhy → Option (SegId × DrawWhy) → Option (SegId × DrawWhy)
illegal_at k (Some why) rest = Some (record { 0 = k }, why)
illegal_at k None rest = rest

-- after legal walks, the first of the next that with its predecessors is not legal, and why
abbrev pub first_illegal_after : List (List SegId) → List Leg → List Leg → Option (SegId × DrawWhy)
first_illegal_after rounds before [] = None
first_illegal_after rounds before (l ∷ ls) =
    illegal_at (length before) (why_illegal rounds (before ++ l ∷ [])) (first_illegal_after rounds (before ++ l ∷ []) ls)

-- the first walk of a drawing that with its predecessors is not legal, and why
abbrev pub first_illegal : GraphParts → List PlainWalk → Option (SegId × DrawWhy)
first_illegal graph walks = first_illegal_after graph.rounds [] (legs_of graph.ends walks)

-- the check stops at this walk with this reason; want of memory is free
abbrev pub IsCause : Option (SegId × DrawWhy) → DrawingStop → Type 0
IsCause outcome (stop.Bad seg why) = outcome ≡ Some (seg, why)
IsCause outcome stop.NoMemory = Unit {0}
