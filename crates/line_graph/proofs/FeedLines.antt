-- The lines on the segments of a feed's line graph are lines of the feed.
use Rattle.std.proofs.Common.{◌≡◌, subst, ℕ, zero, suc, ◌+◌, ◌<◌, ◌≤◌, Bool, true, false, cond, leb, List, [], ◌∷◌, length, map, arith, All, Result, Ok, Err, IfOk, get_or}
use Rattle.std.specs.List.{AllByRecursion, filter, range_with_len}
use Rattle.std.proofs.lemmas.List.Elements.{All-from_recursion, All-map}
use Rattle.map_base.specs.declared.ids.LineId.{LineId}
use Rattle.map_base.specs.declared.limit.Limit.{Limit}
use Rattle.transit_feed.specs.Feeds.{Feed}
use Rattle.graph_core.specs.declared.parts.GraphParts.{GraphParts}
use Rattle.track_net.specs.Nets.{NetParts}
use Rattle.feed_courses.specs.declared.courses.Courses.{Courses}
use Rattle.way_network.specs.Chains.{Network}
use Rattle.way_network.specs.Segments.{lines_of, line_numbered, segment_chains}
use Rattle.way_network.specs.Graphs.{graph_over}
use Rattle.map_base.specs.declared.limit_fault.LimitFault.{LimitFault}
use Rattle.feed_courses.specs.Outcome.{courses_outcome}
use Rattle.line_graph.specs.Outcome.{net_of_courses, graph_over_net, graph_of_courses, graph_outcome, network_of, all_passages}
use Rattle.line_graph.proofs.Outcomes.{passed, same_parts}

below_range : (start n most : ℕ) → start + n ≤ most → AllByRecursion (λ i. i < most) (range_with_len start n)
below_range start zero most h = tt
below_range start (suc n) most h = (omega (arith, h), below_range (start + 1) n most (omega (arith, h)))

kept_below : (most : ℕ) (test : ℕ → Bool) (xs : List ℕ) → AllByRecursion (λ i. i < most) xs → AllByRecursion (λ i. i < most) (filter test xs)
kept_below most test [] all = tt
kept_below most test (x ∷ xs) all = by_test (test x) (kept_below most test xs all.1)
  where
    by_test : (b : Bool) → AllByRecursion (λ i. i < most) (filter test xs) → AllByRecursion (λ i. i < most) (cond b (x ∷ filter test xs) (filter test xs))
    by_test true rest = (all.0, rest)
    by_test false rest = rest

numbered_below : (most : ℕ) (xs : List ℕ) → AllByRecursion (λ i. i < most) xs → AllByRecursion (λ (a : LineId). a.0 < most) (map line_numbered xs)
numbered_below most [] all = tt
numbered_below most (x ∷ xs) all = (all.0, numbered_below most xs all.1)

-- the lines of a chain are below the count of lines
pub chain_below : (g : Network) (chain : List ℕ) → All (λ (a : LineId). a.0 < g.lines) (lines_of g chain)
chain_below g chain =
    All-from_recursion (λ (a : LineId). a.0 < g.lines) (lines_of g chain)
    (numbered_below g.lines _ (kept_below g.lines _ (range_with_len 0 g.lines) (below_range 0 g.lines g.lines (omega arith))))

lines_below : (near lines : ℕ) (all : Courses) (over : NetParts) (parts : GraphParts) → graph_over_net near lines all over ≡ Ok parts → All (All (λ (a : LineId). a.0 < lines)) parts.lines
lines_below near lines all over parts is =
    let net : Network = network_of near lines all over in
    let made : GraphParts = graph_over all.stations over.points net (all_passages near all over) in
    let within = passed (leb (length over.points) 100000) _ _ parts is in
    let nodes = passed (leb (length made.kinds) 10000) _ _ parts within in
    let segments = passed (leb (length made.ends) 20000) _ _ parts nodes in
    subst (λ (g : GraphParts). All (All (λ (a : LineId). a.0 < lines)) g.lines) (same_parts made parts segments)
    (All-map (All (λ (a : LineId). a.0 < lines)) (lines_of net) (segment_chains over.points net) (λ k d below. chain_below net (get_or (segment_chains over.points net) k d)))

pub below_where : (near lines count : ℕ) (all : Courses) (over : NetParts) (result : Result GraphParts LimitFault) → lines ≡ count →
    IfOk result (λ parts. graph_over_net near lines all over ≡ Ok parts) → IfOk result (λ parts. All (All (λ (a : LineId). a.0 < count)) parts.lines)
below_where near lines count all over (Ok parts) same is =
    subst (λ (n : ℕ). All (All (λ (a : LineId). a.0 < n)) parts.lines) same (lines_below near lines all over parts is)
below_where near lines count all over (Err fault) same is = tt

-- the lines of a feed's line graph are the feed's
pub lines_of_feed : (near : ℕ) (feed : Feed) (graph : GraphParts) → graph_outcome near feed ≡ Ok graph → All (All (λ (a : LineId). a.0 < length feed.lines)) graph.lines
lines_of_feed near feed graph is = by (courses_outcome near feed) is
  where
    by : (r : Result Courses Limit) → graph_of_courses near (length feed.lines) r ≡ Ok graph → All (All (λ (a : LineId). a.0 < length feed.lines)) graph.lines
    by (Err limit) e = absurd cc
    by (Ok all) e = lines_below near (length feed.lines) all (net_of_courses near all) graph e
