use Rattle.std.proofs.Common.{◌≡◌, ◌-◌, fold, length}
use Rattle.line_chains.specs.Chains.{ring_corners, with_ring}
use Rattle.line_chains.specs.Marks.{reached_by}
use Rattle.line_chains.proofs.Listing.{nodes_between}
use Rattle.line_chains.proofs.corners.ring_corners.Given as goal

-- the corners so far, those that the nodes that are left bring, and what ways from corners come over
abbrev pub invariant-loop-n : goal.invariant-loop-n
invariant-loop-n l = record {
  whole : fold (with_ring l.graph) l.corners (nodes_between l.n (length l.graph.kinds - l.n)) ≡ ring_corners l.graph;
  each : length l.corners ≡ length l.graph.kinds;
  reached : l.reached ≡ reached_by l.graph l.corners;
}
