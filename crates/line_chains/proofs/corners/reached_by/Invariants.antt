use Rattle.std.proofs.Common.{◌≡◌, false, length, get_or}
use Rattle.map_base.specs.declared.ids.NodeId.{NodeId}
use Rattle.line_chains.proofs.Reaching.{reached_upto}
use Rattle.line_chains.proofs.corners.reached_by.Given as goal

-- the flags of the ways from the first corners
abbrev pub invariant-loop-n : goal.invariant-loop-n
invariant-loop-n l = record {
  each : length l.reached ≡ length l.graph.kinds;
  flags : (k : NodeId) → get_or l.reached k.0 false ≡ reached_upto l.graph l.corners l.n k;
}
