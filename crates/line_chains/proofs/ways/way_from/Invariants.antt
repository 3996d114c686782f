use Rattle.std.proofs.Common.{◌≡◌, ◌-◌, ◌<◌, ◌++◌, length, map}
use Rattle.std.specs.List.{All}
use Rattle.map_base.specs.declared.ids.NodeId.{NodeId}
use Rattle.line_chains.specs.declared.chain.ChainStep.{ChainStep}
use Rattle.line_chains.specs.Chains.{steps_from}
use Rattle.line_chains.proofs.ways.way_from.Given as goal

-- the steps so far, and those that are left
abbrev pub invariant-loop-i : goal.invariant-loop-i
invariant-loop-i l = record {
  whole : l.steps.items ++ steps_from l.graph l.corners (length l.graph.ends - l.i) l.at l.seg ≡ steps_from l.graph l.corners (length l.graph.ends) l.fn.n l.fn.s;
  at : l.at.0 < length l.graph.kinds;
  seg : l.seg.0 < length l.graph.ends;
}
