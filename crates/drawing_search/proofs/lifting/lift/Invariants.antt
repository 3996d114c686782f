use Rattle.drawing_weights.specs.Scales.{scale_of}
use Rattle.drawing_search.proofs.LiftedGroups.{AreLeastLifted, AreNodesLifted, AreRunsLifted}
use Rattle.drawing_search.proofs.lifting.lift.Given as goal

-- so many runs were taken off
abbrev pub invariant-loop-run : goal.invariant-loop-run
invariant-loop-run l = AreRunsLifted (scale_of l.field.by) l.field.graph.now l.field.first.now l.fn.sketch l.group.runs l.run-index l.sketch l.lifted

-- and so many nodes
abbrev pub invariant-loop-n : goal.invariant-loop-n
invariant-loop-n l = AreNodesLifted (scale_of l.field.by) l.field.graph.now l.field.first.now l.fn.sketch l.group.nodes l.group.runs l.n-index l.sketch l.lifted

-- and so many runs have their bounds
abbrev pub invariant-loop-chain : goal.invariant-loop-chain
invariant-loop-chain l = AreLeastLifted (scale_of l.field.by) l.field.graph.now l.field.first.now l.fn.sketch l.group.nodes l.group.runs l.chain-index l.sketch l.lifted
