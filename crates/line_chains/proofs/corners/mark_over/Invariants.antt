use Rattle.std.proofs.Common.{◌≡◌, drop, fold, length, map}
use Rattle.line_chains.specs.declared.chain.ChainStep.{ChainStep}
use Rattle.line_chains.specs.Marks.{marked, marked_over}
use Rattle.line_chains.proofs.corners.mark_over.Given as goal

-- the flags so far, with those of the nodes that are left
abbrev pub invariant-loop-step : goal.invariant-loop-step
invariant-loop-step l = record {
  flags : fold marked l.reached (map (λ (t : ChainStep). t.to) (drop l.step-index l.step-items)) ≡ marked_over l.fn.reached l.fn.way;
  each : length l.reached ≡ length l.fn.reached;
}
