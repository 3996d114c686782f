use Rattle.std.proofs.Common.{◌≡◌, ◌++◌, ◌∷◌, drop, map}
use Rattle.line_chains.specs.declared.chain.ChainStep.{ChainStep}
use Rattle.line_chains.proofs.bends.nodes_along.Given as goal

-- the nodes so far, and those that are left
abbrev pub invariant-loop-step : goal.invariant-loop-step
invariant-loop-step l = l.nodes.items ++ map (λ (t : ChainStep). t.to) (drop l.step-index l.steps) ≡ l.fn.chain.from ∷ map (λ (t : ChainStep). t.to) l.steps
