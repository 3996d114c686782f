use Rattle.std.proofs.Common.{◌≡◌, drop}
use Rattle.line_chains.specs.Chains.{end_after}
use Rattle.line_chains.proofs.chains.end_after.Given as goal

abbrev pub invariant-loop-step : goal.invariant-loop-step
invariant-loop-step l = end_after l.at (drop l.step-index l.steps) ≡ end_after l.fn.n l.steps
