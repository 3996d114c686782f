use Rattle.std.proofs.Common.{◌≡◌, drop}
use Rattle.line_chains.specs.Chains.{last_seg}
use Rattle.line_chains.proofs.chains.last_seg.Given as goal

abbrev pub invariant-loop-step : goal.invariant-loop-step
invariant-loop-step l = last_seg l.last (drop l.step-index l.steps) ≡ last_seg l.fn.s l.steps
