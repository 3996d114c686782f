use Rattle.std.proofs.Common.{◌≡◌, drop}
use Rattle.segment_router.specs.Routing.{first_drawn, nothing_drawn}
use Rattle.segment_router.proofs.drawing.first_drawn.Given as goal

-- what came of the attempts so far, or comes of those that are left
abbrev pub invariant-loop-attempt : goal.invariant-loop-attempt
invariant-loop-attempt l = first_drawn l.graph l.cell l.outcome (drop l.attempt-index l.attempts) ≡ first_drawn l.graph l.cell nothing_drawn l.attempts
