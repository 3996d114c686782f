use Rattle.std.proofs.Common.{◌≡◌, ◌++◌, drop}
use Rattle.segment_router.specs.Routing.{attempts_on}
use Rattle.segment_router.proofs.attempts.push_attempts.Given as goal

-- the attempts so far, and those that are left
abbrev pub invariant-loop-percent : goal.invariant-loop-percent
invariant-loop-percent l = l.attempts.items ++ attempts_on (drop l.percent-index l.percents) l.fineness ≡ l.initial.attempts.items ++ attempts_on l.percents l.fineness
