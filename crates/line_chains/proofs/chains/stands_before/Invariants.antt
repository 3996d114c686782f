use Rattle.std.proofs.Common.{◌≡◌, ◌≢◌, drop}
use Rattle.line_chains.specs.Chains.{stands_before}
use Rattle.line_chains.proofs.chains.stands_before.Given as goal

-- none of the segments so far is one of the two, which differ
abbrev pub invariant-loop-r : goal.invariant-loop-r
invariant-loop-r l = (stands_before (drop l.r-index l.round) l.a l.b ≡ stands_before l.round l.a l.b) × (l.a.0 ≢ l.b.0)
