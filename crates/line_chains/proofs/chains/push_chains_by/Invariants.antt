use Rattle.std.proofs.Common.{◌≡◌, ◌++◌, drop}
use Rattle.line_chains.specs.Chains.{chains_by}
use Rattle.line_chains.proofs.chains.push_chains_by.Given as goal

-- the chains so far, and those by the segments that are left
abbrev pub invariant-loop-s : goal.invariant-loop-s
invariant-loop-s l = l.chains.items ++ chains_by l.graph l.corners l.n (drop l.s-index l.segs) ≡ l.fn.chains.items ++ chains_by l.graph l.corners l.n l.segs
