use Rattle.std.proofs.Common.{◌≡◌, ◌-◌, ◌++◌, length}
use Rattle.std.specs.List.{flat_map}
use Rattle.line_chains.specs.Chains.{chains_at, chains_of}
use Rattle.line_chains.proofs.Listing.{nodes_between}
use Rattle.line_chains.proofs.chains.chains_of.Given as goal

-- the chains so far, and those from the nodes that are left
abbrev pub invariant-loop-n : goal.invariant-loop-n
invariant-loop-n l = l.chains.items ++ flat_map (chains_at l.graph l.corners) (nodes_between l.n (length l.graph.kinds - l.n)) ≡ chains_of l.graph l.corners
