use Rattle.std.proofs.Common.{◌≡◌, drop, fold, length}
use Rattle.std.specs.List.{flat_map}
use Rattle.line_chains.specs.Bends.{chain_bends, with_corner}
use Rattle.line_chains.proofs.bends.add_bends.Given as goal

-- the corners so far, and those that the chains that are left bring
abbrev pub invariant-loop-chain : goal.invariant-loop-chain
invariant-loop-chain l = record {
  whole : fold with_corner l.corners (flat_map (chain_bends l.graph l.cell) (drop l.chain-index l.chains)) ≡ fold with_corner l.fn.corners (flat_map (chain_bends l.graph l.cell) l.chains);
  each : length l.corners ≡ length l.graph.kinds;
}
