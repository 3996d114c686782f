use Rattle.std.proofs.Common.{◌≡◌, ℕ, ◌∙◌, ◌<◌, List, fold, get_or, length, ap, subst, sym}
use Rattle.std.specs.List.{flat_map}
use Rattle.map_base.specs.declared.ids.NodeId.{NodeId}
use Rattle.line_chains.specs.declared.chain.Chain.{Chain}
use Rattle.line_chains.specs.Bends.{bends_of, chain_bends, with_corner}
use Rattle.line_chains.specs.Chains.{nodes_along}
use Rattle.line_chains.proofs.Bending.{bends_more, length-corners}
use Rattle.line_chains.proofs.bends.add_bends.Goals as goal

pub mark_bends-requires-clause-nodes : goal.mark_bends-requires-clause-nodes
mark_bends-requires-clause-nodes c =
    let g = c.args.graph.now in
    let x = c.chain-item.result in
    let nodes : c.deref.result.now ≡ nodes_along x = c.deref.ensures.value ∙ c.in_ok-nodes.ensures in
    subst (λ (v : List NodeId). (k : ℕ) (d : NodeId) → k < length v → (get_or v k d).0 < length g.kinds) (sym nodes)
    (subst (λ (y : Chain). (k : ℕ) (d : NodeId) → k < length (nodes_along y) → (get_or (nodes_along y) k d).0 < length g.kinds) (sym c.chain-item.is) (c.requires.chains c.loop-chain.chain-index x c.loop-chain-test.true))

pub loop-chain-preserved : goal.loop-chain-preserved
loop-chain-preserved c =
    let g = c.args.graph.now in
    let x = c.chain-item.result in
    let old = c.loop-chain.corners in
    let nodes : c.deref.result.now ≡ nodes_along x = c.deref.ensures.value ∙ c.in_ok-nodes.ensures in
    let step : c.mark_bends.new.corners ≡ fold with_corner old (chain_bends g c.args.cell x) =
    c.mark_bends.ensures ∙ ap (λ (v : List NodeId). fold with_corner old (bends_of (length v) g c.args.cell v)) nodes in
    record {
      whole =
          bends_more g c.args.cell c.args.chains.now c.loop-chain.chain-index x old c.mark_bends.new.corners (fold with_corner c.args.corners.now (flat_map (chain_bends g c.args.cell) c.args.chains.now)) c.loop-chain-test.true
          c.chain-item.is step c.loop-chain.invariant.whole;
      each = ap length step ∙ length-corners (chain_bends g c.args.cell x) old ∙ c.loop-chain.invariant.each;
    }
