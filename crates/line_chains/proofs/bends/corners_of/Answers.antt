use Rattle.std.proofs.Common.{◌≡◌, ◌∙◌, Bool, List, fold, length, ap, subst, sym}
use Rattle.std.specs.List.{flat_map}
use Rattle.line_chains.specs.declared.chain.Chain.{Chain}
use Rattle.line_chains.specs.Bends.{chain_bends, with_corner}
use Rattle.line_chains.specs.Chains.{chains_of}
use Rattle.line_chains.proofs.Below.{chains_below, ChainsBelow}
use Rattle.line_chains.proofs.bends.corners_of.Goals as goal

pub add_bends-requires-clause-chains : goal.add_bends-requires-clause-chains
add_bends-requires-clause-chains c =
    let g = c.args.graph.now in
    let cs = c.in_ok-corners.corners in
    let chains : c.deref.result.now ≡ chains_of g cs = c.deref.ensures.value ∙ c.in_ok-chains.ensures in
    subst (λ (v : List Chain). ChainsBelow (length g.kinds) v) (sym chains) (chains_below g c.in_ok-corners.ensures.fits cs)

pub returns : goal.returns
returns c =
    let g = c.args.graph.now in
    let cs = c.in_ok-corners.corners in
    let chains : c.deref.result.now ≡ chains_of g cs = c.deref.ensures.value ∙ c.in_ok-chains.ensures in
    c.in_ok-add_bends.ensures
    ∙ ap (λ (v : List Chain). fold with_corner cs (flat_map (chain_bends g c.args.cell) v)) chains
    ∙ ap (λ (fs : List Bool). fold with_corner fs (flat_map (chain_bends g c.args.cell) (chains_of g fs))) c.in_ok-corners.ensures.value
