use Rattle.std.proofs.Common.{◌≡◌, subst, sym, ap, suc, ◌+◌, ◌<◌, length, map, get_or, List, arith}
use Rattle.map_base.specs.declared.ids.NodeId.{NodeId}
use Rattle.line_chains.specs.declared.chain.ChainStep.{ChainStep}
use Rattle.line_chains.specs.Chains.{nodes_along}
use Rattle.line_chains.proofs.Walking.{along_below}
use Rattle.line_chains.proofs.corners.mark_over.Goals as goal

pub mark-requires-in-loop-step : goal.mark-requires-in-loop-step
mark-requires-in-loop-step c =
    let none : ChainStep = record { seg = record { 0 = 0 }; to = record { 0 = 0 } } in
    let steps : c.as_slice-step-items.result.now ≡ c.args.way.now.steps = c.as_slice-step-items.ensures in
    let below : (get_or c.args.way.now.steps c.loop-step.step-index none).to.0 < length c.args.reached.now =
    along_below (length c.args.reached.now) c.args.way.now c.loop-step.step-index none (omega (arith, c.loop-step-test.true, ap length steps)) c.requires in
    subst (λ (v : List ChainStep). (get_or v c.loop-step.step-index none).to.0 < length c.loop-step.reached) (sym steps)
    (subst (λ k. (get_or c.args.way.now.steps c.loop-step.step-index none).to.0 < k) (sym c.loop-step.invariant.each) below)
