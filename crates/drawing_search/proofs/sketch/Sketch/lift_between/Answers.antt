use Rattle.std.proofs.Common.{◌+◌, ◌-◌, ◌≤◌, length, fold, drop, sym, ap, subst, ◌∙◌}
use Rattle.drawing_search.proofs.Common.{inner_nodes, lifted, AreLiftable, ChainStep, Sketch}
use Rattle.drawing_search.proofs.RunEnds.{inner_end, inner_left}
use Rattle.drawing_search.proofs.Takable.{next_liftable}
use Rattle.drawing_search.proofs.sketch.Sketch.lift_between.Goals as goal

abbrev none : ChainStep
none = record { seg = record { 0 = 0 }; to = record { 0 = 0 } }

pub lift-requires : goal.lift-requires
lift-requires c =
    let can = (next_liftable c.args.graph.now c.loop-i.self c.args.steps.now c.loop-i.i none c.loop-i.auto.i c.loop-i-test.true c.loop-i.invariant.can).0 in
    record { legal = can.legal; stands = can.stands }

pub loop-i-preserved : goal.loop-i-preserved
loop-i-preserved c =
    let ts = c.args.steps.now in
    let i = c.loop-i.i in
    let k = c.loop-i.self in
    record {
      rest = ap (λ (j : Sketch). fold lifted j (inner_nodes (drop (i + 1 - 1) ts))) c.lift.ensures ∙ sym (ap (fold lifted k) (inner_left ts i none c.loop-i.auto.i c.loop-i-test.true)) ∙ c.loop-i.invariant.rest;
      can = subst (λ (j : Sketch). AreLiftable c.args.graph.now j (inner_nodes (drop (i + 1 - 1) ts))) (sym c.lift.ensures) (next_liftable c.args.graph.now k ts i none c.loop-i.auto.i c.loop-i-test.true c.loop-i.invariant.can).1;
    }

pub returns : goal.returns
returns c =
    let i = c.loop-i.i in
    let past : length c.args.steps.now ≤ i = c.loop-i-test.false in
    sym (ap (fold lifted c.loop-i.self) (inner_end c.args.steps.now i past)) ∙ c.loop-i.invariant.rest
