use Rattle.std.proofs.Common.{◌≡◌, ◌+◌, ◌++◌, ◌∷◌, [], List, true, false, length, take, sym, ap, subst, ◌∙◌, refl, arith}
use Rattle.map_base.specs.declared.ids.NodeId.{NodeId}
use Rattle.octi_grid.specs.Legal.{ends_hold, legs_of, meets_hold, Leg}
use Rattle.octi_grid.specs.Taking.{IsTaken}
use Rattle.octi_grid.proofs.PortsLemmas.{why_ends, why_meets, why_ports, ports_hold-more, ports_hold-fails, AreLegal-from}
use Rattle.octi_grid.proofs.CheckSteps.{ends_of_segment, ends_order, next_leg}
use Rattle.octi_grid.proofs.check.check_walk.Goals as goal

pub overflow_cast-seg : goal.overflow_cast-seg
overflow_cast-seg c = record { fits = omega (arith, c.requires.graph.few_segments) }

pub ends_fit-requires-clause-order : goal.ends_fit-requires-clause-order
ends_fit-requires-clause-order c = (ends_order c.args.graph.now c.requires.graph c.args.k c.ends-ends.result c.ends-ends.ensures).0

pub ends_fit-requires-clause-nodes : goal.ends_fit-requires-clause-nodes
ends_fit-requires-clause-nodes c = omega (arith, (ends_order c.args.graph.now c.requires.graph c.args.k c.ends-ends.result c.ends-ends.ensures).1, c.requires.taken.each_node)

pub take_walk-requires-clause-order : goal.take_walk-requires-clause-order
take_walk-requires-clause-order c = (ends_order c.args.graph.now c.requires.graph c.args.k c.ends-ends.result c.ends-ends.ensures).0

pub take_walk-requires-clause-nodes : goal.take_walk-requires-clause-nodes
take_walk-requires-clause-nodes c = omega (arith, (ends_order c.args.graph.now c.requires.graph c.args.k c.ends-ends.result c.ends-ends.ensures).1, c.requires.taken.each_node)

pub are_clockwise-requires-clause-node : goal.are_clockwise-requires-clause-node
are_clockwise-requires-clause-node c =
    let ends = ends_order c.args.graph.now c.requires.graph c.args.k c.ends-ends.result c.ends-ends.ensures in
    omega (arith, ends.0, ends.1)

pub are_clockwise-requires-2-clause-node : goal.are_clockwise-requires-2-clause-node
are_clockwise-requires-2-clause-node c = (ends_order c.args.graph.now c.requires.graph c.args.k c.ends-ends.result c.ends-ends.ensures).1

pub returns-then-not-ends_fit-clause-stops : goal.returns-then-not-ends_fit-clause-stops
returns-then-not-ends_fit-clause-stops c =
    let g = c.args.graph.now in
    let old = take c.args.k (legs_of g.ends c.args.walks.now) in
    let next = next_leg g c.args.walks.now c.args.k c.ends-ends.result c.index-walks-k.result c.ends-ends.ensures c.requires.place c.index-walks-k.is in (
      refl,
      why_ends g.rounds (take (c.args.k + 1) (legs_of g.ends c.args.walks.now))
          (ap ends_hold next ∙ sym (c.ends_fit.ensures old (length g.kinds) c.requires.taken (AreLegal-from g.rounds old c.requires.legal).ends) ∙ c.if-not-ends_fit.true),
    )

pub returns-then-not-branch-clause-stops : goal.returns-then-not-branch-clause-stops
returns-then-not-branch-clause-stops c =
    let g = c.args.graph.now in
    let old = take c.args.k (legs_of g.ends c.args.walks.now) in
    let legal = AreLegal-from g.rounds old c.requires.legal in
    let next = next_leg g c.args.walks.now c.args.k c.ends-ends.result c.index-walks-k.result c.ends-ends.ensures c.requires.place c.index-walks-k.is in
    let ends : ends_hold (old ++ (c.ends-ends.result, c.index-walks-k.result) ∷ []) ≡ true = sym (c.ends_fit.ensures old (length g.kinds) c.requires.taken legal.ends) ∙ c.if-not-ends_fit.false in (
      refl,
      why_meets g.rounds (take (c.args.k + 1) (legs_of g.ends c.args.walks.now)) (ap ends_hold next ∙ ends)
          (ap meets_hold next ∙ sym (c.in_ok-take_walk.ensures.says old (length g.kinds) c.requires.taken ends legal.meets) ∙ c.if-not-branch.true),
    )

pub returns-then-not-are_clockwise-clause-stops : goal.returns-then-not-are_clockwise-clause-stops
returns-then-not-are_clockwise-clause-stops c =
    let g = c.args.graph.now in
    let old = take c.args.k (legs_of g.ends c.args.walks.now) in
    let new = take (c.args.k + 1) (legs_of g.ends c.args.walks.now) in
    let legal = AreLegal-from g.rounds old c.requires.legal in
    let order = ends_order g c.requires.graph c.args.k c.ends-ends.result c.ends-ends.ensures in
    let next = next_leg g c.args.walks.now c.args.k c.ends-ends.result c.index-walks-k.result c.ends-ends.ensures c.requires.place c.index-walks-k.is in
    let ends : ends_hold (old ++ (c.ends-ends.result, c.index-walks-k.result) ∷ []) ≡ true = sym (c.ends_fit.ensures old (length g.kinds) c.requires.taken legal.ends) ∙ c.if-not-ends_fit.false in (
      refl,
      why_ports g.rounds new false (ap ends_hold next ∙ ends)
          (ap meets_hold next ∙ sym (c.in_ok-take_walk.ensures.says old (length g.kinds) c.requires.taken ends legal.meets) ∙ c.if-not-branch.false)
          (ports_hold-fails g.rounds new c.ends-ends.result.0.0 (omega (arith, order.0, order.1, c.requires.graph.round_each)) (sym c.are_clockwise.ensures ∙ c.if-not-are_clockwise.true)),
    )

pub returns-then-not-are_clockwise-2-clause-stops : goal.returns-then-not-are_clockwise-2-clause-stops
returns-then-not-are_clockwise-2-clause-stops c =
    let g = c.args.graph.now in
    let old = take c.args.k (legs_of g.ends c.args.walks.now) in
    let new = take (c.args.k + 1) (legs_of g.ends c.args.walks.now) in
    let legal = AreLegal-from g.rounds old c.requires.legal in
    let order = ends_order g c.requires.graph c.args.k c.ends-ends.result c.ends-ends.ensures in
    let next = next_leg g c.args.walks.now c.args.k c.ends-ends.result c.index-walks-k.result c.ends-ends.ensures c.requires.place c.index-walks-k.is in
    let ends : ends_hold (old ++ (c.ends-ends.result, c.index-walks-k.result) ∷ []) ≡ true = sym (c.ends_fit.ensures old (length g.kinds) c.requires.taken legal.ends) ∙ c.if-not-ends_fit.false in (
      refl,
      why_ports g.rounds new false (ap ends_hold next ∙ ends)
          (ap meets_hold next ∙ sym (c.in_ok-take_walk.ensures.says old (length g.kinds) c.requires.taken ends legal.meets) ∙ c.if-not-branch.false)
          (ports_hold-fails g.rounds new c.ends-ends.result.1.0 (omega (arith, order.1, c.requires.graph.round_each)) (sym c.are_clockwise-2.ensures ∙ c.if-not-are_clockwise-2.true)),
    )

pub returns-clause-taken : goal.returns-clause-taken
returns-clause-taken c =
    let g = c.args.graph.now in
    let old = take c.args.k (legs_of g.ends c.args.walks.now) in
    let legal = AreLegal-from g.rounds old c.requires.legal in
    let next = next_leg g c.args.walks.now c.args.k c.ends-ends.result c.index-walks-k.result c.ends-ends.ensures c.requires.place c.index-walks-k.is in
    let ends : ends_hold (old ++ (c.ends-ends.result, c.index-walks-k.result) ∷ []) ≡ true = sym (c.ends_fit.ensures old (length g.kinds) c.requires.taken legal.ends) ∙ c.if-not-ends_fit.false in
    subst (λ (ls : List Leg). IsTaken (length g.kinds) ls c.take_walk.new.taken) (sym next) (c.in_ok-take_walk.ensures.takes old (length g.kinds) c.requires.taken ends legal.meets c.if-not-branch.false)

pub returns-clause-legal : goal.returns-clause-legal
returns-clause-legal c =
    let g = c.args.graph.now in
    let old = take c.args.k (legs_of g.ends c.args.walks.now) in
    let new = take (c.args.k + 1) (legs_of g.ends c.args.walks.now) in
    let legal = AreLegal-from g.rounds old c.requires.legal in
    let segment = ends_of_segment g c.args.k c.ends-ends.result c.ends-ends.ensures in
    let next = next_leg g c.args.walks.now c.args.k c.ends-ends.result c.index-walks-k.result c.ends-ends.ensures c.requires.place c.index-walks-k.is in
    let ends : ends_hold (old ++ (c.ends-ends.result, c.index-walks-k.result) ∷ []) ≡ true = sym (c.ends_fit.ensures old (length g.kinds) c.requires.taken legal.ends) ∙ c.if-not-ends_fit.false in
    why_ports g.rounds new true (ap ends_hold next ∙ ends)
    (ap meets_hold next ∙ sym (c.in_ok-take_walk.ensures.says old (length g.kinds) c.requires.taken ends legal.meets) ∙ c.if-not-branch.false)
    (ports_hold-more g c.requires.graph (legs_of g.ends c.args.walks.now) c.args.k c.ends-ends.result.0.0 c.ends-ends.result.1.0
    (ap (λ (e : NodeId × NodeId). e.0.0) segment) (ap (λ (e : NodeId × NodeId). e.1.0) segment) legal.ports
    (sym c.are_clockwise.ensures ∙ c.if-not-are_clockwise.false) (sym c.are_clockwise-2.ensures ∙ c.if-not-are_clockwise-2.false))
