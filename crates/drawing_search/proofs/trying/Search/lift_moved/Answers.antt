use Rattle.std.proofs.Common.{ℕ, ◌+◌, ◌<◌, List, pos, length, fold, map, get_or, drop, sym, ap, subst, ◌∙◌}
use Rattle.drawing_search.proofs.Common.{at_drop_all, at_drop_more, drop_more, lifted, AreLiftable, GraphParts}
use Rattle.drawing_search.proofs.Common.{GridPoint, IsLiftable, NodeId, Sketch}
use Rattle.drawing_search.proofs.trying.Search.lift_moved.Goals as goal

abbrev nobody : NodeId × GridPoint
nobody = (record { 0 = 0 }, record { x = pos 0; y = pos 0 })

abbrev nodes_in : List (NodeId × GridPoint) → List NodeId
nodes_in ms = map (λ (m : NodeId × GridPoint). m.0) ms

next : (graph : GraphParts) (k : Sketch) (ms : List (NodeId × GridPoint)) (i : ℕ) → i < length ms → AreLiftable graph k (nodes_in (drop i ms)) → IsLiftable graph k (get_or ms i nobody).0 × AreLiftable graph (lifted k (get_or ms i nobody).0) (nodes_in (drop (i + 1) ms))
next graph k ms i h can = subst (λ (xs : List (NodeId × GridPoint)). AreLiftable graph k (nodes_in xs)) (drop_more ms i nobody h) can

pub lift-requires : goal.lift-requires
lift-requires c =
    let can = (next c.args.field.graph.now c.loop-known.self.sketch c.args.moved.now c.loop-known.known-index c.loop-known-test.true c.loop-known.invariant.can).0 in
    record { legal = can.legal; stands = can.stands }

pub loop-known-preserved : goal.loop-known-preserved
loop-known-preserved c =
    let ms = c.args.moved.now in
    let i = c.loop-known.known-index in
    let k = c.loop-known.self.sketch in
    record {
      rest = ap (λ (j : Sketch). fold lifted j (nodes_in (drop (i + 1) ms))) c.lift.ensures
          ∙ sym (at_drop_more (λ (xs : List (NodeId × GridPoint)). fold lifted k (nodes_in xs)) ms i nobody c.loop-known-test.true)
          ∙ c.loop-known.invariant.rest;
      can = subst (λ (j : Sketch). AreLiftable c.args.field.graph.now j (nodes_in (drop (i + 1) ms))) (sym c.lift.ensures) (next c.args.field.graph.now k ms i c.loop-known-test.true c.loop-known.invariant.can).1;
      weight = c.loop-known.invariant.weight;
      made = c.loop-known.invariant.made;
    }

pub returns-clause-sketch : goal.returns-clause-sketch
returns-clause-sketch c =
    sym (at_drop_all (λ (xs : List (NodeId × GridPoint)). fold lifted c.loop-known.self.sketch (nodes_in xs)) c.args.moved.now c.loop-known.known-index c.loop-known-test.false) ∙ c.loop-known.invariant.rest
