use Rattle.std.proofs.Common.{refl, sym, ◌∙◌, ap, ap₂, subst, ℕ, ◌-◌, ◌*◌, ◌<◌, Option, None, List, length, map, fold, get_or, replicate, arith}
use Rattle.octi_grid.specs.declared.dir.Dir.TheVariants as dir
use Rattle.drawing_search.proofs.Common.{direction, directions, fold_more, free_nodes, get_or-replicate, number_of}
use Rattle.drawing_search.proofs.Common.{number_of-direction, overs_by, scale_of, take_all, turn_price, with_first_by}
use Rattle.drawing_search.proofs.Common.{AreOnGraph, ChainStep, Dir, LeastTurns, NodeId, SegId}
use Rattle.drawing_search.proofs.FewSteps.{run_few}
use Rattle.drawing_search.proofs.LeastTurning.{least_of_all, least_of, never_small}
use Rattle.drawing_search.proofs.RunReads.{no_step, reads_end, reads_first, reads_last, run_from, run_on_graph, run_to}
use Rattle.drawing_search.proofs.gains.Field.least_turns.Goals as goal

pub overs_at-requires-clause-node : goal.overs_at-requires-clause-node
overs_at-requires-clause-node c = run_from c.args.self.graph.now c.requires.field.graph c.args.run.now c.requires.run

pub overs_at-requires-clause-segment : goal.overs_at-requires-clause-segment
overs_at-requires-clause-segment c =
    let graph = c.args.self.graph.now in
    subst (λ (ts : List ChainStep). (get_or ts 0 no_step).seg.0 < length graph.ends) (sym c.as_slice-steps.ensures) (run_on_graph graph c.requires.field.graph c.args.run.now c.requires.run 0 no_step c.requires.run.some).0

pub overs_at-requires-2-clause-node : goal.overs_at-requires-2-clause-node
overs_at-requires-2-clause-node c =
    let graph = c.args.self.graph.now in
    subst (λ (n : NodeId). n.0 < length graph.kinds) (sym (reads_end graph c.requires.field.graph c.args.run.now c.requires.run c.as_slice-steps.result.now c.as_slice-steps.ensures)) (run_to graph c.requires.field.graph c.args.run.now c.requires.run)

pub overs_at-requires-2-clause-segment : goal.overs_at-requires-2-clause-segment
overs_at-requires-2-clause-segment c =
    let graph = c.args.self.graph.now in
    let run = c.args.run.now in
    subst (λ (ts : List ChainStep). (get_or ts (length ts - 1) no_step).seg.0 < length graph.ends) (sym c.as_slice-steps.ensures)
    (run_on_graph graph c.requires.field.graph run c.requires.run (length run.steps - 1) no_step (omega (arith, c.requires.run.some))).0

pub turn_price-requires-clause-steps : goal.turn_price-requires-clause-steps
turn_price-requires-clause-steps c = subst (AreOnGraph c.args.self.graph.now) (sym c.as_slice-steps.ensures) (run_on_graph c.args.self.graph.now c.requires.field.graph c.args.run.now c.requires.run)

pub turn_price-requires-clause-some : goal.turn_price-requires-clause-some
turn_price-requires-clause-some c = omega (arith, c.requires.run.some, ap length c.as_slice-steps.ensures)

pub free_nodes-requires-clause-steps : goal.free_nodes-requires-clause-steps
free_nodes-requires-clause-steps c = subst (AreOnGraph c.args.self.graph.now) (sym c.as_slice-steps.ensures) (run_on_graph c.args.self.graph.now c.requires.field.graph c.args.run.now c.requires.run)

pub loop-i-init : goal.loop-i-init
loop-i-init c =
    let few = run_few c.args.self.graph.now c.requires.field.graph c.args.run.now c.requires.run in
    record { value = refl; small = never_small c.turn_price.result (4 * c.free_nodes.result) c.turn_price.ensures.small (omega (arith, few, c.free_nodes.ensures.small, ap length c.as_slice-steps.ensures)) }

pub with_first-requires-clause-overs : goal.with_first-requires-clause-overs
with_first-requires-clause-overs c = c.in_ok-from.ensures.small c.loop-i.i None (omega (arith, c.loop-i-test.true))

pub loop-i-preserved : goal.loop-i-preserved
loop-i-preserved c =
    let i = c.loop-i.i in
    let from = c.in_ok-from.from in
    let to = c.in_ok-to.to in
    let step = λ (m : LeastTurns) (d : Dir). with_first_by m d (get_or from (number_of d) None) to in
    let few : i < 8 = c.loop-i-test.true in
    record {
      value = c.with_first.ensures.value
          ∙ ap₂ (λ (d : Dir) (o : Option ℕ). with_first_by c.loop-i.least d o to) c.direction.ensures (sym (ap (λ n. get_or from n None) (number_of-direction i few)))
          ∙ ap (λ (m : LeastTurns). step m (direction i)) c.loop-i.invariant.value
          ∙ sym (fold_more step (least_of (replicate 9 1125899906842624) c.turn_price.result (4 * c.free_nodes.result)) directions i dir.N few);
      small = c.with_first.ensures.small;
    }

pub returns-clause-least : goal.returns-clause-least
returns-clause-least c =
    let f = c.args.self in
    let graph = f.graph.now in
    let run = c.args.run.now in
    let scale = scale_of f.by in
    let k = c.args.sketch.now in
    let ts = c.as_slice-steps.result.now in
    let same = c.as_slice-steps.ensures in
    let l = least_of (replicate 9 1125899906842624) c.turn_price.result (4 * c.free_nodes.result) in
    let from = c.in_ok-from.from in
    let to = c.in_ok-to.to in
    least_of_all scale graph k run l c.loop-i.least from to
    (c.in_ok-from.ensures.overs ∙ ap (λ (s : SegId). map (overs_by scale graph k run.from.0 s) directions) (reads_first graph c.requires.field.graph run c.requires.run ts same))
    (c.in_ok-to.ensures.overs
    ∙ ap₂ (λ (n : NodeId) (s : SegId). map (overs_by scale graph k n.0 s) directions) (reads_end graph c.requires.field.graph run c.requires.run ts same) (reads_last graph c.requires.field.graph run c.requires.run ts same))
    (λ way few. get_or-replicate {A = ℕ} 9 way 1125899906842624 0 few)
    (c.turn_price.ensures.price ∙ ap (turn_price scale graph) same)
    (ap (λ n. 4 * n) (c.free_nodes.ensures.count ∙ ap (free_nodes scale graph) same))
    (c.loop-i.invariant.value ∙ ap (fold (λ (m : LeastTurns) (d : Dir). with_first_by m d (get_or from (number_of d) None) to) l) (take_all c.loop-i.i directions c.loop-i-test.false))
    c.loop-i.invariant.small.each
