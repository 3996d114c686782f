use Rattle.std.proofs.Common.{◌≡◌, ◌∙◌, sym, ap, ap₂, subst, ◌+◌, ◌*◌, ◌<◌, true, List, length, arith}
use Rattle.drawing_search.proofs.Common.{inner_nodes, is_standing, scale_of, steps_gain, turns_from, All, AreOnGraph}
use Rattle.drawing_search.proofs.Common.{ChainStep, NodeId, SegId}
use Rattle.drawing_search.proofs.FewSteps.{run_few}
use Rattle.drawing_search.proofs.RunReads.{reads_end, reads_first, reads_last, run_from, run_on_graph, run_to}
use Rattle.drawing_search.proofs.gains.Field.run_gain.Goals as goal

pub turns_with-requires-clause-node : goal.turns_with-requires-clause-node
turns_with-requires-clause-node c = run_from c.args.self.graph.now c.requires.field.graph c.args.run.now c.requires.run

pub steps_gain-requires-clause-steps : goal.steps_gain-requires-clause-steps
steps_gain-requires-clause-steps c = subst (AreOnGraph c.args.self.graph.now) (sym c.as_slice-steps.ensures) (run_on_graph c.args.self.graph.now c.requires.field.graph c.args.run.now c.requires.run)

pub steps_gain-requires-clause-inner : goal.steps_gain-requires-clause-inner
steps_gain-requires-clause-inner c = subst (λ (ts : List ChainStep). All (λ (n : NodeId). is_standing c.args.sketch.now n.0 ≡ true) (inner_nodes ts)) (sym c.as_slice-steps.ensures) c.requires.inner

pub steps_gain-requires-clause-few : goal.steps_gain-requires-clause-few
steps_gain-requires-clause-few c = omega (arith, run_few c.args.self.graph.now c.requires.field.graph c.args.run.now c.requires.run, ap length c.as_slice-steps.ensures)

pub turns_with-requires-2-clause-node : goal.turns_with-requires-2-clause-node
turns_with-requires-2-clause-node c =
    let graph = c.args.self.graph.now in
    subst (λ (n : NodeId). n.0 < length graph.kinds) (sym (reads_end graph c.requires.field.graph c.args.run.now c.requires.run c.as_slice-steps.result.now c.as_slice-steps.ensures)) (run_to graph c.requires.field.graph c.args.run.now c.requires.run)

pub returns-clause-gain : goal.returns-clause-gain
returns-clause-gain c =
    let f = c.args.self in
    let graph = f.graph.now in
    let run = c.args.run.now in
    let ts = c.as_slice-steps.result.now in
    let k = c.args.sketch.now in
    let same = c.as_slice-steps.ensures in
    let here = c.turns_with.ensures.weight ∙ ap (λ (s : SegId). f.by.overs * turns_from graph k run.from.0 s) (reads_first graph c.requires.field.graph run c.requires.run ts same) in
    let between = c.steps_gain.ensures.gain ∙ ap (steps_gain (scale_of f.by) graph f.first.now k) same in
    let there =
    c.turns_with-2.ensures.weight
    ∙ ap₂ (λ (n : NodeId) (s : SegId). f.by.overs * turns_from graph k n.0 s) (reads_end graph c.requires.field.graph run c.requires.run ts same) (reads_last graph c.requires.field.graph run c.requires.run ts same) in
    ap₂ (λ a b. a + b) (ap₂ (λ a b. a + b) here between) there
