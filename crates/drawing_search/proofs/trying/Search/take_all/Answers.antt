use Rattle.std.proofs.Common.{◌≡◌, ℕ, ◌+◌, ◌<◌, List, length, fold, get_or, drop, sym, ap, subst, ◌∙◌}
use Rattle.drawing_search.proofs.Common.{at_drop_all, at_drop_more, drop_more, without_run, AreTakable, Chain}
use Rattle.drawing_search.proofs.Common.{GraphParts, IsTakable, Sketch}
use Rattle.drawing_search.proofs.trying.Search.take_all.Goals as goal

-- the next run may be taken off, and then the others
next : (graph : GraphParts) (k : Sketch) (cs : List Chain) (i : ℕ) (c : Chain) → i < length cs → c ≡ get_or cs i c → AreTakable graph k (drop i cs) → IsTakable graph k c × AreTakable graph (without_run k c) (drop (i + 1) cs)
next graph k cs i c h is can = subst (λ (d : Chain). IsTakable graph k d × AreTakable graph (without_run k d) (drop (i + 1) cs)) (sym is) (subst (AreTakable graph k) (drop_more cs i c h) can)

pub take_run-requires-clause-takable : goal.take_run-requires-clause-takable
take_run-requires-clause-takable c =
    (next c.args.field.graph.now c.loop-run.self.sketch c.args.runs.now c.loop-run.run-index c.run-item.result c.loop-run-test.true c.run-item.is c.loop-run.invariant.can).0

pub loop-run-preserved : goal.loop-run-preserved
loop-run-preserved c =
    let cs = c.args.runs.now in
    let i = c.loop-run.run-index in
    let k = c.loop-run.self.sketch in
    let run = c.run-item.result in
    record {
      rest = ap (λ (j : Sketch). fold without_run j (drop (i + 1) cs)) c.take_run.ensures
          ∙ ap (λ (r : Chain). fold without_run (without_run k r) (drop (i + 1) cs)) c.run-item.is
          ∙ sym (at_drop_more (fold without_run k) cs i run c.loop-run-test.true)
          ∙ c.loop-run.invariant.rest;
      can = subst (λ (j : Sketch). AreTakable c.args.field.graph.now j (drop (i + 1) cs)) (sym c.take_run.ensures) (next c.args.field.graph.now k cs i run c.loop-run-test.true c.run-item.is c.loop-run.invariant.can).1;
      weight = c.loop-run.invariant.weight;
      made = c.loop-run.invariant.made;
    }

pub returns-clause-sketch : goal.returns-clause-sketch
returns-clause-sketch c = sym (at_drop_all (fold without_run c.loop-run.self.sketch) c.args.runs.now c.loop-run.run-index c.loop-run-test.false) ∙ c.loop-run.invariant.rest
