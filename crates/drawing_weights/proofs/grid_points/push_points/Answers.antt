use Rattle.std.proofs.Common.{◌+◌, ◌++◌, ◌∷◌, [], List, drop, get_or, replicate, sym, ap, ◌∙◌, subst, append-nil, append_assoc, arith}
use Rattle.std.proofs.lemmas.List.{at_drop_all, drop_more}
use Rattle.std.specs.List.{AllByRecursion}
use Rattle.octi_grid.specs.declared.dir.Dir.{Dir}
use Rattle.octi_grid.specs.declared.point.GridPoint.{GridPoint}
use Rattle.octi_grid.specs.declared.walk.Run.{Run}
use Rattle.octi_grid.specs.Taking.{trail}
use Rattle.octi_grid.specs.Ways.{after, points_from, IsWithin}
use Rattle.octi_grid.specs.Runs.{steps_of}
use Rattle.octi_grid.proofs.WayLemmas.{first_of-points, run_short}
use Rattle.octi_grid.proofs.RunLemmas.{no_run, points_of_rest, points_of_run}
use Rattle.octi_grid.proofs.TakingLemmas.{trail-append}
use Rattle.drawing_weights.proofs.Trails.{points_trail}
use Rattle.drawing_weights.proofs.grid_points.push_points.Goals as goal

pub loop-run-init : goal.loop-run-init
loop-run-init c =
    let w = c.args.walk.now in
    let runs = c.runs-runs.result.now in
    let old = c.args.points.now.items in
    record {
      points = ap (λ (ps : List GridPoint). ps ++ trail c.start-at.result (steps_of runs)) c.in_ok-push.ensures.items
          ∙ append_assoc old (c.start-at.result ∷ []) (trail c.start-at.result (steps_of runs))
          ∙ ap (λ (ps : List GridPoint). old ++ ps)
          (sym (points_trail c.start-at.result (steps_of runs))
          ∙ ap (λ (p : GridPoint). points_from p (steps_of runs)) c.start-at.ensures
          ∙ ap (λ (ds : List Dir). points_from w.start ds) c.runs-runs.ensures.steps);
      within =
          subst (λ (p : GridPoint). AllByRecursion IsWithin (points_from p (steps_of runs))) (sym c.start-at.ensures)
          (subst (λ (ds : List Dir). AllByRecursion IsWithin (points_from w.start ds)) (sym c.runs-runs.ensures.steps) c.runs-runs.ensures.walk.within);
    }

pub push_run-requires-clause-start : goal.push_run-requires-clause-start
push_run-requires-clause-start c = first_of-points IsWithin c.loop-run.at _ c.loop-run.invariant.within

pub push_run-requires-clause-count : goal.push_run-requires-clause-count
push_run-requires-clause-count c = run_short c.loop-run.at _ _ (points_of_run c.loop-run.at c.runs-runs.result.now c.loop-run.run-index c.loop-run-test.true c.loop-run.invariant.within)

pub run_end-at-requires-clause-at : goal.run_end-at-requires-clause-at
run_end-at-requires-clause-at c = first_of-points IsWithin c.loop-run.at _ c.loop-run.invariant.within

pub run_end-at-requires-clause-count : goal.run_end-at-requires-clause-count
run_end-at-requires-clause-count c = run_short c.loop-run.at _ _ (points_of_run c.loop-run.at c.runs-runs.result.now c.loop-run.run-index c.loop-run-test.true c.loop-run.invariant.within)

pub loop-run-preserved : goal.loop-run-preserved
loop-run-preserved c =
    let rs = c.runs-runs.result.now in
    let run = get_or rs c.loop-run.run-index no_run in
    let at = c.loop-run.at in
    let rest = steps_of (drop (c.loop-run.run-index + 1) rs) in
    let here = trail at (replicate run.count run.dir) in
    record {
      points = ap (λ (ps : List GridPoint). ps ++ trail c.run_end-at.result rest) c.in_ok-push_run.ensures
          ∙ ap (λ (p : GridPoint). (c.loop-run.points.items ++ here) ++ trail p rest) c.run_end-at.ensures
          ∙ append_assoc c.loop-run.points.items here (trail (after at (replicate run.count run.dir)) rest)
          ∙ ap (λ (ps : List GridPoint). c.loop-run.points.items ++ ps) (sym (trail-append at (replicate run.count run.dir) rest))
          ∙ ap (λ (v : List Run). c.loop-run.points.items ++ trail at (steps_of v)) (sym (drop_more rs c.loop-run.run-index no_run c.loop-run-test.true))
          ∙ c.loop-run.invariant.points;
      within =
          subst (λ (p : GridPoint). AllByRecursion IsWithin (points_from p rest)) (sym c.run_end-at.ensures)
          (points_of_rest at rs c.loop-run.run-index c.loop-run-test.true c.loop-run.invariant.within);
    }

pub returns : goal.returns
returns c =
    let old = c.loop-run.points.items in
    sym (append-nil old)
    ∙ sym (at_drop_all (λ (rs : List Run). old ++ trail c.loop-run.at (steps_of rs)) c.runs-runs.result.now c.loop-run.run-index (omega arith))
    ∙ c.loop-run.invariant.points
