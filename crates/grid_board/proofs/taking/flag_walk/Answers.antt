use Rattle.std.proofs.Common.{◌≡◌, sym, ◌∙◌, ap, subst, ◌+◌, true, drop, get_or, length, replicate, List, [], ◌∷◌}
use Rattle.std.specs.List.{list_all}
use Rattle.octi_grid.specs.declared.dir.Dir.{Dir}
use Rattle.octi_grid.specs.declared.point.GridPoint.{GridPoint}
use Rattle.octi_grid.specs.Ways.{doubled, points_from}
use Rattle.octi_grid.specs.Runs.{steps_of}
use Rattle.octi_grid.proofs.RunLemmas.{no_run}
use Rattle.grid_board.specs.Boards.{contains, doubled_bounds}
use Rattle.grid_board.specs.Taking.{behind, flagged}
use Rattle.grid_board.proofs.Marks.{length-flagged}
use Rattle.grid_board.proofs.Ways.{doubled_from-behind, first_holds, flagged_run, rest_of_runs_holds, run_holds}
use Rattle.grid_board.proofs.taking.flag_walk.Goals as goal

pub flag_point-requires-clause-inside : goal.flag_point-requires-clause-inside
flag_point-requires-clause-inside c =
    subst (λ (p : GridPoint). contains c.args.bounds p ≡ true) (sym c.start-at.ensures)
    (first_holds (contains c.args.bounds) c.args.walk.now.start c.args.walk.now.steps c.requires.inside)

pub loop-run-init : goal.loop-run-init
loop-run-init c = record {
  flags =
      ap (λ (ds : List Dir). flagged (doubled_bounds c.args.bounds) c.args.flag c.flag_point.new.taken (behind c.start-at.result ds)) c.runs-run-items.ensures.steps
      ∙ ap (λ fs. flagged (doubled_bounds c.args.bounds) c.args.flag fs (behind c.start-at.result c.args.walk.now.steps)) c.flag_point.ensures
      ∙ ap (λ (p : GridPoint). flagged (doubled_bounds c.args.bounds) c.args.flag c.args.taken.now (doubled p ∷ behind p c.args.walk.now.steps)) c.start-at.ensures
      ∙ ap (flagged (doubled_bounds c.args.bounds) c.args.flag c.args.taken.now) (sym (doubled_from-behind c.args.walk.now.start c.args.walk.now.steps));
  inside =
      subst (λ (p : GridPoint). list_all (contains c.args.bounds) (points_from p (steps_of c.runs-run-items.result.now)) ≡ true) (sym c.start-at.ensures)
      (subst (λ (ds : List Dir). list_all (contains c.args.bounds) (points_from c.args.walk.now.start ds) ≡ true) (sym c.runs-run-items.ensures.steps) c.requires.inside);
  each = ap length c.flag_point.ensures ∙ length-flagged (doubled_bounds c.args.bounds) c.args.flag (doubled c.start-at.result ∷ []) c.args.taken.now ∙ c.requires.flags;
}

pub flag_run-at-requires-clause-inside : goal.flag_run-at-requires-clause-inside
flag_run-at-requires-clause-inside c =
    run_holds (contains c.args.bounds) c.loop-run.at c.runs-run-items.result.now c.loop-run.run-index c.loop-run-test.true c.loop-run.invariant.inside

pub loop-run-preserved : goal.loop-run-preserved
loop-run-preserved c =
    let run = get_or c.runs-run-items.result.now c.loop-run.run-index no_run in
    record {
      flags =
          flagged_run (doubled_bounds c.args.bounds) c.args.flag c.loop-run.taken c.flag_run-at.new.taken c.loop-run.at c.flag_run-at.result c.runs-run-items.result.now c.loop-run.run-index c.loop-run-test.true
          c.flag_run-at.ensures.flags c.flag_run-at.ensures.end
          ∙ c.loop-run.invariant.flags;
      inside =
          subst (λ (p : GridPoint). list_all (contains c.args.bounds) (points_from p (steps_of (drop (c.loop-run.run-index + 1) c.runs-run-items.result.now))) ≡ true) (sym c.flag_run-at.ensures.end)
          (rest_of_runs_holds (contains c.args.bounds) c.loop-run.at c.runs-run-items.result.now c.loop-run.run-index c.loop-run-test.true c.loop-run.invariant.inside);
      each =
          ap length c.flag_run-at.ensures.flags ∙ length-flagged (doubled_bounds c.args.bounds) c.args.flag (behind c.loop-run.at (replicate run.count run.dir)) c.loop-run.taken
          ∙ c.loop-run.invariant.each;
    }
