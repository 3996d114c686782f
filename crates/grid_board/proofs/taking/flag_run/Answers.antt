use Rattle.std.proofs.Common.{◌≡◌, sym, ◌∙◌, ap, subst, ◌+◌, true, length, [], ◌∷◌, arith}
use Rattle.octi_grid.specs.declared.point.GridPoint.{GridPoint}
use Rattle.octi_grid.specs.Ways.{step_from}
use Rattle.grid_board.specs.Boards.{contains, doubled_bounds}
use Rattle.grid_board.specs.Taking.{behind}
use Rattle.grid_board.proofs.Marks.{length-flagged}
use Rattle.grid_board.proofs.Ways.{after_more, holds_along, flagged_more}
use Rattle.grid_board.proofs.taking.flag_run.Goals as goal

pub flag_step-at-requires-clause-start : goal.flag_step-at-requires-clause-start
flag_step-at-requires-clause-start c =
    subst (λ (p : GridPoint). contains c.args.bounds p ≡ true) (sym c.loop-count.invariant.at)
    (holds_along (contains c.args.bounds) c.args.start c.args.run.dir c.loop-count.count c.args.run.count (omega arith) c.requires.inside)

pub flag_step-at-requires-clause-end : goal.flag_step-at-requires-clause-end
flag_step-at-requires-clause-end c =
    subst (λ (p : GridPoint). contains c.args.bounds (step_from p c.args.run.dir) ≡ true) (sym c.loop-count.invariant.at)
    (subst (λ (p : GridPoint). contains c.args.bounds p ≡ true) (after_more c.args.start c.loop-count.count c.args.run.dir)
    (holds_along (contains c.args.bounds) c.args.start c.args.run.dir (c.loop-count.count + 1) c.args.run.count (omega arith) c.requires.inside))

pub loop-count-preserved : goal.loop-count-preserved
loop-count-preserved c = record {
  at =
      c.flag_step-at.ensures.end ∙ ap (λ (p : GridPoint). step_from p c.args.run.dir) c.loop-count.invariant.at
      ∙ sym (after_more c.args.start c.loop-count.count c.args.run.dir);
  flags =
      flagged_more (doubled_bounds c.args.bounds) c.args.flag c.args.taken.now c.loop-count.taken c.flag_step-at.new.taken c.args.start c.loop-count.at c.loop-count.count c.args.run.dir c.loop-count.invariant.flags
      c.loop-count.invariant.at c.flag_step-at.ensures.flags;
  each =
      ap length c.flag_step-at.ensures.flags ∙ length-flagged (doubled_bounds c.args.bounds) c.args.flag (behind c.loop-count.at (c.args.run.dir ∷ [])) c.loop-count.taken
      ∙ c.loop-count.invariant.each;
}
