use Rattle.std.proofs.Common.{◌≡◌, true, Some, replicate, sym, ◌∙◌, ap}
use Rattle.octi_grid.specs.declared.point.GridPoint.{GridPoint}
use Rattle.octi_grid.specs.Ways.{after, is_within}
use Rattle.octi_grid.proofs.WayLemmas.{end_within-long, end_within-some, end_within-none, run_within, IsWithin-from_test}
use Rattle.octi_grid.proofs.runs.end_within.Goals as goal

pub returns-then-run-gt20000 : goal.returns-then-run-gt20000
returns-then-run-gt20000 c = sym (end_within-long c.args.at c.args.run.count c.args.run.dir c.if-run-gt20000.true)

pub returns-then-is_within : goal.returns-then-is_within
returns-then-is_within c =
    let inside : is_within (after c.args.at (replicate c.args.run.count c.args.run.dir)) ≡ true =
    ap is_within (sym c.run_end-end.ensures) ∙ sym c.is_within.ensures ∙ c.if-is_within.true in
    ap (λ (p : GridPoint). Some p) c.run_end-end.ensures
    ∙ sym (end_within-some c.args.at (replicate c.args.run.count c.args.run.dir) (run_within c.args.at c.args.run.count c.args.run.dir c.requires (IsWithin-from_test _ inside)))

pub returns-else-is_within : goal.returns-else-is_within
returns-else-is_within c =
    sym (end_within-none c.args.at (replicate c.args.run.count c.args.run.dir) (ap is_within (sym c.run_end-end.ensures) ∙ sym c.is_within.ensures ∙ c.if-is_within.false))
