use Rattle.std.proofs.Common.{◌≡◌, List, true, sym, subst}
use Rattle.octi_grid.specs.declared.dir.Dir.{Dir}
use Rattle.octi_grid.specs.declared.walk.Run.{Run}
use Rattle.octi_grid.specs.Ways.{step_from, IsWithin}
use Rattle.octi_grid.specs.Runs.{are_runs, steps_of}
use Rattle.octi_grid.specs.Walks.{PlainWalk, end_point, walk_of, IsWalk}
use Rattle.octi_grid.proofs.RunLemmas.{AreShort-from_within, IsWalk-push}
use Rattle.octi_grid.proofs.walk.Walk.push.Goals as goal

pub push_step-requires-clause-counts : goal.push_step-requires-clause-counts
push_step-requires-clause-counts c = AreShort-from_within c.self.inside.start c.self.inside.held.items c.self.invariant.1.within

pub invariant_of-self : goal.invariant_of-self
invariant_of-self c =
    subst (λ (rs : List Run). (are_runs rs ≡ true) × IsWalk (walk_of c.self.inside.start rs)) (sym c.in_err-push_step.ensures.refused) c.self.invariant

pub invariant_of-self-2 : goal.invariant_of-self-2
invariant_of-self-2 c =
    let next : IsWithin (step_from (end_point (walk_of c.self.inside.start c.self.inside.held.items)) c.args.dir) =
    subst (λ (w : PlainWalk). IsWithin (step_from (end_point w) c.args.dir)) (sym c.self.view_is) c.requires in (
      c.in_ok-push_step.ensures.runs,
      subst (λ (ds : List Dir). IsWalk (record { start = c.self.inside.start; steps = ds })) (sym c.in_ok-push_step.ensures.steps)
          (IsWalk-push c.self.inside.start (steps_of c.self.inside.held.items) c.args.dir c.self.invariant.1 next),
    )
