use Rattle.std.proofs.Common.{◌≡◌, ◌∙◌, ◌+◌, ◌+ℤ◌, ◌++◌, ◌≤◌, ◌∷◌, [], List, append_assoc, unsigned_abs, replicate, sym, ap, subst}
use Rattle.octi_grid.specs.declared.point.GridPoint.{GridPoint}
use Rattle.octi_grid.specs.Taking.{trail}
use Rattle.octi_grid.specs.Ways.{after, east_of, north_of, step_from}
use Rattle.octi_grid.proofs.WayLemmas.{east_small, north_small, reach}
use Rattle.octi_grid.proofs.TakingLemmas.{after_more, run_more}
use Rattle.drawing_weights.proofs.grid_points.push_run.Goals as goal

pub loop-preserved : goal.loop-preserved
loop-preserved c =
    let d = c.args.run.dir in
    let k = c.loop.counter in
    let old = c.args.points.now.items in
    let here : c.step-at.result ≡ step_from (after c.args.start (replicate k d)) d = c.step-at.ensures ∙ ap (λ (p : GridPoint). step_from p d) c.loop.invariant.at in
    let x : c.step-at.result.x ≡ c.loop.at.x +ℤ east_of d = ap (λ (p : GridPoint). p.x) c.step-at.ensures in
    let y : c.step-at.result.y ≡ c.loop.at.y +ℤ north_of d = ap (λ (p : GridPoint). p.y) c.step-at.ensures in
    record {
      at = here ∙ sym (after_more c.args.start k d);
      across = subst (λ z. unsigned_abs z ≤ 10000 + (k + 1)) (sym x) (reach c.loop.at.x (east_of d) 10000 k c.loop.invariant.across (east_small d));
      along = subst (λ z. unsigned_abs z ≤ 10000 + (k + 1)) (sym y) (reach c.loop.at.y (north_of d) 10000 k c.loop.invariant.along (north_small d));
      points = c.in_ok-push.ensures.items
          ∙ ap (λ (p : GridPoint). c.loop.points.items ++ p ∷ []) here
          ∙ ap (λ (ps : List GridPoint). ps ++ step_from (after c.args.start (replicate k d)) d ∷ []) c.loop.invariant.points
          ∙ append_assoc old (trail c.args.start (replicate k d)) (step_from (after c.args.start (replicate k d)) d ∷ [])
          ∙ sym (ap (λ (ps : List GridPoint). old ++ ps) (run_more c.args.start k d));
    }
