use Rattle.std.proofs.Common.{◌≡◌, ◌∙◌, subst, ℕ, List}
use Rattle.std.specs.List.{flat_map}
use Rattle.std.specs.Result.{IfOk}
use Rattle.segment_router.specs.Routing.{attempts_on, grids_between}
use Rattle.segment_router.proofs.attempts.attempts_of.Goals as goal

pub returns : goal.returns
returns c =
    subst (λ (ps : List ℕ). IfOk c.attempts_on_each.result (λ v. v.items ≡ flat_map (attempts_on ps) (grids_between c.args.plan.coarsest c.args.plan.finest))) (c.deref.ensures.value ∙ c.in_ok-percents.ensures)
    (subst (λ (gs : List ℕ). IfOk c.attempts_on_each.result (λ v. v.items ≡ flat_map (attempts_on c.deref.result.now) gs)) (c.deref-2.ensures.value ∙ c.in_ok-grids.ensures) c.attempts_on_each.ensures)
