use Rattle.std.proofs.Common.{◌<◌, ◌^◌, subst, Option, length}
use Rattle.std.specs.Prelude.{IfSome}
use Rattle.octi_grid.specs.Walks.{PlainWalk}
use Rattle.walk_search.proofs.least.within.Goals as goal

pub walk_cost-requires : goal.walk_cost-requires
walk_cost-requires c = subst (λ (o : Option PlainWalk). IfSome o (λ (w : PlainWalk). length w.steps < 2 ^ 60)) c.in-Some.is c.requires
