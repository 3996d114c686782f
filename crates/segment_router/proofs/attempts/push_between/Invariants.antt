use Rattle.std.proofs.Common.{◌≡◌, ◌++◌, drop}
use Rattle.std.specs.List.{filter}
use Rattle.segment_router.specs.Routing.{is_between}
use Rattle.segment_router.proofs.attempts.push_between.Given as goal

-- the grids so far, and those that are left
abbrev pub invariant-loop-fineness : goal.invariant-loop-fineness
invariant-loop-fineness l = l.grids.items ++ filter (is_between l.coarsest l.finest) (drop l.fineness-index l.all) ≡ l.initial.grids.items ++ filter (is_between l.coarsest l.finest) l.all
