use Rattle.std.proofs.Common.{◌≡◌, ◌++◌, drop}
use Rattle.std.specs.List.{flat_map}
use Rattle.segment_router.specs.Routing.{attempts_on}
use Rattle.segment_router.proofs.attempts.attempts_on_each.Given as goal

-- the attempts so far, and those on the grids that are left
abbrev pub invariant-loop-fineness : goal.invariant-loop-fineness
invariant-loop-fineness l = l.attempts.items ++ flat_map (attempts_on l.percents) (drop l.fineness-index l.grids) ≡ flat_map (attempts_on l.percents) l.grids
