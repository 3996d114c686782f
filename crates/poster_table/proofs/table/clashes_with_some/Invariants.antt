use Rattle.std.proofs.Common.{◌≡◌, false, take}
use Rattle.std.specs.List.{list_any}
use Rattle.poster_plan.specs.Things.{clash}
use Rattle.poster_table.proofs.table.clashes_with_some.Given as goal

-- it clashes with none so far
abbrev pub invariant-loop-other : goal.invariant-loop-other
invariant-loop-other l = list_any (clash l.thing) (take l.other-index l.things) ≡ false
