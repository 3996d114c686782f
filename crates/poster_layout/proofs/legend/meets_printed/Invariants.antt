use Rattle.std.proofs.Common.{◌≡◌, false, take}
use Rattle.std.specs.List.{list_any}
use Rattle.eight_sides.specs.Shapes.{meet}
use Rattle.poster_plan.specs.declared.layout.Printed.{Printed}
use Rattle.poster_plan.specs.Placing.{printed_shape}
use Rattle.poster_layout.proofs.legend.meets_printed.Given as goal

-- it meets none of those so far
abbrev pub invariant-loop-name : goal.invariant-loop-name
invariant-loop-name l = list_any (λ (m : Printed). meet l.shape (printed_shape l.pitch l.plan m)) (take l.name-index l.printed) ≡ false
