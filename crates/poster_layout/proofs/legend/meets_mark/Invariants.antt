use Rattle.std.proofs.Common.{◌≡◌, false, take}
use Rattle.std.specs.List.{list_any}
use Rattle.eight_sides.specs.Shapes.{meet}
use Rattle.poster_plan.specs.declared.plan.Mark.{Mark}
use Rattle.poster_plan.specs.Signs.{mark_at}
use Rattle.poster_layout.proofs.legend.meets_mark.Given as goal

-- it meets none of those so far
abbrev pub invariant-loop-mark : goal.invariant-loop-mark
invariant-loop-mark l = list_any (λ (m : Mark). meet l.shape (mark_at l.pitch m)) (take l.mark-index l.marks) ≡ false
