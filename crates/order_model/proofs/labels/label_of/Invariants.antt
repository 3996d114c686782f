use Rattle.std.proofs.Common.{◌≡◌, ℕ, ◌≤◌, List, get_or}
use Rattle.order_model.specs.Parts.{PointDown, PointWithin}
use Rattle.order_model.proofs.labels.label_of.Given as goal

abbrev pub invariant-loop-parents : goal.invariant-loop-parents
invariant-loop-parents l = (l.at ≤ l.s) × PointDown l.parents
    × ((ls : List ℕ) → PointWithin ls l.initial.parents → PointWithin ls l.parents × (get_or ls l.at 0 ≡ get_or ls l.s 0))

abbrev pub decreases-loop-parents : goal.decreases-loop-parents
decreases-loop-parents l = l.at
