use Rattle.std.proofs.Common.{ℕ, List}
use Rattle.order_model.specs.Parts.{PointDown, PointWithin}
use Rattle.order_model.proofs.Pointing.{PointAtBelow}
use Rattle.order_model.proofs.labels.point_at_labels.Given as goal

abbrev pub invariant-loop-s : goal.invariant-loop-s
invariant-loop-s l = PointDown l.parents
    × ((ls : List ℕ) → PointWithin ls l.initial.parents → PointWithin ls l.parents × PointAtBelow ls l.parents l.s)
