use Rattle.std.proofs.Common.{ℕ, List, take}
use Rattle.order_model.specs.Parts.{AreLabels, PointWithin}
use Rattle.order_model.proofs.labels.labels_of.Given as goal

abbrev pub invariant-loop-term : goal.invariant-loop-term
invariant-loop-term l = (ls : List ℕ) × AreLabels (take l.term-index l.terms) l.count ls × PointWithin ls l.parents.items
