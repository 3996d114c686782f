use Rattle.std.proofs.Common.{◌≡◌}
use Rattle.order_model.specs.Gathering.{part_lists, gathered, ArePlaced}
use Rattle.order_model.proofs.parts.gathered.Given as goal

abbrev pub invariant-loop-s : goal.invariant-loop-s
invariant-loop-s l = (part_lists l.parts.items ≡ gathered l.segs l.labels l.s) × ArePlaced l.segs l.labels l.s (part_lists l.parts.items) l.places.items
