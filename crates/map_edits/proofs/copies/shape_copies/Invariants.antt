use Rattle.std.proofs.Common.{◌≡◌, take}
use Rattle.map_edits.proofs.copies.shape_copies.Given as goal

-- as many are copied as were seen
abbrev pub invariant-loop-shape : goal.invariant-loop-shape
invariant-loop-shape l = l.copies.items ≡ take l.shape-index l.shapes
