use Rattle.std.proofs.Common.{◌≡◌, ◌++◌, map, drop}
use Rattle.start_positions.specs.Spreads.{place_among}
use Rattle.start_positions.proofs.spreading.places_by.Given as goal

-- the places so far, and those that are left
abbrev pub invariant-loop-offset : goal.invariant-loop-offset
invariant-loop-offset l =
    l.places.items ++ map (place_among l.extents.width l.extents.height l.offsets) (drop l.offset-index l.offsets)
    ≡ map (place_among l.extents.width l.extents.height l.offsets) l.offsets
