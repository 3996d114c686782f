use Rattle.std.proofs.Common.{◌≡◌, fold, take}
use Rattle.std.specs.List.{flat_map}
use Rattle.eight_sides.specs.Frames.{frame_of, shape_corners, widened}
use Rattle.poster_plan.specs.declared.layout.Printed.{Printed}
use Rattle.poster_plan.specs.Placing.{printed_shape}
use Rattle.poster_plan.specs.Pitches.{walked_corners}
use Rattle.poster_layout.specs.Extents.{IsNearFrame}
use Rattle.poster_layout.proofs.extent.frame_with.Given as goal

-- the frame of the pieces and of the names so far
abbrev pub invariant-loop-name : goal.invariant-loop-name
invariant-loop-name l = record {
  value : l.frame ≡ fold widened (frame_of (walked_corners l.pitch l.plan.pieces)) (flat_map (λ (p : Printed). shape_corners (printed_shape l.pitch l.plan p)) (take l.name-index l.printed));
  near : IsNearFrame l.frame;
}
