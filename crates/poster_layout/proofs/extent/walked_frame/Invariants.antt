use Rattle.std.proofs.Common.{◌≡◌, fold, take}
use Rattle.std.specs.List.{flat_map}
use Rattle.eight_sides.specs.Frames.{widened}
use Rattle.poster_layout.specs.Extents.{first_frame, piece_ends, IsNearFrame}
use Rattle.poster_layout.proofs.extent.walked_frame.Given as goal

-- the frame of the pieces so far
abbrev pub invariant-loop-piece : goal.invariant-loop-piece
invariant-loop-piece l = record {
  value : l.frame ≡ fold widened (first_frame l.pitch l.pieces) (flat_map (piece_ends l.pitch) (take l.piece-index l.pieces));
  near : IsNearFrame l.frame;
}
