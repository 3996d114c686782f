-- How far what is drawn reaches.
use Rattle.std.specs.Prelude.{ℤ, pos, List, [], ◌∷◌, fold}
use Rattle.std.specs.Int.{int_min, int_max}
use Rattle.line_offsets.specs.declared.corner.Corner.{Corner}
use Rattle.eight_sides.specs.declared.interval.Interval.{Interval}
use Rattle.eight_sides.specs.declared.frame.Frame.{Frame}
use Rattle.eight_sides.specs.declared.shape.Shape.{Shape}

-- an interval, widened to hold a number
abbrev pub with_number : Interval → ℤ → Interval
with_number i z = record { least = int_min i.least z; greatest = int_max i.greatest z }

-- the frame of a point alone
abbrev pub frame_at : Corner → Frame
frame_at c = record { across = record { least = c.x; greatest = c.x }; down = record { least = c.y; greatest = c.y } }

-- a frame, widened to hold a point
abbrev pub widened : Frame → Corner → Frame
widened f c = record { across = with_number f.across c.x; down = with_number f.down c.y }

abbrev pub origin : Corner
origin = record { x = pos 0; y = pos 0 }

-- the least frame of points, that of the origin where there is none
abbrev pub frame_of : List Corner → Frame
frame_of [] = frame_at origin
frame_of (c ∷ cs) = fold widened (frame_at c) cs

-- the least and the greatest x and y of a shape
abbrev pub shape_corners : Shape → List Corner
shape_corners s = record { x = s.across.least; y = s.down.least } ∷ record { x = s.across.greatest; y = s.down.greatest } ∷ []
