-- Stations and straight pieces as they are drawn at a pitch: one grid step is so many units, x grows to the right and y
-- downwards.
use Rattle.std.specs.Prelude.{ℕ, ◌+◌, ◌*◌, unwrap_or}
use Rattle.line_offsets.specs.Shifts.{drawn_at}
use Rattle.eight_sides.specs.declared.shape.Shape.{Shape}
use Rattle.eight_sides.specs.Shapes.{mark_shape, piece_shape}
use Rattle.poster_plan.specs.declared.plan.Mark.{Mark}
use Rattle.poster_plan.specs.declared.plan.Piece.{Piece}
use Rattle.poster_plan.specs.declared.sign.Sign.{Sign}

-- a station as it is drawn
abbrev pub sign_of : ℕ → Mark → Sign
sign_of u m = record { centre = drawn_at u m.at; radius = m.radius; tenths = unwrap_or m.name 0 }

-- what a station takes up
abbrev pub mark_at : ℕ → Mark → Shape
mark_at u m = mark_shape (drawn_at u m.at) m.radius

-- what names of other stations keep away from: so a name is by its own station
abbrev pub ground_at : ℕ → Mark → Shape
ground_at u m = mark_shape (drawn_at u m.at) (m.radius + 12)

-- what a straight piece takes up: seven units for each line on each side
abbrev pub piece_at : ℕ → Piece → Shape
piece_at u p = piece_shape (drawn_at u p.start) (drawn_at u p.end) (7 * p.lines)
