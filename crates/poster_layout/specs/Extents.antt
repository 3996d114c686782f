-- Frames and points that are near enough to be reckoned with.
use Rattle.std.specs.Prelude.{ℕ, ◌≤◌, Bool, ℤ, pos, ◌+ℤ◌, ◌-ℤ◌, int_le, List, [], ◌∷◌, unsigned_abs}
use Rattle.line_offsets.specs.Shifts.{drawn_at}
use Rattle.eight_sides.specs.Frames.{frame_at, origin}
use Rattle.poster_plan.specs.declared.plan.Piece.{Piece}
use Rattle.line_offsets.specs.declared.corner.Corner.{Corner}
use Rattle.eight_sides.specs.declared.frame.Frame.{Frame}
use Rattle.name_places.specs.Near.{IsNearBy}
use Rattle.poster_plan.specs.declared.plan.Plan.{Plan}
use Rattle.poster_plan.specs.declared.layout.Legend.{Legend}
use Rattle.poster_plan.specs.declared.layout.Printed.{Printed}
use Rattle.poster_plan.specs.Legends.{is_clear_of_all, legend_shape}

-- a frame of what is drawn
pub record IsNearFrame (f : Frame) : Type 0 where
  pub across : IsNearBy f.across
  pub down : IsNearBy f.down

-- a point of what is drawn
pub record IsNearCorner (c : Corner) : Type 0 where
  pub across : unsigned_abs c.x ≤ 549755813888
  pub down : unsigned_abs c.y ≤ 549755813888

-- the start of the first of these pieces, the origin where there is none
abbrev pub first_corner : ℕ → List Piece → Corner
first_corner u [] = origin
first_corner u (p ∷ ps) = drawn_at u p.start

abbrev pub first_frame : ℕ → List Piece → Frame
first_frame u ps = frame_at (first_corner u ps)

-- the ends of a piece
abbrev pub piece_ends : ℕ → Piece → List Corner
piece_ends u p = drawn_at u p.start ∷ drawn_at u p.end ∷ []

-- a frame of a whole poster, its legend included
pub record IsDrawnFrame (f : Frame) : Type 0 where
  pub left : unsigned_abs f.across.least ≤ 4398046511104
  pub right : unsigned_abs f.across.greatest ≤ 4398046511104
  pub top : unsigned_abs f.down.least ≤ 4398046511104
  pub bottom : unsigned_abs f.down.greatest ≤ 4398046511104

-- a point at which a legend may stand
pub record IsLegendPoint (c : Corner) : Type 0 where
  pub across : unsigned_abs c.x ≤ 2049755813888
  pub down : unsigned_abs c.y ≤ 549755858888

-- a frame is no wider than it is high; the points to the right of it and below it
abbrev pub is_no_wider : Frame → Bool
is_no_wider f = int_le (f.across.greatest -ℤ f.across.least) (f.down.greatest -ℤ f.down.least)

abbrev pub right_of : Frame → Corner
right_of f = record { x = f.across.greatest +ℤ pos 30; y = f.down.least }

abbrev pub below : Frame → Corner
below f = record { x = f.across.least; y = f.down.greatest +ℤ pos 30 }

-- so far to the right of a point, and so far below it
abbrev pub beyond : Corner → ℕ → ℕ → Corner
beyond c across low = record { x = c.x +ℤ pos across; y = c.y +ℤ pos low }

-- it is clear there
abbrev pub is_clear_at : ℕ → Plan → List Printed → ℕ → ℕ → Corner → Bool
is_clear_at u plan printed w h c = is_clear_of_all u plan printed (legend_shape w h c)

-- a legend that can be reckoned with
pub record IsLegend (l : Legend) : Type 0 where
  pub start : IsLegendPoint l.start
  pub column : l.column ≤ 17179869334
  pub rows : 12 ≤ l.rows

-- a point of a poster, its legend included
pub record IsDrawnPoint (c : Corner) : Type 0 where
  pub across : unsigned_abs c.x ≤ 35184372088832
  pub down : unsigned_abs c.y ≤ 35184372088832
