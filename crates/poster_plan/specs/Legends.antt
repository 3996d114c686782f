-- Where the legend stands: in a corner of the map that is free, else beside it.
use Rattle.std.specs.Prelude.{ℕ, ◌+◌, ◌-◌, ◌*◌, ◌/◌, ◌%◌, ◌&&◌, not, Bool, nat_le, min, ℤ, pos, ◌+ℤ◌, ◌-ℤ◌, int_le, List, [], ◌∷◌, unwrap_or, Option, Some, None, if◌then◌else◌}
use Rattle.std.specs.List.{find, list_any, range_with_len}
use Rattle.line_offsets.specs.declared.corner.Corner.{Corner}
use Rattle.eight_sides.specs.declared.frame.Frame.{Frame}
use Rattle.eight_sides.specs.declared.interval.Interval.{Interval}
use Rattle.eight_sides.specs.declared.shape.Shape.{Shape}
use Rattle.eight_sides.specs.Frames.{widened}
use Rattle.eight_sides.specs.Shapes.{meet, upright}
use Rattle.poster_plan.specs.declared.plan.Mark.{Mark}
use Rattle.poster_plan.specs.declared.plan.Plan.{Plan}
use Rattle.poster_plan.specs.declared.layout.Legend.{Legend}
use Rattle.poster_plan.specs.declared.layout.Printed.{Printed}
use Rattle.poster_plan.specs.Signs.{mark_at}
use Rattle.poster_plan.specs.Placing.{meets_piece, meets_printed}
use Rattle.poster_plan.specs.Pitches.{frame_with}

-- how many rows a column has where there are so many lines: at least 12, and at least twice the root of their number
abbrev pub rows_for : ℕ → ℕ
rows_for lines = unwrap_or (find (λ (r : ℕ). nat_le (4 * lines) (r * r)) (range_with_len 12 (2 * lines + 1))) 12

-- how far columns stand apart where the widest name is so wide
abbrev pub column_for : ℕ → ℕ
column_for widest = widest + 150

-- how wide and how high it is
abbrev pub legend_width : ℕ → ℕ → ℕ
legend_width lines widest = column_for widest * ((lines + rows_for lines - 1) / rows_for lines) - 60

abbrev pub legend_height : ℕ → ℕ
legend_height lines = 45 * min lines (rows_for lines) - 15

-- its upper left point in each corner of a frame: at the upper right, the upper left, the lower right and the lower left
abbrev pub corners_for : Frame → ℕ → ℕ → List Corner
corners_for f w h =
    record { x = f.across.greatest -ℤ pos w; y = f.down.least } ∷ record { x = f.across.least; y = f.down.least }
    ∷ record { x = f.across.greatest -ℤ pos w; y = f.down.greatest -ℤ pos h } ∷ record { x = f.across.least; y = f.down.greatest -ℤ pos h } ∷ []

-- from a number as far as so much, and 30 further on each side
abbrev pub widely : ℤ → ℕ → Interval
widely z long = record { least = z -ℤ pos 30; greatest = z +ℤ pos (long + 30) }

-- what it takes up, widened by 30 on each side
abbrev pub legend_shape : ℕ → ℕ → Corner → Shape
legend_shape w h c = upright (widely c.x w) (widely c.y h)

-- it keeps clear of all stations, straight pieces and printed names
abbrev pub is_clear_of_all : ℕ → Plan → List Printed → Shape → Bool
is_clear_of_all u plan printed shape =
    not (list_any (λ (m : Mark). meet shape (mark_at u m)) plan.marks) && not (meets_piece u plan shape) && not (meets_printed u plan printed shape)

-- beside the map: to the right of one that is no wider than it is high, and else below it
abbrev pub outside : Frame → Corner
outside f =
    if int_le (f.across.greatest -ℤ f.across.least) (f.down.greatest -ℤ f.down.least) then record { x = f.across.greatest +ℤ pos 30; y = f.down.least }
    else record { x = f.across.least; y = f.down.greatest +ℤ pos 30 }

-- the first corner that is clear, else beside the map
abbrev pub legend_start : ℕ → Plan → List Printed → ℕ → ℕ → Corner
legend_start u plan printed w h =
    let f = frame_with u plan printed in
    unwrap_or (find (λ (c : Corner). is_clear_of_all u plan printed (legend_shape w h c)) (corners_for f w h)) (outside f)

-- the legend of so many lines, whose widest name is so wide; none of no lines
abbrev pub legend_of : ℕ → Plan → List Printed → ℕ → ℕ → Option Legend
legend_of u plan printed lines widest =
    if nat_le 1 lines then
    Some (record { start = legend_start u plan printed (legend_width lines widest) (legend_height lines); column = column_for widest; rows = rows_for lines })
    else None

-- where row i is
abbrev pub row_at : Legend → ℕ → Corner
row_at legend i = record { x = legend.start.x +ℤ pos (legend.column * (i / legend.rows)); y = legend.start.y +ℤ pos (15 + 45 * (i % legend.rows)) }

-- a frame that holds the legend of so many lines too
abbrev pub frame_beside : Frame → ℕ → ℕ → Option Legend → Frame
frame_beside f lines widest None = f
frame_beside f lines widest (Some legend) =
    widened (widened f legend.start) (record { x = legend.start.x +ℤ pos (legend_width lines widest); y = legend.start.y +ℤ pos (legend_height lines) })
