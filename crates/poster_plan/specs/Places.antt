-- The places of a name round its station: what the name takes up there, and where its text stands.
use Rattle.std.specs.Prelude.{ℕ, ◌+◌, ◌*◌, ◌/◌, Bool, ℤ, pos, ◌+ℤ◌, ◌-ℤ◌, List, [], ◌∷◌, if◌then◌else◌}
use Rattle.line_offsets.specs.declared.corner.Corner.{Corner}
use Rattle.eight_sides.specs.declared.interval.Interval.{Interval}
use Rattle.eight_sides.specs.declared.shape.Shape.{Shape}
use Rattle.eight_sides.specs.Shapes.{around, slanted, slanted_length, upright}
use Rattle.poster_plan.specs.declared.sign.Sign.{Sign}
use Rattle.poster_plan.specs.declared.layout.Step.{Step}
use Rattle.poster_plan.specs.declared.layout.Step.TheVariants.{Full, Small, Over}
use Rattle.poster_plan.specs.declared.place.Place.{Place}
use Rattle.poster_plan.specs.declared.place.Place.TheVariants as place
use Rattle.poster_plan.specs.declared.place.Spot.{Spot}
use Rattle.poster_plan.specs.declared.place.Turn.{Turn}
use Rattle.poster_plan.specs.declared.place.Turn.TheVariants.{Level, Rising, Falling}
use Rattle.poster_plan.specs.declared.place.Anchor.{Anchor}
use Rattle.poster_plan.specs.declared.place.Anchor.TheVariants.{Start, Middle, End}

-- a tenth of the size of type in a step: it is 30 units in full size, and 20 small
abbrev pub tenth : Step → ℕ
tenth Full = 3
tenth Small = 2
tenth Over = 2

-- the size of type
abbrev pub size : Step → ℕ
size z = 10 * tenth z

-- the places in the order in which they are tried
abbrev pub upright_first : List Place
upright_first =
    place.E ∷ place.W ∷ place.SE ∷ place.NE ∷ place.NW ∷ place.SW ∷ place.N ∷ place.S
    ∷ place.UpEast ∷ place.DownWest ∷ place.DownEast ∷ place.UpWest ∷ []

-- the places in the order in which they are tried where all segments of the station are level: its neighbours' names
-- are beside it, so slanted ones come early
abbrev pub slanted_first : List Place
slanted_first =
    place.E ∷ place.W ∷ place.UpEast ∷ place.DownWest ∷ place.DownEast ∷ place.UpWest
    ∷ place.N ∷ place.S ∷ place.SE ∷ place.NE ∷ place.NW ∷ place.SW ∷ []

-- those of names that lie over lines
abbrev pub over_lines : List Place
over_lines = place.SE ∷ place.NE ∷ place.NW ∷ place.SW ∷ place.N ∷ place.S ∷ []

-- the places of a name beside lines
abbrev pub beside_lines : Bool → List Place
beside_lines level = if level then slanted_first else upright_first

-- the places that are tried in a step
abbrev pub places_in : Step → Bool → List Place
places_in Full level = beside_lines level
places_in Small level = beside_lines level
places_in Over level = over_lines

-- how wide a name is
abbrev pub width : Sign → Step → ℕ
width s z = tenth z * s.tenths

-- how far a name keeps from the centre of its station: upright beside it, and at a corner both ways
abbrev pub gap : Sign → ℕ
gap s = s.radius + 6

abbrev pub corner_gap : Sign → ℕ
corner_gap s = (17 * gap s + 23) / 24

-- half of what the size of type comes to on a slant, each way, and how long a slanted name is in x - y or x + y
abbrev pub slant : Step → ℕ
slant z = (17 * size z + 47) / 48

abbrev pub long : Sign → Step → ℕ
long s z = slanted_length (width s z)

-- how far the middle of a slanted text's end lies from the centre, both ways
abbrev pub lean : Sign → Step → ℕ
lean s z = gap s + slant z

-- half of a width, rounded up
abbrev pub half_width : Sign → Step → ℕ
half_width s z = (width s z + 1) / 2

-- from a number so far up, and so far down
abbrev pub onwards : ℤ → ℕ → ℕ → Interval
onwards z from long = record { least = z +ℤ pos from; greatest = z +ℤ pos (from + long) }

abbrev pub backwards : ℤ → ℕ → ℕ → Interval
backwards z from long = record { least = z -ℤ pos (from + long); greatest = z -ℤ pos from }

-- The two intervals that tell what a name takes up at a place: x and y of a level one, x - y and x + y of a slanted one.
abbrev pub sides : Sign → Step → Place → Interval × Interval
sides s z place.E = (onwards s.centre.x (gap s) (width s z), around s.centre.y (5 * tenth z))
sides s z place.W = (backwards s.centre.x (gap s) (width s z), around s.centre.y (5 * tenth z))
sides s z place.SE = (onwards s.centre.x (corner_gap s) (width s z), onwards s.centre.y (corner_gap s) (size z))
sides s z place.NE = (onwards s.centre.x (corner_gap s) (width s z), backwards s.centre.y (corner_gap s) (size z))
sides s z place.NW = (backwards s.centre.x (corner_gap s) (width s z), backwards s.centre.y (corner_gap s) (size z))
sides s z place.SW = (backwards s.centre.x (corner_gap s) (width s z), onwards s.centre.y (corner_gap s) (size z))
sides s z place.N = (around s.centre.x (half_width s z), backwards s.centre.y (gap s) (size z))
sides s z place.S = (around s.centre.x (half_width s z), onwards s.centre.y (gap s) (size z))
sides s z place.UpEast = (onwards (s.centre.x -ℤ s.centre.y) (2 * lean s z) (long s z), around (s.centre.x +ℤ s.centre.y) (2 * slant z))
sides s z place.DownWest = (backwards (s.centre.x -ℤ s.centre.y) (2 * lean s z) (long s z), around (s.centre.x +ℤ s.centre.y) (2 * slant z))
sides s z place.DownEast = (around (s.centre.x -ℤ s.centre.y) (2 * slant z), onwards (s.centre.x +ℤ s.centre.y) (2 * lean s z) (long s z))
sides s z place.UpWest = (around (s.centre.x -ℤ s.centre.y) (2 * slant z), backwards (s.centre.x +ℤ s.centre.y) (2 * lean s z) (long s z))

-- which way the text of a name runs at a place
abbrev pub turn_at : Place → Turn
turn_at place.E = Level
turn_at place.W = Level
turn_at place.SE = Level
turn_at place.NE = Level
turn_at place.NW = Level
turn_at place.SW = Level
turn_at place.N = Level
turn_at place.S = Level
turn_at place.UpEast = Rising
turn_at place.DownWest = Rising
turn_at place.DownEast = Falling
turn_at place.UpWest = Falling

-- what two intervals tell of a text that runs this way
abbrev pub shape_of : Turn → Interval → Interval → Shape
shape_of Level x y = upright x y
shape_of Rising difference sum = slanted difference sum
shape_of Falling difference sum = slanted difference sum

-- what a name takes up at a place
abbrev pub place_shape : Sign → Step → Place → Shape
place_shape s z p = shape_of (turn_at p) (sides s z p).0 (sides s z p).1

-- so far to the right of a point and so far below it
abbrev pub beside : Corner → ℤ → ℤ → Corner
beside c x y = record { x = c.x +ℤ x; y = c.y +ℤ y }

-- so much less than nothing
abbrev pub minus : ℕ → ℤ
minus n = pos 0 -ℤ pos n

-- how far the point of a text is to the right of the centre of its station, and how far below it. The base line of a text is
-- 2 tenths of its size above its lower rim.
abbrev pub offset : Sign → Step → Place → ℤ × ℤ
offset s z place.E = (pos (gap s), pos (3 * tenth z))
offset s z place.W = (minus (gap s), pos (3 * tenth z))
offset s z place.SE = (pos (corner_gap s), pos (corner_gap s + 8 * tenth z))
offset s z place.NE = (pos (corner_gap s), minus (corner_gap s + 2 * tenth z))
offset s z place.NW = (minus (corner_gap s), minus (corner_gap s + 2 * tenth z))
offset s z place.SW = (minus (corner_gap s), pos (corner_gap s + 8 * tenth z))
offset s z place.N = (pos 0, minus (gap s + 2 * tenth z))
offset s z place.S = (pos 0, pos (gap s + 8 * tenth z))
offset s z place.UpEast = (pos (lean s z), minus (lean s z))
offset s z place.DownWest = (minus (lean s z), pos (lean s z))
offset s z place.DownEast = (pos (lean s z), pos (lean s z))
offset s z place.UpWest = (minus (lean s z), minus (lean s z))

-- which part of a text stands at its point
abbrev pub anchor_at : Place → Anchor
anchor_at place.E = Start
anchor_at place.W = End
anchor_at place.SE = Start
anchor_at place.NE = Start
anchor_at place.NW = End
anchor_at place.SW = End
anchor_at place.N = Middle
anchor_at place.S = Middle
anchor_at place.UpEast = Start
anchor_at place.DownWest = End
anchor_at place.DownEast = Start
anchor_at place.UpWest = End

-- where the text of a name stands at a place
abbrev pub text_spot : Sign → Step → Place → Spot
text_spot s z p = record { at = beside s.centre (offset s z p).0 (offset s z p).1; turn = turn_at p; anchor = anchor_at p }
