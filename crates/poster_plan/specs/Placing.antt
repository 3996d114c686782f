-- How names find their places: three steps, in each of which names take their first free place one after another.
use Rattle.std.specs.Prelude.{ℕ, ◌+◌, ◌==◌, ◌&&◌, not, Bool, true, false, List, [], ◌∷◌, ◌++◌, length, filter, fold, Option, Some, None, slice_get, unwrap_or, pos}
use Rattle.std.specs.List.{find, flat_map, list_any, range_with_len}
use Rattle.std.specs.Option.{is_some}
use Rattle.eight_sides.specs.declared.shape.Shape.{Shape}
use Rattle.eight_sides.specs.Shapes.{meet}
use Rattle.poster_plan.specs.declared.plan.Mark.{Mark}
use Rattle.poster_plan.specs.declared.plan.Piece.{Piece}
use Rattle.poster_plan.specs.declared.plan.Plan.{Plan}
use Rattle.poster_plan.specs.declared.place.Place.{Place}
use Rattle.poster_plan.specs.declared.layout.Step.{Step}
use Rattle.poster_plan.specs.declared.layout.Step.TheVariants.{Full, Small, Over}
use Rattle.poster_plan.specs.declared.layout.Printed.{Printed}
use Rattle.poster_plan.specs.Signs.{ground_at, piece_at, sign_of}
use Rattle.poster_plan.specs.Places.{beside_lines, place_shape, places_in}

-- what reads past the marks fall back on
abbrev pub no_mark : Mark
no_mark = record { node = record { 0 = 0 }; at = record { x = pos 0; y = pos 0 }; radius = 0; name = None; level = false }

-- the mark of a number
abbrev pub mark_numbered : List Mark → ℕ → Mark
mark_numbered marks i = unwrap_or (slice_get marks i) no_mark

-- ---- free places

-- what the name of mark i takes up at a place in a step
abbrev pub name_shape : ℕ → Plan → Step → ℕ → Place → Shape
name_shape u plan z i p = place_shape (sign_of u (mark_numbered plan.marks i)) z p

-- what a printed name takes up
abbrev pub printed_shape : ℕ → Plan → Printed → Shape
printed_shape u plan p = name_shape u plan p.step p.mark p.place

-- a shape meets a printed name
abbrev pub meets_printed : ℕ → Plan → List Printed → Shape → Bool
meets_printed u plan printed shape = list_any (λ (p : Printed). meet shape (printed_shape u plan p)) printed

-- a mark is of another node than this one, and a shape comes too near to it
abbrev pub is_near_other : ℕ → ℕ → Shape → Mark → Bool
is_near_other u node shape m = not (m.node.0 == node) && meet shape (ground_at u m)

-- a shape of the name of a node comes too near to another station
abbrev pub meets_other : ℕ → Plan → ℕ → Shape → Bool
meets_other u plan node shape = list_any (is_near_other u node shape) plan.marks

-- a shape meets a straight piece of a walk
abbrev pub meets_piece : ℕ → Plan → Shape → Bool
meets_piece u plan shape = list_any (λ (p : Piece). meet shape (piece_at u p)) plan.pieces

-- a shape keeps clear of lines, as far as a step asks for it
abbrev pub is_beside : ℕ → Plan → Step → Shape → Bool
is_beside u plan Full shape = not (meets_piece u plan shape)
is_beside u plan Small shape = not (meets_piece u plan shape)
is_beside u plan Over shape = true

-- a shape of the name of a node meets nothing that it has to keep clear of in a step, where these names are printed
abbrev pub is_clear : ℕ → Plan → List Printed → Step → ℕ → Shape → Bool
is_clear u plan printed z node shape =
    not (meets_printed u plan printed shape) && not (meets_other u plan node shape) && is_beside u plan z shape

-- a place of the name of mark i is free
abbrev pub is_free : ℕ → Plan → List Printed → Step → ℕ → Place → Bool
is_free u plan printed z i p = is_clear u plan printed z (mark_numbered plan.marks i).node.0 (name_shape u plan z i p)

-- ---- steps

-- names that are printed, and the marks of those that found no place
pub record Placing : Type 0 where
  pub printed : List Printed
  pub left : List ℕ

-- the name of mark i is printed at its place, or left
abbrev pub with_place : Step → ℕ → Option Place → Placing → Placing
with_place z i (Some p) so_far = record { printed = so_far.printed ++ record { mark = i; step = z; place = p } ∷ []; left = so_far.left }
with_place z i None so_far = record { printed = so_far.printed; left = so_far.left ++ i ∷ [] }

-- the name of mark i takes its first place that is free
abbrev pub place_next : ℕ → Plan → Step → Placing → ℕ → Placing
place_next u plan z so_far i =
    with_place z i (find (is_free u plan so_far.printed z i) (places_in z (mark_numbered plan.marks i).level)) so_far

-- the names of these marks in order, where some are printed already
abbrev pub place_names : ℕ → Plan → Step → List ℕ → List Printed → Placing
place_names u plan z marks printed = fold (place_next u plan z) (record { printed = printed; left = [] }) marks

-- ---- the order

-- the marks with a name to print
abbrev pub named : List Mark → List ℕ
named marks = filter (λ (i : ℕ). is_some (mark_numbered marks i).name) (range_with_len 0 (length marks))

-- how many places of mark i are free before any name is placed
abbrev pub freedom : ℕ → Plan → ℕ → ℕ
freedom u plan i = length (filter (is_free u plan [] Full i) (beside_lines (mark_numbered plan.marks i).level))

-- these marks with so many free places
abbrev pub with_freedom : ℕ → Plan → List ℕ → ℕ → List ℕ
with_freedom u plan marks count = filter (λ (i : ℕ). freedom u plan i == count) marks

-- the marks with a name by how many places are free, fewest first, and those with as many in node order
abbrev pub in_order : ℕ → Plan → List ℕ
in_order u plan = flat_map (with_freedom u plan (named plan.marks)) (range_with_len 0 13)

-- ---- the whole

-- names in full size
abbrev pub in_full : ℕ → Plan → Placing
in_full u plan = place_names u plan Full (in_order u plan) []

-- small, those that found no place
abbrev pub in_small : ℕ → Plan → Placing
in_small u plan = let full = in_full u plan in place_names u plan Small full.left full.printed

-- over lines, those that found none again
abbrev pub over_all : ℕ → Plan → Placing
over_all u plan = let small = in_small u plan in place_names u plan Over small.left small.printed

-- the names that are printed, in the order in which they were placed
abbrev pub printed_names : ℕ → Plan → List Printed
printed_names u plan = (over_all u plan).printed
