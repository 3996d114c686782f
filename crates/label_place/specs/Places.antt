-- Where the names of stations stand: each at the first of eight places round its marker that is free.
use Rattle.std.specs.Prelude.{ℕ, ◌+◌, ◌*◌, ◌||◌, ◌&&◌, not, suc, zero, Bool, true, ℤ, pos, ◌+ℤ◌, ◌-ℤ◌, List, [], ◌∷◌, ◌++◌, length, Option, Some, None}
use Rattle.std.specs.List.{find, list_any, range_with_len, flat_map}
use Rattle.std.specs.Str.{chars}
use Rattle.graph_core.specs.declared.parts.NodeKind.{NodeKind}
use Rattle.graph_core.specs.declared.parts.NodeKind.TheVariants.{Station, Junction}
use Rattle.graph_core.specs.declared.parts.GraphParts.{GraphParts}
use Rattle.octi_grid.specs.Walks.{PlainWalk}
use Rattle.line_offsets.specs.declared.corner.Corner.{Corner}
use Rattle.svg_writer.specs.declared.bounds.Bounds.{Bounds}
use Rattle.svg_writer.specs.declared.names.Names.{Names}
use Rattle.svg_writer.specs.Picture.{centre_of, radius_of, kind_at, lines_at, walk_at, station_name}
use Rattle.label_place.specs.declared.place.Place.{Place}
use Rattle.label_place.specs.declared.place.Place.TheVariants as place
use Rattle.label_place.specs.declared.place.Sign.{Sign}
use Rattle.label_place.specs.Boxes.{holds, share_point, wider, square}
use Rattle.label_place.specs.Strokes.{drawn_points}

-- the places, in the order in which they are tried
abbrev pub all_places : List Place
all_places = place.NE ∷ place.SE ∷ place.NW ∷ place.SW ∷ place.E ∷ place.W ∷ place.N ∷ place.S ∷ []

-- how far a name keeps from the centre of its marker
abbrev pub gap : Sign → ℕ
gap s = s.radius + 4

-- a name is twelve units wide for each character
abbrev pub width : Sign → ℕ
width s = 12 * s.letters

-- where a name begins across: right of the marker, left of it, or in the middle
abbrev pub text_x : Sign → Place → ℤ
text_x s place.NE = s.centre.x +ℤ pos (gap s)
text_x s place.SE = s.centre.x +ℤ pos (gap s)
text_x s place.NW = (s.centre.x -ℤ pos (gap s)) -ℤ pos (width s)
text_x s place.SW = (s.centre.x -ℤ pos (gap s)) -ℤ pos (width s)
text_x s place.E = s.centre.x +ℤ pos (gap s)
text_x s place.W = (s.centre.x -ℤ pos (gap s)) -ℤ pos (width s)
text_x s place.N = s.centre.x -ℤ pos (6 * s.letters)
text_x s place.S = s.centre.x -ℤ pos (6 * s.letters)

-- where its base line lies
abbrev pub text_y : Sign → Place → ℤ
text_y s place.NE = s.centre.y -ℤ pos (gap s)
text_y s place.SE = s.centre.y +ℤ pos (gap s + 20)
text_y s place.NW = s.centre.y -ℤ pos (gap s)
text_y s place.SW = s.centre.y +ℤ pos (gap s + 20)
text_y s place.E = s.centre.y +ℤ pos 8
text_y s place.W = s.centre.y +ℤ pos 8
text_y s place.N = s.centre.y -ℤ pos (gap s + 4)
text_y s place.S = s.centre.y +ℤ pos (gap s + 20)

-- where a name begins at a place
abbrev pub text_at : Sign → Place → Corner
text_at s p = record { x = text_x s p; y = text_y s p }

-- the box of a name that begins at a point: from 20 above its base line to 4 below it
abbrev pub box_from : Corner → ℕ → Bounds
box_from at across = record { left = at.x; right = at.x +ℤ pos across; top = at.y -ℤ pos 20; bottom = at.y +ℤ pos 4 }

-- the box of a name at a place
abbrev pub box_at : Sign → Place → Bounds
box_at s p = box_from (text_at s p) (width s)

-- the name of a node: none where it is no station
abbrev pub node_name : Names → NodeKind → List ℕ
node_name names (Station s) = station_name names s.0
node_name names Junction = []

-- the marker of a node, and how many characters its name has
abbrev pub sign_of : Names → GraphParts → List PlainWalk → ℕ → Sign
sign_of names g walks n = record { centre = centre_of g walks n; radius = radius_of g n; letters = length (chars (node_name names (kind_at g.kinds n))) }

-- the square of the marker of node n, where it is a station
abbrev pub marker_square : GraphParts → List PlainWalk → ℕ → NodeKind → List Bounds
marker_square g walks n (Station s) = square (centre_of g walks n) (radius_of g n) ∷ []
marker_square g walks n Junction = []

-- the squares of the markers of all stations
abbrev pub marker_squares : GraphParts → List PlainWalk → List Bounds
marker_squares g walks = flat_map (λ n. marker_square g walks n (kind_at g.kinds n)) (range_with_len 0 (length g.kinds))

-- how far a name keeps from the walk of segment s: seven units for each of its lines
abbrev pub margin_of : GraphParts → ℕ → ℕ
margin_of g s = 7 * length (lines_at g.lines s)

-- a box comes too near to the walk of segment s
abbrev pub meets_walk : GraphParts → List PlainWalk → Bounds → ℕ → Bool
meets_walk g walks box s = list_any (holds (wider (margin_of g s) box)) (drawn_points (walk_at walks s))

-- a box shares a point with one of these boxes of names, with the square of a marker, or comes too near to a walk
abbrev pub is_taken : GraphParts → List PlainWalk → List Bounds → Bounds → Bool
is_taken g walks printed box =
    list_any (share_point box) printed || list_any (share_point box) (marker_squares g walks) || list_any (meets_walk g walks box) (range_with_len 0 (length g.ends))

-- the first place of node n that is free where these boxes are printed, if it is a station and there is one
abbrev pub place_of : Names → GraphParts → List PlainWalk → List Bounds → ℕ → NodeKind → Option Place
place_of names g walks printed n (Station s) = find (λ p. not (is_taken g walks printed (box_at (sign_of names g walks n) p))) all_places
place_of names g walks printed n Junction = None

-- the boxes of the names of nodes from n on at these places
abbrev pub boxes_from : Names → GraphParts → List PlainWalk → ℕ → List (Option Place) → List Bounds
boxes_from names g walks n [] = []
boxes_from names g walks n (None ∷ rest) = boxes_from names g walks (n + 1) rest
boxes_from names g walks n (Some p ∷ rest) = box_at (sign_of names g walks n) p ∷ boxes_from names g walks (n + 1) rest

-- these places, and that of the next node
abbrev pub with_next : Names → GraphParts → List PlainWalk → ℕ → List (Option Place) → List (Option Place)
with_next names g walks n earlier = earlier ++ place_of names g walks (boxes_from names g walks 0 earlier) n (kind_at g.kinds n) ∷ []

-- the places of the first nodes, in order: each takes its first place that is free of the boxes of earlier ones
abbrev pub first_places : Names → GraphParts → List PlainWalk → ℕ → List (Option Place)
first_places names g walks zero = []
first_places names g walks (suc n) = with_next names g walks n (first_places names g walks n)

-- the places of all nodes
abbrev pub places_of : Names → GraphParts → List PlainWalk → List (Option Place)
places_of names g walks = first_places names g walks (length g.kinds)

-- the boxes of all names that are printed
abbrev pub printed_boxes : Names → GraphParts → List PlainWalk → List Bounds
printed_boxes names g walks = boxes_from names g walks 0 (places_of names g walks)

-- no two of these boxes share a point
abbrev pub are_apart : List Bounds → Bool
are_apart [] = true
are_apart (b ∷ bs) = not (list_any (share_point b) bs) && are_apart bs

-- a box meets no marker and no walk
abbrev pub is_clear : GraphParts → List PlainWalk → Bounds → Bool
is_clear g walks box = not (is_taken g walks [] box)
