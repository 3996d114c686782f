-- What names keep clear of, and markers that can be reckoned with.
use Rattle.std.specs.Prelude.{ℕ, ◌≤◌, ◌≡◌, ◌∷◌, [], List, ◌++◌, length, map, not, Bool, unsigned_abs, Option, Some, None}
use Rattle.std.specs.List.{find, list_any, flat_map, range_with_len}
use Rattle.graph_core.specs.declared.parts.GraphParts.{GraphParts}
use Rattle.octi_grid.specs.Walks.{PlainWalk}
use Rattle.svg_writer.specs.declared.bounds.Bounds.{Bounds}
use Rattle.svg_writer.specs.declared.names.Names.{Names}
use Rattle.svg_writer.specs.Picture.{walk_at, kind_at}
use Rattle.label_place.specs.declared.place.Place.{Place}
use Rattle.label_place.specs.declared.place.Sign.{Sign}
use Rattle.label_place.specs.declared.things.Thing.{Thing}
use Rattle.label_place.specs.declared.things.Thing.TheVariants.{Area}
use Rattle.label_place.specs.declared.cells.Cell.{Cell}
use Rattle.label_place.specs.declared.grid.Grid.{Grid}
use Rattle.label_place.specs.Places.{all_places, box_at, boxes_from, marker_squares, margin_of, place_of}
use Rattle.label_place.specs.Grids.{strokes_from, found_at, meets_at, meets_some, Adds, IsLinked}

-- a marker of numbers that can be reckoned with
pub record IsSign (s : Sign) : Type 0 where
  pub x : unsigned_abs s.centre.x ≤ 214748364800
  pub y : unsigned_abs s.centre.y ≤ 214748364800
  pub radius : s.radius ≤ 700000003
  pub letters : s.letters ≤ 4294967295

abbrev pub areas : List Bounds → List Thing
areas boxes = map (λ b. Area b) boxes

-- the steps of the walk of segment s
abbrev pub walk_things : GraphParts → List PlainWalk → ℕ → List Thing
walk_things g walks s = strokes_from (margin_of g s) (walk_at walks s).start (walk_at walks s).steps

-- the steps of all walks
abbrev pub all_strokes : GraphParts → List PlainWalk → List Thing
all_strokes g walks = flat_map (walk_things g walks) (range_with_len 0 (length g.ends))

-- what a name keeps clear of where these boxes are printed
abbrev pub things_of : GraphParts → List PlainWalk → List Bounds → List Thing
things_of g walks printed = areas (marker_squares g walks) ++ (all_strokes g walks ++ areas printed)

-- the table has what a name keeps clear of where these boxes are printed
pub record Has (table : Grid) (g : GraphParts) (walks : List PlainWalk) (printed : List Bounds) : Type 0 where
  pub linked : IsLinked table
  pub found : (box : Bounds) (q : Cell) → meets_at table box q ≡ list_any (found_at table.side box q) (things_of g walks printed)

-- a node's name is printed at a place, where it has one
pub record Takes (old new : Grid) (names : Names) (g : GraphParts) (walks : List PlainWalk) (n : ℕ) (place : Option Place) : Type 0 where
  pub first : (printed : List Bounds) → Has old g walks printed → place ≡ place_of names g walks printed n (kind_at g.kinds n)
  pub has : (printed : List Bounds) → Has old g walks printed → Has new g walks (printed ++ boxes_from names g walks n (place ∷ []))

-- a name meets nothing in a table at a place
abbrev pub is_free : Grid → Sign → Place → Bool
is_free table sign p = not (meets_some table (box_at sign p))

-- the box of a name at a place, where it has one
abbrev pub boxes_at : Sign → Option Place → List Bounds
boxes_at sign None = []
boxes_at sign (Some p) = box_at sign p ∷ []

-- a name takes its first place that is free in a table
pub record TakesFree (old new : Grid) (sign : Sign) (place : Option Place) : Type 0 where
  pub first : place ≡ find (is_free old sign) all_places
  pub adds : Adds old new (areas (boxes_at sign place))
