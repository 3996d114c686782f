-- The map with its names at free places.
use Rattle.std.specs.Prelude.{ℕ, ◌+◌, List, [], ◌∷◌, fold, Option, Some, None}
use Rattle.map_base.specs.declared.ids.LineId.{LineId}
use Rattle.graph_core.specs.declared.parts.GraphParts.{GraphParts}
use Rattle.octi_grid.specs.Walks.{PlainWalk}
use Rattle.line_offsets.specs.declared.corner.Corner.{Corner}
use Rattle.svg_writer.specs.declared.bounds.Bounds.{Bounds}
use Rattle.svg_writer.specs.declared.names.Names.{Names}
use Rattle.svg_writer.specs.Picture.{bounds_of, placed_text}
use Rattle.label_place.specs.declared.place.Place.{Place}
use Rattle.label_place.specs.Boxes.{hull}
use Rattle.label_place.specs.Places.{sign_of, text_at, boxes_from, places_of}

-- where the name of node n begins, if it has a place
abbrev pub spot_of : Names → GraphParts → List PlainWalk → ℕ → Option Place → Option Corner
spot_of names g walks n None = None
spot_of names g walks n (Some p) = Some (text_at (sign_of names g walks n) p)

-- where the names of nodes from n on begin at these places
abbrev pub spots_from : Names → GraphParts → List PlainWalk → ℕ → List (Option Place) → List (Option Corner)
spots_from names g walks n [] = []
spots_from names g walks n (p ∷ rest) = spot_of names g walks n p ∷ spots_from names g walks (n + 1) rest

-- what the map shows: all grid points of its walks, and the boxes of its names
abbrev pub frame_of : Names → GraphParts → List PlainWalk → List (Option Place) → Bounds
frame_of names g walks places = fold hull (bounds_of walks) (boxes_from names g walks 0 places)

-- the picture's text with names at these places
abbrev pub text_with : Names → GraphParts → List PlainWalk → List (List LineId) → List (Option Place) → List ℕ
text_with names g walks orders places = placed_text names g walks orders (frame_of names g walks places) (spots_from names g walks 0 places)

-- the labelled map's text
abbrev pub labelled_text : Names → GraphParts → List PlainWalk → List (List LineId) → List ℕ
labelled_text names g walks orders = text_with names g walks orders (places_of names g walks)
