-- Small cases of the definitions.
use Rattle.std.proofs.Common.{◌≡◌, ℤ, pos, negsuc, true, false, List, [], ◌∷◌, codes, map, replicate, Some, None, refl}
use Rattle.std.specs.Str.{chars}
use Rattle.std.specs.Fmt.{digits}
use lib.Utf8.{encode}
use Rattle.graph_core.specs.declared.parts.NodeKind.TheVariants.{Station}
use Rattle.graph_core.specs.declared.parts.GraphParts.{GraphParts}
use Rattle.octi_grid.specs.declared.dir.Dir.{Dir}
use Rattle.octi_grid.specs.declared.dir.Dir.TheVariants as dir
use Rattle.octi_grid.specs.Walks.{PlainWalk}
use Rattle.line_offsets.specs.declared.corner.Corner.{Corner}
use Rattle.svg_writer.specs.declared.bounds.Bounds.{Bounds}
use Rattle.svg_writer.specs.declared.names.Names.{Names}
use Rattle.svg_writer.specs.Styles.{grid_style}
use Rattle.svg_writer.specs.Elements.{texts, view_text}
use Rattle.svg_writer.specs.Picture.{placed_labels}
use Rattle.label_place.specs.declared.place.Place.TheVariants as place
use Rattle.label_place.specs.declared.place.Sign.{Sign}
use Rattle.label_place.specs.Boxes.{share_point}
use Rattle.label_place.specs.Strokes.{units}
use Rattle.label_place.specs.Places.{all_places, box_at, places_of, text_at}
use Rattle.label_place.specs.Labelled.{frame_of, spots_from}

abbrev box : ℤ → ℤ → ℤ → ℤ → Bounds
box left right top bottom = record { left = left; right = right; top = top; bottom = bottom }

-- boxes that touch share a point, those one unit apart don't
touching : share_point (box (pos 0) (pos 4) (pos 0) (pos 4)) (box (pos 4) (pos 9) (pos 4) (pos 9)) ≡ true
touching = refl

apart : share_point (box (pos 0) (pos 4) (pos 0) (pos 4)) (box (pos 5) (pos 9) (pos 0) (pos 4)) ≡ false
apart = refl

-- a box without width is still a line
thin : share_point (box (pos 2) (pos 2) (pos 0) (pos 4)) (box (pos 0) (pos 9) (pos 4) (pos 4)) ≡ true
thin = refl

-- a name of three characters round a marker at (100, -50) whose radius is 10
abbrev sign : Sign
sign = record { centre = record { x = pos 100; y = negsuc 49 }; radius = 10; letters = 3 }

abbrev at : ℤ → ℤ → Corner
at x y = record { x = x; y = y }

eight : map (text_at sign) all_places ≡
    at (pos 114) (negsuc 63) ∷ at (pos 114) (negsuc 15) ∷ at (pos 50) (negsuc 63) ∷ at (pos 50) (negsuc 15)
    ∷ at (pos 114) (negsuc 41) ∷ at (pos 50) (negsuc 41) ∷ at (pos 82) (negsuc 67) ∷ at (pos 82) (negsuc 15) ∷ []
eight = refl

first_box : box_at sign place.NE ≡ box (pos 114) (pos 150) (negsuc 83) (negsuc 59)
first_box = refl

-- two stations, one line
abbrev two_names : Names
two_names = record { stations = codes "X" ∷ codes "Y" ∷ []; lines = (codes "A", 0xe6 ∷ 0x19 ∷ 0x4b ∷ []) ∷ [] }

abbrev two_nodes : GraphParts
two_nodes = record {
  kinds = Station (record { 0 = 0 }) ∷ Station (record { 0 = 1 }) ∷ [];
  places = record { x = pos 0; y = pos 0 } ∷ record { x = pos 11132; y = pos 0 } ∷ [];
  ends = (record { 0 = 0 }, record { 0 = 1 }) ∷ [];
  lines = (record { 0 = 0 } ∷ []) ∷ [];
  rounds = (record { 0 = 0 } ∷ []) ∷ (record { 0 = 0 } ∷ []) ∷ [];
  joins = [] ∷ [] ∷ [];
}

abbrev straight : Dir → List PlainWalk
straight d = record { start = record { x = pos 0; y = pos 0 }; steps = replicate 2 d } ∷ []

-- along a walk to the east both names stand north-east
east : places_of two_names two_nodes (straight dir.E) ≡ Some place.NE ∷ Some place.NE ∷ []
unfolding chars encode units
east = refl

east_frame : view_text grid_style (frame_of two_names two_nodes (straight dir.E) (Some place.NE ∷ Some place.NE ∷ [])) ≡ codes "-200 -234 626 434"
unfolding chars encode digits
east_frame = refl

-- along one to the north-east the lower name gives way to the walk
north_east : places_of two_names two_nodes (straight dir.NE) ≡ Some place.SE ∷ Some place.NE ∷ []
unfolding chars encode units
north_east = refl

north_east_frame : view_text grid_style (frame_of two_names two_nodes (straight dir.NE) (Some place.SE ∷ Some place.NE ∷ [])) ≡ codes "-200 -434 626 672"
unfolding chars encode digits
north_east_frame = refl

north_east_names : texts grid_style (placed_labels two_names two_nodes (spots_from two_names two_nodes (straight dir.NE) 0 (Some place.SE ∷ Some place.NE ∷ []))) ≡
    codes "<text x=\"14\" y=\"34\" font-size=\"20\">X</text>\n<text x=\"214\" y=\"-214\" font-size=\"20\">Y</text>\n"
unfolding chars encode digits
north_east_names = refl

-- a name that has no place is left off
left_off : texts grid_style (placed_labels two_names two_nodes (spots_from two_names two_nodes (straight dir.NE) 0 (None ∷ Some place.NE ∷ []))) ≡
    codes "<text x=\"214\" y=\"-214\" font-size=\"20\">Y</text>\n"
unfolding chars encode digits
left_off = refl

-- walks in all eight directions leave no place for a name between them
abbrev star : GraphParts
star = record {
  kinds = Station (record { 0 = 0 }) ∷ [];
  places = record { x = pos 0; y = pos 0 } ∷ [];
  ends = replicate 8 (record { 0 = 0 }, record { 0 = 1 });
  lines = replicate 8 (record { 0 = 0 } ∷ []);
  rounds = (record { 0 = 0 } ∷ []) ∷ [];
  joins = [];
}

abbrev rays : List PlainWalk
rays = map (λ (d : Dir). let w : PlainWalk = record { start = record { x = pos 0; y = pos 0 }; steps = d ∷ [] } in w) (dir.N ∷ dir.NE ∷ dir.E ∷ dir.SE ∷ dir.S ∷ dir.SW ∷ dir.W ∷ dir.NW ∷ [])

starred : places_of two_names star rays ≡ None ∷ []
unfolding chars encode units
starred = refl
