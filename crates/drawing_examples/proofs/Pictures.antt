-- Small cases of the definitions.
use Rattle.std.proofs.Common.{◌≡◌, pos, List, [], ◌∷◌, ◌++◌, codes, refl}
use Rattle.map_base.specs.declared.ids.LineId.{LineId}
use Rattle.std.specs.Str.{chars}
use Rattle.std.specs.Fmt.{digits}
use lib.Utf8.{encode}
use Rattle.graph_core.specs.declared.parts.NodeKind.TheVariants.{Station}
use Rattle.graph_core.specs.declared.parts.GraphParts.{GraphParts}
use Rattle.octi_grid.specs.declared.dir.Dir.TheVariants as dir
use Rattle.octi_grid.specs.Walks.{PlainWalk}
use Rattle.svg_writer.specs.declared.names.Names.{Names}
use Rattle.svg_writer.specs.Escaping.{escaped}
use Rattle.svg_writer.specs.Styles.{grid_style}
use Rattle.svg_writer.specs.Elements.{texts}
use Rattle.svg_writer.specs.Picture.{grid_courses, picture_text, segment_elements, join_elements}
use Rattle.map_base.specs.declared.point.Point.{Point}
use Rattle.geo_map.specs.GeoMap.{geographic_text}

-- what markup begins with, a control character, and the two characters above U+FFFD
amounts : escaped (codes "\"A\" & <B>\t\u{1}") ≡ codes "&quot;A&quot; &amp; &lt;B&gt;\t" ++ 239 ∷ 191 ∷ 189 ∷ []
unfolding chars encode
amounts = refl

highest : escaped (239 ∷ 191 ∷ 190 ∷ 239 ∷ 191 ∷ 189 ∷ []) ≡ 239 ∷ 191 ∷ 189 ∷ 239 ∷ 191 ∷ 189 ∷ []
unfolding chars encode
highest = refl

-- a map of no stations
abbrev no_names : Names
no_names = record { stations = []; lines = [] }

abbrev no_graph : GraphParts
no_graph = record { kinds = []; places = []; ends = []; lines = []; rounds = []; joins = [] }

empty : picture_text no_names no_graph [] [] ≡ codes "<svg xmlns=\"http://www.w3.org/2000/svg\" version=\"1.1\" viewBox=\"-200 -200 400 400\">\n</svg>\n"
unfolding digits
empty = refl

-- two stations, one line
abbrev two_names : Names
two_names = record { stations = codes "X" ∷ codes "Y" ∷ []; lines = (codes "A", 0xe6 ∷ 0x19 ∷ 0x4b ∷ []) ∷ [] }

abbrev two_nodes : GraphParts
two_nodes = record {
  kinds = Station (record { 0 = 0 }) ∷ Station (record { 0 = 1 }) ∷ [];
  places = record { x = pos 0; y = pos 0 } ∷ record { x = pos 11132; y = pos 0 } ∷ [];
  ends = (record { 0 = 0 }, record { 0 = 1 }) ∷ [];
  lines = (record { 0 = 0 } ∷ []) ∷ [];
  rounds = (record { 0 = 0 } ∷ []) ∷ (record { 0 = 0 } ∷ []) ∷ [];
  joins = [] ∷ [] ∷ [];
}

abbrev two_steps : PlainWalk
two_steps = record { start = record { x = pos 0; y = pos 0 }; steps = dir.E ∷ dir.E ∷ [] }

smallest : picture_text two_names two_nodes (two_steps ∷ []) ((record { 0 = 0 } ∷ []) ∷ []) ≡
    codes "<svg xmlns=\"http://www.w3.org/2000/svg\" version=\"1.1\" viewBox=\"-200 -200 600 400\">\n<path class=\"s0 l0\" d=\"M 0 0 L 200 0\" fill=\"none\" stroke=\"#e6194b\" stroke-width=\"12\"><title>A</title></path>\n<circle cx=\"0\" cy=\"0\" r=\"10\" fill=\"#ffffff\" stroke=\"#000000\" stroke-width=\"4\"/>\n<circle cx=\"200\" cy=\"0\" r=\"10\" fill=\"#ffffff\" stroke=\"#000000\" stroke-width=\"4\"/>\n<text x=\"14\" y=\"-14\" font-size=\"20\">X</text>\n<text x=\"214\" y=\"-14\" font-size=\"20\">Y</text>\n</svg>\n"
unfolding chars encode digits
smallest = refl

-- the same two stations where they lie
abbrev two_course : List Point
two_course = record { x = pos 0; y = pos 0 } ∷ record { x = pos 5937; y = pos 0 } ∷ record { x = pos 11132; y = pos 0 } ∷ []

in_the_plane : geographic_text two_names two_nodes (two_course ∷ []) ((record { 0 = 0 } ∷ []) ∷ []) ≡
    codes "<svg xmlns=\"http://www.w3.org/2000/svg\" version=\"1.1\" viewBox=\"-1000 -1000 13132 2000\">\n<path class=\"s0 l0\" d=\"M 0 0 L 5937 0 L 11132 0\" fill=\"none\" stroke=\"#e6194b\" stroke-width=\"50\"><title>A</title></path>\n<circle cx=\"0\" cy=\"0\" r=\"50\" fill=\"#ffffff\" stroke=\"#000000\" stroke-width=\"10\"/>\n<circle cx=\"11132\" cy=\"0\" r=\"50\" fill=\"#ffffff\" stroke=\"#000000\" stroke-width=\"10\"/>\n<text x=\"90\" y=\"-90\" font-size=\"200\">X</text>\n<text x=\"11222\" y=\"-90\" font-size=\"200\">Y</text>\n</svg>\n"
unfolding chars encode digits
in_the_plane = refl

-- two lines on the second of two segments, of which the first has one: the first line is joined from the middle
abbrev fork_names : Names
fork_names = record { stations = []; lines = (codes "A", 0xe6 ∷ 0x19 ∷ 0x4b ∷ []) ∷ (codes "B", 0x3c ∷ 0xb4 ∷ 0x4b ∷ []) ∷ [] }

abbrev fork : GraphParts
fork = record {
  kinds = [];
  places = [];
  ends = (record { 0 = 0 }, record { 0 = 3 }) ∷ (record { 0 = 0 }, record { 0 = 1 }) ∷ [];
  lines = [];
  rounds = [];
  joins = [];
}

abbrev fork_walks : List PlainWalk
fork_walks = record { start = record { x = pos 0; y = pos 2 }; steps = dir.N ∷ dir.N ∷ [] } ∷ record { start = record { x = pos 0; y = pos 2 }; steps = dir.E ∷ dir.E ∷ [] } ∷ []

abbrev fork_orders : List (List LineId)
fork_orders = (record { 0 = 0 } ∷ []) ∷ (record { 0 = 0 } ∷ record { 0 = 1 } ∷ []) ∷ []

fork_lines : texts grid_style (segment_elements fork_names (grid_courses fork fork_walks) fork_orders 1) ≡
    codes "<path class=\"s1 l0\" d=\"M 0 -207 L 200 -207\" fill=\"none\" stroke=\"#e6194b\" stroke-width=\"12\"><title>A</title></path>\n<path class=\"s1 l1\" d=\"M 0 -193 L 200 -193\" fill=\"none\" stroke=\"#3cb44b\" stroke-width=\"12\"><title>B</title></path>\n"
unfolding chars encode digits
fork_lines = refl

fork_join : texts grid_style (join_elements fork_names fork (grid_courses fork fork_walks) fork_orders 0 (record { e = record { 0 = 0 }; f = record { 0 = 1 }; line = record { 0 = 0 } })) ≡
    codes "<path class=\"n0 l0\" d=\"M 0 -200 L 0 -207\" fill=\"none\" stroke=\"#e6194b\" stroke-width=\"12\"/>\n"
unfolding digits
fork_join = refl
