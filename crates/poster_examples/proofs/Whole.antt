-- A whole poster.
use Rattle.std.proofs.Common.{◌≡◌, ℕ, pos, List, [], ◌∷◌, ◌++◌, Some, false, length, replicate, refl, ap, ◌∙◌}
use Rattle.std.specs.Prelude.{codes}
use Rattle.std.specs.Str.{chars}
use lib.Utf8.{encode}
use Rattle.std.specs.Fmt.{digits}
use Rattle.map_base.specs.declared.ids.LineId.{LineId}
use Rattle.graph_core.specs.declared.parts.NodeKind.TheVariants.{Station}
use Rattle.graph_core.specs.declared.parts.GraphParts.{GraphParts}
use Rattle.octi_grid.specs.declared.dir.Dir.TheVariants as dir
use Rattle.octi_grid.specs.Walks.{PlainWalk}
use Rattle.svg_writer.specs.declared.names.Names.{Names}
use Rattle.poster_plan.specs.declared.layout.Printed.{Printed}
use Rattle.poster_plan.specs.declared.layout.Step.TheVariants.{Full}
use Rattle.poster_plan.specs.declared.place.Place.TheVariants as place
use Rattle.poster_plan.specs.declared.plan.Plan.{Plan}
use Rattle.poster_plan.specs.Legends.{legend_of}
use Rattle.poster_plan.specs.Pitches.{pitch_of}
use Rattle.poster_plan.specs.Placing.{printed_names}
use Rattle.poster_rules.specs.Elements.{texts}
use Rattle.poster_rules.specs.Plans.{lines_shown, plan_of, widest}
use Rattle.poster_rules.specs.Posters.{elements_at, elements_with, poster_text}

-- two stations that a pale line joins
abbrev graph : GraphParts
graph = record {
  kinds = Station (record { 0 = 0 }) ∷ Station (record { 0 = 1 }) ∷ [];
  places = record { x = pos 0; y = pos 0 } ∷ record { x = pos 11132; y = pos 11132 } ∷ [];
  ends = (record { 0 = 0 }, record { 0 = 1 }) ∷ [];
  lines = (record { 0 = 0 } ∷ []) ∷ [];
  rounds = (record { 0 = 0 } ∷ []) ∷ (record { 0 = 0 } ∷ []) ∷ [];
  joins = [] ∷ [] ∷ [];
}

abbrev names : Names
names = record { stations = codes "X & Co" ∷ codes "Y" ∷ []; lines = (codes "A", 0xf0 ∷ 0xf0 ∷ 0xf0 ∷ []) ∷ [] }

-- north-east all the way
abbrev walk : PlainWalk
walk = record { start = record { x = pos 2; y = pos 2 }; steps = replicate 46 dir.NE }

abbrev line : LineId
line = record { 0 = 0 }

-- its stations and its one straight piece
abbrev plan : Plan
plan = record {
  marks =
      record { node = record { 0 = 0 }; at = record { x = pos 2; y = pos 2 }; radius = 10; name = Some 48; level = false }
      ∷ record { node = record { 0 = 1 }; at = record { x = pos 48; y = pos 48 }; radius = 10; name = Some 20; level = false } ∷ [];
  pieces = record { start = record { x = pos 2; y = pos 2 }; end = record { x = pos 48; y = pos 48 }; lines = 1; ends = (record { 0 = 0 }, record { 0 = 1 }) } ∷ [];
}

planned : plan_of names graph (walk ∷ []) ((line ∷ []) ∷ (line ∷ []) ∷ []) ≡ plan
unfolding chars
planned = refl

least_pitch : pitch_of plan ≡ 20
least_pitch = refl

-- both names in full size, to the west and to the east
abbrev printed : List Printed
printed = record { mark = 0; step = Full; place = place.W } ∷ record { mark = 1; step = Full; place = place.E } ∷ []

placed : printed_names 20 plan ≡ printed
placed = refl

abbrev text : List ℕ
text =
    (codes "<svg xmlns=\"http://www.w3.org/2000/svg\" version=\"1.1\" viewBox=\"-180 -1035 1276 1070\" font-family=\"Helvetica, Arial, sans-serif\">\n")
    ++ (codes "<rect x=\"-180\" y=\"-1035\" width=\"1276\" height=\"1070\" fill=\"#ffffff\"/>\n")
    ++ (codes "<g id=\"lines\" fill=\"none\" stroke-linejoin=\"round\" stroke-linecap=\"round\" stroke-width=\"12\">\n")
    ++ (codes "<path class=\"s0 l0\" d=\"M 40 -40 L 960 -960\" stroke=\"#444444\" stroke-width=\"14\"/>\n")
    ++ (codes "<path class=\"s0 l0\" d=\"M 40 -40 L 960 -960\" stroke=\"#f0f0f0\"><title>A</title></path>\n")
    ++ (codes "</g>\n")
    ++ (codes "<g id=\"stations\" fill=\"none\" stroke-linejoin=\"round\" stroke-linecap=\"round\">\n")
    ++ (codes "<g class=\"n0 l0\"><title>X &amp; Co</title>\n")
    ++ (codes "<path d=\"M 40 -40 L 40 -40\" stroke=\"#000000\" stroke-width=\"20\"/>\n")
    ++ (codes "<path d=\"M 40 -40 L 40 -40\" stroke=\"#ffffff\" stroke-width=\"12\"/>\n")
    ++ (codes "</g>\n")
    ++ (codes "<g class=\"n1 l0\"><title>Y</title>\n")
    ++ (codes "<path d=\"M 960 -960 L 960 -960\" stroke=\"#000000\" stroke-width=\"20\"/>\n")
    ++ (codes "<path d=\"M 960 -960 L 960 -960\" stroke=\"#ffffff\" stroke-width=\"12\"/>\n")
    ++ (codes "</g>\n")
    ++ (codes "</g>\n")
    ++ (codes "<g id=\"names\" font-size=\"30\" fill=\"#000000\">\n")
    ++ (codes "<text x=\"24\" y=\"-31\" text-anchor=\"end\">X &amp; Co<tspan dx=\"9\" fill=\"#444444\" font-weight=\"bold\">A</tspan></text>\n")
    ++ (codes "<text x=\"976\" y=\"-951\">Y<tspan dx=\"9\" fill=\"#444444\" font-weight=\"bold\">A</tspan></text>\n")
    ++ (codes "</g>\n")
    ++ (codes "<g id=\"legend\" font-size=\"30\" fill=\"#000000\">\n")
    ++ (codes "<path d=\"M -120 -960 L -60 -960\" stroke=\"#444444\" stroke-width=\"14\"/>\n")
    ++ (codes "<path d=\"M -120 -960 L -60 -960\" stroke=\"#f0f0f0\" stroke-width=\"12\"/>\n")
    ++ (codes "<text x=\"-30\" y=\"-951\">A</text>\n")
    ++ (codes "</g>\n")
    ++ (codes "</svg>\n")

-- what is written at a pitch, with these names
abbrev written : ℕ → List Printed → List ℕ
written u ps =
    texts (elements_with (record { names = names; graph = graph; walks = walk ∷ []; orders = (line ∷ []) ∷ []; callers = (line ∷ []) ∷ (line ∷ []) ∷ []; pitch = u })
    plan ps (lines_shown 1 graph) (legend_of u plan ps (length (lines_shown 1 graph)) (widest names (lines_shown 1 graph))))

-- It stands by its definition: its names are beside the line, where it is free, and its legend in the upper left
-- corner.
whole : poster_text names graph (walk ∷ []) ((line ∷ []) ∷ []) ((line ∷ []) ∷ (line ∷ []) ∷ []) ≡ text
unfolding chars encode digits
whole =
    ap (λ (p : Plan). texts (elements_at names graph (walk ∷ []) ((line ∷ []) ∷ []) ((line ∷ []) ∷ (line ∷ []) ∷ []) p (pitch_of p))) planned
    ∙ ap (λ (u : ℕ). written u (printed_names u plan)) least_pitch
    ∙ ap (written 20) placed
    ∙ refl
