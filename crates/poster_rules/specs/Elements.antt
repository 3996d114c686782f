-- The elements of a poster, and the text of each, a line (SVG 1.1).
use Rattle.std.specs.Prelude.{ℕ, ◌+◌, ◌*◌, pos, ◌+ℤ◌, ◌-ℤ◌, List, [], ◌∷◌, ◌++◌, codes}
use Rattle.std.specs.List.{flat_map}
use Rattle.std.specs.Fmt.{decimal, signed_decimal}
use Rattle.map_base.specs.declared.ids.LineId.{LineId}
use Rattle.line_offsets.specs.declared.corner.Corner.{Corner}
use Rattle.eight_sides.specs.declared.frame.Frame.{Frame}
use Rattle.svg_writer.specs.Elements.{colour_text, corner_text, ids_text, path_text, place_text, title_text}
use Rattle.svg_writer.specs.Escaping.{escaped}
use Rattle.poster_plan.specs.declared.layout.Step.{Step}
use Rattle.poster_plan.specs.declared.layout.Step.TheVariants.{Full, Small, Over}
use Rattle.poster_plan.specs.declared.place.Anchor.{Anchor}
use Rattle.poster_plan.specs.declared.place.Anchor.TheVariants.{Start, Middle, End}
use Rattle.poster_plan.specs.declared.place.Spot.{Spot}
use Rattle.poster_plan.specs.declared.place.Turn.{Turn}
use Rattle.poster_plan.specs.declared.place.Turn.TheVariants.{Level, Rising, Falling}
use Rattle.poster_plan.specs.Places.{tenth}

-- the name of a line that ends at a station, in its colour
pub record Ending : Type 0 where
  pub colour : List ℕ
  pub name : List ℕ

-- a group of elements
pub data Group : Type 0 where
  LinesGroup : Group
  StationsGroup : Group
  NamesGroup : Group
  LegendGroup : Group

-- The head and the white ground, which both show a frame; the start of a group, and its end; a line on a segment, with its
-- name, and one from segment to segment at a node, and what is drawn behind each where it is pale; a station with the lines
-- that call there and its name; a stroke of a colour and a width, through the feet of lines at a station or in the legend; a
-- name at its spot, with the lines that end there, and the same with a white rim; the name of a line in the legend; and the
-- end. A colour is three bytes: red, green and blue.
pub data Element : Type 0 where
  Head : (frame : Frame) → Element
  Ground : (frame : Frame) → Element
  Opens : (group : Group) → Element
  Closes : Element
  OnSegment : (seg line : ℕ) (path : List Corner) (colour name : List ℕ) → Element
  BehindOnSegment : (seg line : ℕ) (path : List Corner) → Element
  AtNode : (node line : ℕ) (path : List Corner) (colour : List ℕ) → Element
  BehindAtNode : (node line : ℕ) (path : List Corner) → Element
  Station : (node : ℕ) (lines : List LineId) (name : List ℕ) → Element
  Stroke : (path : List Corner) (colour : List ℕ) (width : ℕ) → Element
  Name : (spot : Spot) (step : Step) (name : List ℕ) (endings : List Ending) → Element
  RimOfName : (spot : Spot) (step : Step) (name : List ℕ) (endings : List Ending) → Element
  RowName : (place : Corner) (name : List ℕ) → Element
  Tail : Element

-- dark grey, which stands behind pale lines, and in place of faint colours of type; black and white
abbrev pub dark : List ℕ
dark = 68 ∷ 68 ∷ 68 ∷ []

abbrev pub black : List ℕ
black = 0 ∷ 0 ∷ 0 ∷ []

abbrev pub white : List ℕ
white = 255 ∷ 255 ∷ 255 ∷ []

-- what a poster shows, 60 units wider on each side than its frame: left, top, width and height
abbrev pub view_place : Frame → Corner
view_place f = record { x = f.across.least -ℤ pos 60; y = f.down.least -ℤ pos 60 }

abbrev pub view_size : Frame → Corner
view_size f = record { x = (f.across.greatest -ℤ f.across.least) +ℤ pos 120; y = (f.down.greatest -ℤ f.down.least) +ℤ pos 120 }

-- `" stroke="#..`, and the end of an attribute
abbrev pub stroke_text : List ℕ → List ℕ
stroke_text colour = codes "\" stroke=\"" ++ (colour_text colour ++ codes "\"")

-- ` stroke-width=".." />`, to the end of the line
abbrev pub width_text : ℕ → List ℕ
width_text width = codes " stroke-width=\"" ++ (decimal width ++ codes "\"/>\n")

-- the start of a group
abbrev pub group_text : Group → List ℕ
group_text LinesGroup = codes "<g id=\"lines\" fill=\"none\" stroke-linejoin=\"round\" stroke-linecap=\"round\" stroke-width=\"12\">\n"
group_text StationsGroup = codes "<g id=\"stations\" fill=\"none\" stroke-linejoin=\"round\" stroke-linecap=\"round\">\n"
group_text NamesGroup = codes "<g id=\"names\" font-size=\"30\" fill=\"#000000\">\n"
group_text LegendGroup = codes "<g id=\"legend\" font-size=\"30\" fill=\"#000000\">\n"

-- ` l` and its number, for each of these lines
abbrev pub classes_text : List LineId → List ℕ
classes_text lines = flat_map (λ (l : LineId). codes " l" ++ decimal l.0) lines

-- which part of a text stands at its point
abbrev pub anchor_text : Anchor → List ℕ
anchor_text Start = []
anchor_text Middle = codes " text-anchor=\"middle\""
anchor_text End = codes " text-anchor=\"end\""

-- the point of a text that is turned by so many degrees, and how far its base line is below its middle line
abbrev pub turned_text : Corner → List ℕ → Step → List ℕ
turned_text at degrees z =
    codes "<text transform=\"translate(" ++ (corner_text at ++ (codes ") rotate(" ++ (degrees ++ (codes ")\" y=\"" ++ (decimal (3 * tenth z) ++ codes "\"")))))

-- where a text stands, and which way it runs
abbrev pub turn_text : Turn → Corner → Step → List ℕ
turn_text Level at z = codes "<text x=\"" ++ (place_text at ++ codes "\"")
turn_text Rising at z = turned_text at (codes "-45") z
turn_text Falling at z = turned_text at (codes "45") z

-- the size of small type
abbrev pub size_text : Step → List ℕ
size_text Full = []
size_text Small = codes " font-size=\"20\""
size_text Over = codes " font-size=\"20\""

-- the name of a line that ends at a station
abbrev pub ending_text : Step → Ending → List ℕ
ending_text z e =
    codes "<tspan dx=\"" ++ (decimal (3 * tenth z) ++ (codes "\" fill=\"" ++ (colour_text e.colour ++ (codes "\" font-weight=\"bold\">" ++ (escaped e.name ++ codes "</tspan>")))))

-- a name with its lines, to the end of its line
abbrev pub name_text : Step → List ℕ → List Ending → List ℕ
name_text z name endings = codes ">" ++ (escaped name ++ (flat_map (ending_text z) endings ++ codes "</text>\n"))

-- the attributes of a name
abbrev pub spot_text : Spot → Step → List ℕ
spot_text spot z = turn_text spot.turn spot.at z ++ (anchor_text spot.anchor ++ size_text z)

-- the text of an element, a line
abbrev pub element_text : Element → List ℕ
element_text (Head frame) =
    codes "<svg xmlns=\"http://www.w3.org/2000/svg\" version=\"1.1\" viewBox=\"" ++ (corner_text (view_place frame) ++ (32 ∷ corner_text (view_size frame) ++ codes "\" font-family=\"Helvetica, Arial, sans-serif\">\n"))
element_text (Ground frame) =
    codes "<rect x=\"" ++ (place_text (view_place frame) ++ (codes "\" width=\"" ++ (signed_decimal (view_size frame).x ++ (codes "\" height=\"" ++ (signed_decimal (view_size frame).y ++ codes "\" fill=\"#ffffff\"/>\n")))))
element_text (Opens group) = group_text group
element_text Closes = codes "</g>\n"
element_text (OnSegment seg line path colour name) =
    codes "<path class=\"s" ++ (ids_text seg line ++ (path_text path ++ (stroke_text colour ++ title_text name)))
element_text (BehindOnSegment seg line path) =
    codes "<path class=\"s" ++ (ids_text seg line ++ (path_text path ++ (stroke_text dark ++ width_text 14)))
element_text (AtNode node line path colour) =
    codes "<path class=\"n" ++ (ids_text node line ++ (path_text path ++ (stroke_text colour ++ codes "/>\n")))
element_text (BehindAtNode node line path) =
    codes "<path class=\"n" ++ (ids_text node line ++ (path_text path ++ (stroke_text dark ++ width_text 14)))
element_text (Station node lines name) =
    codes "<g class=\"n" ++ (decimal node ++ (classes_text lines ++ (codes "\"><title>" ++ (escaped name ++ codes "</title>\n"))))
element_text (Stroke path colour width) = codes "<path d=\"" ++ (path_text path ++ (stroke_text colour ++ width_text width))
element_text (Name spot z name endings) = spot_text spot z ++ name_text z name endings
element_text (RimOfName spot z name endings) =
    spot_text spot z ++ (codes " stroke=\"#ffffff\" stroke-width=\"6\" stroke-linejoin=\"round\"" ++ name_text z name endings)
element_text (RowName place name) = codes "<text x=\"" ++ (place_text place ++ (codes "\">" ++ (escaped name ++ codes "</text>\n")))
element_text Tail = codes "</svg>\n"

-- the text of elements in order
abbrev pub texts : List Element → List ℕ
texts elements = flat_map element_text elements
