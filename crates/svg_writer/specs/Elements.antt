-- The elements of a picture, and the text of each (SVG 1.1).
use Rattle.std.specs.Prelude.{ℕ, ◌≤◌, ◌*◌, pos, ◌+ℤ◌, ◌-ℤ◌, ◌/◌, ◌%◌, unsigned_abs, List, [], ◌∷◌, ◌++◌, codes}
use Rattle.std.specs.List.{flat_map}
use Rattle.std.specs.Fmt.{decimal, signed_decimal}
use Rattle.std.specs.Char.{digit_char}
use Rattle.line_offsets.specs.declared.corner.Corner.{Corner}
use Rattle.svg_writer.specs.declared.bounds.Bounds.{Bounds}
use Rattle.svg_writer.specs.declared.style.Style.{Style}
use Rattle.svg_writer.specs.Escaping.{escaped}

-- The head; a line on a segment, with its name; a line from one segment to another at a node; the marker of a station,
-- and its name; and the end. A colour is three bytes: red, green and blue.
pub data Element : Type 0 where
  Head : (bounds : Bounds) → Element
  OnSegment : (seg line : ℕ) (path : List Corner) (colour name : List ℕ) → Element
  AtNode : (node line : ℕ) (start end : Corner) (colour : List ℕ) → Element
  Marker : (centre : Corner) (radius : ℕ) → Element
  Label : (place : Corner) (name : List ℕ) → Element
  Tail : Element

-- `#` and six digits
abbrev pub hex_byte : ℕ → List ℕ
hex_byte b = digit_char (b / 16) ∷ digit_char (b % 16) ∷ []

abbrev pub colour_text : List ℕ → List ℕ
colour_text colour = 35 ∷ flat_map hex_byte colour

-- `x y`
abbrev pub corner_text : Corner → List ℕ
corner_text c = signed_decimal c.x ++ (32 ∷ signed_decimal c.y)

-- ` L x y`
abbrev pub next_text : Corner → List ℕ
next_text c = codes " L " ++ corner_text c

-- `M x y L x y ..`
abbrev pub path_text : List Corner → List ℕ
path_text [] = []
path_text (c ∷ cs) = codes "M " ++ (corner_text c ++ flat_map next_text cs)

-- a number in quotes, at the end of an attribute
abbrev pub quoted : ℕ → List ℕ
quoted n = decimal n ++ (34 ∷ [])

-- how lines are drawn, in a colour
abbrev pub stroke_text : Style → List ℕ → List ℕ
stroke_text style colour = codes "\" fill=\"none\" stroke=\"" ++ (colour_text colour ++ (codes "\" stroke-width=\"" ++ quoted style.stroke))

-- what the picture shows, wider on each side than the bounds: left, top, width and height
abbrev pub view_place : Style → Bounds → Corner
view_place style b = record { x = b.left -ℤ pos style.margin; y = b.top -ℤ pos style.margin }

abbrev pub view_size : Style → Bounds → Corner
view_size style b = record { x = (b.right -ℤ b.left) +ℤ pos (2 * style.margin); y = (b.bottom -ℤ b.top) +ℤ pos (2 * style.margin) }

abbrev pub view_text : Style → Bounds → List ℕ
view_text style b = corner_text (view_place style b) ++ (32 ∷ corner_text (view_size style b))

-- two numbers in the class of a path, to the beginning of its corners
abbrev pub ids_text : ℕ → ℕ → List ℕ
ids_text n line = decimal n ++ (codes " l" ++ (decimal line ++ codes "\" d=\""))

-- the name of a line, to the end of its path
abbrev pub title_text : List ℕ → List ℕ
title_text name = codes "><title>" ++ (escaped name ++ codes "</title></path>\n")

-- where the centre of a marker is, and where a name begins
abbrev pub centre_text : Corner → List ℕ
centre_text c = signed_decimal c.x ++ (codes "\" cy=\"" ++ signed_decimal c.y)

abbrev pub place_text : Corner → List ℕ
place_text c = signed_decimal c.x ++ (codes "\" y=\"" ++ signed_decimal c.y)

-- the radius of a marker, and how it is drawn
abbrev pub circle_text : Style → ℕ → List ℕ
circle_text style radius = codes "\" r=\"" ++ (decimal radius ++ (codes "\" fill=\"#ffffff\" stroke=\"#000000\" stroke-width=\"" ++ (quoted style.rim ++ codes "/>\n")))

-- the name of a station, and how it is written
abbrev pub label_text : Style → List ℕ → List ℕ
label_text style name = codes "\" font-size=\"" ++ (quoted style.font ++ (codes ">" ++ (escaped name ++ codes "</text>\n")))

-- the text of an element, a line
abbrev pub element_text : Style → Element → List ℕ
element_text style (Head bounds) = codes "<svg xmlns=\"http://www.w3.org/2000/svg\" version=\"1.1\" viewBox=\"" ++ (view_text style bounds ++ codes "\">\n")
element_text style (OnSegment seg line path colour name) =
    codes "<path class=\"s" ++ (ids_text seg line ++ (path_text path ++ (stroke_text style colour ++ title_text name)))
element_text style (AtNode node line start end colour) =
    codes "<path class=\"n" ++ (ids_text node line ++ (path_text (start ∷ end ∷ []) ++ (stroke_text style colour ++ codes "/>\n")))
element_text style (Marker centre radius) = codes "<circle cx=\"" ++ (centre_text centre ++ circle_text style radius)
element_text style (Label place name) = codes "<text x=\"" ++ (place_text place ++ label_text style name)
element_text style Tail = codes "</svg>\n"

-- the text of elements in order
abbrev pub texts : Style → List Element → List ℕ
texts style elements = flat_map (element_text style) elements

-- bounds that can be reckoned with: each lies within 2^40 either way
pub record AreBounds (b : Bounds) : Type 0 where
  pub left : unsigned_abs b.left ≤ 1099511627776
  pub right : unsigned_abs b.right ≤ 1099511627776
  pub top : unsigned_abs b.top ≤ 1099511627776
  pub bottom : unsigned_abs b.bottom ≤ 1099511627776
