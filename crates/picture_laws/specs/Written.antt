-- Elements as their text tells them.
use Rattle.std.specs.Prelude.{ℕ, ◌≤◌, ◌<◌, ◌^◌, ◌==◌, ◌||◌, Bool, unsigned_abs, List}
use Rattle.std.specs.List.{AllByRecursion}
use Rattle.line_offsets.specs.declared.corner.Corner.{Corner}
use Rattle.svg_writer.specs.declared.style.Style.{Style}
use Rattle.svg_writer.specs.Elements.{Element, Head, OnSegment, AtNode, Marker, Label, Tail, view_place, view_size}
use Rattle.svg_writer.specs.Escaping.{escaped}

-- `"`, `<` and `>`, with which a name could end an attribute, or begin or end a tag
abbrev pub is_markup : ℕ → Bool
is_markup b = b == 34 || b == 60 || b == 62

-- an element whose name is what is written of it
abbrev pub as_written : Element → Element
as_written (Head bounds) = Head bounds
as_written (OnSegment seg line path colour name) = OnSegment seg line path colour (escaped name)
as_written (AtNode node line start end colour) = AtNode node line start end colour
as_written (Marker centre radius) = Marker centre radius
as_written (Label place name) = Label place (escaped name)
as_written Tail = Tail

-- both coordinates have at most 16 digits
abbrev pub IsNearCorner : Corner → Type 0
IsNearCorner c = (unsigned_abs c.x ≤ 10 ^ 15) × (unsigned_abs c.y ≤ 10 ^ 15)

-- a colour is made of bytes
abbrev pub IsColour : List ℕ → Type 0
IsColour colour = AllByRecursion (λ b. b < 256) colour

-- the numbers of an element have at most 16 digits, and its colour is one
abbrev pub IsWritable : Style → Element → Type 0
IsWritable style (Head bounds) = IsNearCorner (view_place style bounds) × IsNearCorner (view_size style bounds)
IsWritable style (OnSegment seg line path colour name) =
    (seg ≤ 10 ^ 15) × (line ≤ 10 ^ 15) × AllByRecursion IsNearCorner path × IsColour colour
IsWritable style (AtNode node line start end colour) =
    (node ≤ 10 ^ 15) × (line ≤ 10 ^ 15) × IsNearCorner start × IsNearCorner end × IsColour colour
IsWritable style (Marker centre radius) = IsNearCorner centre × (radius ≤ 10 ^ 15)
IsWritable style (Label place name) = IsNearCorner place
IsWritable style Tail = Unit {0}
