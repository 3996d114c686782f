-- Colours that are the same on each poster.
use Rattle.std.specs.Prelude.{ℕ, List}
use Rattle.poster_rules.specs.Elements.{black, dark, white}
use Rattle.poster_picture.specs.declared.pieces.Ink.{Ink}
use Rattle.poster_picture.specs.declared.pieces.Ink.TheVariants.{Black, White, Dark}

-- the colour of an ink
abbrev pub ink_colour : Ink → List ℕ
ink_colour Black = black
ink_colour White = white
ink_colour Dark = dark
