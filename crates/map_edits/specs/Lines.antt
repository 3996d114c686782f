-- The line at the front of a script.
use Rattle.std.specs.Prelude.{ℕ, List, [], ◌∷◌, Option, Some, None}
use Rattle.std.specs.Str.Lines.{lines, strip_carriage_return}

-- a line without the CR at its end, if it has one
abbrev pub line_before : List ℕ → List ℕ
line_before line = strip_carriage_return line

-- the lines of a script, as the first and what stands behind it
abbrev pub lines_cut : Option (List ℕ × List ℕ) → List (List ℕ)
lines_cut None = []
lines_cut (Some x) = x.0 ∷ lines x.1
