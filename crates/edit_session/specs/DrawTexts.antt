-- What draws append to the output of a session.
use Rattle.std.specs.Prelude.{ℕ, ◌+◌, List, [], ◌∷◌, ◌++◌, length, codes, unwrap_or, Result, Ok, Err}
use Rattle.std.specs.Fmt.{decimal}
use Rattle.map_faults.specs.declared.fault.MakeFault.{MakeFault}
use Rattle.graph_maps.specs.Making.{MapBytes}
use Rattle.run_status.specs.Lines.{status_line}
use Rattle.run_status.specs.Refusals.{of_make}
use Rattle.run_status.specs.Statuses.{status_of}

-- the line before a map and its certificate: the number of the draw, from 1, and how many bytes each of the two has
abbrev pub map_line : ℕ → MapBytes → List ℕ
map_line number made = codes "draw " ++ (decimal number ++ (codes " " ++ (decimal (length made.svg) ++ (codes " " ++ (decimal (length made.certificate) ++ codes "\n")))))

-- the line that `make` prints where it makes no map
abbrev pub refusal_line : MakeFault → List ℕ
refusal_line fault = unwrap_or (status_line (status_of (λ _. []) (of_make fault))) []

-- what a draw appends: its line, the map and the certificate; or why there are none
abbrev pub draw_text : ℕ → Result MapBytes MakeFault → List ℕ
draw_text number (Ok made) = map_line number made ++ (made.svg ++ made.certificate)
draw_text number (Err fault) = codes "draw " ++ (decimal number ++ (codes " refused: " ++ refusal_line fault))

-- what draws append, one after another, of which the first has this number
abbrev pub draws_text : ℕ → List (Result MapBytes MakeFault) → List ℕ
draws_text number [] = []
draws_text number (draw ∷ later) = draw_text number draw ++ draws_text (number + 1) later
