-- Where a line goes on from one leg of a course to the next.
use Rattle.std.specs.Prelude.{ℕ, nat_lt, List, [], ◌∷◌, if◌then◌else◌}
use Rattle.way_network.specs.declared.way.Passage.{Passage}
use Rattle.way_network.specs.Segments.{reversed, second_of}
use Rattle.line_graph.specs.Legs.{Leg}

-- the points of a leg's path in the direction of the leg
abbrev pub directed : Leg → List ℕ → List ℕ
directed leg points = if nat_lt leg.to leg.from then reversed points else points

-- the passage from one leg's path to the next one's, at the station where the two meet
abbrev pub handed_over : Leg → List ℕ → List ℕ → Passage
handed_over leg before after = record { line = leg.line; at = leg.to; from = second_of (reversed before); to = second_of after }

-- the passages between legs of one course that follow each other
abbrev pub passages_between : (Leg → List ℕ) → List Leg → List Passage
passages_between path [] = []
passages_between path (a ∷ []) = []
passages_between path (a ∷ b ∷ rest) = handed_over a (directed a (path a)) (directed b (path b)) ∷ passages_between path (b ∷ rest)
