-- Where lines go on from one segment to another.
use Rattle.std.specs.Prelude.{ℕ, Bool, ◌==◌, ◌&&◌, ◌||◌, nat_lt, List, [], ◌∷◌, length, map, filter, if◌then◌else◌}
use Rattle.std.specs.List.{flat_map, list_any, range_with_len}
use Rattle.map_base.specs.declared.ids.LineId.{LineId}
use Rattle.graph_core.specs.declared.parts.Join.{Join}
use Rattle.way_network.specs.declared.way.Way.{Way}
use Rattle.way_network.specs.declared.way.Passage.{Passage}
use Rattle.way_network.specs.Segments.{segment_at, segment_numbered, line_numbered}

-- the passages along the points of a way
abbrev pub passages_along : LineId → List ℕ → List Passage
passages_along line [] = []
passages_along line (a ∷ []) = []
passages_along line (a ∷ b ∷ []) = []
passages_along line (a ∷ b ∷ c ∷ rest) = record { line = line; at = b; from = a; to = c } ∷ passages_along line (b ∷ c ∷ rest)

abbrev pub passages_of_way : Way → List Passage
passages_of_way way = passages_along way.line way.points

-- a passage leads from the one segment to the other, either way
abbrev pub leads : List (List ℕ) → ℕ → ℕ → Passage → Bool
leads chains e f passage =
    ((segment_at chains passage.at passage.from == e) && (segment_at chains passage.at passage.to == f))
    || ((segment_at chains passage.at passage.from == f) && (segment_at chains passage.at passage.to == e))

-- a line joins two segments at a node: one of its passages there leads from the one to the other
abbrev pub joins : List (List ℕ) → List Passage → ℕ → ℕ → ℕ → ℕ → Bool
joins chains passages p e f line = list_any (λ (x : Passage). (x.line.0 == line) && ((x.at == p) && leads chains e f x)) passages

-- the join of two segments by a line
abbrev pub join_of : ℕ → ℕ → ℕ → Join
join_of e f line = record { e = segment_numbered e; f = segment_numbered f; line = line_numbered line }

-- the joins of two segments at a node, by line
abbrev pub joins_of_pair : List (List ℕ) → List Passage → ℕ → ℕ → ℕ → ℕ → List Join
joins_of_pair chains passages lines p e f =
    map (join_of e f) (filter (joins chains passages p e f) (range_with_len 0 lines))

-- the joins of one segment with all higher ones, of that many
abbrev pub joins_from : List (List ℕ) → List Passage → ℕ → ℕ → ℕ → List Join
joins_from chains passages lines p e =
    flat_map (λ f. if nat_lt e f then joins_of_pair chains passages lines p e f else []) (range_with_len 0 (length chains))

-- the joins at a node: by lesser segment, then by greater, then by line
abbrev pub joins_at : List (List ℕ) → List Passage → ℕ → ℕ → List Join
joins_at chains passages lines p = flat_map (joins_from chains passages lines p) (range_with_len 0 (length chains))
