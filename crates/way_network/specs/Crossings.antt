-- Where lines go on from one segment to another, told by the numbers of segments.
use Rattle.std.specs.Prelude.{◌≡◌, ℕ, ◌<◌, ◌==◌, ◌&&◌, ◌||◌, nat_lt, Bool, List, [], ◌∷◌, map, filter, All, if◌then◌else◌}
use Rattle.std.specs.List.{flat_map, list_any, range_with_len}
use Rattle.std.specs.List.Sorted.{IsStrictlySortedBy}
use Rattle.std.specs.declared.cmp.Ordering.{Ordering}
use Rattle.std.specs.Ordering.{nat_cmp, ordering_then}
use Rattle.graph_core.specs.declared.parts.Join.{Join}
use Rattle.way_network.specs.declared.way.Passage.{Passage}
use Rattle.way_network.specs.declared.joins.Crossing.{Crossing}
use Rattle.way_network.specs.Segments.{segment_at, segment_numbered, line_numbered}
use Rattle.way_network.specs.Joins.{join_of}
use Rattle.way_network.specs.Uses.{has_number}

-- a passage, told by the segments over which it comes and goes on
abbrev pub crossing_of : List (List ℕ) → Passage → Crossing
crossing_of chains x = record { at = x.at; e = segment_at chains x.at x.from; f = segment_at chains x.at x.to; line = x.line.0 }

-- a passage is at one of these points
abbrev pub is_passage_at : List ℕ → Passage → Bool
is_passage_at nodes x = has_number nodes x.at

-- a crossing at p leads from the one segment to the other, either way, by the line
abbrev pub is_crossing : ℕ → ℕ → ℕ → ℕ → Crossing → Bool
is_crossing p e f line x = (x.line == line) && ((x.at == p) && (((x.e == e) && (x.f == f)) || ((x.e == f) && (x.f == e))))

abbrev pub crosses : List Crossing → ℕ → ℕ → ℕ → ℕ → Bool
crosses crossings p e f line = list_any (is_crossing p e f line) crossings

-- the joins of two segments at p, by line
abbrev pub joins_between : List Crossing → ℕ → ℕ → ℕ → ℕ → List Join
joins_between crossings lines p e f = map (join_of e f) (filter (crosses crossings p e f) (range_with_len 0 lines))

-- the joins of a segment at p with all higher ones
abbrev pub joins_over : List Crossing → ℕ → ℕ → ℕ → ℕ → List Join
joins_over crossings segments lines p e =
    flat_map (λ f. if nat_lt e f then joins_between crossings lines p e f else []) (range_with_len 0 segments)

-- the joins at p, of that many segments and lines: by lesser segment, then by greater, then by line
abbrev pub joins_among : List Crossing → ℕ → ℕ → ℕ → List Join
joins_among crossings segments lines p = flat_map (joins_over crossings segments lines p) (range_with_len 0 segments)

-- a crossing's segments and line are below these numbers
pub record IsWithin (segments lines : ℕ) (x : Crossing) : Type 0 where
  pub e : x.e < segments
  pub f : x.f < segments
  pub line : x.line < lines

-- a crossing from the lesser to the greater segment; none where both are one
abbrev pub lesser_first : Crossing → List Crossing
lesser_first x =
    if nat_lt x.e x.f then x ∷ []
    else if nat_lt x.f x.e then record { at = x.at; e = x.f; f = x.e; line = x.line } ∷ []
    else []

-- by the point, then by the lesser segment, then by the greater, then by the line
abbrev pub crossing_order : Crossing → Crossing → Ordering
crossing_order x y = ordering_then (nat_cmp x.at y.at) (ordering_then (nat_cmp x.e y.e) (ordering_then (nat_cmp x.f y.f) (nat_cmp x.line y.line)))

-- a crossing at p leads from the one segment to the other by the line
abbrev pub is_there : ℕ → ℕ → ℕ → ℕ → Crossing → Bool
is_there p e f line x = (x.at == p) && ((x.e == e) && ((x.f == f) && (x.line == line)))

-- crossings from the lesser to the greater segment, in order, each once
pub record AreInOrder (crossings sorted : List Crossing) : Type 0 where
  pub rises : IsStrictlySortedBy crossing_order sorted
  pub lesser : All (λ x. x.e < x.f) sorted
  pub same : (p e f line : ℕ) → e < f → list_any (is_there p e f line) sorted ≡ crosses crossings p e f line

abbrev pub is_at : ℕ → Crossing → Bool
is_at p x = x.at == p

-- the join of a crossing
abbrev pub join_at : Crossing → Join
join_at x = record { e = segment_numbered x.e; f = segment_numbered x.f; line = line_numbered x.line }
