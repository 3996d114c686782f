-- A walk that is cut at even points of its own.
use Rattle.std.specs.Prelude.{ℕ, ◌+◌, ◌-◌, ◌*◌, ◌/◌, nat_le, pos, List, length, map, filter, take, drop, reverse, if◌then◌else◌, Option, Some, None, slice_index_or}
use Rattle.std.specs.List.{range_with_len}
use Rattle.octi_grid.specs.declared.point.GridPoint.{GridPoint}
use Rattle.octi_grid.specs.Ways.{reverse_of}
use Rattle.octi_grid.specs.Walks.{PlainWalk, end_point, points_of}
use Rattle.octi_grid.specs.Legal.{is_even}

-- the point of a list at a place, from 0
abbrev pub point_at : List GridPoint → ℕ → GridPoint
point_at points i = slice_index_or points i (record { x = pos 0; y = pos 0 })

-- the places of points with both coordinates even, in order
abbrev pub even_places : List GridPoint → List ℕ
even_places points = filter (λ i. is_even (point_at points i)) (range_with_len 0 (length points))

-- how many of them lie behind the first one
abbrev pub even_steps : List GridPoint → ℕ
even_steps points = length (even_places points) - 1

-- The place of cut i of points that are cut into so many pieces, from 0: cuts stand among the even points as evenly as
-- whole numbers allow.
abbrev pub cut_place : List GridPoint → ℕ → ℕ → ℕ
cut_place points count i = slice_index_or (even_places points) (i * even_steps points / count) 0

-- all cuts, with both ends; none where there are too few even points
abbrev pub cuts_at : List GridPoint → ℕ → Option (List ℕ)
cuts_at points count = if nat_le count (even_steps points) then Some (map (cut_place points count) (range_with_len 0 (count + 1))) else None

-- a walk from one of its places to another
abbrev pub piece_between : PlainWalk → ℕ → ℕ → PlainWalk
piece_between w a b = record { start = point_at (points_of w) a; steps = take (b - a) (drop a w.steps) }

-- piece i of so many, from 0
abbrev pub piece_of : PlainWalk → ℕ → ℕ → PlainWalk
piece_of w count i = piece_between w (cut_place (points_of w) count i) (cut_place (points_of w) count (i + 1))

abbrev pub pieces_of : PlainWalk → ℕ → List PlainWalk
pieces_of w count = map (piece_of w count) (range_with_len 0 count)

-- a walk from its end to its start
abbrev pub reversed_walk : PlainWalk → PlainWalk
reversed_walk w = record { start = end_point w; steps = map reverse_of (reverse w.steps) }
