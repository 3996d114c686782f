-- The edges of the net that lines run over, and the nodes among its points.
use Rattle.std.specs.Prelude.{ℕ, Bool, true, false, not, ◌==◌, ◌&&◌, ◌||◌, nat_lt, List, [], ◌∷◌, filter}
use Rattle.std.specs.List.{list_any, range_with_len}
use Rattle.way_network.specs.declared.way.Way.{Way}

-- these two numbers are p and q, either way
abbrev pub are_ends : ℕ → ℕ → ℕ → ℕ → Bool
are_ends p q a b = (a == p && b == q) || (a == q && b == p)

-- numbers of points run over the edge of p and q, either way
abbrev pub runs_over : ℕ → ℕ → List ℕ → Bool
runs_over p q [] = false
runs_over p q (a ∷ []) = false
runs_over p q (a ∷ b ∷ rest) = are_ends p q a b || runs_over p q (b ∷ rest)

-- a line runs over the edge of p and q: one of its ways does
abbrev pub line_runs_over : List Way → ℕ → ℕ → ℕ → Bool
line_runs_over ways p q line = list_any (λ (w : Way). (w.line.0 == line) && runs_over p q w.points) ways

-- the lines of the edge of p and q, rising, of that many lines
abbrev pub lines_over : ℕ → List Way → ℕ → ℕ → List ℕ
lines_over lines ways p q = filter (line_runs_over ways p q) (range_with_len 0 lines)

-- the edge of p and q is used: a way runs over it
abbrev pub is_used : List Way → ℕ → ℕ → Bool
is_used ways p q = list_any (λ (w : Way). runs_over p q w.points) ways

-- the points with which one has a used edge, rising, of that many points
abbrev pub used_from : ℕ → List Way → ℕ → List ℕ
used_from points ways p = filter (is_used ways p) (range_with_len 0 points)

-- two lists of numbers are one
abbrev pub are_equal : List ℕ → List ℕ → Bool
are_equal [] [] = true
are_equal [] (b ∷ others) = false
are_equal (a ∷ more) [] = false
are_equal (a ∷ more) (b ∷ others) = (a == b) && are_equal more others

-- of the points with which one has a used edge: there are two of them, and the lines of both edges are equal
abbrev pub passes : ℕ → List Way → ℕ → List ℕ → Bool
passes lines ways p (a ∷ b ∷ []) = are_equal (lines_over lines ways p a) (lines_over lines ways p b)
passes lines ways p others = false

-- a point is on used edges
abbrev pub is_on_edges : List ℕ → Bool
is_on_edges [] = false
is_on_edges (a ∷ others) = true

-- The nodes are the stations, which are the first net points, and of the other points on used edges all but those
-- with exactly two used edges of equal lines.
abbrev pub is_node : ℕ → ℕ → ℕ → List Way → ℕ → Bool
is_node stations points lines ways p =
    nat_lt p stations
    || (is_on_edges (used_from points ways p) && not (passes lines ways p (used_from points ways p)))

-- the net points that are nodes, in order
abbrev pub node_points : ℕ → ℕ → ℕ → List Way → List ℕ
node_points stations points lines ways = filter (is_node stations points lines ways) (range_with_len 0 points)
