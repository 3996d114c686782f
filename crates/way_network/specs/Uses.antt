-- The uses of edges by lines, in order, and what they say of each edge.
use Rattle.std.specs.Prelude.{◌≡◌, ℕ, ◌==◌, ◌&&◌, ◌||◌, nat_lt, Bool, true, false, List, [], ◌∷◌, map, All, IsPermutation}
use Rattle.std.specs.List.{flat_map, list_any}
use Rattle.std.specs.List.Sorted.{IsSortedBy, IsStrictlyIncreasing, IsPartitionPoint}
use Rattle.std.specs.Ordering.{is_lt, nat_cmp, ordering_then}
use Rattle.way_network.specs.declared.way.Way.{Way}
use Rattle.way_network.specs.declared.edges.UsedEdge.{UsedEdge}
use Rattle.way_network.specs.declared.edge_use.EdgeUse.{EdgeUse}

-- the uses of edges along the points of a way: each step, from the one point and from the other
abbrev pub uses_along : ℕ → List ℕ → List EdgeUse
uses_along line [] = []
uses_along line (a ∷ []) = []
uses_along line (a ∷ b ∷ rest) = record { from = a; to = b; line = line } ∷ record { from = b; to = a; line = line } ∷ uses_along line (b ∷ rest)

abbrev pub uses_of_way : Way → List EdgeUse
uses_of_way way = uses_along way.line.0 way.points

abbrev pub uses_of : List Way → List EdgeUse
uses_of ways = flat_map uses_of_way ways

-- by the one point, then by the other, then by the line
abbrev pub use_is_before : EdgeUse → EdgeUse → Bool
use_is_before x y = is_lt (ordering_then (nat_cmp x.from y.from) (ordering_then (nat_cmp x.to y.to) (nat_cmp x.line y.line)))

-- the uses of the ways, in this order
pub record AreUsesOf (ways : List Way) (uses : List EdgeUse) : Type 0 where
  pub permutation : IsPermutation (uses_of ways) uses
  pub rises : IsSortedBy use_is_before uses

-- a use is one of an edge from p
abbrev pub is_from : ℕ → EdgeUse → Bool
is_from p u = u.from == p

-- a use is one of the edge from p to q
abbrev pub is_over : ℕ → ℕ → EdgeUse → Bool
is_over p q u = (u.from == p) && (u.to == q)

-- some use is one of the edge from p to q
abbrev pub leads_to : List EdgeUse → ℕ → ℕ → Bool
leads_to uses p q = list_any (is_over p q) uses

-- some use of the edge from p to q is by the line
abbrev pub is_run_by : List EdgeUse → ℕ → ℕ → ℕ → Bool
is_run_by uses p q line = list_any (λ (u : EdgeUse). is_over p q u && (u.line == line)) uses

-- a number is in a list
abbrev pub has_number : List ℕ → ℕ → Bool
has_number numbers k = list_any (λ n. k == n) numbers

-- the numbers that pass a test, rising and each once
pub record AreThose (test : ℕ → Bool) (numbers : List ℕ) : Type 0 where
  pub rises : IsStrictlyIncreasing numbers
  pub each : (k : ℕ) → has_number numbers k ≡ test k

-- the numbers of the lines of a used edge
abbrev pub line_numbers : UsedEdge → List ℕ
line_numbers edge = map (λ line. line.0) edge.lines

abbrev pub neighbours_in : List UsedEdge → List ℕ
neighbours_in row = map (λ edge. edge.to) row

-- a row rises by its other points
abbrev pub IsRising : List UsedEdge → Type 0
IsRising row = IsStrictlyIncreasing (neighbours_in row)

-- the used edges of point p, by what the uses say
pub record IsRowOf (uses : List EdgeUse) (p : ℕ) (row : List UsedEdge) : Type 0 where
  pub neighbours : AreThose (leads_to uses p) (neighbours_in row)
  pub lines : All (λ edge. AreThose (is_run_by uses p edge.to) (line_numbers edge)) row

-- a use stands before those of the edge from p to q
abbrev pub stands_before : ℕ → ℕ → EdgeUse → Bool
stands_before p q u = nat_lt u.from p || ((u.from == p) && nat_lt u.to q)

-- of uses in order, so many stand before those of the edge from p to q
abbrev pub IsRank : List EdgeUse → ℕ → ℕ → ℕ → Type 0
IsRank uses p q rank = IsPartitionPoint (λ u. stands_before p q u ≡ true) (λ u. stands_before p q u ≡ false) uses rank
