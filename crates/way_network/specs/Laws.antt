-- What the segments of a network are to its ways: each used edge lies on one segment, and the lines of a segment are
-- those that run over its edges.
use Rattle.std.specs.Prelude.{◌≡◌, ◌↔◌, ℕ, ◌<◌, ◌==◌, Bool, true, List, [], length, All, slice_index_or}
use Rattle.std.specs.List.{list_any}
use Rattle.map_base.specs.declared.point.Point.{Point}
use Rattle.map_base.specs.declared.ids.LineId.{LineId}
use Rattle.way_network.specs.Edges.{runs_over, is_used, line_runs_over}
use Rattle.way_network.specs.Chains.{Network}
use Rattle.way_network.specs.Segments.{segment_chains, lines_of}
use Rattle.way_network.specs.Premises.{IsWay}

-- the points of the segment of a number
abbrev pub chain_numbered : List Point → Network → ℕ → List ℕ
chain_numbered points g k = slice_index_or (segment_chains points g) k []

-- a line is one of those of a segment
abbrev pub is_line_of : Network → List ℕ → ℕ → Bool
is_line_of g chain line = list_any (λ (x : LineId). x.0 == line) (lines_of g chain)

-- a way of the line and a segment run over one edge
pub record Shares (g : Network) (chain : List ℕ) (line : ℕ) : Type 0 where
  pub a : ℕ
  pub b : ℕ
  pub segment : runs_over a b chain ≡ true
  pub way : line_runs_over g.ways a b line ≡ true

-- some segment runs over an edge exactly where it is used
abbrev pub HasUsedEdges : List Point → Network → Type 0
HasUsedEdges points g = All (IsWay g) g.ways → (a b : ℕ) → list_any (runs_over a b) (segment_chains points g) ≡ is_used g.ways a b

-- two segments that run over one edge are one
abbrev pub HasEdgesOnce : List Point → Network → Type 0
HasEdgesOnce points g =
    All (IsWay g) g.ways → (i j a b : ℕ) → i < length (segment_chains points g) → j < length (segment_chains points g)
    → runs_over a b (chain_numbered points g i) ≡ true → runs_over a b (chain_numbered points g j) ≡ true → i ≡ j

-- the lines of a segment are those that run over any one of its edges
abbrev pub HasLinesOfEdges : List Point → Network → Type 0
HasLinesOfEdges points g =
    All (IsWay g) g.ways → (k a b line : ℕ) → k < length (segment_chains points g) → line < g.lines → runs_over a b (chain_numbered points g k) ≡ true
    → is_line_of g (chain_numbered points g k) line ≡ line_runs_over g.ways a b line

-- a line is on the segments that its ways run over, and on no other
abbrev pub HasLinesOfWays : List Point → Network → Type 0
HasLinesOfWays points g =
    All (IsWay g) g.ways → (k line : ℕ) → k < length (segment_chains points g) → line < g.lines
    → ((is_line_of g (chain_numbered points g k) line ≡ true) ↔ Shares g (chain_numbered points g k) line)
