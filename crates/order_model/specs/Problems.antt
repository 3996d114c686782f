-- When the parts of a problem fit together.
use Rattle.std.specs.Prelude.{◌≢◌, ℕ, ◌+◌, ◌-◌, ◌<◌, ◌≤◌, List, [], length, sum_by, All, Contains, slice_index_or}
use Rattle.map_base.specs.declared.ids.SegId.{SegId}
use Rattle.map_base.specs.declared.ids.LineId.{LineId}
use Rattle.graph_core.specs.Consistent.{AreRising}
use Rattle.order_model.specs.declared.term.Term.{Term}
use Rattle.order_model.specs.declared.term.Term.TheVariants.{Side, Link, Apart}
use Rattle.order_model.specs.declared.problem.ProblemParts.{ProblemParts}

-- the lines of a segment, none where there is no such segment
abbrev pub lines_on : List (List LineId) → SegId → List LineId
lines_on segs s = slice_index_or segs s.0 []

-- the line stands on the segment
abbrev pub IsOn : List (List LineId) → SegId → LineId → Type 0
IsOn segs s a = Contains (lines_on segs s) a

-- a weight is from 1 to 256,000
abbrev pub IsWeight : ℕ → Type 0
IsWeight w = (1 ≤ w) × (w ≤ 256000)

-- two different lines that stand on the segment
pub record IsSide (segs : List (List LineId)) (seg : SegId) (first second : LineId) (w : ℕ) : Type 0 where
  pub seg_known : seg.0 < length segs
  pub differ : first.0 ≢ second.0
  pub first_on : IsOn segs seg first
  pub second_on : IsOn segs seg second
  pub weight : IsWeight w

-- two lines, the lesser first, that stand on two segments, the lesser first
pub record IsPair (segs : List (List LineId)) (seg other : SegId) (a b : LineId) (w : ℕ) : Type 0 where
  pub other_known : other.0 < length segs
  pub seg_below : seg.0 < other.0
  pub a_below : a.0 < b.0
  pub a_on : IsOn segs seg a
  pub b_on : IsOn segs seg b
  pub a_on_other : IsOn segs other a
  pub b_on_other : IsOn segs other b
  pub weight : IsWeight w

-- a term names segments of the problem and two different lines on each of them
abbrev pub IsTerm : List (List LineId) → Term → Type 0
IsTerm segs (Side seg first second w) = IsSide segs seg first second w
IsTerm segs (Link seg other flip a b w) = IsPair segs seg other a b w
IsTerm segs (Apart seg other a b w) = IsPair segs seg other a b w

-- how many choices an order of these lines is
abbrev pub choices : List LineId → ℕ
choices lines = length lines - 1

-- the parts fit together
pub record IsProblem (p : ProblemParts) : Type 0 where
  pub rising : All AreRising p.segs
  pub terms : All (IsTerm p.segs) p.terms
  pub few_terms : length p.terms ≤ 4000000
  pub few_choices : length p.segs + sum_by choices p.segs ≤ 20000000
