-- Which rules wait to be looked at.
use Rattle.std.specs.Prelude.{◌≡◌, ℕ, ◌<◌, ◌≤◌, ◌==◌, ◌⊎◌, Bool, true, ◌&&◌, List}
use Rattle.std.specs.List.{list_any}
use Rattle.std.specs.Option.{is_some}
use Rattle.map_base.specs.declared.ids.SegId.{SegId}
use Rattle.order_model.specs.declared.term.Term.{Term}
use Rattle.order_model.specs.declared.term.Term.TheVariants.{Side, Link, Apart}
use Rattle.order_model.specs.declared.problem.ProblemParts.{ProblemParts}
use Rattle.order_model.specs.Problems.{lines_on}
use Rattle.order_rules.specs.Merging.{is_link_between}
use Rattle.order_rules.specs.Untangling.{first_some, merge_of, divide_of}

-- the merge of two segments, by their numbers
abbrev pub is_merge : ℕ → ℕ → ℕ × ℕ → Bool
is_merge e f m = m.0 == e && m.1 == f

-- the merge of two segments waits, and the division of a segment
abbrev pub has_merge : List (ℕ × ℕ) → ℕ → ℕ → Bool
has_merge merges e f = list_any (is_merge e f) merges

abbrev pub has_divide : List ℕ → ℕ → Bool
has_divide divides e = list_any (λ s. s == e) divides

-- each merge that applies waits, and each segment that can be divided
pub record AllWait (p : ProblemParts) (merges : List (ℕ × ℕ)) (divides : List ℕ) : Type 0 where
  pub merges_wait : (e f : SegId) → is_some (merge_of p e f) ≡ true → has_merge merges e.0 f.0 ≡ true
  pub divides_wait : (e : SegId) → is_some (first_some (divide_of p e) (lines_on p.segs e)) ≡ true → has_divide divides e.0 ≡ true

-- no merge that waits is less than this one
abbrev pub IsLeastMerge : List (ℕ × ℕ) → ℕ → ℕ → Type 0
IsLeastMerge merges e f = (d g : ℕ) → has_merge merges d g ≡ true → (e < d) ⊎ ((e ≡ d) × (f ≤ g))

-- no segment that waits is less than this one
abbrev pub IsLeastDivide : List ℕ → ℕ → Type 0
IsLeastDivide divides e = (d : ℕ) → has_divide divides d ≡ true → e ≤ d

-- what waits still waits
abbrev pub StillWait : List (ℕ × ℕ) → List (ℕ × ℕ) → Type 0
StillWait old new = (e f : ℕ) → has_merge old e f ≡ true → has_merge new e f ≡ true

-- the merges either way of two segments wait
abbrev pub PairWaits : List (ℕ × ℕ) → SegId × SegId → Type 0
PairWaits merges pair = (has_merge merges pair.0.0 pair.1.0 ≡ true) × (has_merge merges pair.1.0 pair.0.0 ≡ true)

-- the merges either way of the two segments of a Link wait
abbrev pub LinkWaits : List (ℕ × ℕ) → Term → Type 0
LinkWaits merges (Side seg first second w) = Unit {0}
LinkWaits merges (Link seg other flip a b w) = (has_merge merges seg.0 other.0 ≡ true) × (has_merge merges other.0 seg.0 ≡ true)
LinkWaits merges (Apart seg other a b w) = Unit {0}

-- the merges of the two segments of each Link on a segment wait
abbrev pub LinksWait : List Term → SegId → List (ℕ × ℕ) → Type 0
LinksWait terms s merges = (e f : SegId) → (e.0 ≡ s.0) ⊎ (f.0 ≡ s.0) → list_any (is_link_between e f) terms ≡ true → has_merge merges e.0 f.0 ≡ true

-- so many segments were looked at: the merges of their Links wait, and their divisions
pub record AreLooked (terms : List Term) (n : ℕ) (merges : List (ℕ × ℕ)) (divides : List ℕ) : Type 0 where
  pub links : (e : SegId) → e.0 < n → LinksWait terms e merges
  pub segments : (e : ℕ) → e < n → has_divide divides e ≡ true
