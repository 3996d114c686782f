-- The parts of a problem.
use Rattle.std.specs.Prelude.{◌≡◌, ℕ, zero, suc, ◌<◌, ◌≤◌, ◌↔◌, ◌==◌, nat_le, Bool, true, false, ◌&&◌, ◌||◌, List, [], ◌∷◌, ◌++◌, length, map, All, Contains, IsTrue, if◌then◌else◌, min, max, slice_index, slice_index_or}
use Rattle.map_base.specs.declared.ids.SegId.{SegId}
use Rattle.map_base.specs.declared.ids.LineId.{LineId}
use Rattle.order_model.specs.declared.term.Term.{Term}
use Rattle.order_model.specs.declared.term.Term.TheVariants.{Side, Link, Apart}

-- these two numbers are those two, either way
abbrev pub are_ends : ℕ → ℕ → ℕ → ℕ → Bool
are_ends e f s t = (e == s && f == t) || (e == t && f == s)

-- the term is a Link or an Apart between segments s and t
abbrev pub is_between : Term → ℕ → ℕ → Bool
is_between (Side seg first second w) s t = false
is_between (Link seg other flip a b w) s t = are_ends seg.0 other.0 s t
is_between (Apart seg other a b w) s t = are_ends seg.0 other.0 s t

-- from segment s segment t is reached over Links and Aparts
pub data Reaches (terms : List Term) : ℕ → ℕ → Type 0 where
  itself : (s : ℕ) → Reaches terms s s
  onward : (s t u : ℕ) (x : Term) → Contains terms x → is_between x s t ≡ true → Reaches terms t u → Reaches terms s u

-- the segment has at least two lines, so there is something to order
abbrev pub is_wide : List (List LineId) → ℕ → Bool
is_wide segs s = nat_le 2 (length (slice_index_or segs s []))

-- the numbers of a part rise strictly, and it has some
abbrev pub IsRisingPart : List SegId → Type 0
IsRisingPart [] = ⊥
IsRisingPart (s ∷ []) = Unit {0}
IsRisingPart (s ∷ t ∷ rest) = (s.0 < t.0) × IsRisingPart (t ∷ rest)

-- the least segment of a part
abbrev pub least_of : List SegId → ℕ
least_of [] = 0
least_of (s ∷ rest) = s.0

-- parts stand by least segment
abbrev pub AreByLeast : List (List SegId) → Type 0
AreByLeast [] = Unit {0}
AreByLeast (p ∷ []) = Unit {0}
AreByLeast (p ∷ q ∷ rest) = (least_of p < least_of q) × AreByLeast (q ∷ rest)

-- the segments with at least two lines, in classes: two of them are in one part exactly where the one is reached
-- from the other
pub record AreParts (segs : List (List LineId)) (terms : List Term) (parts : List (List SegId)) : Type 0 where
  pub rising : All IsRisingPart parts
  pub by_least : AreByLeast parts
  pub wide : All (All (λ s. (s.0 < length segs) × IsTrue (is_wide segs s.0))) parts
  pub covered : (s : SegId) → s.0 < length segs → IsTrue (is_wide segs s.0) → (p : List SegId) × Contains parts p × Contains p s
  pub classes : (p : List SegId) (s t : SegId) → Contains parts p → Contains p s → t.0 < length segs → IsTrue (is_wide segs t.0)
      → (Contains p t ↔ Reaches terms s.0 t.0)

-- How parts are found: each segment has a label, at first its own number.

-- a label of the one class becomes that of the other
abbrev pub relabelled : ℕ → ℕ → ℕ → ℕ
relabelled low high l = if l == high then low else l

-- two classes become one, with the lower label
abbrev pub joined : List ℕ → ℕ → ℕ → List ℕ
joined labels a b = map (relabelled (min a b) (max a b)) labels

-- the classes of the two segments of a Link or an Apart become one; a Side joins none
abbrev pub joined_by : List ℕ → Term → List ℕ
joined_by labels (Side seg first second w) = labels
joined_by labels (Link seg other flip a b w) = joined labels (slice_index labels seg.0) (slice_index labels other.0)
joined_by labels (Apart seg other a b w) = joined labels (slice_index labels seg.0) (slice_index labels other.0)

-- the labels at first
abbrev pub first_labels : ℕ → List ℕ
first_labels zero = []
first_labels (suc n) = first_labels n ++ n ∷ []

-- the labels after these terms, one by one
abbrev pub class_labels : List ℕ → List Term → List ℕ
class_labels labels [] = labels
class_labels labels (t ∷ terms) = class_labels (joined_by labels t) terms

-- the labels tell the classes, and the label of a class is its least segment
pub record AreLabels (terms : List Term) (n : ℕ) (labels : List ℕ) : Type 0 where
  pub each : length labels ≡ n
  pub lowest : (s : ℕ) → s < n → slice_index labels s ≤ s
  pub rooted : (s : ℕ) → s < n → slice_index labels (slice_index labels s) ≡ slice_index labels s
  pub same : (s t : ℕ) → s < n → t < n → slice_index labels s ≡ slice_index labels t → Reaches terms s t
  pub reached : (s t : ℕ) → s < n → t < n → Reaches terms s t → slice_index labels s ≡ slice_index labels t

-- How labels are kept while classes become one: each segment points at one that is not above it, in its class.

-- no segment points above itself
abbrev pub PointDown : List ℕ → Type 0
PointDown parents = (s : ℕ) → s < length parents → slice_index parents s ≤ s

-- each segment points within its class, and only a label points at itself
pub record PointWithin (labels parents : List ℕ) : Type 0 where
  pub each : length parents ≡ length labels
  pub down : (s : ℕ) → s < length parents → slice_index parents s ≤ s
  pub same : (s : ℕ) → s < length parents → slice_index labels (slice_index parents s) ≡ slice_index labels s
  pub own : (s : ℕ) → s < length parents → slice_index parents s ≡ s → slice_index labels s ≡ s

-- a label is not above its segment, and is its own label
pub record AreOwnLabels (labels : List ℕ) : Type 0 where
  pub lowest : (s : ℕ) → s < length labels → slice_index labels s ≤ s
  pub rooted : (s : ℕ) → s < length labels → slice_index labels (slice_index labels s) ≡ slice_index labels s
