-- How the segments of each label are gathered into a part.
use Rattle.std.specs.Prelude.{◌≡◌, ◌≢◌, ℕ, zero, suc, ◌<◌, ◌≤◌, ◌==◌, List, [], ◌∷◌, ◌++◌, length, map, IsTrue, if◌then◌else◌, slice_index, slice_index_or, slice_set}
use Rattle.std.specs.Prelude.{Vec}
use Rattle.std.specs.Global.{Global}
use Rattle.map_base.specs.declared.ids.SegId.{SegId}
use Rattle.map_base.specs.declared.ids.LineId.{LineId}
use Rattle.order_model.specs.declared.term.Term.{Term}
use Rattle.order_model.specs.Parts.{is_wide, least_of, first_labels, class_labels}

-- the segments of each part
abbrev pub part_lists : List (Vec SegId Global) → List (List SegId)
part_lists parts = map (λ (p : Vec SegId Global). p.items) parts

-- the part of this least segment has one segment more
abbrev pub added : ℕ → ℕ → List SegId → List SegId
added label s part = if least_of part == label then part ++ record { 0 = s } ∷ [] else part

-- a segment that is its own label begins a part; any other joins the part of its label
abbrev pub with_member : ℕ → ℕ → List (List SegId) → List (List SegId)
with_member label s parts = if label == s then parts ++ (record { 0 = s } ∷ []) ∷ [] else map (added label s) parts

-- where the part of a label stands
abbrev pub with_place : ℕ → ℕ → ℕ → List ℕ → List ℕ
with_place label s place places = if label == s then slice_set places s place else places

-- the parts after a segment, which joins none where it has fewer than two lines
abbrev pub after_segment : List (List LineId) → List ℕ → ℕ → List (List SegId) → List (List SegId)
after_segment segs labels s parts = if is_wide segs s then with_member (slice_index labels s) s parts else parts

-- where parts stand after it
abbrev pub places_after : List (List LineId) → List ℕ → ℕ → ℕ → List ℕ → List ℕ
places_after segs labels s count places = if is_wide segs s then with_place (slice_index labels s) s count places else places

-- the parts of the segments below s
abbrev pub gathered : List (List LineId) → List ℕ → ℕ → List (List SegId)
gathered segs labels zero = []
gathered segs labels (suc s) = after_segment segs labels s (gathered segs labels s)

-- the parts of a problem: its segments with at least two lines by class, where Links and Aparts join classes
abbrev pub problem_parts : List (List LineId) → List Term → List (List SegId)
problem_parts segs terms = gathered segs (class_labels (first_labels (length segs)) terms) (length segs)

-- the part at this place, and no other, has this least segment
pub record IsOnlyAt (parts : List (List SegId)) (place label : ℕ) : Type 0 where
  pub known : place < length parts
  pub here : least_of (slice_index_or parts place []) ≡ label
  pub alone : (i : ℕ) → i < length parts → i ≢ place → least_of (slice_index_or parts i []) ≢ label

-- the label of a segment is not above it, is its own label, and is a segment with at least two lines where the one is
pub record AreGatherable (segs : List (List LineId)) (labels : List ℕ) : Type 0 where
  pub each : length labels ≡ length segs
  pub lowest : (s : ℕ) → s < length segs → slice_index labels s ≤ s
  pub rooted : (s : ℕ) → s < length segs → slice_index labels (slice_index labels s) ≡ slice_index labels s
  pub wide : (s : ℕ) → s < length segs → IsTrue (is_wide segs s) → IsTrue (is_wide segs (slice_index labels s))

-- where each part stands, once the segments below s are gathered
pub record ArePlaced (segs : List (List LineId)) (labels : List ℕ) (s : ℕ) (parts : List (List SegId)) (places : List ℕ) : Type 0 where
  pub each : length places ≡ length segs
  pub some : (i : ℕ) → i < length parts → 0 < length (slice_index_or parts i [])
  pub at : (i : ℕ) → i < length parts → slice_index places (least_of (slice_index_or parts i [])) ≡ i
  pub below : (i : ℕ) → i < length parts → least_of (slice_index_or parts i []) < s
  pub found : (r : ℕ) → r < s → IsTrue (is_wide segs r) → slice_index labels r ≡ r
      → (slice_index places r < length parts) × (least_of (slice_index_or parts (slice_index places r) []) ≡ r)
