-- The Aparts of a part by the segments on which they have ends.
use Rattle.std.specs.Prelude.{◌≡◌, ℕ, ◌<◌, ◌==◌, Bool, false, ◌||◌, List, [], ◌∷◌, ◌++◌, length, map, if◌then◌else◌, slice_index_or}
use Rattle.std.specs.Prelude.{Vec}
use Rattle.std.specs.Global.{Global}
use Rattle.map_base.specs.declared.ids.SegId.{SegId}
use Rattle.map_base.specs.declared.ids.LineId.{LineId}
use Rattle.order_model.specs.declared.term.Term.{Term}
use Rattle.order_model.specs.declared.term.Term.TheVariants.{Side, Link, Apart}
use Rattle.pair_bounds.specs.Counted.{settled_sum}
use Rattle.part_bounds.specs.declared.aparts.Aparts.{Aparts}

-- the term is an Apart with an end on the segment
abbrev pub is_apart_on : SegId → Term → Bool
is_apart_on s (Side seg first second w) = false
is_apart_on s (Link seg other flip a b w) = false
is_apart_on s (Apart seg other a b w) = seg.0 == s.0 || other.0 == s.0

-- the term, if it is one
abbrev pub apart_on : SegId → Term → List Term
apart_on s t = if is_apart_on s t then t ∷ [] else []

-- the Aparts with an end on a segment
abbrev pub aparts_on : SegId → List (ℕ × Term) → List Term
aparts_on s [] = []
aparts_on s (t ∷ terms) = if is_apart_on s t.1 then t.1 ∷ aparts_on s terms else aparts_on s terms

-- lists of terms as they lie in memory
abbrev pub lists_in : List (Vec Term Global) → List (List Term)
lists_in lists = map (λ (v : Vec Term Global). v.items) lists

-- for each of so many segments the Aparts that have an end there
pub record AreByEnds (count : ℕ) (terms : List (ℕ × Term)) (lists : List (List Term)) : Type 0 where
  pub each : length lists ≡ count
  pub on : (s : SegId) → s.0 < count → slice_index_or lists s.0 [] ≡ aparts_on s terms

-- an Apart has two ends, on two of so many segments
abbrev pub HasEnds : ℕ → Term → Type 0
HasEnds count (Side seg first second w) = Unit {0}
HasEnds count (Link seg other flip a b w) = Unit {0}
HasEnds count (Apart seg other a b w) = (seg.0 < other.0) × (other.0 < count)

-- the lists with a term more where it is an Apart
pub record AreMore (t : Term) (old new : List (List Term)) : Type 0 where
  pub each : length new ≡ length old
  pub on : (s : SegId) → s.0 < length old → slice_index_or new s.0 [] ≡ slice_index_or old s.0 [] ++ apart_on s t

-- the Aparts by the segments of their ends, with what the settled ones cost
pub record AreSettled (segs placed : List (List LineId)) (terms : List (ℕ × Term)) (aparts : Aparts) : Type 0 where
  pub by_ends : AreByEnds (length segs) terms (lists_in aparts.lists.items)
  pub total_is : aparts.total ≡ settled_sum segs placed terms
