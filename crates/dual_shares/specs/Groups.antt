-- The terms on a segment.
use Rattle.std.specs.Prelude.{ℕ, ◌==◌, Bool, ◌||◌, List, filter, slice_index_or}
use Rattle.map_base.specs.declared.ids.SegId.{SegId}
use Rattle.order_model.specs.declared.term.Term.{Term}
use Rattle.order_model.specs.Costs.{seg_of, other_of}
use Rattle.order_model.specs.PartTerms.{no_term}

-- one of the term's ends is the segment
abbrev pub is_on : SegId → Term → Bool
is_on s t = (seg_of t).0 == s.0 || (other_of t).0 == s.0

-- of these numbers those of terms on the segment
abbrev pub numbers_on : List Term → List ℕ → SegId → List ℕ
numbers_on terms numbers s = filter (λ n. is_on s (slice_index_or terms n no_term)) numbers
