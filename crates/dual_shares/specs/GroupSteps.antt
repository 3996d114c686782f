-- How terms come to the segments that they are on.
use Rattle.std.specs.Prelude.{◌≡◌, ℕ, ◌<◌, Bool, false, List, [], ◌∷◌, ◌++◌, length, slice_index_or, if◌then◌else◌, Option, Some, None}
use Rattle.map_base.specs.declared.ids.SegId.{SegId}
use Rattle.order_model.specs.declared.term.Term.{Term}
use Rattle.order_model.specs.PartTerms.{is_in, with_number}
use Rattle.dual_shares.specs.Groups.{is_on}

-- the segment stands at this place of the part, or is none of it
abbrev pub IsPlaceInPart : List SegId → SegId → Option ℕ → Type 0
IsPlaceInPart part s None = is_in part s ≡ false
IsPlaceInPart part s (Some k) = (k < length part) × (slice_index_or part k s ≡ s)

-- a number is added to the list of each segment that passes
abbrev pub with_number_where : (SegId → Bool) → ℕ → List SegId → List (List ℕ) → List (List ℕ)
with_number_where p n [] lists = lists
with_number_where p n (s ∷ part) [] = []
with_number_where p n (s ∷ part) (l ∷ lists) = (if p s then l ++ n ∷ [] else l) ∷ with_number_where p n part lists

-- the number of a term to those that it is on
abbrev pub with_term : List SegId → Term → ℕ → List (List ℕ) → List (List ℕ)
with_term part t n lists = with_number_where (λ (s : SegId). is_on s t) n part lists

-- a number is added to the list at this place, if there is one
abbrev pub with_number_at : Option ℕ → ℕ → List (List ℕ) → List (List ℕ)
with_number_at None n lists = lists
with_number_at (Some k) n lists = with_number k n lists
