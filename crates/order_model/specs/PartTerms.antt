-- The terms of a part, with the numbers by which the whole problem knows them.
use Rattle.std.specs.Prelude.{ℕ, zero, suc, ◌+◌, ◌==◌, Bool, ◌&&◌, List, [], ◌∷◌, ◌++◌, filter, map, slice_index_or, slice_set}
use Rattle.std.specs.List.{list_any}
use Rattle.map_base.specs.declared.ids.SegId.{SegId}
use Rattle.order_model.specs.declared.term.Term.{Term}
use Rattle.order_model.specs.declared.term.Term.TheVariants.{Side}
use Rattle.order_model.specs.Costs.{seg_of, other_of}

-- terms with their numbers, from k on
abbrev pub numbered_from : ℕ → List Term → List (ℕ × Term)
numbered_from k [] = []
numbered_from k (t ∷ terms) = (k, t) ∷ numbered_from (k + 1) terms

-- the segment is one of these
abbrev pub is_in : List SegId → SegId → Bool
is_in part s = list_any (λ (t : SegId). t.0 == s.0) part

-- the segments of the term are of the part
abbrev pub is_of : List SegId → Term → Bool
is_of part t = is_in part (seg_of t) && is_in part (other_of t)

-- the terms whose segments are of the part, each behind its number in the problem
abbrev pub part_terms : List Term → List SegId → List (ℕ × Term)
part_terms terms part = filter (λ (q : ℕ × Term). is_of part q.1) (numbered_from 0 terms)

-- their numbers alone
abbrev pub part_numbers : List Term → List SegId → List ℕ
part_numbers terms part = map (λ (q : ℕ × Term). q.0) (part_terms terms part)

-- numbered terms without their numbers
abbrev pub plain_terms : List (ℕ × Term) → List Term
plain_terms terms = map (λ (q : ℕ × Term). q.1) terms

-- what stands for a term that there is not
abbrev pub no_term : Term
no_term = Side (record { 0 = 0 }) (record { 0 = 0 }) (record { 0 = 0 }) 0

-- the terms of a problem that have these numbers, each behind its number
abbrev pub terms_by_number : List Term → List ℕ → List (ℕ × Term)
terms_by_number terms numbers = map (λ n. (n, slice_index_or terms n no_term)) numbers

-- so many lists without a number
abbrev pub no_numbers : ℕ → List (List ℕ)
no_numbers zero = []
no_numbers (suc n) = [] ∷ no_numbers n

-- a number is added to one of the lists
abbrev pub with_number : ℕ → ℕ → List (List ℕ) → List (List ℕ)
with_number k n lists = slice_set lists k (slice_index_or lists k [] ++ n ∷ [])
