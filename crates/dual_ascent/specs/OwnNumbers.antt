-- The segments and terms of a part that is a problem by itself, and numbers by term.
use Rattle.std.specs.Prelude.{ℕ, ℤ, pos, ◌+◌, ◌==◌, List, [], ◌∷◌, map, if◌then◌else◌, unsigned_abs, slice_index_or}
use Rattle.map_base.specs.declared.ids.SegId.{SegId}
use Rattle.map_base.specs.declared.ids.LineId.{LineId}
use Rattle.order_model.specs.declared.term.Term.{Term}
use Rattle.order_model.specs.declared.problem.ProblemParts.{ProblemParts}
use Rattle.order_model.specs.PartTerms.{numbered_from}

-- as many segments as there are lists, numbered from k on
abbrev pub segments_from : ℕ → List (List LineId) → List SegId
segments_from k [] = []
segments_from k (lines ∷ segs) = record { 0 = k } ∷ segments_from (k + 1) segs

-- all segments of the part
abbrev pub all_segments : ProblemParts → List SegId
all_segments p = segments_from 0 p.segs

-- all its terms, each behind its number
abbrev pub all_terms : ProblemParts → List (ℕ × Term)
all_terms p = numbered_from 0 p.terms

-- one number a term, all 0
abbrev pub zeros : ProblemParts → List ℤ
zeros p = map (λ (t : Term). pos 0) p.terms

-- the number of a term among these
abbrev pub number_of : List ℤ → ℕ → ℤ
number_of numbers k = slice_index_or numbers k (pos 0)

-- numbers that are not 0, each behind its place, from k on
abbrev pub listed_from : ℕ → List ℤ → List (ℕ × ℤ)
listed_from k [] = []
listed_from k (y ∷ numbers) = if unsigned_abs y == 0 then listed_from (k + 1) numbers else (k, y) ∷ listed_from (k + 1) numbers

-- the prices that are not 0, each behind its term's number
abbrev pub listed : List ℤ → List (ℕ × ℤ)
listed prices = listed_from 0 prices
