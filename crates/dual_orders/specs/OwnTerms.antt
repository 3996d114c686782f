-- The terms on a segment of a part by itself.
use Rattle.std.specs.Prelude.{ℕ, List, map, sum_by, slice_index_or}
use Rattle.map_base.specs.declared.ids.SegId.{SegId}
use Rattle.map_base.specs.declared.ids.LineId.{LineId}
use Rattle.order_model.specs.declared.term.Term.{Term}
use Rattle.order_model.specs.declared.problem.ProblemParts.{ProblemParts}
use Rattle.order_model.specs.Costs.{term_cost}
use Rattle.order_model.specs.PartTerms.{no_term}
use Rattle.dual_shares.specs.Groups.{numbers_on}
use Rattle.dual_ascent.specs.OwnNumbers.{all_terms}

-- the numbers of all terms
abbrev pub all_numbers : ProblemParts → List ℕ
all_numbers p = map (λ (q : ℕ × Term). q.0) (all_terms p)

-- those of the terms on a segment
abbrev pub own_numbers : ProblemParts → SegId → List ℕ
own_numbers p s = numbers_on p.terms (all_numbers p) s

-- the term of a number
abbrev pub term_at : List Term → ℕ → Term
term_at terms n = slice_index_or terms n no_term

-- the terms on a segment
abbrev pub own_terms : ProblemParts → SegId → List Term
own_terms p s = map (term_at p.terms) (own_numbers p s)

-- what they cost under orders
abbrev pub cost_on : ProblemParts → SegId → List (List LineId) → ℕ
cost_on p s orders = sum_by (term_cost orders) (own_terms p s)
