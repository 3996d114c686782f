-- Sums along the numbers of terms.
use Rattle.std.proofs.Common.{◌≡◌, ℕ, ◌≤◌, List, length, map, take, ◌∙◌, ap}
use Rattle.std.specs.Prelude.{sum_by}
use Rattle.std.proofs.lemmas.List.{take_all}
use Rattle.order_model.specs.declared.term.Term.{Term}
use Rattle.dual_orders.specs.OwnTerms.{term_at}

-- all of them
pub sum_whole : (f : Term → ℕ) (terms : List Term) (numbers own : List ℕ) (i : ℕ) → numbers ≡ own → length numbers ≤ i → sum_by f (map (term_at terms) (take i numbers)) ≡ sum_by f (map (term_at terms) own)
sum_whole f terms numbers own i is over = ap (λ l. sum_by f (map (term_at terms) l)) (take_all i numbers over ∙ is)
