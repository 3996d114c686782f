-- What a search finds in a part of a problem.
use Rattle.std.specs.Prelude.{◌≡◌, ℕ, ◌≤◌, true, List, slice_index_or}
use Rattle.map_base.specs.declared.ids.SegId.{SegId}
use Rattle.order_model.specs.declared.problem.ProblemParts.{ProblemParts}
use Rattle.order_model.specs.Costs.{term_cost}
use Rattle.order_model.specs.PartTerms.{part_terms, no_term}
use Rattle.order_model.specs.Prefixes.{none_placed}
use Rattle.order_proof.specs.Plain.{plain}
use Rattle.order_proof.specs.Trees.{splits_of, IsProofTree}
use Rattle.order_bound.specs.Accepting.{accepts}
use Rattle.order_model.specs.Questions.{question}
use Rattle.order_search.specs.declared.found.Found.{Found}
use Rattle.order_search.specs.LiveTrees.{BoundedPart, live_tree}
use Rattle.order_search.specs.Bounded.{bounded_part}
use Rattle.order_search.specs.Finding.{best_found, places_of, most_places, IsLeast, AreAttained}

-- a part of a problem, with its terms behind their numbers
abbrev pub part_in : ProblemParts → List SegId → BoundedPart
part_in problem part = bounded_part problem.segs part (part_terms problem.terms part)

-- the branch nodes of its live tree
abbrev pub branches_in : ProblemParts → List SegId → ℕ
branches_in problem part = splits_of (live_tree (part_in problem part)).tree

-- what the term of this number costs under the number order
abbrev pub cost_of_number : ProblemParts → ℕ → ℕ
cost_of_number problem n = term_cost problem.segs (slice_index_or problem.terms n no_term)

-- the live tree of the part is found, with its branch nodes and the orders that it finds. The target is the least cost of
-- the part, and that of the orders; the tree is accepted at it, and is one that a proof may have
pub record IsFoundIn (problem : ProblemParts) (part : List SegId) (f : Found) : Type 0 where
  pub tree : plain f.tree ≡ (live_tree (part_in problem part)).tree
  pub best : best_found f ≡ (live_tree (part_in problem part)).best
  pub branches : f.branches ≡ branches_in problem part
  pub places : places_of problem.segs part ≤ most_places
  pub least : IsLeast (part_in problem part) f.target
  pub attained : AreAttained (part_in problem part) f.orders.lists f.target
  pub accepted : accepts (question problem.segs part (part_terms problem.terms part) f.target) (none_placed problem.segs) (plain f.tree) ≡ true
  pub of_proofs : IsProofTree (plain f.tree)
