-- What the result of a search shows.
use Rattle.std.specs.Prelude.{◌≡◌, ◌≢◌, ℕ, ℤ, pos, ◌≤◌, true, List, None}
use Rattle.std.specs.List.{AllByRecursion}
use Rattle.map_base.specs.declared.ids.LineId.{LineId}
use Rattle.order_model.specs.declared.problem.ProblemParts.{ProblemParts}
use Rattle.order_model.specs.Costs.{cost_of, AreOrders}
use Rattle.order_model.specs.Questions.{question}
use Rattle.order_values.specs.PriceLists.{AreRisingPrices}
use Rattle.order_values.specs.DualTrees.{PlainDual, fork, stop, fork_depth}
use Rattle.dual_bound.specs.Accepting.{failing}
use Rattle.dual_ascent.specs.OwnNumbers.{all_segments, all_terms}
use Rattle.dual_ascent.specs.DualResults.{DualResult, most_forks}

-- at each stop the terms rise, and no price is 0
abbrev pub IsListed : PlainDual → Type 0
IsListed (fork seg a b first second) = IsListed first × IsListed second
IsListed (stop prices) = AreRisingPrices prices × AllByRecursion (λ (q : ℕ × ℤ). q.1 ≢ pos 0) prices

-- no node of its tree fails at the target, so no orders of the segments cost less; where the search is complete, its orders
-- cost the target, so they cost least. It counts no more branch nodes than the budget
pub record IsShown (p : ProblemParts) (budget : ℕ) (r : DualResult) : Type 0 where
  pub orders : AreOrders p.segs r.orders
  pub unfailing : failing (question p.segs (all_segments p) (all_terms p) r.target) r.tree ≡ None
  pub shallow : fork_depth r.tree ≤ most_forks
  pub listed : IsListed r.tree
  pub attained : r.complete ≡ true → cost_of p.terms r.orders ≡ r.target
  pub bounds : (others : List (List LineId)) → AreOrders p.segs others → r.target ≤ cost_of p.terms others
  pub within : r.branches ≤ budget
