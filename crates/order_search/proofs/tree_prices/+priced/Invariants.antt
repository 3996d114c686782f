use Rattle.std.proofs.Common.{◌≡◌, map, take}
use Rattle.order_proof.specs.Plain.{plain}
use Rattle.order_search.specs.Pricing.{priced_case}
use Rattle.order_search.specs.Searching.{part_of}
use Rattle.order_search.proofs.tree_prices.+priced.Given as goal

abbrev pub invariant-priced_cases-loop-child : goal.invariant-priced_cases-loop-child
invariant-priced_cases-loop-child l = record {
  kept : l.bounds ≡ l.fn.bounds;
  cases : map (λ c. (c.0, plain c.1)) l.cases.items
      ≡ map (priced_case (part_of l.fn.bounds) l.fn.bounds.placed l.seg) (take l.child-index l.children);
}
