use Rattle.std.proofs.Common.{◌≡◌, ◌+◌, ◌*◌, length, map}
use Rattle.order_proof.specs.Plain.{plain, cases_of}
use Rattle.order_proof.specs.Trees.{splits_of_cases}
use Rattle.order_search.specs.Left.{room_of}
use Rattle.order_search.specs.Searching.{due_upto, HasGrown}
use Rattle.order_search.proofs.grow.+grow.Given as goal

abbrev pub decreases-grow : goal.decreases-grow
decreases-grow g l = 5 * room_of l.search.now.bounds.segs l.search.now.bounds.part l.search.now.bounds.placed + 4

abbrev pub decreases-grow_open : goal.decreases-grow_open
decreases-grow_open g l = 5 * room_of l.search.now.bounds.segs l.search.now.bounds.part l.search.now.bounds.placed + 3

abbrev pub decreases-grow_split : goal.decreases-grow_split
decreases-grow_split g l = 5 * room_of l.search.now.bounds.segs l.search.now.bounds.part l.search.now.bounds.placed + 2

abbrev pub decreases-grow_cases : goal.decreases-grow_cases
decreases-grow_cases g l = 5 * room_of l.search.now.bounds.segs l.search.now.bounds.part l.search.now.bounds.placed + 1

abbrev pub decreases-grow_case : goal.decreases-grow_case
decreases-grow_case g l = 5 * room_of l.search.now.bounds.segs l.search.now.bounds.part l.search.now.bounds.placed

abbrev pub invariant-grow_cases-loop-k : goal.invariant-grow_cases-loop-k
invariant-grow_cases-loop-k g l = record {
  all : l.count + l.start ≡ length l.fn.search.children.items;
  cases : map (λ c. (c.0, plain c.1)) l.cases.items ≡ (due_upto l.at l.start l.k l.fn.search).cases;
  grown : HasGrown l.fn.search l.search (due_upto l.at l.start l.k l.fn.search).best (splits_of_cases (cases_of (due_upto l.at l.start l.k l.fn.search).cases));
  steps : l.steps + l.fn.search.spent ≡ l.fn.steps + l.search.spent;
}
