use Rattle.order_search.specs.Searching.{AreShut}
use Rattle.order_search.proofs.search_state.next_open.Given as goal

abbrev pub invariant-loop-i : goal.invariant-loop-i
invariant-loop-i l = AreShut l.i l.search
