use Rattle.std.proofs.Common.{◌≡◌, ◌≤◌, length, vec_len}
use Rattle.order_terms.specs.Terms.{terms_below}
use Rattle.order_terms.proofs.graph_terms.all_terms.Given as goal

abbrev pub invariant-loop-n : goal.invariant-loop-n
invariant-loop-n l = (l.terms.items ≡ terms_below l.graph l.weights l.importance l.n) × (vec_len l.terms ≤ 4000000) × (length l.places.items ≡ length l.graph.ends)
