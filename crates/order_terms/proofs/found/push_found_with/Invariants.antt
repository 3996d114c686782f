use Rattle.std.proofs.Common.{◌≡◌, ◌≤◌, ◌++◌, vec_len, take}
use Rattle.std.specs.List.{flat_map}
use Rattle.order_terms.specs.Terms.{found_by}
use Rattle.order_terms.proofs.found.push_found_with.Given as goal

abbrev pub invariant-loop-v : goal.invariant-loop-v
invariant-loop-v l =
    (l.found.items ≡ l.initial.found.items ++ flat_map (found_by l.end.weights l.end.at_lower l.end.seg l.u) (take l.v-index l.ways)) × (vec_len l.found ≤ l.most)
