use Rattle.std.proofs.Common.{◌≡◌, ◌≤◌, ◌++◌, vec_len, take}
use Rattle.std.specs.List.{flat_map}
use Rattle.order_terms.specs.Terms.{found_by}
use Rattle.order_terms.proofs.found.push_found_among.Given as goal

abbrev pub invariant-loop-u : goal.invariant-loop-u
invariant-loop-u l =
    (l.found.items ≡ l.initial.found.items ++ flat_map (λ u. flat_map (found_by l.end.weights l.end.at_lower l.end.seg u) l.ways) (take l.u-index l.ways)) × (vec_len l.found ≤ l.most)
