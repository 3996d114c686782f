use Rattle.std.proofs.Common.{◌≤◌, take}
use Rattle.std.specs.List.{All}
use Rattle.part_bounds.specs.PairGroups.{Group, terms_in, groups_in}
use Rattle.part_bounds.proofs.pair_terms.most_terms.Given as goal

abbrev pub invariant-loop-entry : goal.invariant-loop-entry
invariant-loop-entry l = record {
  each : All (λ (g : Group). terms_in g ≤ l.most) (take l.entry-index (groups_in l.pairs));
  few : l.most ≤ 4000000;
}
