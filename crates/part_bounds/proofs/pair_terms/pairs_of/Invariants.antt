use Rattle.std.proofs.Common.{◌≡◌, take, map}
use Rattle.order_model.specs.PartTerms.{terms_by_number}
use Rattle.part_bounds.specs.PairGroups.{pair_on, groups_in, groups_of}
use Rattle.part_bounds.proofs.pair_terms.pairs_of.Given as goal

abbrev pub invariant-loop-n : goal.invariant-loop-n
invariant-loop-n l = record {
  seen : l.seen.keys ≡ map pair_on l.pairs.items;
  grouped : groups_in l.pairs.items ≡ groups_of (terms_by_number l.terms (take l.n-index l.numbers));
}
