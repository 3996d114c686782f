use Rattle.std.proofs.Common.{◌≡◌, length}
use Rattle.std.specs.List.{AllWithin}
use Rattle.part_bounds.specs.PairGroups.{KnowsOwn, groups_in}
use Rattle.part_bounds.proofs.pair_terms.find_segments.Given as goal

abbrev pub invariant-loop-place : goal.invariant-loop-place
invariant-loop-place l = record {
  same : groups_in l.pairs.items ≡ groups_in l.fn.pairs.items;
  each : length l.pairs.items ≡ length l.fn.pairs.items;
  own : AllWithin (KnowsOwn l.part) l.pairs.items 0 l.place;
}
