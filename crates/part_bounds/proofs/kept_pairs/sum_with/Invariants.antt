use Rattle.std.proofs.Common.{◌≡◌, take}
use Rattle.std.specs.Prelude.{sum_by}
use Rattle.part_bounds.specs.PairGroups.{groups_in, share_of}
use Rattle.pair_bounds.specs.Slots.{KeepsRoom}
use Rattle.part_bounds.proofs.kept_pairs.sum_with.Given as goal

abbrev pub invariant-loop-place : goal.invariant-loop-place
invariant-loop-place l = record {
  total : l.total ≡ sum_by (share_of l.problem.segs l.part l.prefix.placed) (take l.place (groups_in l.pairs));
  room : KeepsRoom l.fn.room l.room;
}
