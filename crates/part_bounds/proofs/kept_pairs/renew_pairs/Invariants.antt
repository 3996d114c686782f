use Rattle.std.proofs.Common.{◌≡◌, ◌<◌, ℕ, true, false, take, get_or}
use Rattle.std.specs.Prelude.{sum_by}
use Rattle.part_bounds.specs.PairGroups.{groups_in, share_of}
use Rattle.part_bounds.specs.Kept.{AreKept}
use Rattle.pair_bounds.specs.Slots.{KeepsRoom}
use Rattle.part_bounds.proofs.kept_pairs.renew_pairs.Given as goal

abbrev pub invariant-loop-place : goal.invariant-loop-place
invariant-loop-place l = record {
  total : l.total ≡ sum_by (share_of l.problem.segs l.part l.prefix.placed) (take l.place (groups_in l.pairs));
  kept : AreKept l.problem l.part l.prefix.placed l.pairs l.kept;
  early : (k : ℕ) → k < l.place → get_or l.kept.stale.items k true ≡ false;
  room : KeepsRoom l.fn.room l.room;
}
