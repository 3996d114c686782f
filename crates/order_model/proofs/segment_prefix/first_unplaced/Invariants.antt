use Rattle.std.proofs.Common.{◌≢◌, ℕ, ◌<◌, get_or}
use Rattle.order_model.specs.Places.{no_place}
use Rattle.order_model.proofs.segment_prefix.first_unplaced.Given as goal

abbrev pub invariant-loop-i : goal.invariant-loop-i
invariant-loop-i l = (k : ℕ) → k < l.i → get_or l.places k 0 ≢ no_place
