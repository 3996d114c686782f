use Rattle.std.proofs.Common.{◌≡◌, ◌+◌, length}
use Rattle.state_search.specs.Searching.{AreLowered}
use Rattle.walk_search.specs.Asking.{question}
use Rattle.walk_search.specs.Spots.{spots_of}
use Rattle.walk_search.specs.Moves.{space_of}
use Rattle.walk_search.specs.Offers.{end_offers}
use Rattle.walk_search.proofs.offers.offer_ends.Given as goal

abbrev pub invariant-loop-k : goal.invariant-loop-k
invariant-loop-k l = record {
  each : length l.known ≡ spots_of (question l.asked).board.bounds + 1;
  lowered :
      AreLowered (space_of (question l.asked)).ahead l.initial.known l.known l.initial.queue l.queue (end_offers (question l.asked) l.k);
}
