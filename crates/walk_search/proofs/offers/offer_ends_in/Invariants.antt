use Rattle.std.proofs.Common.{◌≡◌, length}
use Rattle.state_search.specs.Searching.{AreLowered}
use Rattle.walk_search.specs.Asking.{question}
use Rattle.walk_search.specs.Moves.{space_of}
use Rattle.walk_search.specs.Offers.{offers_at_end}
use Rattle.state_search.specs.Rows.{with_row}
use Rattle.walk_search.proofs.offers.offer_ends_in.Given as goal

abbrev pub invariant-loop-arrival : goal.invariant-loop-arrival
invariant-loop-arrival l = record {
  whole : length l.row.costs ≡ 9;
  lowered :
      AreLowered (space_of (question l.asked)).ahead l.initial.known (with_row l.initial.known l.number l.row.costs) l.initial.queue l.queue (offers_at_end (question l.asked) l.fn.p l.group l.arrival);
}
