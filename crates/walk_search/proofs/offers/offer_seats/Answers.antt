use Rattle.std.proofs.Common.{◌≡◌, subst, ℕ, length, arith}
use Rattle.state_search.specs.Searching.{AreLowered}
use Rattle.walk_search.specs.Asking.{question}
use Rattle.walk_search.specs.Moves.{space_of, starts_of}
use Rattle.walk_search.specs.Offers.{seat_offer, seat_offers}
use Rattle.walk_search.proofs.Rounds.{round_more}
use Rattle.walk_search.proofs.offers.offer_seats.Goals as goal

pub loop-i-preserved : goal.loop-i-preserved
loop-i-preserved c = record {
  each = c.in_ok-offer_seat.ensures.each;
  lowered =
      round_more (space_of (question c.args.asked.now)).ahead c.args.known.now c.loop-i.known c.offer_seat.new.known c.args.queue.now c.loop-i.queue c.offer_seat.new.queue (seat_offer (question c.args.asked.now) c.args.spot c.args.cost) c.loop-i.i
      c.loop-i.invariant.lowered c.in_ok-offer_seat.ensures.lowered;
}

pub returns-clause-lowered : goal.returns-clause-lowered
returns-clause-lowered c =
    let same : c.loop-i.i ≡ length (starts_of (question c.args.asked.now)) = omega (arith, c.start_count-i-end.ensures.value) in
    subst (λ (n : ℕ). AreLowered (space_of (question c.args.asked.now)).ahead c.args.known.now c.loop-i.known c.args.queue.now c.loop-i.queue (seat_offers (question c.args.asked.now) c.args.spot c.args.cost n)) same c.loop-i.invariant.lowered
