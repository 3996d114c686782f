use Rattle.std.proofs.Common.{◌≡◌, subst, ℕ, ◌*◌, ◌%◌, length, arith}
use Rattle.octi_grid.specs.declared.point.GridPoint.{GridPoint}
use Rattle.state_search.specs.Searching.{AreLowered}
use Rattle.walk_search.specs.Asking.{question}
use Rattle.walk_search.specs.Moves.{ends_of, space_of}
use Rattle.walk_search.specs.Offers.{end_offers, offers_at_end, place_offers}
use Rattle.walk_search.proofs.Rounds.{round_more}
use Rattle.walk_search.proofs.offers.offer_ends.Goals as goal

pub loop-k-preserved : goal.loop-k-preserved
loop-k-preserved c =
    let q = question c.args.asked.now in
    record {
      each = c.in_ok-offer_ends_at.ensures.each;
      lowered =
          round_more (space_of q).ahead c.args.known.now c.loop-k.known c.offer_ends_at.new.known c.args.queue.now c.loop-k.queue c.offer_ends_at.new.queue (place_offers q) c.loop-k.k c.loop-k.invariant.lowered
          (subst (λ (p : GridPoint). AreLowered (space_of q).ahead c.loop-k.known c.offer_ends_at.new.known c.loop-k.queue c.offer_ends_at.new.queue (offers_at_end q p (c.loop-k.k % 10) 8)) c.end.ensures.value c.in_ok-offer_ends_at.ensures.lowered);
    }

pub returns-clause-lowered : goal.returns-clause-lowered
returns-clause-lowered c =
    let q = question c.args.asked.now in
    let same : c.loop-k.k ≡ 10 * length (ends_of q) = omega (arith, c.end_count-k-end.ensures.value) in
    subst (λ (n : ℕ). AreLowered (space_of q).ahead c.args.known.now c.loop-k.known c.args.queue.now c.loop-k.queue (end_offers q n)) same c.loop-k.invariant.lowered
