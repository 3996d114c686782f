use Rattle.std.proofs.Common.{◌≡◌, refl, sym, ◌∙◌, ap, subst, ℕ, ◌+◌, ◌*◌, ◌<◌, ◌≤◌, Option, List, length, arith}
use Rattle.std.proofs.lemmas.Result.{on_ok_weaker}
use Rattle.state_search.specs.Searching.{AreLowered}
use Rattle.walk_search.specs.Asking.{question}
use Rattle.walk_search.specs.Moves.{space_of}
use Rattle.walk_search.specs.Offers.{end_offer, offers_at_end}
use Rattle.state_search.specs.Rows.{with_row}
use Rattle.walk_search.proofs.Offered.{end_cheap, offered_end}
use Rattle.walk_search.proofs.Rounds.{round_more}
use Rattle.state_search.proofs.RowLowering.{with_row-same}
use Rattle.state_search.proofs.RowTables.{length-with_row}
use Rattle.walk_search.proofs.offers.offer_ends_in.Goals as goal

pub loop-arrival-init : goal.loop-arrival-init
loop-arrival-init c = record {
  whole = c.row-row.ensures.whole;
  lowered = (ap (with_row c.args.known.now c.place_of-number.result) c.row-row.ensures.value ∙ with_row-same c.args.known.now c.place_of-number.result, refl);
}

pub offer_end-requires-clause-cost : goal.offer_end-requires-clause-cost
offer_end-requires-clause-cost c = omega (arith, end_cheap (question c.args.asked.now) c.args.p c.args.group c.requires.ends, c.to_cost-cost.ensures)

pub loop-arrival-preserved : goal.loop-arrival-preserved
loop-arrival-preserved c =
    let q = question c.args.asked.now in
    let small : c.loop-arrival.arrival < 8 = omega arith in
    let fits : c.place_of-number.result * 9 + 9 ≤ length c.args.known.now = omega (arith, c.place_of-number.ensures.within, c.requires.each) in
    record {
      whole = c.in_ok-offer_end.ensures.whole;
      lowered =
          round_more (space_of q).ahead c.args.known.now (with_row c.args.known.now c.place_of-number.result c.loop-arrival.row.costs) (with_row c.args.known.now c.place_of-number.result c.offer_end.new.row.costs)
          c.args.queue.now c.loop-arrival.queue c.offer_end.new.queue (end_offer q c.args.p c.args.group) c.loop-arrival.arrival c.loop-arrival.invariant.lowered
          (offered_end q c.args.p c.args.group c.loop-arrival.arrival c.args.known.now c.loop-arrival.row.costs c.offer_end.new.row.costs c.loop-arrival.queue c.offer_end.new.queue
          c.place_of-number.result c.ahead_at-ahead.result c.to_cost-cost.result c.requires.ends small (record { inside = c.requires.inside; arrival = omega arith; group = c.requires.group })
          c.ahead_at-ahead.ensures.value c.place_of-number.ensures.value c.to_cost-cost.ensures fits c.loop-arrival.invariant.whole c.in_ok-offer_end.ensures.offered);
    }

pub returns-clause-each : goal.returns-clause-each
returns-clause-each c =
    let fits : c.place_of-number.result * 9 + 9 ≤ length c.args.known.now = omega (arith, c.place_of-number.ensures.within, c.requires.each) in
    on_ok_weaker c.put.result
    (λ h. ap length h ∙ length-with_row c.args.known.now c.loop-arrival.row.costs c.place_of-number.result fits c.loop-arrival.invariant.whole ∙ c.requires.each)
    c.put.ensures

pub returns-clause-lowered : goal.returns-clause-lowered
returns-clause-lowered c =
    let q = question c.args.asked.now in
    let same : c.loop-arrival.arrival ≡ 8 = omega arith in
    on_ok_weaker c.put.result
    (λ h. subst (λ (t : List (Option ℕ)). AreLowered (space_of q).ahead c.args.known.now t c.args.queue.now c.loop-arrival.queue (offers_at_end q c.args.p c.args.group 8)) (sym h)
    (subst (λ (n : ℕ). AreLowered (space_of q).ahead c.args.known.now (with_row c.args.known.now c.place_of-number.result c.loop-arrival.row.costs) c.args.queue.now c.loop-arrival.queue (offers_at_end q c.args.p c.args.group n)) same
    c.loop-arrival.invariant.lowered))
    c.put.ensures
