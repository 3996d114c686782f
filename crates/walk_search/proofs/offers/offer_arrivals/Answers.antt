use Rattle.std.proofs.Common.{◌≡◌, refl, sym, ◌∙◌, ap, ap₂, subst, ℕ, ◌+◌, ◌*◌, ◌≤◌, Option, List, length, arith}
use Rattle.std.proofs.lemmas.Result.{on_ok_weaker}
use Rattle.state_search.specs.Searching.{AreLowered, IsLowered}
use Rattle.walk_search.specs.Asking.{question}
use Rattle.walk_search.specs.Moves.{space_of}
use Rattle.walk_search.specs.Offers.{arrival_offer, arrival_offers}
use Rattle.state_search.specs.Rows.{with_row}
use Rattle.walk_search.proofs.Offered.{offered_in_row}
use Rattle.walk_search.proofs.Rounds.{offer_more}
use Rattle.state_search.proofs.RowLowering.{with_row-same}
use Rattle.state_search.proofs.RowTables.{length-with_row}
use Rattle.walk_search.proofs.offers.offer_arrivals.Goals as goal

pub loop-arrival-init : goal.loop-arrival-init
loop-arrival-init c = record {
  whole = c.row-row.ensures.whole;
  lowered = (ap (with_row c.args.known.now c.place_of-number.result) c.row-row.ensures.value ∙ with_row-same c.args.known.now c.place_of-number.result, refl);
}

pub loop-arrival-preserved : goal.loop-arrival-preserved
loop-arrival-preserved c =
    let q = question c.args.asked.now in
    let table = c.args.known.now in
    let place : ℕ = c.place_of-number.result in
    let fits : place * 9 + 9 ≤ length table = omega (arith, c.place_of-number.ensures.within, c.requires.each) in
    record {
      whole = c.in_ok-lower_in.ensures.whole;
      lowered =
          offer_more (space_of q).ahead table (with_row table place c.loop-arrival.row.costs) (with_row table place c.lower_in.new.row.costs) c.args.queue.now c.loop-arrival.queue c.lower_in.new.queue
          (arrival_offer q c.args.p c.args.group c.args.dir c.args.cost) c.loop-arrival.arrival c.loop-arrival.invariant.lowered
          (subst (λ (n : ℕ). IsLowered ((space_of q).ahead (arrival_offer q c.args.p c.args.group c.args.dir c.args.cost c.loop-arrival.arrival).0) (with_row table place c.loop-arrival.row.costs) (with_row table place c.lower_in.new.row.costs) c.loop-arrival.queue c.lower_in.new.queue (arrival_offer q c.args.p c.args.group c.args.dir c.args.cost c.loop-arrival.arrival).0 n)
          (ap₂ (λ (x y : ℕ). c.args.cost + (x + y)) (c.from-step.ensures ∙ c.step_cost.ensures.cost) c.turn_from.ensures.value)
          (offered_in_row q (record { at = c.args.p; arrival = c.loop-arrival.arrival; group = c.args.group }) table c.loop-arrival.row.costs c.lower_in.new.row.costs c.loop-arrival.queue c.lower_in.new.queue
          place c.ahead_at-ahead.result (c.args.cost + (c.from-step.result + c.turn_from.result)) (record { inside = c.requires.inside; arrival = omega arith; group = c.requires.group })
          c.ahead_at-ahead.ensures.value c.place_of-number.ensures.value fits c.loop-arrival.invariant.whole c.in_ok-lower_in.ensures.lowered));
    }

pub returns-clause-each : goal.returns-clause-each
returns-clause-each c =
    let fits : c.place_of-number.result * 9 + 9 ≤ length c.args.known.now = omega (arith, c.place_of-number.ensures.within, c.requires.each) in
    on_ok_weaker c.put.result
    (λ h. ap length h ∙ length-with_row c.args.known.now c.loop-arrival.row.costs c.place_of-number.result fits c.loop-arrival.invariant.whole ∙ c.requires.each)
    c.put.ensures

pub returns-clause-lowered : goal.returns-clause-lowered
returns-clause-lowered c =
    let q = question c.args.asked.now in
    let same : c.loop-arrival.arrival ≡ 8 = omega arith in
    on_ok_weaker c.put.result
    (λ h. subst (λ (t : List (Option ℕ)). AreLowered (space_of q).ahead c.args.known.now t c.args.queue.now c.loop-arrival.queue (arrival_offers q c.args.p c.args.group c.args.dir c.args.cost 8)) (sym h)
    (subst (λ (n : ℕ). AreLowered (space_of q).ahead c.args.known.now (with_row c.args.known.now c.place_of-number.result c.loop-arrival.row.costs) c.args.queue.now c.loop-arrival.queue (arrival_offers q c.args.p c.args.group c.args.dir c.args.cost n)) same
    c.loop-arrival.invariant.lowered))
    c.put.ensures
