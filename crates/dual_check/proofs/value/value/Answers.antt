use Rattle.std.proofs.Common.{◌≡◌, ℕ, ℤ, ◌∙◌, ◌+◌, ◌-◌, ◌<◌, List, length, sym, ap, arith, rules, w64, to_z, of_z, Some}
use Rattle.std.specs.Prelude.{◌+ℤ◌}
use Rattle.std.specs.Int.{w128}
use Rattle.std.proofs.lemmas.Int.{ints, to_z-of_z}
use Rattle.order_values.specs.PriceLists.{price_at}
use Rattle.dual_bound.specs.declared.settled.SettledPair.{SettledPair}
use Rattle.dual_check.specs.Asking.{question_of}
use Rattle.dual_check.specs.Settling.{pairs_of}
use Rattle.dual_check.specs.Nodes.{share_at}
use Rattle.dual_check.proofs.Known.{part_few}
use Rattle.dual_check.proofs.Values.{value_none, value_next, sum_low, sum_high}
use Rattle.dual_check.proofs.value.value.Goals as goal

pub returns-in-None-clause-value : goal.returns-in-None-clause-value
returns-in-None-clause-value c =
    let share =
    c.share_at.ensures.share
    ∙ (ap (λ (l : List SettledPair). share_at c.args.asked.now l c.loop-k.node.prices.items (c.loop-k.k - 1)) c.loop-k.invariant.same.settled
    ∙ ap (λ (l : List (ℕ × ℤ)). share_at c.args.asked.now c.args.node.now.settled.items l (c.loop-k.k - 1)) c.loop-k.invariant.same.prices) in
    let below : c.loop-k.k - 1 < length c.args.asked.now.part.now = omega (arith, c.loop-k-test.true, c.loop-k.auto.k) in
    value_none c.args.asked.now.problem.now.segs (question_of c.args.asked.now).terms (price_at c.args.node.now.prices.items) (pairs_of c.args.node.now.settled.items) c.args.asked.now.part.now (c.loop-k.k - 1)
    (record { 0 = 0 }) below (sym c.in-None.is ∙ share)

pub with_share-total-requires-clause-low : goal.with_share-total-requires-clause-low
with_share-total-requires-clause-low c =
    let few = part_few c.args.asked.now.part.now (length c.args.asked.now.problem.now.segs) c.requires.asked.rising c.requires.asked.known in
    omega (arith, ints, c.loop-k.invariant.low, few, c.requires.asked.problem.few_choices)

pub with_share-total-requires-clause-high : goal.with_share-total-requires-clause-high
with_share-total-requires-clause-high c =
    let few = part_few c.args.asked.now.part.now (length c.args.asked.now.problem.now.segs) c.requires.asked.rising c.requires.asked.known in
    omega (arith, ints, c.loop-k.invariant.high, few, c.requires.asked.problem.few_choices)

pub loop-k-preserved : goal.loop-k-preserved
loop-k-preserved c =
    let share =
    c.share_at.ensures.share
    ∙ (ap (λ (l : List SettledPair). share_at c.args.asked.now l c.loop-k.node.prices.items (c.loop-k.k - 1)) c.loop-k.invariant.same.settled
    ∙ ap (λ (l : List (ℕ × ℤ)). share_at c.args.asked.now c.args.node.now.settled.items l (c.loop-k.k - 1)) c.loop-k.invariant.same.prices) in
    let below : c.loop-k.k - 1 < length c.args.asked.now.part.now = omega (arith, c.loop-k-test.true, c.loop-k.auto.k) in
    let read : to_z w64 (of_z w64 c.in-Some.share) ≡ c.in-Some.share = to_z-of_z w64 c.in-Some.share (search rules) in
    let is : to_z w128 (of_z w128 c.with_share-total.result) ≡ c.with_share-total.result = to_z-of_z w128 c.with_share-total.result (search rules) in
    let next : to_z w128 (of_z w128 c.with_share-total.result) ≡ to_z w128 c.loop-k.total-bits +ℤ c.in-Some.share = is ∙ omega (arith, ints, c.with_share-total.ensures.sum, read) in
    let before : c.loop-k.k ≡ c.loop-k.k - 1 + 1 = omega (arith, c.loop-k-test.true) in
    record {
      value = ap Some next
          ∙ value_next c.args.asked.now.problem.now.segs (question_of c.args.asked.now).terms (price_at c.args.node.now.prices.items) (pairs_of c.args.node.now.settled.items) c.args.asked.now.part.now c.loop-k.k
          (c.loop-k.k - 1) (record { 0 = 0 }) c.in-Some.share (to_z w128 c.loop-k.total-bits) before below (sym c.in-Some.is ∙ share) c.loop-k.invariant.value;
      low = sum_low (length c.args.asked.now.part.now) c.loop-k.k (c.loop-k.k - 1) (to_z w128 c.loop-k.total-bits) (to_z w128 (of_z w128 c.with_share-total.result)) before c.loop-k.auto.k
          (omega (arith, ints, is, c.with_share-total.ensures.low)) c.loop-k.invariant.low;
      high = sum_high (length c.args.asked.now.part.now) c.loop-k.k (c.loop-k.k - 1) (to_z w128 c.loop-k.total-bits) (to_z w128 (of_z w128 c.with_share-total.result)) before c.loop-k.auto.k
          (omega (arith, ints, is, c.with_share-total.ensures.high)) c.loop-k.invariant.high;
      same = record {
        settled = c.share_at.ensures.same.settled ∙ c.loop-k.invariant.same.settled;
        prices = c.share_at.ensures.same.prices ∙ c.loop-k.invariant.same.prices;
      };
      node = c.share_at.ensures.node;
      room = c.share_at.ensures.room;
    }
