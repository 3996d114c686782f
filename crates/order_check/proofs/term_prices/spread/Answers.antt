use Rattle.std.proofs.Common.{◌≡◌, ℕ, ◌<◌, ◌∙◌, length, take, get_or, ap, sym, arith, refl, rules}
use Rattle.std.specs.Prelude.{ℤ, pos}
use Rattle.std.proofs.lemmas.List.{take_all}
use Rattle.whole_sums.specs.Sums.{int_sum}
use Rattle.order_check.specs.Slots.{cost_at}
use Rattle.order_check.specs.Counting.{shifted}
use Rattle.order_check.specs.Pricing.{price_on}
use Rattle.order_check.proofs.SignedSums.{sum_more}
use Rattle.order_check.proofs.Counting.{shifted_none, shifted_more, shifted_small}
use Rattle.order_check.proofs.term_prices.spread.Goals as goal
use Rattle.std.specs.Int.{w128}
use Rattle.std.proofs.lemmas.Int.{to_z-of_z}

pub spread_price-least-requires-clause-price : goal.spread_price-least-requires-clause-price
spread_price-least-requires-clause-price c = c.requires.small.each c.loop-j.j c.loop-j-test.true

pub spread_price-least-requires-clause-small : goal.spread_price-least-requires-clause-small
spread_price-least-requires-clause-small c = λ k x below.
    (let under : k < length c.args.costs.now = omega (arith, below, c.loop-j.invariant.each) in
    let sum = shifted_small c.args.off (cost_at c.args.costs.now k x) (int_sum (price_on c.args.terms.now k x) (take c.loop-j.j c.args.list.now)) 8192000000000 2048000000000 (c.requires.costs k x under)
    (c.requires.small.sums c.loop-j.j (omega (arith, c.loop-j-test.true)) k x) in
    rw (c.loop-j.invariant.slots k below x) (omega (arith, sum)))

pub loop-j-init : goal.loop-j-init
loop-j-init c = record {
  each = refl;
  least = to_z-of_z w128 c.args.least c.ranges.least ∙ c.requires.least;
  slots = λ k below x. shifted_none c.args.off (cost_at c.args.costs.now k x);
}

pub loop-j-preserved : goal.loop-j-preserved
loop-j-preserved c = record {
  each = omega (arith, c.loop-j.invariant.each, c.spread_price-least.auto.costs);
  least = to_z-of_z w128 c.spread_price-least.result (search rules) ∙ c.spread_price-least.ensures.least;
  slots = λ k below x.
      (let f : ℕ × ℤ → ℤ = price_on c.args.terms.now k x in
      let under : k < length c.loop-j.costs = omega (arith, below, c.spread_price-least.auto.costs) in
      shifted_more c.args.off (cost_at c.args.costs.now k x) (int_sum f (take c.loop-j.j c.args.list.now)) (f (get_or c.args.list.now c.loop-j.j (0, pos 0))) (cost_at c.spread_price-least.new.costs k x)
      (c.spread_price-least.ensures.slots k under x ∙ ap (λ v. shifted c.args.off v (f (get_or c.args.list.now c.loop-j.j (0, pos 0)))) (c.loop-j.invariant.slots k under x))
      ∙ ap (shifted c.args.off (cost_at c.args.costs.now k x)) (sym (sum_more f c.args.list.now c.loop-j.j (0, pos 0) c.loop-j-test.true)));
}

pub returns : goal.returns
returns c =
    let all : take c.loop-j.j c.args.list.now ≡ c.args.list.now = take_all c.loop-j.j c.args.list.now (omega (arith, c.loop-j-test.false)) in record {
      slots = λ k below x. c.loop-j.invariant.slots k (omega (arith, below, c.loop-j.invariant.each)) x
          ∙ ap (λ qs. shifted c.args.off (cost_at c.args.costs.now k x) (int_sum (price_on c.args.terms.now k x) qs)) all;
      least = c.loop-j.invariant.least;
    }
