use Rattle.std.proofs.Common.{◌≡◌, ◌<◌, length, get_or, set, ◌∙◌, ap, arith}
use Rattle.std.proofs.lemmas.List.{get_or_default}
use Rattle.std.proofs.lemmas.List.Edits.{map_over_more}
use Rattle.std.proofs.lemmas.List.Elements.{All-set}
use Rattle.dual_ascent.specs.declared.pair_average.PairAverage.{PairAverage}
use Rattle.dual_ascent.specs.Averages.{never, with_order}
use Rattle.dual_rounds.specs.Ranges.{IsAverage}
use Rattle.dual_rounds.proofs.averages.average_on.Goals as goal

pub loop-k-preserved : goal.loop-k-preserved
loop-k-preserved c =
    let k = c.loop-k.k in
    let none : PairAverage = never (record { 0 = 0 }) (record { 0 = 0 }) in
    let x : PairAverage = get_or c.loop-k.averages k none in
    let each : length c.loop-k.averages ≡ length c.args.averages.now = c.loop-k.auto.averages in
    let below : k < length c.args.averages.now = omega (arith, c.loop-k-test.true, each) in
    let within : k < length c.loop-k.averages = omega (arith, below, each) in (
      ap (λ v. set c.loop-k.averages k v) c.with_order-average.ensures.value
          ∙ map_over_more (with_order c.args.round c.args.order.now) c.args.averages.now c.loop-k.averages k x below c.loop-k.invariant.0 (get_or_default c.loop-k.averages k none x within),
      All-set IsAverage c.loop-k.averages k c.with_order-average.result c.with_order-average.ensures.within c.loop-k.invariant.1,
    )
