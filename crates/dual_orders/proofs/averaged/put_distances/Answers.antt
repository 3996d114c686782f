use Rattle.std.proofs.Common.{◌≡◌, ◌+◌, ◌*◌, get_or, ◌∙◌, subst, arith}
use Rattle.std.proofs.lemmas.List.{get_or_default}
use Rattle.dual_shares.specs.CostRows.{AreSmallCosts}
use Rattle.dual_ascent.specs.declared.pair_average.PairAverage.{PairAverage}
use Rattle.dual_ascent.specs.Averages.{never}
use Rattle.dual_orders.proofs.Adding.{distances_more}
use Rattle.dual_orders.proofs.averaged.put_distances.Goals as goal

pub loop-average-preserved : goal.loop-average-preserved
loop-average-preserved c =
    let i = c.loop-average.average-index in
    let none : PairAverage = never (record { 0 = 0 }) (record { 0 = 0 }) in
    let x : PairAverage = get_or c.args.averages.now i none in
    let few = c.requires.few_pairs in
    let three : 3 * i + 3 ≡ 3 * (i + 1) = omega arith in
    let below = c.loop-average-test.true in (
      c.add_distance.ensures.room,
      c.add_distance.ensures.added.count ∙ c.loop-average.invariant.1,
      distances_more c.args.lines.now c.args.averages.now i x c.loop-average.rows c.add_distance.new.rows below
          (get_or_default c.args.averages.now i none x below) c.loop-average.invariant.2 c.add_distance.ensures.added,
      subst (λ m. AreSmallCosts m c.add_distance.new.rows) three
          (c.add_distance.ensures.small (3 * i) (omega (arith, few, below)) c.loop-average.invariant.3),
    )
