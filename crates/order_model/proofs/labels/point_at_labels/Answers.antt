use Rattle.std.proofs.Common.{ℕ, ◌<◌, List, length, arith, add-one}
use Rattle.order_model.proofs.Pointing.{down_after, further_below, further_within, one_more_points, all_point}
use Rattle.order_model.proofs.labels.point_at_labels.Goals as goal

pub loop-s-preserved : goal.loop-s-preserved
loop-s-preserved c =
    let ps : List ℕ = c.loop-s.parents in
    let s : ℕ = c.loop-s.s in
    let known : s < length ps = omega (arith, c.loop-s-test.true, c.loop-s.auto.parents) in
    let is = rw c.point_further-label.ensures.value at c.point_further-label.ensures.set in
    rw (add-one, is) (
      down_after ps s _ known (further_below ps s known c.loop-s.invariant.0) c.loop-s.invariant.0,
      λ ls ok. let before = c.loop-s.invariant.1 ls ok in (further_within ls ps s known before.0, one_more_points ls ps s known before.0 before.1),
    )

pub returns : goal.returns
returns c ls ok = let all = c.loop-s.invariant.1 ls ok in all_point ls c.loop-s.parents all.0 (λ r below. all.1 r (omega (arith, below, c.loop-s-test.false, c.loop-s.auto.parents)))
