use Rattle.std.proofs.Common.{◌∙◌, ℕ, ◌<◌, ◌≤◌, List, length, get_or, arith}
use Rattle.order_model.proofs.Pointing.{down_after, further_below, further_within, further_same}
use Rattle.order_model.proofs.labels.label_of.Goals as goal

pub loop-parents-preserved : goal.loop-parents-preserved
loop-parents-preserved c =
    let ps : List ℕ = c.loop-parents.parents in
    let at : ℕ = c.loop-parents.at in
    let known : at < length ps = omega (arith, c.loop-parents.invariant.0, c.requires.known, c.loop-parents.auto.parents) in
    let further : get_or ps (get_or ps at 0) 0 ≤ at = further_below ps at known c.loop-parents.invariant.1 in
    let is = rw c.point_further-at.ensures.value at c.point_further-at.ensures.set in
    rw (is, c.point_further-at.ensures.value) (
      omega (arith, further, c.loop-parents.invariant.0),
      down_after ps at _ known further c.loop-parents.invariant.1,
      λ ls ok. let before = c.loop-parents.invariant.2 ls ok in
          (further_within ls ps at known before.0, further_same ls ps at known before.0 ∙ before.1),
    )
