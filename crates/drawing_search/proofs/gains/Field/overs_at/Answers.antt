use Rattle.std.proofs.Common.{refl, sym, ◌∙◌, ap, subst, ◌<◌, ◌≢◌, None, length, below_more, length-set, get_or-set_other, get_or-set_same, arith}
use Rattle.drawing_search.proofs.Common.{direction, fill_by_all, get_or_default, overs_by, scale_of, IsSmallOver}
use Rattle.drawing_search.proofs.gains.Field.overs_at.Goals as goal

pub loop-i-init : goal.loop-i-init
loop-i-init c = record { each = refl; values = λ k less. absurd (omega (arith, less)); small = λ k less. absurd (omega (arith, less)) }

pub loop-i-preserved : goal.loop-i-preserved
loop-i-preserved c =
    let f = c.args.self in
    let os = c.loop-i.overs in
    let i = c.loop-i.i in
    let h = c.loop-i.invariant in
    let new = c.over_by.result in
    let below : i < length os = omega (arith, c.loop-i-test.true, h.each) in
    let is = c.over_by.ensures.value ∙ ap (overs_by (scale_of f.by) f.graph.now c.args.sketch.now c.args.n.0 c.args.s) c.direction.ensures in
    record {
      each = length-set os i new ∙ h.each;
      values =
          below_more _ _ (λ k less. let ne : k ≢ i = (λ e. absurd (omega (arith, less, e))) in get_or-set_other os i k new None ne ∙ h.values k less)
          (get_or-set_same os i new None below ∙ is);
      small =
          below_more _ _ (λ k less. let ne : k ≢ i = (λ e. absurd (omega (arith, less, e))) in subst IsSmallOver (sym (get_or-set_other os i k new None ne)) (h.small k less))
          (subst IsSmallOver (sym (get_or-set_same os i new None below)) c.over_by.ensures.small);
    }

pub returns-clause-overs : goal.returns-clause-overs
returns-clause-overs c =
    let f = c.args.self in
    let h = c.loop-i.invariant in
    fill_by_all (λ k. overs_by (scale_of f.by) f.graph.now c.args.sketch.now c.args.n.0 c.args.s (direction k)) c.loop-i.overs 8 None h.each (λ k few. h.values k (omega (arith, few, c.loop-i-test.false)))

pub returns-clause-small : goal.returns-clause-small
returns-clause-small c =
    let h = c.loop-i.invariant in
    λ k d below. subst IsSmallOver (get_or_default c.loop-i.overs k None d below) (h.small k (omega (arith, below, h.each, c.loop-i-test.false)))
