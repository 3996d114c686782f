use Rattle.std.proofs.Common.{◌&&◌, get_or, None, refl, sym, ap, ◌∙◌}
use Rattle.std.specs.HashMap.{get}
use Rattle.octi_grid.specs.Ways.{are_one}
use Rattle.octi_grid.specs.Taking.{may_put}
use Rattle.octi_grid.proofs.CheckLemmas.{ends_fit_by, ends_meet_by}
use Rattle.octi_grid.proofs.check.ends_fit.Goals as goal

pub returns-then-eq : goal.returns-then-eq
returns-then-eq c legs count tells hold =
    ends_meet_by legs (c.args.ends, c.args.walk.now) c.start-start.result c.end_of-end.result c.requires.order c.start-start.ensures c.end_of-end.ensures (sym c.eq.ensures ∙ c.if-eq.true)

pub returns-then-may_put : goal.returns-then-may_put
returns-then-may_put c legs count tells hold =
    ap (λ v. v && c.may_put-then-may_put.result) (sym c.if-may_put.true)
    ∙ ends_fit_by count legs c.args.taken.now (c.args.ends, c.args.walk.now) c.start-start.result c.end_of-end.result c.may_put.result c.may_put-then-may_put.result tells hold
    c.requires.order c.requires.nodes c.start-start.ensures c.end_of-end.ensures (sym c.eq.ensures ∙ c.if-eq.false) c.may_put.ensures c.may_put-then-may_put.ensures

pub returns-else-may_put : goal.returns-else-may_put
returns-else-may_put c legs count tells hold =
    let high = may_put (get_or c.args.taken.now.points.items c.args.ends.1.0 None) (get are_one c.args.taken.now.nodes c.end_of-end.result) c.args.ends.1.0 c.end_of-end.result in
    c.if-may_put.false ∙ ap (λ v. v && high) (sym c.if-may_put.false)
    ∙ ends_fit_by count legs c.args.taken.now (c.args.ends, c.args.walk.now) c.start-start.result c.end_of-end.result c.may_put.result high tells hold
    c.requires.order c.requires.nodes c.start-start.ensures c.end_of-end.ensures (sym c.eq.ensures ∙ c.if-eq.false) c.may_put.ensures refl
