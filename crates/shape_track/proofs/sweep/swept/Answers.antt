use Rattle.std.proofs.Common.{sym, ◌∙◌, ap, subst, ◌+◌, ◌-◌, Bool, List, Some, set, arith}
use Rattle.fixed_plane.specs.Measures.{dist2_of}
use Rattle.shape_track.specs.Snaps.{sample_at}
use Rattle.shape_track.proofs.Sweeping.{IsSweptFrom, one_more}
use Rattle.shape_track.proofs.sweep.swept.Goals as goal

pub loop-place-preserved : goal.loop-place-preserved
loop-place-preserved c =
    let s = c.loop-place.invariant in
    let samples = c.args.samples.now in
    let p = c.loop-place.place - 1 in
    let next = Some c.lesser-least.result.0 in
    let costs = set c.loop-place.costs p c.lesser-least.result.0 in
    subst (λ (row : List Bool). IsSweptFrom samples c.args.station c.args.later c.args.costs.now costs row next p) (sym c.put.ensures) (
    one_more samples c.args.station c.args.later c.args.costs.now c.loop-place.costs c.loop-place.row c.loop-place.next c.loop-place.place p c.cost-here.result c.lesser-least.result.0 c.lesser-least.result.1
    (omega arith) (omega arith) s
    (c.cost-here.ensures.value ∙ ap (λ n. dist2_of c.args.station (sample_at samples p) + n) (s.left p (omega arith)))
    c.cost-here.ensures.bounded c.lesser-least.ensures.least c.lesser-least.ensures.taken)
