use Rattle.std.proofs.Common.{[], ◌∷◌, ap}
use Rattle.poster_plan.specs.declared.plan.Mark.{Mark}
use Rattle.poster_rules.specs.Stations.{leaves_level, radius_at}
use Rattle.poster_rules.specs.Texts.{all_rests, name_width, printed_at}
use Rattle.poster_rules.specs.Plans.{point_of}
use Rattle.poster_graph.proofs.Marks.{same_mark}
use Rattle.poster_graph.proofs.plans.mark_of.Goals as goal

pub returns : goal.returns
returns c = λ s.
    let g = c.args.served.graph.now in
    let names = c.args.served.names.now in
    let walks = c.args.served.drawing.now.walks in
    let callers = c.args.served.callers.now in
    let n = c.args.n.0 in
    ap (λ (m : Mark). m ∷ [])
    (same_mark c.args.n c.point_of-at.result (point_of g walks n) c.in_ok-radius.radius (radius_at g callers n) c.args.name (name_width names g callers n (printed_at g (all_rests names g) n)) c.leaves_level-level.result (leaves_level g walks n)
    c.point_of-at.ensures c.in_ok-radius.ensures c.requires.name c.leaves_level-level.ensures)
