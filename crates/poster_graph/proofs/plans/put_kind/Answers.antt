use Rattle.std.proofs.Common.{List, ◌++◌, ap, sym, ◌∙◌}
use Rattle.graph_core.specs.declared.parts.NodeKind.{NodeKind}
use Rattle.poster_plan.specs.declared.plan.Mark.{Mark}
use Rattle.poster_rules.specs.Plans.{node_mark}
use Rattle.poster_graph.proofs.plans.put_kind.Goals as goal

pub returns-in_ok-push-in-Station : goal.returns-in_ok-push-in-Station
returns-in_ok-push-in-Station c =
    let s = c.args.served in
    let old = c.args.marks.now.items in
    c.in_ok-push-in-Station.ensures.items
    ∙ ap (λ (ms : List Mark). old ++ ms) (c.in_ok-mark-in-Station.ensures (record { 0 = 0 }))
    ∙ sym (ap (λ (k : NodeKind). old ++ node_mark s.names.now s.graph.now s.drawing.now.walks s.callers.now c.args.n.0 k) c.in-Station.is)
