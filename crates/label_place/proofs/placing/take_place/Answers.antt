use Rattle.std.proofs.Common.{Option, unwrap_or, ap, ◌∙◌}
use Rattle.graph_core.specs.declared.parts.NodeKind.{NodeKind}
use Rattle.graph_core.specs.declared.parts.NodeKind.TheVariants.{Junction}
use Rattle.std.proofs.lemmas.Result.{IfOk-weaker}
use Rattle.label_place.proofs.Held.{takes_free, takes_none}
use Rattle.label_place.proofs.placing.take_place.Goals as goal

pub returns-in-Junction : goal.returns-in-Junction
returns-in-Junction c =
    takes_none c.args.grid.now c.args.names.now c.args.graph.now c.args.drawing.now.walks c.args.n.0 (ap (λ (o : Option NodeKind). unwrap_or o Junction) c.kind.ensures ∙ c.in-Junction.is)

pub returns-in_ok-sign-in-Station : goal.returns-in_ok-sign-in-Station
returns-in_ok-sign-in-Station c =
    let kind = ap (λ (o : Option NodeKind). unwrap_or o Junction) c.kind.ensures ∙ c.in-Station.is in
    IfOk-weaker c.take_first_free.result _ _
    (λ place h. takes_free c.args.grid.now c.take_first_free.new.grid c.args.names.now c.args.graph.now c.args.drawing.now.walks c.args.n.0 c.in-Station.field-0 c.in_ok-sign-in-Station.sign place kind c.in_ok-sign-in-Station.ensures.value h)
    c.take_first_free.ensures
