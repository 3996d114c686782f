use Rattle.std.proofs.Common.{◌∙◌, ap, ap₂, arith}
use Rattle.drawing_search.proofs.Common.{least_between, point_of_node, GridPoint, NodeId}
use Rattle.drawing_search.proofs.trying.Search.between_ends.Goals as goal

pub point-to-requires : goal.point-to-requires
point-to-requires c = omega (arith, c.requires.to, ap (λ (n : NodeId). n.0) c.end-end.ensures)

pub returns : goal.returns
returns c =
    c.between.ensures.value
    ∙ ap₂ (λ (p q : GridPoint). least_between c.args.least p q) c.point-from.ensures (c.point-to.ensures ∙ ap (λ (n : NodeId). point_of_node c.args.self.now.sketch n.0) c.end-end.ensures)
