use Rattle.std.proofs.Common.{◌∙◌}
use Rattle.poster_rules.specs.Texts.{all_names}
use Rattle.poster_graph.proofs.Words.{rest_is}
use Rattle.poster_graph.proofs.texts.rest_at.Goals as goal

pub returns : goal.returns
returns c =
    let names = c.args.names.now in
    let g = c.args.graph.now in
    c.node_rest.ensures (all_names names g) c.requires.common ∙ rest_is names g c.args.n.0 c.kind.result c.requires.node c.kind.ensures
