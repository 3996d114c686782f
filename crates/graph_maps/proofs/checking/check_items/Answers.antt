use Rattle.std.proofs.Common.{◌∙◌, length}
use Rattle.graph_maps.proofs.DrawnLemmas.{drawn_within}
use Rattle.graph_maps.proofs.checking.check_items.Goals as goal

pub weighty_lines-requires : goal.weighty_lines-requires
weighty_lines-requires c =
    drawn_within c.args.graph.now c.line_total.result (length c.args.importance.now) c.as_slice.result.now
    (c.as_slice.ensures.value ∙ c.in_ok-lines.ensures) c.line_total.ensures
