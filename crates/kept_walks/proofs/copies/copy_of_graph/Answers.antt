use Rattle.std.proofs.Common.{◌∙◌}
use Rattle.kept_walks.proofs.Graphs.{fits_again}
use Rattle.kept_walks.proofs.copies.copy_of_graph.Goals as goal

pub new-requires : goal.new-requires
new-requires c =
    fits_again c.args.graph.now c.of.result c.of-2.result c.of-3.result c.of-4.result c.of-5.result c.of-6.result (c.of.ensures ∙ c.in_ok-kinds.ensures) (c.of-2.ensures ∙ c.in_ok-places.ensures)
    (c.of-3.ensures ∙ c.in_ok-ends.ensures) (c.of-4.ensures ∙ c.in_ok-lines.ensures) (c.of-5.ensures ∙ c.in_ok-rounds.ensures) (c.of-6.ensures ∙ c.in_ok-joins.ensures) c.nodes-nodes.ensures.fits
