use Rattle.std.proofs.Common.{◌∙◌}
use Rattle.way_network.proofs.NodeLemmas.{equal_numbers}
use Rattle.way_network.proofs.nodes.have_equal_lines.Goals as goal

pub returns : goal.returns
returns c = c.eq.ensures ∙ equal_numbers c.args.a.now c.args.b.now
