use Rattle.std.proofs.Common.{◌∙◌, ap}
use Rattle.run_status.specs.Outputs.{said}
use Rattle.table_commands.proofs.graph_command.draw.Goals as goal

pub returns-clause-tells : goal.returns-clause-tells
returns-clause-tells c = record {
  graph = c.in_ok-graph.graph;
  of_feed = c.in_ok-graph.ensures.graph;
  kept = c.in_ok-graph.ensures.kept;
  are = c.in_ok-say.ensures ∙ ap said c.in_ok-text.ensures;
}
