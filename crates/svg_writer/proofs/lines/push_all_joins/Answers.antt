use Rattle.std.proofs.Common.{string_bytes}
use Rattle.svg_writer.specs.Picture.{node_joins}
use Rattle.svg_writer.proofs.Ranges.{numbered_more}
use Rattle.svg_writer.proofs.lines.push_all_joins.Goals as goal

pub loop-n-preserved : goal.loop-n-preserved
loop-n-preserved g c = numbered_more c.args.scene.now.style (node_joins c.args.scene.now.names.now c.args.scene.now.graph.now (g.D.Drawn.courses c.args.scene.now.drawn.now) c.args.scene.now.orders.now.lists) c.loop-n.n (string_bytes c.args.text.now) (string_bytes c.loop-n.text) (string_bytes c.push_node_joins.new.text) c.loop-n.invariant c.in_ok-push_node_joins.ensures
