use Rattle.std.proofs.Common.{◌≡◌, ◌++◌, drop, string_bytes}
use Rattle.std.specs.List.{flat_map}
use Rattle.svg_writer.specs.Elements.{texts}
use Rattle.svg_writer.specs.Picture.{join_elements, node_joins}
use Rattle.svg_writer.proofs.lines.push_node_joins.Given as goal

-- what is written and what is left are the whole
abbrev pub invariant-loop-join : goal.invariant-loop-join
invariant-loop-join g l =
    string_bytes l.text ++ texts l.scene.style (flat_map (join_elements l.scene.names.now l.scene.graph.now (g.D.Drawn.courses l.scene.drawn.now) l.scene.orders.now.lists l.n) (drop l.join-index l.join-items))
    ≡ string_bytes l.fn.text ++ texts l.scene.style (node_joins l.scene.names.now l.scene.graph.now (g.D.Drawn.courses l.scene.drawn.now) l.scene.orders.now.lists l.n)
