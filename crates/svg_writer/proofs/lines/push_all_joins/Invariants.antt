use Rattle.std.proofs.Common.{◌≡◌, ◌++◌, string_bytes}
use Rattle.std.specs.List.{flat_map, range_with_len}
use Rattle.svg_writer.specs.Elements.{texts}
use Rattle.svg_writer.specs.Picture.{node_joins}
use Rattle.svg_writer.proofs.lines.push_all_joins.Given as goal

abbrev pub invariant-loop-n : goal.invariant-loop-n
invariant-loop-n g l = string_bytes l.text ≡ string_bytes l.fn.text ++ texts l.scene.style (flat_map (node_joins l.scene.names.now l.scene.graph.now (g.D.Drawn.courses l.scene.drawn.now) l.scene.orders.now.lists) (range_with_len 0 l.n))
