use Rattle.std.proofs.Common.{◌≡◌, ◌++◌, string_bytes}
use Rattle.std.specs.List.{flat_map, range_with_len}
use Rattle.svg_writer.specs.Elements.{texts}
use Rattle.svg_writer.specs.Picture.{segment_elements}
use Rattle.svg_writer.proofs.lines.push_all_lines.Given as goal

abbrev pub invariant-loop-s : goal.invariant-loop-s
invariant-loop-s g l = string_bytes l.text ≡ string_bytes l.fn.text ++ texts l.scene.style (flat_map (segment_elements l.scene.names.now (g.D.Drawn.courses l.scene.drawn.now) l.scene.orders.now.lists) (range_with_len 0 l.s))
