use Rattle.std.proofs.Common.{◌≡◌, ◌++◌, length, drop, string_bytes}
use Rattle.svg_writer.specs.Elements.{texts}
use Rattle.svg_writer.specs.Picture.{line_elements, segment_elements}
use Rattle.svg_writer.proofs.lines.push_segment.Given as goal

-- what is written and what is left are the whole
abbrev pub invariant-loop-i : goal.invariant-loop-i
invariant-loop-i g l =
    string_bytes l.text ++ texts l.scene.style (line_elements l.scene.names.now (g.D.Drawn.courses l.scene.drawn.now) l.s (length l.order) l.i (drop l.i l.order))
    ≡ string_bytes l.fn.text ++ texts l.scene.style (segment_elements l.scene.names.now (g.D.Drawn.courses l.scene.drawn.now) l.scene.orders.now.lists l.s)
