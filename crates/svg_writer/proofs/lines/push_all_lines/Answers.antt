use Rattle.std.proofs.Common.{string_bytes}
use Rattle.svg_writer.specs.Picture.{segment_elements}
use Rattle.svg_writer.proofs.Ranges.{numbered_more}
use Rattle.svg_writer.proofs.lines.push_all_lines.Goals as goal

pub loop-s-preserved : goal.loop-s-preserved
loop-s-preserved g c = numbered_more c.args.scene.now.style (segment_elements c.args.scene.now.names.now (g.D.Drawn.courses c.args.scene.now.drawn.now) c.args.scene.now.orders.now.lists) c.loop-s.s (string_bytes c.args.text.now) (string_bytes c.loop-s.text) (string_bytes c.push_segment.new.text) c.loop-s.invariant c.in_ok-push_segment.ensures
