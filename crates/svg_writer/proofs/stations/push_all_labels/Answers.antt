use Rattle.std.proofs.Common.{string_bytes}
use Rattle.svg_writer.specs.Picture.{label, kind_at}
use Rattle.svg_writer.proofs.Ranges.{numbered_more}
use Rattle.svg_writer.proofs.stations.push_all_labels.Goals as goal

pub loop-n-preserved : goal.loop-n-preserved
loop-n-preserved g c = numbered_more c.args.scene.now.style (λ n. label c.args.scene.now.style c.args.scene.now.names.now c.args.scene.now.graph.now (g.D.Drawn.courses c.args.scene.now.drawn.now) n (kind_at c.args.scene.now.graph.now.kinds n)) c.loop-n.n (string_bytes c.args.text.now) (string_bytes c.loop-n.text) (string_bytes c.push_label_at.new.text) c.loop-n.invariant c.in_ok-push_label_at.ensures
