use Rattle.std.proofs.Common.{◌≡◌, ◌++◌, Option, string_bytes, unwrap_or, ap, sym, ◌∙◌}
use Rattle.graph_core.specs.declared.parts.NodeKind.{NodeKind}
use Rattle.graph_core.specs.declared.parts.NodeKind.TheVariants.{Junction}
use Rattle.line_offsets.specs.declared.corner.Corner.{Corner}
use Rattle.svg_writer.specs.Elements.{texts}
use Rattle.svg_writer.specs.Picture.{placed_label, kind_at, spot_at}
use Rattle.svg_writer.proofs.Ranges.{numbered_more}
use Rattle.svg_writer.proofs.stations.push_placed_labels.Goals as goal

pub loop-n-preserved : goal.loop-n-preserved
loop-n-preserved g c =
    let names = c.args.scene.now.names.now in
    let kinds = c.args.scene.now.graph.now.kinds in
    let spots = c.args.spots.now in
    let n = c.loop-n.n in
    let kind : kind_at kinds n ≡ c.kind-kind.result = ap (λ (o : Option NodeKind). unwrap_or o Junction) c.kind-kind.ensures in
    numbered_more c.args.scene.now.style (λ n. placed_label names (kind_at kinds n) (spot_at spots n)) n (string_bytes c.args.text.now) (string_bytes c.loop-n.text) (string_bytes c.push_placed_label.new.text) c.loop-n.invariant
    (c.in_ok-push_placed_label.ensures
    ∙ ap (λ (k : NodeKind). string_bytes c.loop-n.text ++ texts c.args.scene.now.style (placed_label names k c.spot_at.result)) (sym kind)
    ∙ ap (λ (s : Option Corner). string_bytes c.loop-n.text ++ texts c.args.scene.now.style (placed_label names (kind_at kinds n) s)) c.spot_at.ensures)
