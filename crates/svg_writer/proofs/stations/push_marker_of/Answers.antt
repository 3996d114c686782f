use Rattle.std.proofs.Common.{ℕ, List, ◌++◌, string_bytes, ap, sym, ◌∙◌, append-nil}
use Rattle.graph_core.specs.declared.parts.NodeKind.{NodeKind}
use Rattle.line_offsets.specs.declared.corner.Corner.{Corner}
use Rattle.svg_writer.specs.Elements.{Marker, element_text, texts}
use Rattle.svg_writer.specs.Picture.{radius_in, marker}
use Rattle.svg_writer.proofs.stations.push_marker_of.Goals as goal

pub returns-in_ok-push_marker-in-Station : goal.returns-in_ok-push_marker-in-Station
returns-in_ok-push_marker-in-Station g c =
    let style = c.args.scene.now.style in
    let graph = c.args.scene.now.graph.now in
    let drawn = g.D.Drawn.courses c.args.scene.now.drawn.now in
    let old = string_bytes c.args.text.now in
    c.in_ok-push_marker-in-Station.ensures
    ∙ ap (λ (p : Corner). old ++ element_text style (Marker p c.in_ok-radius-in-Station.radius)) c.centre.ensures.value
    ∙ ap (λ r. old ++ element_text style (Marker (drawn.centre c.args.n) r)) c.in_ok-radius-in-Station.ensures.value
    ∙ ap (λ (bytes : List ℕ). old ++ bytes) (sym (append-nil (element_text style (Marker (drawn.centre c.args.n) (radius_in style graph c.args.n)))))
    ∙ sym (ap (λ (k : NodeKind). old ++ texts style (marker style graph drawn c.args.n k)) c.in-Station.is)
