use Rattle.std.proofs.Common.{◌≡◌, ℕ, List, ◌++◌, string_bytes, ap, sym, ◌∙◌, append-nil}
use Rattle.graph_core.specs.declared.parts.NodeKind.{NodeKind}
use Rattle.line_offsets.specs.declared.corner.Corner.{Corner}
use Rattle.svg_writer.specs.Elements.{Label, element_text, texts}
use Rattle.svg_writer.specs.Picture.{radius_in, beside, station_name, label}
use Rattle.svg_writer.proofs.stations.push_label_of.Goals as goal

pub returns-in_ok-push_label-in-Station : goal.returns-in_ok-push_label-in-Station
returns-in_ok-push_label-in-Station g c =
    let style = c.args.scene.now.style in
    let names = c.args.scene.now.names.now in
    let graph = c.args.scene.now.graph.now in
    let drawn = g.D.Drawn.courses c.args.scene.now.drawn.now in
    let old = string_bytes c.args.text.now in
    let name = station_name names c.in-Station.station.0 in
    let at = beside style.gap (drawn.centre c.args.n) (radius_in style graph c.args.n) in
    let place : c.beside-place.result ≡ at =
    c.beside-place.ensures ∙ ap (λ (p : Corner). beside style.gap p c.in_ok-radius-in-Station.radius) c.centre.ensures.value
    ∙ ap (beside style.gap (drawn.centre c.args.n)) c.in_ok-radius-in-Station.ensures.value in
    c.in_ok-push_label-in-Station.ensures
    ∙ ap (λ (p : Corner). old ++ element_text style (Label p c.station_name.result.now)) place
    ∙ ap (λ (bytes : List ℕ). old ++ element_text style (Label at bytes)) c.station_name.ensures
    ∙ ap (λ (bytes : List ℕ). old ++ bytes) (sym (append-nil (element_text style (Label at name))))
    ∙ sym (ap (λ (k : NodeKind). old ++ texts style (label style names graph drawn c.args.n k)) c.in-Station.is)
