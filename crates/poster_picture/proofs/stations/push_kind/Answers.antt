use Rattle.std.proofs.Common.{List, ◌++◌, string_bytes, ap, sym, ◌∙◌}
use Rattle.graph_core.specs.declared.parts.NodeKind.{NodeKind}
use Rattle.poster_rules.specs.Elements.{texts, Element}
use Rattle.poster_rules.specs.Posters.{station_elements, strokes_at}
use Rattle.poster_picture.specs.Sheets.{plain}
use Rattle.poster_picture.proofs.Wholes.{station_is, station_written}
use Rattle.poster_picture.proofs.stations.push_kind.Goals as goal

pub returns-in_ok-close_group-in-Station : goal.returns-in_ok-close_group-in-Station
returns-in_ok-close_group-in-Station c =
    let sheet = plain c.args.sheet in
    let n = c.args.n.0 in
    let old = string_bytes c.args.text.now in
    station_written n c.callers_at-callers.result.now c.station_name.result.now (strokes_at sheet n c.callers_at-callers.result.now) old _ _ _ c.in_ok-push_station-in-Station.ensures (c.in_ok-push_strokes-in-Station.ensures c.callers_at-callers.ensures) c.in_ok-close_group-in-Station.ensures
    ∙ ap (λ (es : List Element). old ++ texts es) (station_is sheet n c.in-Station.station c.callers_at-callers.result.now c.station_name.result.now c.callers_at-callers.ensures c.station_name.ensures)
    ∙ sym (ap (λ (k : NodeKind). old ++ texts (station_elements sheet n k)) c.in-Station.is)
