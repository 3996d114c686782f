use Rattle.std.proofs.Common.{List, map, ap, ◌∙◌}
use Rattle.table_rows.specs.Ids.{is_among}
use Rattle.transit_feed.specs.Feeds.{Feed}
use Rattle.transit_feed.specs.declared.station.Station.{Station}
use Rattle.map_edits.specs.Effects.{station_id}
use Rattle.edit_session.proofs.SessionLemmas.{station_among}
use Rattle.edit_session.proofs.due.names_station.Goals as goal

pub returns : goal.returns
returns c =
    c.has_station.ensures ∙ station_among c.args.id.now c.as_slice.result.now
    ∙ ap (λ (stations : List Station). is_among c.args.id.now (map station_id stations)) (c.as_slice.ensures.value ∙ ap (λ (f : Feed). f.stations) c.tables.view_is)
