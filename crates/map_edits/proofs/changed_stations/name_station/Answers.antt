use Rattle.std.proofs.Common.{◌≡◌, length, map, bytes_eq, Some, [], pos, sym, ap, subst, ◌∙◌, arith}
use Rattle.std.specs.List.{IsDistinct}
use Rattle.std.proofs.lemmas.List.{length-map}
use Rattle.table_rows.specs.Ids.{place_among}
use Rattle.transit_feed.specs.declared.station.Station.{Station}
use Rattle.map_edits.specs.Effects.{station_id, name_is}
use Rattle.map_edits.proofs.ChangeLemmas.{changed_there, changed_nowhere}
use Rattle.map_edits.proofs.changed_stations.name_station.Goals as goal

pub set_name-requires : goal.set_name-requires
set_name-requires c = omega (arith, c.in-Some.ensures.within, ap length c.requires.ids, length-map c.args.stations.now.items station_id)

pub returns-in-Some : goal.returns-in-Some
returns-in-Some c =
    let any : Station = record { id = []; name = []; lat = pos 0; lon = pos 0 } in
    let found : place_among (map station_id c.args.stations.now.items) c.args.id.now ≡ Some c.in-Some.place =
    ap (λ ids. place_among ids c.args.id.now) (sym c.requires.ids) ∙ sym c.in-Some.ensures.place in
    c.set_name.ensures any
    ∙ sym (changed_there station_id (name_is c.args.name) c.args.id.now c.args.stations.now.items c.in-Some.place any found (subst (IsDistinct bytes_eq) c.requires.ids c.requires.distinct))

pub returns-in-None : goal.returns-in-None
returns-in-None c =
    sym (changed_nowhere station_id (name_is c.args.name) c.args.id.now c.args.stations.now.items (ap (λ ids. place_among ids c.args.id.now) (sym c.requires.ids) ∙ sym c.in-None.ensures.place))
