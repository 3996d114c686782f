use Rattle.std.proofs.Common.{◌≡◌, ℤ, to_z, of_z, w64, length, map, get_or, bytes_eq, Some, [], pos, sym, ap, subst, ◌∙◌, arith}
use Rattle.std.proofs.Math.ListN.{set}
use Rattle.std.proofs.lemmas.Int.{to_z-of_z}
use Rattle.std.specs.List.{IsDistinct}
use Rattle.std.proofs.lemmas.List.{length-map}
use Rattle.table_rows.specs.Ids.{place_among}
use Rattle.transit_feed.specs.declared.station.Station.{Station}
use Rattle.map_edits.specs.Effects.{station_id, place_is}
use Rattle.map_edits.proofs.ChangeLemmas.{changed_there, changed_nowhere}
use Rattle.map_edits.proofs.changed_stations.move_station.Goals as goal

pub set_place-requires : goal.set_place-requires
set_place-requires c = omega (arith, c.in-Some.ensures.within, ap length c.requires.ids, length-map c.args.stations.now.items station_id)

pub returns-in-Some : goal.returns-in-Some
returns-in-Some c =
    let any : Station = record { id = []; name = []; lat = pos 0; lon = pos 0 } in
    let found : place_among (map station_id c.args.stations.now.items) c.args.id.now ≡ Some c.in-Some.place =
    ap (λ ids. place_among ids c.args.id.now) (sym c.requires.ids) ∙ sym c.in-Some.ensures.place in
    let here : Station = get_or c.args.stations.now.items c.in-Some.place any in
    let lat = to_z-of_z w64 c.args.lat c.ranges.lat in
    let lon = to_z-of_z w64 c.args.lon c.ranges.lon in
    c.set_place.ensures any
    ∙ ap (λ (z : ℤ). set c.args.stations.now.items c.in-Some.place (place_is z (to_z w64 (of_z w64 c.args.lon)) here)) lat
    ∙ ap (λ (z : ℤ). set c.args.stations.now.items c.in-Some.place (place_is c.args.lat z here)) lon
    ∙ sym (changed_there station_id (place_is c.args.lat c.args.lon) c.args.id.now c.args.stations.now.items c.in-Some.place any found (subst (IsDistinct bytes_eq) c.requires.ids c.requires.distinct))

pub returns-in-None : goal.returns-in-None
returns-in-None c =
    sym (changed_nowhere station_id (place_is c.args.lat c.args.lon) c.args.id.now c.args.stations.now.items (ap (λ ids. place_among ids c.args.id.now) (sym c.requires.ids) ∙ sym c.in-None.ensures.place))
