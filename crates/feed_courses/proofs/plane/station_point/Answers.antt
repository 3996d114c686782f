use Rattle.std.proofs.Common.{◌≡◌, refl, sym, ◌∙◌, ap, Some, length, rules}
use Rattle.std.specs.List.{slice_get}
use Rattle.std.proofs.lemmas.Option.{slice_get_read}
use Rattle.fixed_plane.specs.Plane.{projected}
use Rattle.feed_courses.specs.Places.{feed_band, point_of_station}
use Rattle.feed_courses.proofs.plane.station_point.Goals as goal

pub returns-clause-value : goal.returns-clause-value
returns-clause-value c =
    let stations = c.args.stations.now in
    let station = c.index-stations-number.result in
    let is : c.point_of.result ≡ projected station.lat station.lon c.args.band = search rules in
    let there : slice_get stations c.args.number ≡ Some station = slice_get_read stations (length stations) c.args.number station refl c.requires.in_range c.index-stations-number.is in
    is ∙ ap (projected station.lat station.lon) c.requires.band ∙ sym (ap (point_of_station (feed_band stations)) there)
