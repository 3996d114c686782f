-- What the command `stations` prints.
use Rattle.std.specs.Prelude.{ℕ, List}
use Rattle.std.specs.List.{flat_map}
use Rattle.feed_courses.specs.Places.{feed_band}
use Rattle.fixed_plane.specs.Plane.{projected}
use Rattle.printed_text.specs.Printed.{point_line}
use Rattle.transit_feed.specs.declared.station.Station.{Station}

-- the line of a station
abbrev pub station_line : ℕ → Station → List ℕ
station_line band station = point_line (projected station.lat station.lon band) station.id

-- a line for each station, in order
abbrev pub stations_text : List Station → List ℕ
stations_text stations = flat_map (station_line (feed_band stations)) stations
