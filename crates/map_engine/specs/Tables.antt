-- What a map takes from the tables of a feed: names, colours, and how much each line counts.
use Rattle.std.specs.Prelude.{ℕ, List, [], ◌∷◌, map, bytes_eq, if◌then◌else◌}
use Rattle.map_base.specs.Settings.{Choices}
use Rattle.transit_feed.specs.declared.station.Station.{Station}
use Rattle.transit_feed.specs.declared.line.Line.{Line}
use Rattle.transit_feed.specs.Feeds.{Feed}
use Rattle.graph_maps.specs.Subjects.{Subject}
use Rattle.svg_writer.specs.declared.names.Names.{Names}

-- the names of all stations, and the names and colours of all lines, each in the order of their numbers
abbrev pub names_by : Feed → Names
names_by feed = record {
  stations = map (λ (s : Station). s.name) feed.stations;
  lines = map (λ (l : Line). (l.name, l.colour)) feed.lines;
}

-- how much the line of this id counts: the number of its pair, and 1 where it has none
abbrev pub importance_among : List (List ℕ × ℕ) → List ℕ → ℕ
importance_among [] id = 1
importance_among (p ∷ pairs) id = if bytes_eq p.0 id then p.1 else importance_among pairs id

-- how much each line counts, in the order of their numbers
abbrev pub importance_by : Feed → Choices → List ℕ
importance_by feed choices = map (λ (l : Line). importance_among choices.importance l.id) feed.lines

-- what the tables of a feed tell of what a map of its line graph is made of
abbrev pub subject_of : Feed → Choices → Subject
subject_of feed choices = record { names = names_by feed; importance = importance_by feed choices }
