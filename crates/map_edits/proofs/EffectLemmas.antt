-- Edits done one at a time, and what they keep of a feed.
use Rattle.std.proofs.Common.{◌≡◌, ℕ, ◌+◌, ◌^◌, ◌<◌, true, false, List, [], ◌∷◌, length, map, All, get_or, drop, bytes_eq, refl, sym, ap, subst, ◌∙◌}
use Rattle.std.specs.List.{IsDistinct}
use Rattle.std.proofs.lemmas.List.{drop_more, length-map}
use Rattle.std.proofs.lemmas.List.Elements.{All-head, All-tail, All-weaker}
use Rattle.map_base.specs.declared.ids.StationId.{StationId}
use Rattle.transit_feed.specs.Feeds.{Feed, IsFeed, IsPattern, IsPlaced, NamesShape}
use Rattle.transit_feed.specs.declared.line.Line.{Line}
use Rattle.transit_feed.specs.declared.pattern.Pattern.{Pattern}
use Rattle.transit_feed.specs.declared.station.Station.{Station}
use Rattle.map_edits.specs.declared.edit.Edit.{Edit}
use Rattle.map_edits.specs.declared.edit.Edit.TheVariants.{Hide, Show, Weight, Near, Cell, Budget, Rename, Move, Colour, Importance, Undo}
use Rattle.map_edits.specs.Effects.{line_id, station_id, hidden_is, colour_is, name_is, place_is, lines_by, stations_by, lines_after, stations_after, feed_after, IsInRange}
use Rattle.map_edits.proofs.ChangeLemmas.{ids_stay, all_stay}

-- the next edit is done
pub lines_more : (edits : List Edit) (i : ℕ) (edit : Edit) (old new all : List Line) → i < length edits → edit ≡ get_or edits i edit → new ≡ lines_by edit old
    → lines_after (drop i edits) old ≡ all → lines_after (drop (i + 1) edits) new ≡ all
lines_more edits i edit old new all low here done before =
    let next : drop i edits ≡ edit ∷ drop (i + 1) edits = drop_more edits i edit low ∙ ap (λ e. e ∷ drop (i + 1) edits) (sym here) in
    ap (lines_after (drop (i + 1) edits)) done ∙ ap (λ es. lines_after es old) (sym next) ∙ before

pub stations_more : (edits : List Edit) (i : ℕ) (edit : Edit) (old new all : List Station) → i < length edits → edit ≡ get_or edits i edit → new ≡ stations_by edit old
    → stations_after (drop i edits) old ≡ all → stations_after (drop (i + 1) edits) new ≡ all
stations_more edits i edit old new all low here done before =
    let next : drop i edits ≡ edit ∷ drop (i + 1) edits = drop_more edits i edit low ∙ ap (λ e. e ∷ drop (i + 1) edits) (sym here) in
    ap (stations_after (drop (i + 1) edits)) done ∙ ap (λ es. stations_after es old) (sym next) ∙ before

-- the ids of lines stay
pub line_ids_by : (edit : Edit) (lines : List Line) → map line_id (lines_by edit lines) ≡ map line_id lines
line_ids_by (Hide id) lines = ids_stay line_id (hidden_is true) id lines (λ x. refl)
line_ids_by (Show id) lines = ids_stay line_id (hidden_is false) id lines (λ x. refl)
line_ids_by (Colour id colour) lines = ids_stay line_id (colour_is colour) id lines (λ x. refl)
line_ids_by (Weight station weights) lines = refl
line_ids_by (Near near) lines = refl
line_ids_by (Cell cell) lines = refl
line_ids_by (Budget budget) lines = refl
line_ids_by (Rename id name) lines = refl
line_ids_by (Move id lat lon) lines = refl
line_ids_by (Importance id number) lines = refl
line_ids_by Undo lines = refl

-- the ids of stations stay
pub station_ids_by : (edit : Edit) (stations : List Station) → map station_id (stations_by edit stations) ≡ map station_id stations
station_ids_by (Rename id name) stations = ids_stay station_id (name_is name) id stations (λ x. refl)
station_ids_by (Move id lat lon) stations = ids_stay station_id (place_is lat lon) id stations (λ x. refl)
station_ids_by (Hide id) stations = refl
station_ids_by (Show id) stations = refl
station_ids_by (Colour id colour) stations = refl
station_ids_by (Weight station weights) stations = refl
station_ids_by (Near near) stations = refl
station_ids_by (Cell cell) stations = refl
station_ids_by (Budget budget) stations = refl
station_ids_by (Importance id number) stations = refl
station_ids_by Undo stations = refl

pub line_ids_after : (edits : List Edit) (lines : List Line) → map line_id (lines_after edits lines) ≡ map line_id lines
line_ids_after [] lines = refl
line_ids_after (edit ∷ later) lines = line_ids_after later (lines_by edit lines) ∙ line_ids_by edit lines

pub station_ids_after : (edits : List Edit) (stations : List Station) → map station_id (stations_after edits stations) ≡ map station_id stations
station_ids_after [] stations = refl
station_ids_after (edit ∷ later) stations = station_ids_after later (stations_by edit stations) ∙ station_ids_by edit stations

same_length : {A : Type 0} (id_of : A → List ℕ) (xs ys : List A) → map id_of xs ≡ map id_of ys → length xs ≡ length ys
same_length id_of xs ys same = sym (length-map xs id_of) ∙ ap length same ∙ length-map ys id_of

-- stations stay at places
placed_by : (edit : Edit) (stations : List Station) → IsInRange edit → All IsPlaced stations → All IsPlaced (stations_by edit stations)
placed_by (Rename id name) stations range placed = all_stay IsPlaced station_id (name_is name) id stations (λ x here. here) placed
placed_by (Move id lat lon) stations range placed = all_stay IsPlaced station_id (place_is lat lon) id stations (λ x here. range) placed
placed_by (Hide id) stations range placed = placed
placed_by (Show id) stations range placed = placed
placed_by (Colour id colour) stations range placed = placed
placed_by (Weight station weights) stations range placed = placed
placed_by (Near near) stations range placed = placed
placed_by (Cell cell) stations range placed = placed
placed_by (Budget budget) stations range placed = placed
placed_by (Importance id number) stations range placed = placed
placed_by Undo stations range placed = placed

placed_after : (edits : List Edit) (stations : List Station) → All IsInRange edits → All IsPlaced stations → All IsPlaced (stations_after edits stations)
placed_after [] stations ranges placed = placed
placed_after (edit ∷ later) stations ranges placed =
    placed_after later (stations_by edit stations) (All-tail IsInRange edit later ranges) (placed_by edit stations (All-head IsInRange edit later ranges) placed)

-- a pattern names what the feed still has
pattern_stays : (feed new : Feed) → length new.lines ≡ length feed.lines → length new.stations ≡ length feed.stations → length new.shapes ≡ length feed.shapes
    → (p : Pattern) → IsPattern feed p → IsPattern new p
pattern_stays feed new lines stations shapes p is = record {
  line = subst (λ (n : ℕ). p.line.0 < n) (sym lines) is.line;
  some_stops = is.some_stops;
  few_stops = is.few_stops;
  stops = subst (λ (n : ℕ). All (λ (s : StationId). s.0 < n) p.stops) (sym stations) is.stops;
  apart = is.apart;
  shape = subst (λ (n : ℕ). NamesShape n p.shape) (sym shapes) is.shape;
}

-- tables that edits make fit together
pub fits_after : (edits : List Edit) (feed : Feed) → All IsInRange edits → IsFeed feed → IsFeed (feed_after edits feed)
fits_after edits feed ranges is =
    let lines_same = line_ids_after edits feed.lines in
    let stations_same = station_ids_after edits feed.stations in
    let lines = same_length line_id (lines_after edits feed.lines) feed.lines lines_same in
    let stations = same_length station_id (stations_after edits feed.stations) feed.stations stations_same in
    record {
      few_stations = subst (λ (n : ℕ). n < 2 ^ 32) (sym stations) is.few_stations;
      few_lines = subst (λ (n : ℕ). n < 2 ^ 32) (sym lines) is.few_lines;
      few_patterns = is.few_patterns;
      few_shapes = is.few_shapes;
      placed = placed_after edits feed.stations ranges is.placed;
      shapes = is.shapes;
      patterns = All-weaker (IsPattern feed) (IsPattern (feed_after edits feed)) (pattern_stays feed (feed_after edits feed) lines stations refl) feed.patterns is.patterns;
      station_ids = subst (IsDistinct bytes_eq) (sym stations_same) is.station_ids;
      line_ids = subst (IsDistinct bytes_eq) (sym lines_same) is.line_ids;
    }
