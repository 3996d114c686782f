-- The course of a pattern, made of its parts.
use Rattle.std.proofs.Common.{◌≡◌, refl, sym, ◌∙◌, ap, subst, ℕ, ◌+◌, ◌<◌, ◌≤◌, List, [], ◌∷◌, Some, map, length, get_or, All, Contains, arith}
use Rattle.std.specs.List.{slice_get}
use Rattle.std.proofs.lemmas.List.{length-map}
use Rattle.map_base.specs.declared.ids.StationId.{StationId}
use Rattle.map_base.specs.declared.point.Point.{Point}
use Rattle.map_base.specs.declared.limit.LimitKind.{LimitKind}
use Rattle.fixed_plane.specs.Plane.{IsInPlane}
use Rattle.shape_track.specs.Samples.{point_at, samples_of}
use Rattle.shape_track.specs.Hops.{AreJoined, total_of}
use Rattle.transit_feed.specs.declared.pattern.Pattern.{Pattern}
use Rattle.transit_feed.specs.declared.shape.Shape.{Shape}
use Rattle.transit_feed.specs.Feeds.{Feed, IsPattern, NamesShape}
use Rattle.feed_courses.specs.Shown.{shown_patterns, used_stations}
use Rattle.feed_courses.specs.Places.{feed_band, used_points}
use Rattle.feed_courses.specs.Outcome.{place_of, stop_places, stop_points, shape_points, course_points, course_samples, hops_along, course_hops, course_of, sample_count}
use Rattle.feed_courses.specs.Fit.{IsCourse}
use Rattle.feed_courses.specs.Faults.{IsAbove}
use Rattle.feed_courses.specs.Tables.{place_in, IsPlaceTable, AreUsed}
use Rattle.map_base.specs.declared.limit_fault.LimitFault.{LimitFault}
use Rattle.map_base.specs.declared.limit_fault.LimitFault.TheVariants.{Limit as AboveLimit, NoMemory}
use Rattle.feed_courses.specs.declared.used.Used.{Used}
use Rattle.feed_courses.proofs.Served.{stop_places-in_range, stop_places-apart}

-- the places that a table gives are those of the stops
places_same : (count : ℕ) (used table : List ℕ) (stops : List StationId) → IsPlaceTable count used table → map (place_in table) stops ≡ map (place_of used) stops
places_same count used table [] is = refl
places_same count used table (s ∷ stops) is =
    ap (λ p. p ∷ map (place_in table) stops) (is.places s.0) ∙ ap (λ ps. place_of used s ∷ ps) (places_same count used table stops is)

pub stops_are : (feed : Feed) (pattern : Pattern) (used : Used) (stops : List ℕ) → AreUsed feed used → stops ≡ map (place_in used.places.items) pattern.stops → stops ≡ stop_places feed pattern
stops_are feed pattern used stops are is = is ∙ places_same (length feed.stations) (used_stations feed) used.places.items pattern.stops are.places

pub stops_in_table : (feed : Feed) (pattern : Pattern) (used : Used) → AreUsed feed used → IsPattern feed pattern → All (λ (s : StationId). s.0 < length used.places.items) pattern.stops
stops_in_table feed pattern used are is = λ k d below. subst (λ (n : ℕ). (get_or pattern.stops k d).0 < n) (sym are.places.count_is) (is.stops k d below)

pub stops_have_points : (feed : Feed) (pattern : Pattern) (used : Used) (stops : List ℕ) → AreUsed feed used → Contains (shown_patterns feed) pattern → IsPattern feed pattern → stops ≡ stop_places feed pattern →
    All (λ place. place < length used.points.items) stops
stops_have_points feed pattern used stops are shown is stops_is =
    subst (λ (ps : List ℕ). All (λ place. place < length used.points.items) ps) (sym stops_is)
    (subst (λ (points : List Point). All (λ place. place < length points) (stop_places feed pattern)) (sym are.points) (stop_places-in_range feed pattern shown is))

pub stations_are : (feed : Feed) (pattern : Pattern) (used : Used) (stops : List ℕ) (stations : List Point) → AreUsed feed used → stops ≡ stop_places feed pattern →
    stations ≡ map (point_at used.points.items) stops → stations ≡ stop_points feed pattern
stations_are feed pattern used stops stations are stops_is is =
    is ∙ ap (map (point_at used.points.items)) stops_is ∙ ap (λ points. map (point_at points) (stop_places feed pattern)) are.points

-- ---- the points of a course

pub shape_named : (feed : Feed) (pattern : Pattern) (n : ℕ) → IsPattern feed pattern → pattern.shape ≡ Some n → n < length feed.shapes
shape_named feed pattern n is names = subst (NamesShape (length feed.shapes)) names is.shape

pub points_of_shape : (feed : Feed) (pattern : Pattern) (n band : ℕ) (shape : Shape) (points : List Point) → pattern.shape ≡ Some n → slice_get feed.shapes n ≡ Some shape → band ≡ feed_band feed.stations →
    points ≡ shape_points band (Some shape) → points ≡ course_points feed pattern pattern.shape
points_of_shape feed pattern n band shape points names there band_is is =
    is ∙ ap (λ b. shape_points b (Some shape)) band_is ∙ ap (shape_points (feed_band feed.stations)) (sym there) ∙ ap (course_points feed pattern) (sym names)

pub stops_give_points : (feed : Feed) (pattern : Pattern) (stations : List Point) → IsPattern feed pattern → stations ≡ stop_points feed pattern → 0 < length stations
stops_give_points feed pattern stations is stations_is =
    let count : length (stop_points feed pattern) ≡ length pattern.stops =
    length-map (stop_places feed pattern) (point_at (used_points feed)) ∙ length-map pattern.stops (place_of (used_stations feed)) in
    let some : 2 ≤ length pattern.stops = is.some_stops in
    subst (λ (ps : List Point). 0 < length ps) (sym stations_is) (omega arith)

-- ---- the whole course

pub hops_are : (near : ℕ) (feed : Feed) (pattern : Pattern) (course stations : List Point) (hops : List (List Point)) → course ≡ course_points feed pattern pattern.shape → stations ≡ stop_points feed pattern →
    hops ≡ hops_along near (samples_of near course) stations → hops ≡ course_hops near feed pattern
hops_are near feed pattern course stations hops course_is stations_is is =
    is ∙ ap (λ ps. hops_along near (samples_of near ps) stations) course_is ∙ ap (hops_along near (course_samples near feed pattern)) stations_is

pub course_is : (near : ℕ) (feed : Feed) (pattern : Pattern) (stops : List ℕ) (hops : List (List Point)) → stops ≡ stop_places feed pattern → hops ≡ course_hops near feed pattern →
    record { line = pattern.line; stops = stops; hops = hops } ≡ course_of near feed pattern
unfolding course_of
course_is near feed pattern stops hops stops_is hops_is =
    ap (λ (ps : List ℕ). record { line = pattern.line; stops = ps; hops = hops }) stops_is ∙ ap (λ (hs : List (List Point)). record { line = pattern.line; stops = stop_places feed pattern; hops = hs }) hops_is

pub count_is : (near : ℕ) (feed : Feed) (pattern : Pattern) (course : List Point) (hops : List (List Point)) → course ≡ course_points feed pattern pattern.shape → hops ≡ course_hops near feed pattern →
    length (samples_of near course) + total_of hops ≡ sample_count near feed pattern
unfolding sample_count
count_is near feed pattern course hops course_is hops_is =
    ap (λ ps. length (samples_of near ps) + total_of hops) course_is ∙ ap (λ hs. length (course_samples near feed pattern) + total_of hs) hops_is

pub IsCourse-made : (near : ℕ) (feed : Feed) (pattern : Pattern) (used : Used) (stops : List ℕ) (stations : List Point) (hops : List (List Point)) → AreUsed feed used → Contains (shown_patterns feed) pattern → IsPattern feed pattern →
    stops ≡ stop_places feed pattern → stations ≡ stop_points feed pattern → AreJoined near stations hops → All (λ hop. All IsInPlane hop) hops →
    IsCourse near (used_points feed) (record { line = pattern.line; stops = stops; hops = hops })
IsCourse-made near feed pattern used stops stations hops are shown is stops_is stations_is joined in_plane =
    subst (λ (ps : List ℕ). IsCourse near (used_points feed) (record { line = pattern.line; stops = ps; hops = hops })) (sym stops_is) (record {
      some_stops = subst (λ (n : ℕ). 2 ≤ n) (sym (length-map pattern.stops (place_of (used_stations feed)))) is.some_stops;
      stops = stop_places-in_range feed pattern shown is;
      apart = stop_places-apart feed pattern shown is;
      joined = subst (λ (ps : List Point). AreJoined near ps hops) stations_is joined;
      in_plane = in_plane;
    })

-- ---- limits

pub IsAbove-same : (kind : LimitKind) (most m n : ℕ) (fault : LimitFault) → m ≡ n → IsAbove kind most m fault → IsAbove kind most n fault
IsAbove-same kind most m n fault same = subst (λ (k : ℕ). IsAbove kind most k fault) same

-- where a part is above what is left, the whole is above all of it
pub IsAbove-whole : (kind : LimitKind) (left before part most whole : ℕ) (fault : LimitFault) → left + before ≡ most → before + part ≤ whole → IsAbove kind left part fault → IsAbove kind most whole fault
IsAbove-whole kind left before part most whole (AboveLimit limit) sum within cause = (cause.0, omega (arith, cause.1))
IsAbove-whole kind left before part most whole NoMemory sum within cause = tt
