-- The outcome of a feed as a whole.
use Rattle.std.proofs.Common.{◌≡◌, sym, ◌∙◌, ap, subst, ℕ, ◌+◌, ◌<◌, ◌≤◌, cond, List, map, length, get_or, All, Ok, Err, Result, arith}
use Rattle.std.specs.List.{sum_by}
use Rattle.std.proofs.lemmas.List.{length-map, get_or-map}
use Rattle.std.proofs.lemmas.Bool.{le-leb, lt-leb}
use Rattle.map_base.specs.declared.ids.StationId.{StationId}
use Rattle.map_base.specs.declared.limit.Limit.{Limit}
use Rattle.map_base.specs.declared.limit.LimitKind.{LimitKind}
use Rattle.map_base.specs.declared.limit.LimitKind.TheVariants.{Lines, Stations, Samples}
use Rattle.map_base.specs.declared.point.Point.{Point}
use Rattle.map_base.specs.Faults.{HasCause}
use Rattle.map_base.specs.Limits.{limit_most, limit_of, unless_above}
use Rattle.shape_track.specs.Hops.{total_of}
use Rattle.fixed_plane.specs.Plane.{IsInPlane}
use Rattle.transit_feed.specs.declared.pattern.Pattern.{Pattern}
use Rattle.transit_feed.specs.Feeds.{Feed}
use Rattle.feed_courses.specs.Shown.{shown_patterns, lines_with, shown_lines, stations_in, used_stations}
use Rattle.feed_courses.specs.Places.{used_points}
use Rattle.feed_courses.specs.Outcome.{course_of, course_samples, course_hops, sample_count, sample_total, station_numbered, courses_of, courses_outcome}
use Rattle.feed_courses.specs.Faults.{IsAbove}
use Rattle.feed_courses.specs.Fit.{AreDistinct, IsCourse, hop_total, AreFit}
use Rattle.feed_courses.specs.declared.courses.Course.{Course}
use Rattle.feed_courses.specs.declared.courses.Courses.{Courses}
use Rattle.map_base.specs.declared.limit_fault.LimitFault.{LimitFault}
use Rattle.map_base.specs.declared.limit_fault.LimitFault.TheVariants.{Limit as AboveLimit, NoMemory}
use Rattle.feed_courses.proofs.Served.{length-used_points}
use Rattle.feed_courses.proofs.SumLemmas.{sum_by-below}

-- ---- what is read of the patterns that are shown

-- what holds of each pattern that is shown holds of each that is read
pub shown-hold : {A : Type 0} (now : A → Pattern) (P : Pattern → Type 0) (shown read : List A) (all : List Pattern) → read ≡ shown → map now shown ≡ all → All P all → All (λ a. P (now a)) read
shown-hold {A} now P shown read all read_is same holds =
    subst (λ (items : List A). All (λ a. P (now a)) items) (sym read_is)
    (λ k d below. subst P (get_or-map now shown k d (now d) below) (subst (λ (ps : List Pattern). P (get_or ps k (now d))) (sym same) (holds k (now d) (omega (arith, sym (length-map shown now) ∙ ap length same)))))

pub lines_are : {A : Type 0} (now : A → Pattern) (feed : Feed) (shown read : List A) (count : ℕ) (lines : List ℕ) → read ≡ shown → map now shown ≡ shown_patterns feed → count ≡ length feed.lines →
    lines ≡ lines_with count (map now read) → length lines ≡ length (shown_lines feed)
lines_are now feed shown read count lines read_is same count_is is =
    ap length (is ∙ ap (lines_with count) (ap (map now) read_is ∙ same) ∙ ap (λ n. lines_with n (shown_patterns feed)) count_is)

pub stations_are : {A : Type 0} (now : A → Pattern) (feed : Feed) (shown read : List A) (count : ℕ) (numbers : List ℕ) → read ≡ shown → map now shown ≡ shown_patterns feed → count ≡ length feed.stations →
    numbers ≡ stations_in count (map now read) → numbers ≡ used_stations feed
unfolding used_stations
stations_are now feed shown read count numbers read_is same count_is is =
    is ∙ ap (stations_in count) (ap (map now) read_is ∙ same) ∙ ap (λ n. stations_in n (shown_patterns feed)) count_is

-- ---- limits

pub within-next : {A : Type 0} (kind : LimitKind) (count : ℕ) (next : Result A Limit) → count ≤ limit_most kind → unless_above kind count next ≡ next
within-next kind count next within = ap (λ b. cond b next (Err (limit_of kind))) (le-leb count (limit_most kind) within)

pub above-limit : {A : Type 0} (kind : LimitKind) (count : ℕ) (next : Result A Limit) → limit_most kind < count → unless_above kind count next ≡ Err (limit_of kind)
above-limit kind count next above = ap (λ b. cond b next (Err (limit_of kind))) (lt-leb count (limit_most kind) above)

pub too_many_lines : (near : ℕ) (feed : Feed) → 1000 < length (shown_lines feed) → courses_outcome near feed ≡ Err (limit_of Lines)
unfolding courses_outcome
too_many_lines near feed above = above-limit Lines (length (shown_lines feed)) _ above

pub too_many_stations : (near : ℕ) (feed : Feed) → length (shown_lines feed) ≤ 1000 → 10000 < length (used_stations feed) → courses_outcome near feed ≡ Err (limit_of Stations)
unfolding courses_outcome
too_many_stations near feed lines above =
    within-next Lines (length (shown_lines feed)) _ lines ∙ above-limit Stations (length (used_stations feed)) _ above

pub too_many_samples : (near : ℕ) (feed : Feed) → length (shown_lines feed) ≤ 1000 → length (used_stations feed) ≤ 10000 → 4000000 < sample_total near feed → courses_outcome near feed ≡ Err (limit_of Samples)
unfolding courses_outcome
too_many_samples near feed lines stations above =
    within-next Lines (length (shown_lines feed)) _ lines ∙ within-next Stations (length (used_stations feed)) _ stations ∙ above-limit Samples (sample_total near feed) _ above

pub within_limits : (near : ℕ) (feed : Feed) → length (shown_lines feed) ≤ 1000 → length (used_stations feed) ≤ 10000 → sample_total near feed ≤ 4000000 → courses_outcome near feed ≡ Ok (courses_of near feed)
unfolding courses_outcome
within_limits near feed lines stations samples =
    within-next Lines (length (shown_lines feed)) _ lines ∙ within-next Stations (length (used_stations feed)) _ stations ∙ within-next Samples (sample_total near feed) _ samples

pub HasCause-above : (kind : LimitKind) (most count : ℕ) (fault : LimitFault) (outcome : Result Courses Limit) → IsAbove kind most count fault → (most < count → outcome ≡ Err (limit_of kind)) → HasCause outcome fault
HasCause-above kind most count (AboveLimit limit) outcome cause refused = refused cause.1 ∙ ap Err (sym cause.0)
HasCause-above kind most count NoMemory outcome cause refused = tt

-- ---- the courses

pub courses_are : (near : ℕ) (feed : Feed) (numbers : List ℕ) (stations : List StationId) (points : List Point) (courses : List Course) → numbers ≡ used_stations feed → stations ≡ map station_numbered numbers →
    points ≡ used_points feed → courses ≡ map (course_of near feed) (shown_patterns feed) → courses_of near feed ≡ record { stations = stations; points = points; courses = courses }
courses_are near feed numbers stations points courses numbers_is stations_is points_is courses_is =
    sym (ap (λ (ss : List StationId). record { stations = ss; points = points; courses = courses }) (stations_is ∙ ap (map station_numbered) numbers_is)
    ∙ ap (λ (ps : List Point). record { stations = map station_numbered (used_stations feed); points = ps; courses = courses }) points_is
    ∙ ap (λ (cs : List Course). record { stations = map station_numbered (used_stations feed); points = used_points feed; courses = cs }) courses_is)

-- the samples of its hops are counted of each pattern
hops_counted : (near : ℕ) (feed : Feed) (pattern : Pattern) → hop_total (course_of near feed pattern) ≤ sample_count near feed pattern
unfolding course_of sample_count
hops_counted near feed pattern = part (length (course_samples near feed pattern)) (total_of (course_hops near feed pattern))
  where
    part : (m n : ℕ) → n ≤ m + n
    part m n = omega arith

pub AreFit-made : (near : ℕ) (feed : Feed) (numbers : List ℕ) (stations : List StationId) (points : List Point) (courses : List Course) → numbers ≡ used_stations feed → stations ≡ map station_numbered numbers →
    points ≡ used_points feed → courses ≡ map (course_of near feed) (shown_patterns feed) → length numbers ≤ 10000 → sample_total near feed ≤ 4000000 → AreDistinct points → All IsInPlane points →
    All (IsCourse near (used_points feed)) courses → AreFit near (record { stations = stations; points = points; courses = courses })
AreFit-made near feed numbers stations points courses numbers_is stations_is points_is courses_is few samples distinct in_plane each =
    let count : length points ≡ length numbers = ap length points_is ∙ length-used_points feed ∙ sym (ap length numbers_is) in
    let most : sum_by hop_total courses ≤ sample_total near feed =
    subst (λ (cs : List Course). sum_by hop_total cs ≤ sample_total near feed) (sym courses_is) (sum_by-below (sample_count near feed) hop_total (course_of near feed) (hops_counted near feed) (shown_patterns feed)) in
    record {
      count = count ∙ sym (ap length stations_is ∙ length-map numbers station_numbered);
      few_stations = omega (arith, count, few);
      distinct = distinct;
      in_plane = in_plane;
      each = subst (λ (ps : List Point). All (IsCourse near ps) courses) (sym points_is) each;
      few_samples = omega (arith, most, samples);
    }
