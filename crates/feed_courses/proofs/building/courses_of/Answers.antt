use Rattle.std.proofs.Common.{◌≡◌, ◌∙◌, sym, ap, subst, ℕ, ◌<◌, ◌≤◌, Ok, List, map, length, get_or, All, rules}
use Rattle.map_base.specs.declared.ids.StationId.{StationId}
use Rattle.map_base.specs.declared.limit.LimitKind.TheVariants.{Lines, Stations, Samples}
use Rattle.transit_feed.specs.declared.pattern.Pattern.{Pattern}
use Rattle.transit_feed.specs.Feeds.{Feed, IsFeed}
use Rattle.fixed_plane.specs.Plane.{IsInPlane}
use Rattle.feed_courses.specs.Places.{used_points}
use Rattle.feed_courses.specs.Fit.{AreDistinct, IsCourse}
use Rattle.std.proofs.lemmas.List.Elements.{All-same}
use Rattle.feed_courses.specs.Shown.{shown_patterns, shown_lines, used_stations}
use Rattle.feed_courses.specs.Outcome.{courses_outcome, sample_total, station_numbered}
use Rattle.map_base.specs.Faults.{HasCause}
use Rattle.feed_courses.proofs.Served.{ArePatterns-shown}
use Rattle.feed_courses.proofs.ServedStations.{are_served}
use Rattle.feed_courses.proofs.WholeLemmas.{shown-hold, lines_are, stations_are, too_many_lines, too_many_stations, too_many_samples, within_limits, HasCause-above, courses_are, AreFit-made}
use Rattle.feed_courses.proofs.building.courses_of.Goals as goal

pub lines_with-requires-clause-in_range : goal.lines_with-requires-clause-in_range
lines_with-requires-clause-in_range c =
    let feed = c.args.tables.now in
    let fits : IsFeed feed = subst IsFeed c.tables.view_is c.tables.invariant in
    let count : c.len.result ≡ length feed.lines = c.len.ensures ∙ c.tables.inside.lines.ok.0 ∙ ap (λ (f : Feed). length f.lines) c.tables.view_is in
    shown-hold (λ pattern. pattern.now) (λ (pattern : Pattern). pattern.line.0 < c.len.result) c.in_ok-shown.shown.items c.deref.result.now (shown_patterns feed) c.deref.ensures.value c.in_ok-shown.ensures
    (λ k d below. subst (λ (n : ℕ). (get_or (shown_patterns feed) k d).line.0 < n) (sym count) (ArePatterns-shown feed fits k d below).line)

pub stations_in-requires-clause-in_range : goal.stations_in-requires-clause-in_range
stations_in-requires-clause-in_range c =
    let feed = c.args.tables.now in
    let fits : IsFeed feed = subst IsFeed c.tables.view_is c.tables.invariant in
    let count : c.len-3.result ≡ length feed.stations = c.len-3.ensures ∙ c.tables.inside.stations.ok.0 ∙ ap (λ (f : Feed). length f.stations) c.tables.view_is in
    shown-hold (λ pattern. pattern.now) (λ (pattern : Pattern). All (λ (s : StationId). s.0 < c.len-3.result) pattern.stops) c.in_ok-shown.shown.items c.deref-2.result.now (shown_patterns feed) c.deref-2.ensures.value c.in_ok-shown.ensures
    (λ k d below. subst (λ (n : ℕ). All (λ (s : StationId). s.0 < n) (get_or (shown_patterns feed) k d).stops) (sym count) (ArePatterns-shown feed fits k d below).stops)

pub used_of-requires-clause-numbers : goal.used_of-requires-clause-numbers
used_of-requires-clause-numbers c =
    let feed = c.args.tables.now in
    let count : c.len-3.result ≡ length feed.stations = c.len-3.ensures ∙ c.tables.inside.stations.ok.0 ∙ ap (λ (f : Feed). length f.stations) c.tables.view_is in
    stations_are (λ pattern. pattern.now) feed c.in_ok-shown.shown.items c.deref-2.result.now c.len-3.result c.in_ok-numbers.numbers.items c.deref-2.ensures.value c.in_ok-shown.ensures count c.in_ok-numbers.ensures

pub shown_courses-requires-clause-patterns : goal.shown_courses-requires-clause-patterns
shown_courses-requires-clause-patterns c = ArePatterns-shown c.args.tables.now (subst IsFeed c.tables.view_is c.tables.invariant)

pub returns-in_err-check_count-clause-cause : goal.returns-in_err-check_count-clause-cause
returns-in_err-check_count-clause-cause c =
    let feed = c.args.tables.now in
    let count : c.len.result ≡ length feed.lines = c.len.ensures ∙ c.tables.inside.lines.ok.0 ∙ ap (λ (f : Feed). length f.lines) c.tables.view_is in
    let lines : c.len-2.result ≡ length (shown_lines feed) =
    c.len-2.ensures ∙ c.in_ok-lines.lines.ok.0
    ∙ lines_are (λ pattern. pattern.now) feed c.in_ok-shown.shown.items c.deref.result.now c.len.result c.in_ok-lines.lines.items c.deref.ensures.value c.in_ok-shown.ensures count c.in_ok-lines.ensures in
    let cause : HasCause (courses_outcome c.args.near feed) c.in_err-check_count.field-0.0 =
    HasCause-above Lines 1000 c.len-2.result c.in_err-check_count.field-0.0 (courses_outcome c.args.near feed) c.in_err-check_count.ensures.cause
    (λ above. too_many_lines c.args.near feed (subst (λ (n : ℕ). 1000 < n) lines above)) in
    search (rules, cause)

pub returns-in_err-check_count-2-clause-cause : goal.returns-in_err-check_count-2-clause-cause
returns-in_err-check_count-2-clause-cause c =
    let feed = c.args.tables.now in
    let count : c.len.result ≡ length feed.lines = c.len.ensures ∙ c.tables.inside.lines.ok.0 ∙ ap (λ (f : Feed). length f.lines) c.tables.view_is in
    let lines : c.len-2.result ≡ length (shown_lines feed) =
    c.len-2.ensures ∙ c.in_ok-lines.lines.ok.0
    ∙ lines_are (λ pattern. pattern.now) feed c.in_ok-shown.shown.items c.deref.result.now c.len.result c.in_ok-lines.lines.items c.deref.ensures.value c.in_ok-shown.ensures count c.in_ok-lines.ensures in
    let few_lines : length (shown_lines feed) ≤ 1000 = subst (λ (n : ℕ). n ≤ 1000) lines c.in_ok-check_count.ensures.within in
    let station_count : c.len-3.result ≡ length feed.stations = c.len-3.ensures ∙ c.tables.inside.stations.ok.0 ∙ ap (λ (f : Feed). length f.stations) c.tables.view_is in
    let stations : c.len-4.result ≡ length (used_stations feed) =
    c.len-4.ensures ∙ c.in_ok-numbers.numbers.ok.0
    ∙ ap length (stations_are (λ pattern. pattern.now) feed c.in_ok-shown.shown.items c.deref-2.result.now c.len-3.result c.in_ok-numbers.numbers.items c.deref-2.ensures.value c.in_ok-shown.ensures station_count c.in_ok-numbers.ensures) in
    let cause : HasCause (courses_outcome c.args.near feed) c.in_err-check_count-2.field-0.0 =
    HasCause-above Stations 10000 c.len-4.result c.in_err-check_count-2.field-0.0 (courses_outcome c.args.near feed) c.in_err-check_count-2.ensures.cause
    (λ above. too_many_stations c.args.near feed few_lines (subst (λ (n : ℕ). 10000 < n) stations above)) in
    search (rules, cause)

pub returns-in_err-courses-clause-cause : goal.returns-in_err-courses-clause-cause
returns-in_err-courses-clause-cause c =
    let feed = c.args.tables.now in
    let count : c.len.result ≡ length feed.lines = c.len.ensures ∙ c.tables.inside.lines.ok.0 ∙ ap (λ (f : Feed). length f.lines) c.tables.view_is in
    let lines : c.len-2.result ≡ length (shown_lines feed) =
    c.len-2.ensures ∙ c.in_ok-lines.lines.ok.0
    ∙ lines_are (λ pattern. pattern.now) feed c.in_ok-shown.shown.items c.deref.result.now c.len.result c.in_ok-lines.lines.items c.deref.ensures.value c.in_ok-shown.ensures count c.in_ok-lines.ensures in
    let few_lines : length (shown_lines feed) ≤ 1000 = subst (λ (n : ℕ). n ≤ 1000) lines c.in_ok-check_count.ensures.within in
    let station_count : c.len-3.result ≡ length feed.stations = c.len-3.ensures ∙ c.tables.inside.stations.ok.0 ∙ ap (λ (f : Feed). length f.stations) c.tables.view_is in
    let stations : c.len-4.result ≡ length (used_stations feed) =
    c.len-4.ensures ∙ c.in_ok-numbers.numbers.ok.0
    ∙ ap length (stations_are (λ pattern. pattern.now) feed c.in_ok-shown.shown.items c.deref-2.result.now c.len-3.result c.in_ok-numbers.numbers.items c.deref-2.ensures.value c.in_ok-shown.ensures station_count c.in_ok-numbers.ensures) in
    let few_stations : length (used_stations feed) ≤ 10000 = subst (λ (n : ℕ). n ≤ 10000) stations c.in_ok-check_count-2.ensures.within in
    let cause : HasCause (courses_outcome c.args.near feed) c.in_err-courses.field-0.0 =
    HasCause-above Samples 4000000 (sample_total c.args.near feed) c.in_err-courses.field-0.0 (courses_outcome c.args.near feed) c.in_err-courses.ensures.cause
    (λ above. too_many_samples c.args.near feed few_lines few_stations above) in
    search (rules, cause)

pub returns-clause-courses : goal.returns-clause-courses
returns-clause-courses c =
    let feed = c.args.tables.now in
    let count : c.len.result ≡ length feed.lines = c.len.ensures ∙ c.tables.inside.lines.ok.0 ∙ ap (λ (f : Feed). length f.lines) c.tables.view_is in
    let lines : c.len-2.result ≡ length (shown_lines feed) =
    c.len-2.ensures ∙ c.in_ok-lines.lines.ok.0
    ∙ lines_are (λ pattern. pattern.now) feed c.in_ok-shown.shown.items c.deref.result.now c.len.result c.in_ok-lines.lines.items c.deref.ensures.value c.in_ok-shown.ensures count c.in_ok-lines.ensures in
    let few_lines : length (shown_lines feed) ≤ 1000 = subst (λ (n : ℕ). n ≤ 1000) lines c.in_ok-check_count.ensures.within in
    let station_count : c.len-3.result ≡ length feed.stations = c.len-3.ensures ∙ c.tables.inside.stations.ok.0 ∙ ap (λ (f : Feed). length f.stations) c.tables.view_is in
    let stations : c.len-4.result ≡ length (used_stations feed) =
    c.len-4.ensures ∙ c.in_ok-numbers.numbers.ok.0
    ∙ ap length (stations_are (λ pattern. pattern.now) feed c.in_ok-shown.shown.items c.deref-2.result.now c.len-3.result c.in_ok-numbers.numbers.items c.deref-2.ensures.value c.in_ok-shown.ensures station_count c.in_ok-numbers.ensures) in
    let few_stations : length (used_stations feed) ≤ 10000 = subst (λ (n : ℕ). n ≤ 10000) stations c.in_ok-check_count-2.ensures.within in
    within_limits c.args.near feed few_lines few_stations c.in_ok-courses.ensures.few
    ∙ ap Ok (courses_are c.args.near feed c.in_ok-used.used.numbers.items c.of.result c.of-2.result c.of-3.result c.in_ok-used.ensures.used.numbers
    (c.of.ensures ∙ c.in_ok-stations.ensures ∙ ap (map station_numbered) c.deref-4.ensures.value) (c.of-2.ensures ∙ c.in_ok-used.ensures.used.points) (c.of-3.ensures ∙ c.in_ok-courses.ensures.courses))

pub returns-clause-fit : goal.returns-clause-fit
returns-clause-fit c =
    let feed = c.args.tables.now in
    let count : c.len-3.result ≡ length feed.stations = c.len-3.ensures ∙ c.tables.inside.stations.ok.0 ∙ ap (λ (f : Feed). length f.stations) c.tables.view_is in
    let numbers = stations_are (λ pattern. pattern.now) feed c.in_ok-shown.shown.items c.deref-2.result.now c.len-3.result c.in_ok-numbers.numbers.items c.deref-2.ensures.value c.in_ok-shown.ensures count c.in_ok-numbers.ensures in
    let few_stations : length c.in_ok-used.used.numbers.items ≤ 10000 =
    subst (λ (ns : List ℕ). length ns ≤ 10000) (numbers ∙ sym c.in_ok-used.ensures.used.numbers)
    (subst (λ (n : ℕ). n ≤ 10000) (c.len-4.ensures ∙ c.in_ok-numbers.numbers.ok.0) c.in_ok-check_count-2.ensures.within) in
    AreFit-made c.args.near feed c.in_ok-used.used.numbers.items c.of.result c.of-2.result c.of-3.result c.in_ok-used.ensures.used.numbers
    (c.of.ensures ∙ c.in_ok-stations.ensures ∙ ap (map station_numbered) c.deref-4.ensures.value) (c.of-2.ensures ∙ c.in_ok-used.ensures.used.points) (c.of-3.ensures ∙ c.in_ok-courses.ensures.courses)
    few_stations c.in_ok-courses.ensures.few (subst AreDistinct (sym c.of-2.ensures) c.in_ok-used.ensures.distinct) (All-same IsInPlane c.of-2.result c.in_ok-used.used.points.items c.of-2.ensures c.in_ok-used.ensures.in_plane)
    (All-same (IsCourse c.args.near (used_points feed)) c.of-3.result c.in_ok-courses.courses.items c.of-3.ensures c.in_ok-courses.ensures.fit)

pub returns-clause-served : goal.returns-clause-served
returns-clause-served c = are_served c.args.near c.args.tables.now _ (subst IsFeed c.tables.view_is c.tables.invariant) (returns-clause-courses c)
