-- The stops of a pattern that is shown are used stations.
use Rattle.std.proofs.Common.{◌≡◌, refl, sym, ◌∙◌, ap, subst, ℕ, suc, ◌+◌, ◌<◌, Bool, true, false, cond, eqb, ◌||◌, List, [], ◌∷◌, map, fold, length, get_or, filter, All, Contains, arith, length-append}
use Rattle.std.specs.List.{list_any, range_with_len}
use Rattle.std.proofs.lemmas.Bool.{false≢true, false_from_ne_true, eq-eqb, eqb-true}
use Rattle.std.proofs.lemmas.List.{length-map}
use Rattle.std.proofs.lemmas.List.Elements.{All-filter, All-map}
use Rattle.std.proofs.lemmas.List.Folds.{list_any_at}
use Rattle.std.proofs.lemmas.List.FromFn.{get_or-range_with_len, length-range_with_len}
use Rattle.map_base.specs.declared.ids.StationId.{StationId}
use Rattle.map_base.specs.declared.point.Point.{Point}
use Rattle.transit_feed.specs.declared.pattern.Pattern.{Pattern}
use Rattle.transit_feed.specs.Feeds.{Feed, IsFeed, IsPattern, AreApart as AreStopsApart}
use Rattle.feed_courses.specs.Shown.{is_shown, shown_patterns, serves, used_stations}
use Rattle.feed_courses.specs.Places.{first_free, with_point, projected_station, used_points}
use Rattle.feed_courses.specs.Outcome.{place_of, stop_places}
use Rattle.feed_courses.specs.Fit.{AreApart}
use Rattle.feed_courses.proofs.Lists.{range_below}
use Rattle.feed_courses.proofs.PlaceTables.{has_place}

-- the patterns that are shown are patterns of the feed
pub ArePatterns-shown : (feed : Feed) → IsFeed feed → All (IsPattern feed) (shown_patterns feed)
unfolding shown_patterns
ArePatterns-shown feed fits = All-filter (is_shown feed.lines) (IsPattern feed) feed.patterns fits.patterns

any_step : (p q : ℕ → Bool) (x : ℕ) (kept : List ℕ) (old : Bool) → (p x ≡ true → q x ≡ true) → list_any p kept ≡ old → (b : Bool) → q x ≡ b →
    list_any p (cond b (x ∷ kept) kept) ≡ (p x || old)
any_step p q x kept old only same true e = ap (λ b. p x || b) same
any_step p q x kept old only same false e =
    same ∙ sym (ap (λ b. b || old) (false_from_ne_true (p x) (λ t. false≢true (sym e ∙ only t))))

-- where a test is passed only by what another lets through, it is passed by one of those or by none
any-filter : (p q : ℕ → Bool) → ((x : ℕ) → p x ≡ true → q x ≡ true) → (xs : List ℕ) → list_any p (filter q xs) ≡ list_any p xs
any-filter p q only [] = refl
any-filter p q only (x ∷ xs) = any_step p q x (filter q xs) (list_any p xs) (only x) (any-filter p q only xs) (q x) refl

-- a number below another that passes a test is among those that do
pub number_among : (test : ℕ → Bool) (n count : ℕ) → n < count → test n ≡ true → list_any (λ m. eqb m n) (filter test (range_with_len 0 count)) ≡ true
number_among test n count below passes =
    let here : get_or (range_with_len 0 count) n 0 ≡ 0 + n = get_or-range_with_len 0 count n 0 below in
    let same : get_or (range_with_len 0 count) n 0 ≡ n = omega arith in
    any-filter (λ m. eqb m n) test (λ m e. ap test (eqb-true m n e) ∙ passes) (range_with_len 0 count)
    ∙ list_any_at (λ m. eqb m n) (range_with_len 0 count) n 0 (omega (arith, length-range_with_len 0 count)) (eq-eqb (get_or (range_with_len 0 count) n 0) n same)

-- a stop of a pattern that is shown is used
is_used : (feed : Feed) (pattern : Pattern) (k : ℕ) (d : StationId) → Contains (shown_patterns feed) pattern → IsPattern feed pattern → k < length pattern.stops →
    list_any (λ m. eqb m (get_or pattern.stops k d).0) (used_stations feed) ≡ true
unfolding used_stations
is_used feed pattern k d shown is below =
    let n = (get_or pattern.stops k d).0 in
    let served : serves n pattern ≡ true = list_any_at (λ (s : StationId). eqb s.0 n) pattern.stops k d below (eq-eqb n n refl) in
    number_among (λ m. list_any (serves m) (shown_patterns feed)) n (length feed.stations) (is.stops k d below)
    (list_any_at (serves n) (shown_patterns feed) shown.0 pattern shown.1 (ap (serves n) shown.2 ∙ served))

-- so it has its place
pub has_stop_place : (feed : Feed) (pattern : Pattern) (k : ℕ) (d : StationId) → Contains (shown_patterns feed) pattern → IsPattern feed pattern → k < length pattern.stops →
    (place_of (used_stations feed) (get_or pattern.stops k d) < length (used_stations feed)) × (get_or (used_stations feed) (place_of (used_stations feed) (get_or pattern.stops k d)) 0 ≡ (get_or pattern.stops k d).0)
has_stop_place feed pattern k d shown is below = has_place (used_stations feed) (get_or pattern.stops k d).0 (is_used feed pattern k d shown is below)

-- ---- as many points as stations

length-moved : (taken points : List Point) → length (fold with_point taken points) ≡ length taken + length points
length-moved taken [] = omega arith
length-moved taken (p ∷ ps) =
    let more = length-append taken (first_free (length taken) taken p ∷ []) in
    let rest = length-moved (with_point taken p) ps in
    sum (length (fold with_point (with_point taken p) ps)) (length (with_point taken p)) (length taken) (length ps) rest more
  where
    sum : (a b c d : ℕ) → a ≡ b + d → b ≡ c + 1 → a ≡ c + suc d
    sum a b c d e f = omega arith

pub length-used_points : (feed : Feed) → length (used_points feed) ≡ length (used_stations feed)
unfolding used_points
length-used_points feed =
    length-moved [] (map (projected_station feed.stations) (used_stations feed)) ∙ sum (length (map (projected_station feed.stations) (used_stations feed))) ∙ length-map (used_stations feed) (projected_station feed.stations)
  where
    sum : (n : ℕ) → 0 + n ≡ n
    sum n = omega arith

-- ---- the places of a pattern's stops

pub stop_places-in_range : (feed : Feed) (pattern : Pattern) → Contains (shown_patterns feed) pattern → IsPattern feed pattern → All (λ place. place < length (used_points feed)) (stop_places feed pattern)
stop_places-in_range feed pattern shown is =
    All-map (λ place. place < length (used_points feed)) (place_of (used_stations feed)) pattern.stops
    (λ k d below. subst (λ (n : ℕ). place_of (used_stations feed) (get_or pattern.stops k d) < n) (sym (length-used_points feed)) (has_stop_place feed pattern k d shown is below).0)

-- stations that have places are apart where their places are
apart_places : (used : List ℕ) (stops : List StationId) → ((k : ℕ) (d : StationId) → k < length stops → get_or used (place_of used (get_or stops k d)) 0 ≡ (get_or stops k d).0) →
    AreStopsApart stops → AreApart (map (place_of used) stops)
apart_places used [] there apart = tt
apart_places used (a ∷ []) there apart = tt
apart_places used (a ∷ b ∷ rest) there apart = (
  λ same. apart.0 (sym (there 0 a (omega arith)) ∙ ap (λ p. get_or used p 0) same ∙ there 1 b (omega arith)),
  apart_places used (b ∷ rest) (λ k d below. there (suc k) d (omega arith)) apart.1,
)

pub stop_places-apart : (feed : Feed) (pattern : Pattern) → Contains (shown_patterns feed) pattern → IsPattern feed pattern → AreApart (stop_places feed pattern)
stop_places-apart feed pattern shown is = apart_places (used_stations feed) pattern.stops (λ k d below. (has_stop_place feed pattern k d shown is below).1) is.apart

-- ---- used stations are stations

pub used-below : (feed : Feed) → All (λ n. n < length feed.stations) (used_stations feed)
unfolding used_stations
used-below feed =
    All-filter (λ n. list_any (serves n) (shown_patterns feed)) (λ n. n < length feed.stations) (range_with_len 0 (length feed.stations)) (range_below (length feed.stations))
