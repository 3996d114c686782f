-- One of the courses stops at each used station, and their lines are few.
use Rattle.std.proofs.Common.{◌≡◌, refl, sym, ◌∙◌, ap, subst, ℕ, zero, suc, ◌+◌, ◌-◌, ◌<◌, ◌≤◌, ◌⊎◌, inl, inr, Bool, true, false, cond, leb, eqb, ◌||◌, List, [], ◌∷◌, length, get_or, map, All, Contains, Result, Ok, Err, arith}
use Rattle.std.specs.List.{list_any, range_with_len}
use Rattle.std.specs.List.Sorted.{IsStrictlyIncreasing}
use Rattle.std.proofs.lemmas.Bool.{false≢true, eq-eqb, eqb-true, cases_lt, leb-true}
use Rattle.std.proofs.lemmas.List.{length-map, get_or-map}
use Rattle.std.proofs.lemmas.List.Elements.{All-map, filter_passes}
use Rattle.std.proofs.lemmas.List.Folds.{list_any_at}
use Rattle.std.proofs.lemmas.List.FromFn.{get_or-range_with_len, length-range_with_len}
use Rattle.std.proofs.lemmas.List.Kept.{IsStrictlyIncreasing-filter}
use Rattle.map_base.specs.declared.ids.StationId.{StationId}
use Rattle.map_base.specs.declared.ids.LineId.{LineId}
use Rattle.map_base.specs.declared.limit.Limit.{Limit}
use Rattle.transit_feed.specs.declared.pattern.Pattern.{Pattern}
use Rattle.transit_feed.specs.Feeds.{Feed, IsFeed}
use Rattle.feed_courses.specs.declared.courses.Course.{Course}
use Rattle.feed_courses.specs.declared.courses.Courses.{Courses}
use Rattle.feed_courses.specs.Shown.{shown_patterns, has_pattern, shown_lines, serves, used_stations}
use Rattle.feed_courses.specs.Outcome.{place_of, station_numbered, stop_places, course_of, courses_of, courses_outcome, sample_total}
use Rattle.feed_courses.specs.Fit.{AreServed, stops_at}
use Rattle.feed_courses.proofs.Served.{ArePatterns-shown, number_among, length-used_points, used-below}
use Rattle.feed_courses.proofs.PlaceTables.{has_place}

-- ---- an element that passes a test

record Found {X : Type 0} (p : X → Bool) (xs : List X) (d : X) : Type 0 where
  pub place : ℕ
  pub below : place < length xs
  pub passes : p (get_or xs place d) ≡ true

found : {X : Type 0} (p : X → Bool) (xs : List X) (d : X) → list_any p xs ≡ true → Found p xs d
found p [] d e = absurd (false≢true e)
found {X} p (x ∷ xs) d e = by_test (found p xs d) (p x) refl
  where
    by_test : (list_any p xs ≡ true → Found p xs d) → (b : Bool) → p x ≡ b → Found p (x ∷ xs) d
    by_test later true t = record { place = 0; below = omega arith; passes = t }
    by_test later false t =
        let rest : Found p xs d = later (sym (ap (λ b. b || list_any p xs) t) ∙ e) in
        let low : rest.place < length xs = rest.below in
        record { place = suc rest.place; below = omega arith; passes = rest.passes }

-- ---- numbers that rise stand at one place each

rises_to : (xs : List ℕ) (i j : ℕ) → IsStrictlyIncreasing xs → suc (i + j) < length xs → get_or xs i 0 < get_or xs (suc (i + j)) 0
rises_to xs i zero up below =
    let z : i + 1 ≡ suc (i + 0) = omega arith in
    let within : i + 1 < length xs = omega (arith, below) in
    subst (λ k. get_or xs i 0 < get_or xs k 0) z (up i within)
rises_to xs i (suc j) up below =
    let before : get_or xs i 0 < get_or xs (suc (i + j)) 0 = rises_to xs i j up (omega (arith, below)) in
    let next : suc (i + j) + 1 ≡ suc (i + suc j) = omega arith in
    let within : suc (i + j) + 1 < length xs = omega (arith, below) in
    let last : get_or xs (suc (i + j)) 0 < get_or xs (suc (i + suc j)) 0 = subst (λ k. get_or xs (suc (i + j)) 0 < get_or xs k 0) next (up (suc (i + j)) within) in
    omega (arith, before, last)

rises_between : (xs : List ℕ) (i j : ℕ) → IsStrictlyIncreasing xs → i < j → j < length xs → get_or xs i 0 < get_or xs j 0
rises_between xs i j up less below =
    let step : suc (i + (j - suc i)) ≡ j = omega (arith, less) in
    subst (λ k. get_or xs i 0 < get_or xs k 0) step (rises_to xs i (j - suc i) up (omega (arith, less, below)))

one_place : (xs : List ℕ) (i j : ℕ) → IsStrictlyIncreasing xs → i < length xs → j < length xs → get_or xs i 0 ≡ get_or xs j 0 → i ≡ j
one_place xs i j up i_below j_below same = by_order (cases_lt i j) (cases_lt j i)
  where
    by_order : (i < j) ⊎ (j ≤ i) → (j < i) ⊎ (i ≤ j) → i ≡ j
    by_order (inl h) other = absurd (omega (arith, rises_between xs i j up h j_below, same))
    by_order (inr h) (inl k) = absurd (omega (arith, rises_between xs j i up k i_below, same))
    by_order (inr h) (inr k) = omega (arith, h, k)

range_rises : (n : ℕ) → IsStrictlyIncreasing (range_with_len 0 n)
range_rises n k below =
    let within : k + 1 < n = omega (arith, below, length-range_with_len 0 n) in
    omega (arith, get_or-range_with_len 0 n k 0 (omega (arith, within)), get_or-range_with_len 0 n (k + 1) 0 within)

used_rise : (feed : Feed) → IsStrictlyIncreasing (used_stations feed)
unfolding used_stations
used_rise feed =
    IsStrictlyIncreasing-filter (λ n. list_any (serves n) (shown_patterns feed)) (range_with_len 0 (length feed.stations)) (range_rises (length feed.stations))

-- a used station stands in a pattern that is shown
is_served : (feed : Feed) → All (λ n. list_any (serves n) (shown_patterns feed) ≡ true) (used_stations feed)
unfolding used_stations
is_served feed = filter_passes (λ n. list_any (serves n) (shown_patterns feed)) (range_with_len 0 (length feed.stations))

-- a pattern of a used station stops at its place
stops_there : (used : List ℕ) (stops : List StationId) (place : ℕ) → IsStrictlyIncreasing used → place < length used →
    list_any (λ (s : StationId). eqb s.0 (get_or used place 0)) stops ≡ true → list_any (λ s. eqb s place) (map (place_of used) stops) ≡ true
stops_there used stops place up below e =
    let n : ℕ = get_or used place 0 in
    let stop = found (λ (s : StationId). eqb s.0 n) stops (station_numbered 0) e in
    let here : ℕ = (get_or stops stop.place (station_numbered 0)).0 in
    let is : here ≡ n = eqb-true here n stop.passes in
    let known = has_place used n (list_any_at (λ m. eqb m n) used place 0 below (eq-eqb n n refl)) in
    let same : place_of used (station_numbered n) ≡ place = one_place used (place_of used (station_numbered n)) place up known.0 below known.1 in
    list_any_at (λ s. eqb s place) (map (place_of used) stops) stop.place 0 (omega (arith, stop.below, length-map stops (place_of used)))
    (eq-eqb (get_or (map (place_of used) stops) stop.place 0) place
    (get_or-map (place_of used) stops stop.place (station_numbered 0) 0 stop.below ∙ ap (λ m. place_of used (station_numbered m)) is ∙ same))

any_map : {A B : Type 0} (p : B → Bool) (f : A → B) (xs : List A) → list_any p (map f xs) ≡ list_any (λ a. p (f a)) xs
any_map p f [] = refl
any_map p f (x ∷ xs) = ap (λ b. p (f x) || b) (any_map p f xs)

any_also : {A : Type 0} (p q : A → Bool) → ((a : A) → p a ≡ true → q a ≡ true) → (xs : List A) → list_any p xs ≡ true → list_any q xs ≡ true
any_also p q also [] e = e
any_also {A} p q also (x ∷ xs) e = by_test (any_also p q also xs) (p x) refl
  where
    or_true : (b : Bool) → (b || true) ≡ true
    or_true true = refl
    or_true false = refl

    by_test : (list_any p xs ≡ true → list_any q xs ≡ true) → (b : Bool) → p x ≡ b → (q x || list_any q xs) ≡ true
    by_test later true t = ap (λ b. b || list_any q xs) (also x t)
    by_test later false t = ap (λ b. q x || b) (later (sym (ap (λ b. b || list_any p xs) t) ∙ e)) ∙ or_true (q x)

stops_of_course : (near : ℕ) (feed : Feed) (pattern : Pattern) → (course_of near feed pattern).stops ≡ stop_places feed pattern
unfolding course_of
stops_of_course near feed pattern = refl

line_of_course : (near : ℕ) (feed : Feed) (pattern : Pattern) → (course_of near feed pattern).line ≡ pattern.line
unfolding course_of
line_of_course near feed pattern = refl

served_at : (near : ℕ) (feed : Feed) (place : ℕ) → place < length (used_stations feed) → list_any (stops_at place) (map (course_of near feed) (shown_patterns feed)) ≡ true
served_at near feed place below =
    any_map (stops_at place) (course_of near feed) (shown_patterns feed)
    ∙ any_also (serves (get_or (used_stations feed) place 0)) (λ pattern. stops_at place (course_of near feed pattern))
    (λ pattern e. ap (λ (stops : List ℕ). list_any (λ s. eqb s place) stops) (stops_of_course near feed pattern) ∙ stops_there (used_stations feed) pattern.stops place (used_rise feed) below e)
    (shown_patterns feed) (is_served feed place 0 below)

-- ---- lines

abbrev line_numbered : ℕ → LineId
line_numbered n = record { 0 = n }

known_line : (feed : Feed) → IsFeed feed → All (λ (pattern : Pattern). Contains (map line_numbered (shown_lines feed)) pattern.line) (shown_patterns feed)
known_line feed fits k d below =
    let pattern : Pattern = get_or (shown_patterns feed) k d in
    let n : ℕ = pattern.line.0 in
    let there : list_any (λ m. eqb m n) (shown_lines feed) ≡ true =
    number_among (has_pattern (shown_patterns feed)) n (length feed.lines) (ArePatterns-shown feed fits k d below).line
    (list_any_at (λ (p : Pattern). eqb p.line.0 n) (shown_patterns feed) k d below (eq-eqb n n refl)) in
    let known = has_place (shown_lines feed) n there in
    let place : ℕ = place_of (shown_lines feed) (station_numbered n) in
    (place, omega (arith, known.0, length-map (shown_lines feed) line_numbered), get_or-map line_numbered (shown_lines feed) place 0 pattern.line known.0 ∙ ap line_numbered known.1)

-- ---- all together

all_served : (near : ℕ) (feed : Feed) → IsFeed feed → length (shown_lines feed) ≤ 1000 → AreServed (length feed.lines) (courses_of near feed)
all_served near feed fits few = record {
  few = fits.few_lines;
  lines =
      All-map (λ (c : Course). c.line.0 < length feed.lines) (course_of near feed) (shown_patterns feed)
      (λ k d below. subst (λ (l : LineId). l.0 < length feed.lines) (sym (line_of_course near feed (get_or (shown_patterns feed) k d))) (ArePatterns-shown feed fits k d below).line);
  known_lines = (
    map line_numbered (shown_lines feed),
    omega (arith, few, length-map (shown_lines feed) line_numbered),
    All-map (λ (c : Course). Contains (map line_numbered (shown_lines feed)) c.line) (course_of near feed) (shown_patterns feed)
        (λ k d below. subst (λ (l : LineId). Contains (map line_numbered (shown_lines feed)) l) (sym (line_of_course near feed (get_or (shown_patterns feed) k d))) (known_line feed fits k d below)),
  );
  served = λ place below. served_at near feed place (subst (λ (n : ℕ). place < n) (length-used_points feed) below);
}

passed : {A : Type 0} (b : Bool) (next : Result A Limit) (limit : Limit) (x : A) → cond b next (Err limit) ≡ Ok x → (b ≡ true) × (next ≡ Ok x)
passed true next limit x e = (refl, e)
passed false next limit x e = cc

abbrev outcome_with : Courses → Result Courses Limit
outcome_with all = Ok all

same_courses : (a b : Courses) → outcome_with a ≡ outcome_with b → a ≡ b
same_courses a b same = cc

pub are_served : (near : ℕ) (feed : Feed) (courses : Courses) → IsFeed feed → courses_outcome near feed ≡ Ok courses → AreServed (length feed.lines) courses
unfolding courses_outcome
are_served near feed courses fits e =
    let lines = passed (leb (length (shown_lines feed)) 1000) _ _ courses e in
    let stations = passed (leb (length (used_stations feed)) 10000) _ _ courses lines.1 in
    let samples = passed (leb (sample_total near feed) 4000000) _ _ courses stations.1 in
    subst (AreServed (length feed.lines)) (same_courses (courses_of near feed) courses samples.1) (all_served near feed fits (leb-true (length (shown_lines feed)) 1000 lines.0))

-- the stations of courses are stations of the feed
known_stations : (near : ℕ) (feed : Feed) → All (λ (s : StationId). s.0 < length feed.stations) (courses_of near feed).stations
known_stations near feed = All-map (λ (s : StationId). s.0 < length feed.stations) station_numbered (used_stations feed) (used-below feed)

pub are_known : (near : ℕ) (feed : Feed) (courses : Courses) → courses_outcome near feed ≡ Ok courses → All (λ (s : StationId). s.0 < length feed.stations) courses.stations
unfolding courses_outcome
are_known near feed courses e =
    let lines = passed (leb (length (shown_lines feed)) 1000) _ _ courses e in
    let stations = passed (leb (length (used_stations feed)) 10000) _ _ courses lines.1 in
    let samples = passed (leb (sample_total near feed) 4000000) _ _ courses stations.1 in
    subst (λ (all : Courses). All (λ (s : StationId). s.0 < length feed.stations) all.stations) (same_courses (courses_of near feed) courses samples.1) (known_stations near feed)
