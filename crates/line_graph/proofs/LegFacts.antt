-- What holds of all legs of courses that fit.
use Rattle.std.proofs.Common.{◌≡◌, ◌≢◌, refl, sym, subst, ℕ, zero, suc, ◌+◌, ◌<◌, ◌≤◌, ◌⊎◌, inl, inr, true, eqb, eqb-true, List, [], ◌∷◌, ◌++◌, length, get_or, map, All, Contains, arith}
use Rattle.std.specs.List.{flat_map, list_any}
use Rattle.std.proofs.lemmas.Bool.{or_cases, false≢true}
use Rattle.std.proofs.lemmas.List.{length-map}
use Rattle.std.proofs.lemmas.List.Elements.{All-nil, All-cons, All-head, All-tail, All-append, All-contains, Contains-append_left, Contains-append_right, Contains-get_or}
use Rattle.map_base.specs.declared.ids.LineId.{LineId}
use Rattle.map_base.specs.declared.point.Point.{Point}
use Rattle.fixed_plane.specs.Plane.{IsInPlane}
use Rattle.shape_track.specs.Hops.{AreJoined}
use Rattle.track_net.specs.Nets.{NetParts, Joins}
use Rattle.track_net.specs.Nearness.{point_at}
use Rattle.track_net.specs.Laws.{JoinsStations}
use Rattle.feed_courses.specs.Fit.{AreApart, AreFit, IsCourse, AreServed}
use Rattle.feed_courses.specs.declared.courses.Course.{Course}
use Rattle.feed_courses.specs.declared.courses.Courses.{Courses}
use Rattle.line_graph.specs.Legs.{Leg, legs_of, all_legs}
use Rattle.line_graph.specs.Outcome.{all_samples}
use Rattle.line_graph.specs.Premises.{HasHops}
use Rattle.line_graph.proofs.Runs.{StandsIn, StandsIn-trans, flat_map-part, stops_are_joined}
use Rattle.line_graph.proofs.TableSteps.{leg_at, legs_at, length-legs}

pub all_flat_map : {A B : Type 0} (P : B → Type 0) (f : A → List B) (xs : List A) → All (λ x. All P (f x)) xs → All P (flat_map f xs)
all_flat_map P f [] each = All-nil P
all_flat_map P f (x ∷ xs) each =
    All-append P (f x) (flat_map f xs) (All-head (λ z. All P (f z)) x xs each) (all_flat_map P f xs (All-tail (λ z. All P (f z)) x xs each))

pub all_parts : {A B : Type 0} (P : B → Type 0) (f : A → List B) (xs : List A) → All P (flat_map f xs) → All (λ x. All P (f x)) xs
all_parts P f [] each = All-nil (λ x. All P (f x))
all_parts P f (x ∷ xs) each =
    All-cons (λ x. All P (f x)) x xs
    (λ i e within. All-contains P (f x ++ flat_map f xs) (get_or (f x) i e) each (Contains-append_left (f x) (flat_map f xs) (get_or (f x) i e) (Contains-get_or (f x) i e within)))
    (all_parts P f xs
    (λ i e within. All-contains P (f x ++ flat_map f xs) (get_or (flat_map f xs) i e) each
    (Contains-append_right (f x) (flat_map f xs) (get_or (flat_map f xs) i e) (Contains-get_or (flat_map f xs) i e within))))

-- joined stations have a hop between each two
joined_each : (near : ℕ) (stations : List Point) (hops : List (List Point)) → AreJoined near stations hops → 1 ≤ length stations → length hops + 1 ≡ length stations
joined_each near [] hops joined some = absurd (omega (arith, some))
joined_each near (s ∷ []) [] joined some = refl
joined_each near (s ∷ []) (hop ∷ hops) joined some = absurd joined
joined_each near (s ∷ t ∷ ss) [] joined some = absurd joined
joined_each near (s ∷ t ∷ ss) (hop ∷ hops) joined some = let rest = joined_each near (t ∷ ss) hops joined.1 (omega arith) in omega (arith, rest)

pub has_hops : (near : ℕ) (points : List Point) (course : Course) → IsCourse near points course → HasHops course
has_hops near points course is =
    let each = joined_each near (map (point_at points) course.stops) course.hops is.joined (omega (arith, is.some_stops, length-map course.stops (point_at points))) in
    omega (arith, each, length-map course.stops (point_at points))

apart_at : (stops : List ℕ) (k : ℕ) → AreApart stops → suc k < length stops → get_or stops k 0 ≢ get_or stops (suc k) 0
apart_at [] k apart below = absurd (omega (arith, below))
apart_at (a ∷ []) k apart below = absurd (omega (arith, below))
apart_at (a ∷ b ∷ rest) zero apart below = apart.0
apart_at (a ∷ b ∷ rest) (suc k) apart below = apart_at (b ∷ rest) k apart.1 (omega (arith, below))

-- a leg leads from a station to another, which the net joins, and its samples are in the plane
pub record IsFitLeg (stations : ℕ) (net : NetParts) (leg : Leg) : Type 0 where
  pub from_in : leg.from < stations
  pub to_in : leg.to < stations
  pub apart : leg.from ≢ leg.to
  pub joined : Joins net leg.from leg.to
  pub in_plane : All IsInPlane leg.samples

course_fits : (near : ℕ) (points samples : List Point) (net : NetParts) (course : Course) → IsCourse near points course → JoinsStations near points samples net →
    ((i : ℕ) → i < length course.hops → StandsIn (get_or course.hops i []) samples) → All (IsFitLeg (length points) net) (legs_of course)
course_fits near points samples net course is law stands i d below =
    subst (IsFitLeg (length points) net) (sym (legs_at course.line course.stops course.hops i d each in_hops))
    (record {
      from_in = is.stops i 0 (omega (arith, in_hops, each));
      to_in = is.stops (suc i) 0 (omega (arith, in_hops, each));
      apart = apart_at course.stops i is.apart (omega (arith, in_hops, each));
      joined = stops_are_joined near points samples net course.stops course.hops law is.joined is.stops i in_hops (stands i in_hops);
      in_plane = is.in_plane i [] in_hops;
    })
  where
    each : HasHops course
    each = has_hops near points course is

    in_hops : i < length course.hops
    in_hops = omega (arith, below, length-legs course.line course.stops course.hops each)

pub legs_fit : (near : ℕ) (courses : Courses) (net : NetParts) → AreFit near courses → JoinsStations near courses.points (all_samples courses.courses) net →
    All (IsFitLeg (length courses.points) net) (all_legs courses.courses)
legs_fit near courses net fit law = all_flat_map (IsFitLeg (length courses.points) net) legs_of courses.courses each
  where
    stands : (k : ℕ) (d : Course) → k < length courses.courses → (i : ℕ) → i < length (get_or courses.courses k d).hops → StandsIn (get_or (get_or courses.courses k d).hops i []) (all_samples courses.courses)
    stands k d below i within =
        StandsIn-trans (get_or (get_or courses.courses k d).hops i []) (flat_map (λ (hop : List Point). hop) (get_or courses.courses k d).hops) (all_samples courses.courses)
        (flat_map-part (λ (hop : List Point). hop) (get_or courses.courses k d).hops i [] within)
        (flat_map-part (λ (c : Course). flat_map (λ (hop : List Point). hop) c.hops) courses.courses k d below)

    each : All (λ (c : Course). All (IsFitLeg (length courses.points) net) (legs_of c)) courses.courses
    each k d below = course_fits near courses.points (all_samples courses.courses) net (get_or courses.courses k d) (fit.each k d below) law (stands k d below)

pub all_have_hops : (near : ℕ) (courses : Courses) → AreFit near courses → All HasHops courses.courses
all_have_hops near courses fit k d below = has_hops near courses.points (get_or courses.courses k d) (fit.each k d below)

-- what holds of the lines of courses holds of those of their legs
pub lines_all : (P : LineId → Type 0) (courses : List Course) → All HasHops courses → All (λ (c : Course). P c.line) courses → All (λ (l : Leg). P l.line) (all_legs courses)
lines_all P courses hops lines = all_flat_map (λ (l : Leg). P l.line) legs_of courses each
  where
    each : All (λ (c : Course). All (λ (l : Leg). P l.line) (legs_of c)) courses
    each k d below i e within =
        subst (λ (l : Leg). P l.line)
        (sym (legs_at (get_or courses k d).line (get_or courses k d).stops (get_or courses k d).hops i e (hops k d below)
        (omega (arith, within, length-legs (get_or courses k d).line (get_or courses k d).stops (get_or courses k d).hops (hops k d below))))) (lines k d below)

-- a place at which a course stops
stop_found : (place : ℕ) (stops : List ℕ) → list_any (λ s. eqb s place) stops ≡ true → (i : ℕ) × (i < length stops) × (get_or stops i 0 ≡ place)
stop_found place [] e = absurd (false≢true e)
stop_found place (s ∷ stops) e = of_cases (or_cases (eqb s place) (list_any (λ s. eqb s place) stops) e) (stop_found place stops)
  where
    of_cases : (eqb s place ≡ true) ⊎ (list_any (λ s. eqb s place) stops ≡ true) → (list_any (λ s. eqb s place) stops ≡ true → (i : ℕ) × (i < length stops) × (get_or stops i 0 ≡ place)) →
        (i : ℕ) × (i < suc (length stops)) × (get_or (s ∷ stops) i 0 ≡ place)
    of_cases (inl h) later = (0, omega arith, eqb-true s place h)
    of_cases (inr h) later = let rest = later h in (suc rest.0, omega (arith, rest.1), rest.2)

-- a leg begins or ends at a place
abbrev pub Touches : ℕ → Leg → Type 0
Touches place leg = (leg.from ≡ place) ⊎ (leg.to ≡ place)

-- so some leg of it begins or ends there
leg_touches : (place : ℕ) (course : Course) → HasHops course → 2 ≤ length course.stops → list_any (λ s. eqb s place) course.stops ≡ true →
    (k : ℕ) × (k < length (legs_of course)) × ((d : Leg) → Touches place (get_or (legs_of course) k d))
leg_touches place course each some e = of_order (stop_found place course.stops e)
  where
    count : length (legs_of course) ≡ length course.hops
    count = length-legs course.line course.stops course.hops each

    begins : (i : ℕ) → i < length course.hops → get_or course.stops i 0 ≡ place → (d : Leg) → Touches place (get_or (legs_of course) i d)
    begins i in_hops is d = subst (Touches place) (sym (legs_at course.line course.stops course.hops i d each in_hops)) (inl is)

    ends : (i : ℕ) → i < length course.hops → get_or course.stops (suc i) 0 ≡ place → (d : Leg) → Touches place (get_or (legs_of course) i d)
    ends i in_hops is d = subst (Touches place) (sym (legs_at course.line course.stops course.hops i d each in_hops)) (inr is)

    of_order : (i : ℕ) × (i < length course.stops) × (get_or course.stops i 0 ≡ place) → (k : ℕ) × (k < length (legs_of course)) × ((d : Leg) → Touches place (get_or (legs_of course) k d))
    of_order found = of_place found.0 found.1 found.2
      where
        of_place : (i : ℕ) → i < length course.stops → get_or course.stops i 0 ≡ place → (k : ℕ) × (k < length (legs_of course)) × ((d : Leg) → Touches place (get_or (legs_of course) k d))
        of_place zero below is = (0, omega (arith, count, each, some), begins 0 (omega (arith, each, some)) is)
        of_place (suc i) below is = (i, omega (arith, count, each, below), ends i (omega (arith, each, below)) is)

any_leg : (place : ℕ) (courses : List Course) → All HasHops courses → All (λ (c : Course). 2 ≤ length c.stops) courses → list_any (λ (c : Course). list_any (λ s. eqb s place) c.stops) courses ≡ true →
    (leg : Leg) × Contains (all_legs courses) leg × Touches place leg
any_leg place [] hops some e = absurd (false≢true e)
any_leg place (c ∷ courses) hops some e =
    of_cases (or_cases (list_any (λ s. eqb s place) c.stops) (list_any (λ (c : Course). list_any (λ s. eqb s place) c.stops) courses) e)
    (any_leg place courses (All-tail HasHops c courses hops) (All-tail (λ (c : Course). 2 ≤ length c.stops) c courses some))
  where
    here : (k : ℕ) × (k < length (legs_of c)) × ((d : Leg) → Touches place (get_or (legs_of c) k d)) → (leg : Leg) × Contains (all_legs (c ∷ courses)) leg × Touches place leg
    here found =
        let leg : Leg = get_or (legs_of c) found.0 (leg_at c.line c.stops c.hops 0) in
        (leg, Contains-append_left (legs_of c) (all_legs courses) leg (Contains-get_or (legs_of c) found.0 (leg_at c.line c.stops c.hops 0) found.1), found.2 (leg_at c.line c.stops c.hops 0))

    of_cases : (list_any (λ s. eqb s place) c.stops ≡ true) ⊎ (list_any (λ (c : Course). list_any (λ s. eqb s place) c.stops) courses ≡ true) →
        (list_any (λ (c : Course). list_any (λ s. eqb s place) c.stops) courses ≡ true → (leg : Leg) × Contains (all_legs courses) leg × Touches place leg) →
        (leg : Leg) × Contains (all_legs (c ∷ courses)) leg × Touches place leg
    of_cases (inl h) later = here (leg_touches place c (All-head HasHops c courses hops) (All-head (λ (c : Course). 2 ≤ length c.stops) c courses some) h)
    of_cases (inr h) later = let rest = later h in (rest.0, Contains-append_right (legs_of c) (all_legs courses) rest.0 rest.1, rest.2)

pub leg_at_station : (near lines : ℕ) (courses : Courses) → AreFit near courses → AreServed lines courses → (place : ℕ) → place < length courses.points →
    (leg : Leg) × Contains (all_legs courses.courses) leg × Touches place leg
leg_at_station near lines courses fit served place below =
    any_leg place courses.courses (all_have_hops near courses fit) (λ k d inside. (fit.each k d inside).some_stops) (served.served place below)

-- all samples are in the plane
pub samples_in_plane : (near : ℕ) (courses : Courses) → AreFit near courses → All IsInPlane (all_samples courses.courses)
samples_in_plane near courses fit =
    all_flat_map IsInPlane (λ (c : Course). flat_map (λ (hop : List Point). hop) c.hops) courses.courses
    (λ k d below. all_flat_map IsInPlane (λ (hop : List Point). hop) (get_or courses.courses k d).hops (fit.each k d below).in_plane)
