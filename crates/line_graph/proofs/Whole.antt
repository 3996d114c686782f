-- The network of courses that fit and are served, over their net.
use Rattle.std.proofs.Common.{◌≡◌, refl, sym, ◌∙◌, ap, subst, ℕ, ◌<◌, ◌≤◌, true, List, [], ◌∷◌, ◌++◌, length, get_or, All, Contains, ◌&&◌, eqb, eqb-true, unwrap_or, position, arith}
use Rattle.std.specs.List.{flat_map}
use Rattle.std.proofs.lemmas.Bool.{and_parts}
use Rattle.std.proofs.lemmas.List.{length-map}
use Rattle.std.proofs.lemmas.List.Elements.{All-nil, All-cons, All-append, All-contains, Contains-append_left, Contains-append_right, Contains-get_or}
use Rattle.map_base.specs.declared.ids.LineId.{LineId}
use Rattle.map_base.specs.declared.point.Point.{Point}
use Rattle.track_net.specs.Nets.{NetParts, IsNet}
use Rattle.track_net.specs.Laws.{HasOwnDirections, JoinsStations}
use Rattle.way_network.specs.declared.way.Way.{Way}
use Rattle.way_network.specs.declared.way.Passage.{Passage}
use Rattle.way_network.specs.Edges.{is_on_edges, runs_over, line_runs_over}
use Rattle.way_network.specs.Chains.{Network, used_at}
use Rattle.way_network.specs.Segments.{segment_chains}
use Rattle.way_network.specs.Joins.{passages_along, passages_of_way}
use Rattle.way_network.specs.Graphs.{graph_over}
use Rattle.way_network.specs.Premises.{IsNetwork, IsPassage}
use Rattle.feed_courses.specs.Fit.{AreFit, AreServed}
use Rattle.feed_courses.specs.declared.courses.Course.{Course}
use Rattle.feed_courses.specs.declared.courses.Courses.{Courses}
use Rattle.line_graph.specs.Legs.{Leg, legs_between, legs_of, all_legs, has_stretch, stretches_of, path_of, way_of, ways_of}
use Rattle.line_graph.specs.Handing.{passages_between}
use Rattle.line_graph.specs.Outcome.{all_samples, net_of_courses, network_of, all_passages}
use Rattle.line_graph.specs.StretchTables.{StretchTable, stretch_of_leg, table_of, ways_over, path_in}
use Rattle.line_graph.specs.Premises.{AreAsked, AreLed}
use Rattle.line_graph.specs.Rides.{segments_along, IsOn, Rides, Passes, KeepsCourse, RidesOver, AreKept}
use Rattle.line_graph.proofs.LegFacts.{all_flat_map, all_parts, IsFitLeg, legs_fit, all_have_hops, lines_all, leg_at_station}
use Rattle.line_graph.proofs.TableLemmas.{whole_table, table_is, ways_are, each_seen, path_there, stretches_all, first_leg, HasPlace, has_place, way_by, way_at_place}
use Rattle.line_graph.proofs.NetworkFacts.{all_asked, AreTraces, IsTracedLeg, network_with, leg_trace, ways_traced, way_passages, handed_along, touched, stations_stay, is_network, few_lines, all_between_same}
use Rattle.line_graph.proofs.RideLemmas.{first_place, contains_joined, from_joined, passes, rides_along, ridden}

-- what is known before paths are chosen
pub record AreReady (near lines : ℕ) (courses : Courses) (net : NetParts) : Type 0 where
  pub kept : IsNet net
  pub fit : AreFit near courses
  pub served : AreServed lines courses
  pub net_is : net ≡ net_of_courses near courses
  pub own : HasOwnDirections net
  pub law : JoinsStations near courses.points (all_samples courses.courses) net

legs_ready : (near lines : ℕ) (courses : Courses) (net : NetParts) → AreReady near lines courses net → All (IsFitLeg (length courses.points) net) (all_legs courses.courses)
legs_ready near lines courses net ready = legs_fit near courses net ready.fit ready.law

lines_ready : (near lines : ℕ) (courses : Courses) (net : NetParts) → AreReady near lines courses net → All (λ (l : Leg). l.line.0 < lines) (all_legs courses.courses)
lines_ready near lines courses net ready =
    lines_all (λ (l : LineId). l.0 < lines) courses.courses (all_have_hops near courses ready.fit) ready.served.lines

most_ready : (near lines : ℕ) (courses : Courses) (net : NetParts) → AreReady near lines courses net → length courses.points ≤ length net.points
most_ready near lines courses net ready =
    subst (λ (n : NetParts). length courses.points ≤ length n.points) (sym ready.net_is) (stations_stay near courses.points (all_samples courses.courses))

-- ---- the table and the ways of the code

table_told : (table : StretchTable) (cs courses : List Course) → table ≡ table_of (all_legs cs) → cs ≡ courses → table ≡ whole_table (all_legs courses)
table_told table cs courses is same = is ∙ ap (λ (xs : List Course). table_of (all_legs xs)) same ∙ table_is (all_legs courses)

pub asked_told : (near lines : ℕ) (courses : Courses) (net : NetParts) (table : StretchTable) (cs : List Course) → AreReady near lines courses net → table ≡ table_of (all_legs cs) → cs ≡ courses.courses → AreAsked net table
asked_told near lines courses net table cs ready is same =
    subst (AreAsked net) (sym (table_told table cs courses.courses is same)) (all_asked (length courses.points) net ready.kept (all_legs courses.courses) (legs_ready near lines courses net ready))

pub ways_told : (near : ℕ) (net : NetParts) (table : StretchTable) (cs courses : List Course) (ways : List Way) → table ≡ table_of (all_legs cs) → cs ≡ courses → ways ≡ ways_over near net table →
    ways ≡ ways_of near net (all_legs courses)
ways_told near net table cs courses ways is same made =
    made ∙ ap (ways_over near net) (table_told table cs courses is same) ∙ ways_are near net (all_legs courses)

pub passages_told : (near : ℕ) (net : NetParts) (table : StretchTable) (cs others : List Course) (courses : Courses) (ways lent : List Way) (passages : List Passage) → table ≡ table_of (all_legs cs) → cs ≡ courses.courses → others ≡ courses.courses →
    ways ≡ ways_over near net table → lent ≡ ways → passages ≡ flat_map passages_of_way lent ++ flat_map (λ (c : Course). passages_between (path_in table lent) (legs_of c)) others →
    passages ≡ all_passages near courses net
passages_told near net table cs others courses ways lent passages is same also made lent_is pushed =
    pushed ∙ ap (λ (xs : List Way). all_of table xs others) (lent_is ∙ ways_told near net table cs courses.courses ways is same made)
    ∙ ap (λ (t : StretchTable). all_of t chosen others) (table_told table cs courses.courses is same) ∙ ap (λ (xs : List Course). all_of (whole_table legs) chosen xs) also
    ∙ ap (λ ps. flat_map passages_of_way chosen ++ ps) (all_between_same (path_in (whole_table legs) chosen) (path_of near net legs) legs_of courses.courses each)
  where
    legs : List Leg
    legs = all_legs courses.courses

    chosen : List Way
    chosen = ways_of near net legs

    all_of : StretchTable → List Way → List Course → List Passage
    all_of t ws xs = flat_map passages_of_way ws ++ flat_map (λ (c : Course). passages_between (path_in t ws) (legs_of c)) xs

    each : All (λ (c : Course). All (λ (l : Leg). path_in (whole_table legs) chosen l ≡ path_of near net legs l) (legs_of c)) courses.courses
    each =
        all_parts (λ (l : Leg). path_in (whole_table legs) chosen l ≡ path_of near net legs l) legs_of courses.courses
        (λ k d below. path_there near net legs (get_or legs k d) (each_seen legs k d below))

-- ---- the network

traces_of : (near lines : ℕ) (courses : Courses) (net : NetParts) → AreReady near lines courses net → AreLed near net (whole_table (all_legs courses.courses)) →
    AreTraces lines (length courses.points) net (ways_of near net (all_legs courses.courses))
traces_of near lines courses net ready led =
    ways_traced near lines (length courses.points) net ready.kept (all_legs courses.courses) (legs_ready near lines courses net ready) (lines_ready near lines courses net ready) led

legs_traced : (near lines : ℕ) (courses : Courses) (net : NetParts) → AreReady near lines courses net → AreLed near net (whole_table (all_legs courses.courses)) →
    All (IsTracedLeg near lines (length courses.points) net (all_legs courses.courses)) (all_legs courses.courses)
legs_traced near lines courses net ready led k d below = record {
  fit = legs_ready near lines courses net ready k d below;
  trace = leg_trace near lines (length courses.points) net ready.kept legs (legs_ready near lines courses net ready) (lines_ready near lines courses net ready) led (get_or legs k d) (each_seen legs k d below);
}
  where
    legs : List Leg
    legs = all_legs courses.courses

led_told : (near : ℕ) (net : NetParts) (table : StretchTable) (cs courses : List Course) → table ≡ table_of (all_legs cs) → cs ≡ courses → AreLed near net table → AreLed near net (whole_table (all_legs courses))
led_told near net table cs courses is same led = subst (AreLed near net) (table_told table cs courses is same) led

pub network_told : (near lines : ℕ) (courses : Courses) (net : NetParts) (table : StretchTable) (cs : List Course) → AreReady near lines courses net → table ≡ table_of (all_legs cs) → cs ≡ courses.courses → AreLed near net table →
    IsNetwork net.points (network_of near lines courses net)
network_told near lines courses net table cs ready is same led_in =
    subst (λ (n : ℕ). IsNetwork net.points (network_with lines n net (ways_of near net legs))) ready.fit.count
    (is_network near lines stations net ready.kept legs ready.served.few (most_ready near lines courses net ready) ready.own (traces_of near lines courses net ready led) served
    (few_lines near lines stations net legs ready.served.known_lines.0 ready.served.known_lines.1
    (lines_all (Contains ready.served.known_lines.0) courses.courses (all_have_hops near courses ready.fit) ready.served.known_lines.2)))
  where
    legs : List Leg
    legs = all_legs courses.courses

    stations : ℕ
    stations = length courses.points

    led : AreLed near net (whole_table legs)
    led = led_told near net table cs courses.courses is same led_in

    served : (p : ℕ) → p < stations → is_on_edges (used_at (network_with lines stations net (ways_of near net legs)) p) ≡ true
    served p below =
        let found = leg_at_station near lines courses ready.fit ready.served p below in
        touched near lines stations net ready.kept legs (traces_of near lines courses net ready led) p found.0
        (All-contains (IsTracedLeg near lines stations net legs) legs found.0 (legs_traced near lines courses net ready led) found.1) found.2

pub are_passages_told : (near lines : ℕ) (courses : Courses) (net : NetParts) (table : StretchTable) (cs : List Course) → AreReady near lines courses net → table ≡ table_of (all_legs cs) → cs ≡ courses.courses → AreLed near net table →
    All (IsPassage (network_of near lines courses net)) (all_passages near courses net)
are_passages_told near lines courses net table cs ready is same led_in =
    subst (λ (n : ℕ). All (IsPassage (network_with lines n net (ways_of near net legs))) (all_passages near courses net)) ready.fit.count
    (All-append (IsPassage (network_with lines stations net (ways_of near net legs))) (flat_map passages_of_way (ways_of near net legs)) (flat_map (λ (c : Course). passages_between (path_of near net legs) (legs_of c)) courses.courses)
    (way_passages lines stations net ready.kept (ways_of near net legs) (traces_of near lines courses net ready led))
    (all_flat_map (IsPassage (network_with lines stations net (ways_of near net legs))) (λ (c : Course). passages_between (path_of near net legs) (legs_of c)) courses.courses along))
  where
    legs : List Leg
    legs = all_legs courses.courses

    stations : ℕ
    stations = length courses.points

    led : AreLed near net (whole_table legs)
    led = led_told near net table cs courses.courses is same led_in

    along : All (λ (c : Course). All (IsPassage (network_with lines stations net (ways_of near net legs))) (passages_between (path_of near net legs) (legs_of c))) courses.courses
    along k d below =
        let c : Course = get_or courses.courses k d in
        handed_along near lines stations net legs (most_ready near lines courses net ready) c.line c.stops c.hops
        (all_parts (IsTracedLeg near lines stations net legs) legs_of courses.courses (legs_traced near lines courses net ready led) k d below)

-- ---- no line is lost

one_line : (line : LineId) (stops : List ℕ) (hops : List (List Point)) → All (λ (l : Leg). l.line ≡ line) (legs_between line stops hops)
one_line line [] hops = All-nil (λ (l : Leg). l.line ≡ line)
one_line line (s ∷ []) hops = All-nil (λ (l : Leg). l.line ≡ line)
one_line line (s ∷ t ∷ rest) [] = All-nil (λ (l : Leg). l.line ≡ line)
one_line line (s ∷ t ∷ rest) (hop ∷ hops) =
    let leg : Leg = record { line = line; from = s; to = t; samples = hop } in
    All-cons (λ (l : Leg). l.line ≡ line) leg (legs_between line (t ∷ rest) hops) refl (one_line line (t ∷ rest) hops)

-- the way of a leg is one of the ways
way_there : (near : ℕ) (net : NetParts) (legs : List Leg) (leg : Leg) → has_stretch (stretches_of legs) leg ≡ true → Contains (ways_of near net legs) (way_by near net legs (stretch_of_leg leg))
way_there near net legs leg seen = of_place (has_place legs leg seen)
  where
    way : Way
    way = way_by near net legs (stretch_of_leg leg)

    of_place : HasPlace legs leg → Contains (ways_of near net legs) (way_by near net legs (stretch_of_leg leg))
    of_place there = (
      there.place,
      omega (arith, there.within, length-map (stretches_of legs) (way_of near net legs)),
      way_at_place near net legs there.place (way_by near net legs (stretch_of_leg leg)) there.within ∙ ap (way_by near net legs) there.same,
    )

courses_kept : (near lines : ℕ) (courses : Courses) (net : NetParts) (table : StretchTable) (cs : List Course) → AreReady near lines courses net → table ≡ table_of (all_legs cs) → cs ≡ courses.courses → AreLed near net table →
    All (KeepsCourse (graph_over courses.stations net.points (network_of near lines courses net) (all_passages near courses net)) (segment_chains net.points (network_of near lines courses net)) (path_of near net (all_legs courses.courses))) courses.courses
courses_kept near lines courses net table cs ready is same led_in k d below = record {
  legs = λ i e within. ride (get_or (legs_of course) i e)
      (all_parts (IsTracedLeg near lines stations net legs) legs_of courses.courses (legs_traced near lines courses net ready led) k d below i e within)
      (all_parts (λ (l : Leg). l.line.0 < lines) legs_of courses.courses (lines_ready near lines courses net ready) k d below i e within)
      (all_parts (λ (l : Leg). has_stretch (stretches_of legs) l ≡ true) legs_of courses.courses (each_seen legs) k d below i e within)
      (one_line course.line course.stops course.hops i e within);
  handed = λ i e within. over (get_or (passages_between path (legs_of course)) i e)
      (Contains-append_right (flat_map passages_of_way ways) (flat_map (λ (c : Course). passages_between path (legs_of c)) courses.courses) (get_or (passages_between path (legs_of course)) i e)
      (contains_joined (λ (c : Course). passages_between path (legs_of c)) courses.courses course (get_or (passages_between path (legs_of course)) i e)
      (Contains-get_or courses.courses k d below) (Contains-get_or (passages_between path (legs_of course)) i e within)));
}
  where
    legs : List Leg
    legs = all_legs courses.courses

    stations : ℕ
    stations = length courses.points

    course : Course
    course = get_or courses.courses k d

    path : Leg → List ℕ
    path = path_of near net legs

    ways : List Way
    ways = ways_of near net legs

    passages : List Passage
    passages = all_passages near courses net

    g : Network
    g = network_of near lines courses net

    led : AreLed near net (whole_table legs)
    led = led_told near net table cs courses.courses is same led_in

    network : IsNetwork net.points g
    network = network_told near lines courses net table cs ready is same led_in

    is_passage : (x : Passage) → Contains passages x → IsPassage g x
    is_passage x known = All-contains (IsPassage g) passages x (are_passages_told near lines courses net table cs ready is same led_in) known

    over : (x : Passage) → Contains passages x → Passes (graph_over courses.stations net.points g passages) (segment_chains net.points g) x
    over x known = passes courses.stations net.points g passages network x (is_passage x known) known

    ride : (leg : Leg) → IsTracedLeg near lines stations net legs leg → leg.line.0 < lines → has_stretch (stretches_of legs) leg ≡ true → leg.line ≡ course.line
        → Rides (graph_over courses.stations net.points g passages) course.line.0 (segments_along (segment_chains net.points g) (path leg))
    ride leg traced line_in seen one =
        subst (λ (l : LineId). Rides (graph_over courses.stations net.points g passages) l.0 (segments_along (segment_chains net.points g) (path leg))) one
        (rides_along courses.stations net.points g passages network leg.line (path leg) line_in traced.trace.runs
        (λ j f within. along (get_or (passages_along leg.line (path leg)) j f) (Contains-get_or (passages_along leg.line (path leg)) j f within)))
      where
        way : Way
        way = way_by near net legs (stretch_of_leg leg)

        along : (x : Passage) → Contains (passages_along leg.line (path leg)) x → IsPassage g x × Contains passages x
        along x on =
            let known : Contains passages x =
            Contains-append_left (flat_map passages_of_way ways) (flat_map (λ (c : Course). passages_between path (legs_of c)) courses.courses) x
            (contains_joined passages_of_way ways (way_by near net legs (stretch_of_leg leg)) x (way_there near net legs leg seen) on) in
            (is_passage x known, known)

line_ridden : (near lines : ℕ) (courses : Courses) (net : NetParts) (table : StretchTable) (cs : List Course) → AreReady near lines courses net → table ≡ table_of (all_legs cs) → cs ≡ courses.courses → AreLed near net table →
    (line segment : ℕ) → IsOn (graph_over courses.stations net.points (network_of near lines courses net) (all_passages near courses net)) line segment →
    RidesOver (segment_chains net.points (network_of near lines courses net)) (path_of near net (all_legs courses.courses)) courses.courses line segment
line_ridden near lines courses net table cs ready is same led_in line segment on =
    of_ridden (ridden courses.stations net.points g (all_passages near courses net) (network_told near lines courses net table cs ready is same led_in) line segment on)
  where
    legs : List Leg
    legs = all_legs courses.courses

    ways : List Way
    ways = ways_of near net legs

    g : Network
    g = network_of near lines courses net

    of_leg : (f : Leg) → Contains legs f → f.line.0 ≡ line → Contains (segments_along (segment_chains net.points g) (path_of near net legs f)) segment → RidesOver (segment_chains net.points g) (path_of near net legs) courses.courses line segment
    of_leg f in_legs is_line over =
        let found = from_joined legs_of courses.courses f in_legs in
        let course : Course = found.0 in
        let one : f.line ≡ course.line = All-contains (λ (l : Leg). l.line ≡ course.line) (legs_of course) f (one_line course.line course.stops course.hops) found.2 in
        record { course = course; known = found.1; is_line = sym (ap (λ (l : LineId). l.0) one) ∙ is_line; leg = f; has_leg = found.2; over = over }

    of_way : (a b m : ℕ) → m < length ways → ((d : Way) → (eqb (get_or ways m d).line.0 line && runs_over a b (get_or ways m d).points) ≡ true)
        → ((xs : List ℕ) → runs_over a b xs ≡ true → Contains (segments_along (segment_chains net.points g) xs) segment) → RidesOver (segment_chains net.points g) (path_of near net legs) courses.courses line segment
    of_way a b m within runs along =
        let f : Leg = first_leg legs m in
        let in_stretches : m < length (stretches_of legs) = omega (arith, within, length-map (stretches_of legs) (way_of near net legs)) in
        let way : Way = way_by near net legs (stretch_of_leg f) in
        let there : get_or ways m way ≡ way = way_at_place near net legs m way in_stretches in
        let parts = and_parts (eqb f.line.0 line) (runs_over a b (path_of near net legs f)) (sym (ap (λ (w : Way). eqb w.line.0 line && runs_over a b w.points) there) ∙ runs way) in
        of_leg f (stretches_all (λ (l : Leg). Contains legs l) legs (λ i e inside. Contains-get_or legs i e inside) m (first_leg [] 0) in_stretches)
        (eqb-true f.line.0 line parts.0) (along (path_of near net legs f) parts.1)

    of_ridden : (a : ℕ) × (b : ℕ) × (line_runs_over ways a b line ≡ true) × ((xs : List ℕ) → runs_over a b xs ≡ true → Contains (segments_along (segment_chains net.points g) xs) segment)
        → RidesOver (segment_chains net.points g) (path_of near net legs) courses.courses line segment
    of_ridden r =
        let found = first_place (λ (w : Way). eqb w.line.0 line && runs_over r.0 r.1 w.points) ways r.2 in
        of_way r.0 r.1 (unwrap_or (position (λ (w : Way). eqb w.line.0 line && runs_over r.0 r.1 w.points) ways) 0) found.0 found.1 r.3

pub kept_told : (near lines : ℕ) (courses : Courses) (net : NetParts) (table : StretchTable) (cs : List Course) → AreReady near lines courses net → table ≡ table_of (all_legs cs) → cs ≡ courses.courses → AreLed near net table →
    AreKept near lines courses net
kept_told near lines courses net table cs ready is same led_in = record {
  courses = courses_kept near lines courses net table cs ready is same led_in;
  none_made_up = line_ridden near lines courses net table cs ready is same led_in;
}
