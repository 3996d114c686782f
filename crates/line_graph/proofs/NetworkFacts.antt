-- The ways of courses over their net make a network, and their passages are passages of it.
use Rattle.std.proofs.Common.{◌≡◌, ◌≢◌, refl, sym, ◌∙◌, ap, subst, ℕ, ◌<◌, ◌≤◌, ◌^◌, ◌⊎◌, inl, inr, Bool, true, false, cond, ◌&&◌, ◌||◌, eqb, eq-eqb, List, [], ◌∷◌, ◌++◌, length, get_or, filter, min, max, All, Contains, arith, length-append}
use Rattle.std.specs.List.{IsDistinct, flat_map, list_any, range_with_len}
use Rattle.std.proofs.lemmas.Bool.{and_parts, and_from, or_cases, or_left, or_right, false≢true}
use Rattle.std.proofs.lemmas.List.{length-map}
use Rattle.std.proofs.lemmas.List.Elements.{All-nil, All-cons, All-head, All-tail, All-filter, All-map, All-weaker}
use Rattle.std.proofs.lemmas.List.Folds.{list_any_at}
use Rattle.map_base.specs.declared.ids.LineId.{LineId}
use Rattle.map_base.specs.declared.point.Point.{Point}
use Rattle.fixed_plane.specs.Plane.{IsInPlane}
use Rattle.track_net.specs.Nearness.{has_near}
use Rattle.track_net.specs.Nets.{NetParts, IsNet, HasEdge, Leads, with_sample, net_points}
use Rattle.track_net.specs.Laws.{HasOwnDirections}
use Rattle.track_net.proofs.Lists.{any_found}
use Rattle.net_paths.specs.Stretches.{IsStretchPath}
use Rattle.net_paths.proofs.Visiting.{path-once}
use Rattle.way_network.specs.declared.way.Way.{Way}
use Rattle.way_network.specs.declared.way.Passage.{Passage}
use Rattle.way_network.specs.Edges.{runs_over, line_runs_over, is_used, used_from, is_on_edges}
use Rattle.way_network.specs.Chains.{Network, used_at}
use Rattle.way_network.specs.Joins.{passages_of_way}
use Rattle.way_network.specs.Segments.{first_of, second_of, last_of, reversed}
use Rattle.way_network.specs.Premises.{IsWay, IsNetwork, IsPassage}
use Rattle.way_network.specs.Premises as ways
use Rattle.line_graph.specs.declared.stretches.Stretch.{Stretch}
use Rattle.line_graph.specs.Legs.{Leg, legs_between, corridor_of, are_one_stretch, has_stretch, stretches_of, path_of, ways_of}
use Rattle.line_graph.specs.Handing.{directed, handed_over, passages_between}
use Rattle.line_graph.specs.StretchTables.{stretch_of_leg, stretch_at, corridor_at, directed_between}
use Rattle.line_graph.specs.Premises.{IsAsked, AreAsked, AreLed}
use Rattle.line_graph.proofs.WaySteps.{led_same}
use Rattle.line_graph.proofs.LegFacts.{all_flat_map, IsFitLeg, Touches}
use Rattle.line_graph.proofs.PathFacts.{edge_of, joins_lower, path_leads, runs_over_edge, leads_last, leads_some, leads_known, IsAlong, all_along, RunsBetween, leaves_first, comes_last}
use Rattle.line_graph.proofs.TableLemmas.{whole_table, first_leg, stretch_there, corridor_there, stretches_all, HasPlace, has_place, way_by, way_at_place}

-- ---- paths can be asked for

leg_asked : (stations : ℕ) (net : NetParts) → IsNet net → (legs : List Leg) (f : Leg) → All (IsFitLeg stations net) legs → IsFitLeg stations net f → IsAsked net (stretch_of_leg f) (corridor_of legs f)
leg_asked stations net kept legs f fits fit = record {
  order = lower_first f.from f.to fit.apart;
  joined = joins_lower net kept f.from f.to fit.joined;
  in_plane = all_flat_map IsInPlane (λ (l : Leg). l.samples) (filter (are_one_stretch f) legs)
      (All-filter (are_one_stretch f) (λ (l : Leg). All IsInPlane l.samples) legs (All-weaker (IsFitLeg stations net) (λ (l : Leg). All IsInPlane l.samples) (λ l is. is.in_plane) legs fits));
}
  where
    lower_first : (a b : ℕ) → a ≢ b → min a b < max a b
    lower_first a b apart = omega arith

pub all_asked : (stations : ℕ) (net : NetParts) → IsNet net → (legs : List Leg) → All (IsFitLeg stations net) legs → AreAsked net (whole_table legs)
all_asked stations net kept legs fits place below =
    subst (λ (s : Stretch). IsAsked net s (corridor_at (whole_table legs) place)) (sym (stretch_there legs place within))
    (subst (λ (c : List Point). IsAsked net (stretch_of_leg f) c) (sym (corridor_there legs place within))
    (leg_asked stations net kept legs f fits (stretches_all (IsFitLeg stations net) legs fits place (first_leg [] 0) within)))
  where
    f : Leg
    f = first_leg legs place

    within : place < length (stretches_of legs)
    within = omega (arith, below, length-map (stretches_of legs) stretch_of_leg)

-- ---- what is known of a way

-- a way of a line that is there leads from a station to a higher one over net edges, to no point twice
pub record IsTrace (lines stations : ℕ) (net : NetParts) (ways : List Way) (w : Way) (from to : ℕ) : Type 0 where
  pub line_below : w.line.0 < lines
  pub further : List ℕ
  pub begins : w.points ≡ from ∷ further
  pub leads : Leads net from to further
  pub to_in : to < stations
  pub order : from < to
  pub simple : IsDistinct eqb w.points
  pub runs : (p q : ℕ) → runs_over p q w.points ≡ true → line_runs_over ways p q w.line.0 ≡ true

-- the traces of some ways
abbrev pub AreTraces : ℕ → ℕ → NetParts → List Way → Type 0
AreTraces lines stations net ways = All (λ (w : Way). (from : ℕ) × (to : ℕ) × IsTrace lines stations net ways w from to) ways

-- the way of a stretch is one
abbrev pub IsStretchTrace : ℕ → ℕ → ℕ → NetParts → List Leg → Stretch → Type 0
IsStretchTrace near lines stations net legs s = IsTrace lines stations net (ways_of near net legs) (way_by near net legs s) s.low s.high

pub first_trace : (near lines stations : ℕ) (net : NetParts) → IsNet net → (legs : List Leg) → All (IsFitLeg stations net) legs → All (λ (l : Leg). l.line.0 < lines) legs → AreLed near net (whole_table legs) →
    (place : ℕ) → place < length (stretches_of legs) → IsStretchTrace near lines stations net legs (stretch_of_leg (first_leg legs place))
first_trace near lines stations net kept legs fits lines_in led place within = record {
  line_below = stretches_all (λ (l : Leg). l.line.0 < lines) legs lines_in place (first_leg [] 0) within;
  further = path.further;
  begins = path.begins;
  leads = path_leads near (corridor_of legs f) net s.low s.high path.further path.cost path.least.path;
  to_in = higher_in f.from f.to fit.from_in fit.to_in;
  order = lower_first f.from f.to fit.apart;
  simple = path-once near (corridor_of legs f) net s.low s.high (path_of near net legs f) kept path;
  runs = λ p q e.
      list_any_at (λ (w : Way). eqb w.line.0 f.line.0 && runs_over p q w.points) (ways_of near net legs) place (way_by near net legs s) (omega (arith, within, length-map (stretches_of legs) (way_by_leg near net legs)))
      (ap (λ (w : Way). eqb w.line.0 f.line.0 && runs_over p q w.points) (way_at_place near net legs place (way_by near net legs s) within)
      ∙ and_from (eqb f.line.0 f.line.0) (runs_over p q (path_of near net legs f)) (eq-eqb f.line.0 f.line.0 refl) e);
}
  where
    f : Leg
    f = first_leg legs place

    s : Stretch
    s = stretch_of_leg f

    fit : IsFitLeg stations net f
    fit = stretches_all (IsFitLeg stations net) legs fits place (first_leg [] 0) within

    path : IsStretchPath near (corridor_of legs f) net s.low s.high (path_of near net legs f)
    path =
        led_same near net (stretch_at (whole_table legs) place) s (corridor_at (whole_table legs) place) (corridor_of legs f) (stretch_there legs place within) (corridor_there legs place within)
        (led place (omega (arith, within, length-map (stretches_of legs) stretch_of_leg)))

    way_by_leg : ℕ → NetParts → List Leg → Leg → Way
    way_by_leg near net legs l = way_by near net legs (stretch_of_leg l)

    higher_in : (a b : ℕ) → a < stations → b < stations → max a b < stations
    higher_in a b p q = omega arith

    lower_first : (a b : ℕ) → a ≢ b → min a b < max a b
    lower_first a b apart = omega arith

pub leg_trace : (near lines stations : ℕ) (net : NetParts) → IsNet net → (legs : List Leg) → All (IsFitLeg stations net) legs → All (λ (l : Leg). l.line.0 < lines) legs → AreLed near net (whole_table legs) →
    (leg : Leg) → has_stretch (stretches_of legs) leg ≡ true → IsStretchTrace near lines stations net legs (stretch_of_leg leg)
leg_trace near lines stations net kept legs fits lines_in led leg seen = of_place (has_place legs leg seen)
  where
    of_place : HasPlace legs leg → IsStretchTrace near lines stations net legs (stretch_of_leg leg)
    of_place there = subst (IsStretchTrace near lines stations net legs) there.same (first_trace near lines stations net kept legs fits lines_in led there.place there.within)

pub ways_traced : (near lines stations : ℕ) (net : NetParts) → IsNet net → (legs : List Leg) → All (IsFitLeg stations net) legs → All (λ (l : Leg). l.line.0 < lines) legs → AreLed near net (whole_table legs) →
    AreTraces lines stations net (ways_of near net legs)
ways_traced near lines stations net kept legs fits lines_in led k d below =
    subst (λ (w : Way). (from : ℕ) × (to : ℕ) × IsTrace lines stations net (ways_of near net legs) w from to) (sym (way_at_place near net legs k d within))
    (s.low, s.high, first_trace near lines stations net kept legs fits lines_in led k within)
  where
    s : Stretch
    s = stretch_of_leg (first_leg legs k)

    way_by_leg : Leg → Way
    way_by_leg l = way_by near net legs (stretch_of_leg l)

    within : k < length (stretches_of legs)
    within = omega (arith, below, length-map (stretches_of legs) way_by_leg)

-- ---- a network of traces

abbrev pub network_with : ℕ → ℕ → NetParts → List Way → Network
network_with lines stations net ways = record { stations = stations; points = length net.points; lines = lines; ways = ways }

trace_runs : (lines stations : ℕ) (net : NetParts) → IsNet net → (ways : List Way) (w : Way) (from to : ℕ) → IsTrace lines stations net ways w from to → (p q : ℕ) → runs_over p q w.points ≡ true → HasEdge net p q
trace_runs lines stations net kept ways w from to trace p q e =
    runs_over_edge net kept p q from to trace.further trace.leads (subst (λ xs. runs_over p q xs ≡ true) trace.begins e)

trace_way : (lines stations : ℕ) (net : NetParts) → IsNet net → stations ≤ length net.points → (ways : List Way) (w : Way) (from to : ℕ) → IsTrace lines stations net ways w from to → IsWay (network_with lines stations net ways) w
trace_way lines stations net kept most ways w from to trace = record {
  line = trace.line_below;
  some_points = subst (λ xs. 2 ≤ length xs) (sym trace.begins) (leads_some net from to trace.further trace.leads (less_apart from to trace.order));
  known = subst (λ xs. All (λ p. p < length net.points) xs) (sym trace.begins) (leads_known net kept from to trace.further trace.leads (omega (arith, most, trace.order, trace.to_in)));
  simple = trace.simple;
  begins = subst (λ xs. first_of xs < stations) (sym trace.begins) (omega (arith, trace.order, trace.to_in));
  ends = subst (λ xs. last_of xs < stations) (sym trace.begins) (subst (λ n. n < stations) (sym (leads_last net from to trace.further trace.leads)) trace.to_in);
}
  where
    less_apart : (a b : ℕ) → a < b → a ≢ b
    less_apart a b less e = omega arith

trace_passages : (lines stations : ℕ) (net : NetParts) → IsNet net → (ways : List Way) (w : Way) (from to : ℕ) → IsTrace lines stations net ways w from to → All (IsPassage (network_with lines stations net ways)) (passages_of_way w)
trace_passages lines stations net kept ways w from to trace k d below = of_passage (get_or (passages_of_way w) k d) (all_along w.line w.points k d below)
  where
    of_passage : (x : Passage) → IsAlong w.line w.points x → IsPassage (network_with lines stations net ways) x
    of_passage x along = record {
      known = (edge_of net kept x.at x.from (trace_runs lines stations net kept ways w from to trace x.at x.from along.comes)).i_in;
      line = subst (λ (l : LineId). l.0 < lines) (sym along.line_is) trace.line_below;
      comes = subst (λ (l : LineId). line_runs_over ways x.at x.from l.0 ≡ true) (sym along.line_is) (trace.runs x.at x.from along.comes);
      goes = subst (λ (l : LineId). line_runs_over ways x.at x.to l.0 ≡ true) (sym along.line_is) (trace.runs x.at x.to along.goes);
    }

pub way_passages : (lines stations : ℕ) (net : NetParts) → IsNet net → (ways : List Way) → AreTraces lines stations net ways → All (IsPassage (network_with lines stations net ways)) (flat_map passages_of_way ways)
way_passages lines stations net kept ways traces =
    all_flat_map (IsPassage (network_with lines stations net ways)) passages_of_way ways (λ k d below. let t = traces k d below in trace_passages lines stations net kept ways (get_or ways k d) t.0 t.1 t.2)

-- used edges are edges of the net
used_in : (net : NetParts) (p q : ℕ) (ways : List Way) → All (λ (w : Way). runs_over p q w.points ≡ true → HasEdge net p q) ways → is_used ways p q ≡ true → HasEdge net p q
used_in net p q [] each e = absurd (false≢true e)
used_in net p q (w ∷ ways) each e =
    of_cases (or_cases (runs_over p q w.points) (is_used ways p q) e) (used_in net p q ways (All-tail (λ (w : Way). runs_over p q w.points ≡ true → HasEdge net p q) w ways each))
  where
    of_cases : (runs_over p q w.points ≡ true) ⊎ (is_used ways p q ≡ true) → (is_used ways p q ≡ true → HasEdge net p q) → HasEdge net p q
    of_cases (inl h) later = All-head (λ (w : Way). runs_over p q w.points ≡ true → HasEdge net p q) w ways each h
    of_cases (inr h) later = later h

pub used_edge : (lines stations : ℕ) (net : NetParts) → IsNet net → (ways : List Way) → AreTraces lines stations net ways → (p q : ℕ) → is_used ways p q ≡ true → HasEdge net p q
used_edge lines stations net kept ways traces p q e =
    used_in net p q ways (λ k d below. let t = traces k d below in trace_runs lines stations net kept ways (get_or ways k d) t.0 t.1 t.2 p q) e

pub used_by_line : (p q line : ℕ) (ways : List Way) → line_runs_over ways p q line ≡ true → is_used ways p q ≡ true
used_by_line p q line [] e = absurd (false≢true e)
used_by_line p q line (w ∷ ways) e = of_cases (or_cases (eqb w.line.0 line && runs_over p q w.points) (line_runs_over ways p q line) e) (used_by_line p q line ways)
  where
    of_cases : ((eqb w.line.0 line && runs_over p q w.points) ≡ true) ⊎ (line_runs_over ways p q line ≡ true) → (line_runs_over ways p q line ≡ true → is_used ways p q ≡ true) →
        (runs_over p q w.points || is_used ways p q) ≡ true
    of_cases (inl h) later = let parts = and_parts (eqb w.line.0 line) (runs_over p q w.points) h in or_left (runs_over p q w.points) (is_used ways p q) parts.1
    of_cases (inr h) later = or_right (runs_over p q w.points) (is_used ways p q) (later h)

on_edges : (test : ℕ → Bool) (xs : List ℕ) → list_any test xs ≡ true → is_on_edges (filter test xs) ≡ true
on_edges test [] e = absurd (false≢true e)
on_edges test (x ∷ xs) e = of_test (test x) refl (on_edges test xs)
  where
    of_test : (b : Bool) → test x ≡ b → (list_any test xs ≡ true → is_on_edges (filter test xs) ≡ true) → is_on_edges (cond b (x ∷ filter test xs) (filter test xs)) ≡ true
    of_test true here later = refl
    of_test false none later = later (sym (ap (λ b. b || list_any test xs) none) ∙ e)

-- ---- legs and what is handed over between them

-- a leg's way runs between its stations
leg_runs : (near lines stations : ℕ) (net : NetParts) (legs : List Leg) (leg : Leg) → IsStretchTrace near lines stations net legs (stretch_of_leg leg) → RunsBetween leg.from leg.to (path_of near net legs leg)
leg_runs near lines stations net legs leg trace = record {
  some = subst (λ xs. 2 ≤ length xs) (sym trace.begins) (leads_some net low high trace.further trace.leads (less_apart low high trace.order));
  begins = ap first_of trace.begins;
  ends = ap last_of trace.begins ∙ leads_last net low high trace.further trace.leads;
}
  where
    low : ℕ
    low = min leg.from leg.to

    high : ℕ
    high = max leg.from leg.to

    less_apart : (a b : ℕ) → a < b → a ≢ b
    less_apart a b less e = omega arith

-- a leg that fits, with the way of its stretch
pub record IsTracedLeg (near lines stations : ℕ) (net : NetParts) (legs : List Leg) (leg : Leg) : Type 0 where
  pub fit : IsFitLeg stations net leg
  pub trace : IsStretchTrace near lines stations net legs (stretch_of_leg leg)

pub handed_passage : (near lines stations : ℕ) (net : NetParts) (legs : List Leg) → stations ≤ length net.points → (a b : Leg) → a.to ≡ b.from → a.line ≡ b.line → IsTracedLeg near lines stations net legs a → IsTracedLeg near lines stations net legs b →
    IsPassage (network_with lines stations net (ways_of near net legs)) (handed_over a (directed a (path_of near net legs a)) (directed b (path_of near net legs b)))
handed_passage near lines stations net legs most a b meet one_line first next = record {
  known = omega (arith, first.fit.to_in, most);
  line = first.trace.line_below;
  comes = first.trace.runs a.to (second_of (reversed (directed a (path_of near net legs a))))
      (comes_last a.from a.to (path_of near net legs a) first.fit.apart (leg_runs near lines stations net legs a first.trace));
  goes = subst (λ p. line_runs_over (ways_of near net legs) p after a.line.0 ≡ true) (sym meet)
      (subst (λ (l : LineId). line_runs_over (ways_of near net legs) b.from after l.0 ≡ true) (sym one_line)
      (next.trace.runs b.from after (leaves_first b.from b.to (path_of near net legs b) next.fit.apart (leg_runs near lines stations net legs b next.trace))));
}
  where
    after : ℕ
    after = second_of (directed b (path_of near net legs b))

pub handed_along : (near lines stations : ℕ) (net : NetParts) (legs : List Leg) → stations ≤ length net.points → (line : LineId) (stops : List ℕ) (hops : List (List Point)) →
    All (IsTracedLeg near lines stations net legs) (legs_between line stops hops) → All (IsPassage (network_with lines stations net (ways_of near net legs))) (passages_between (path_of near net legs) (legs_between line stops hops))
handed_along near lines stations net legs most line [] hops each = All-nil (IsPassage (network_with lines stations net (ways_of near net legs)))
handed_along near lines stations net legs most line (s ∷ []) hops each = All-nil (IsPassage (network_with lines stations net (ways_of near net legs)))
handed_along near lines stations net legs most line (s ∷ t ∷ rest) [] each = All-nil (IsPassage (network_with lines stations net (ways_of near net legs)))
handed_along near lines stations net legs most line (s ∷ t ∷ []) (hop ∷ hops) each = All-nil (IsPassage (network_with lines stations net (ways_of near net legs)))
handed_along near lines stations net legs most line (s ∷ t ∷ u ∷ rest) (hop ∷ []) each = All-nil (IsPassage (network_with lines stations net (ways_of near net legs)))
handed_along near lines stations net legs most line (s ∷ t ∷ u ∷ rest) (hop ∷ next ∷ hops) each =
    let a : Leg = record { line = line; from = s; to = t; samples = hop } in
    let b : Leg = record { line = line; from = t; to = u; samples = next } in
    let later = All-tail (IsTracedLeg near lines stations net legs) a (legs_between line (t ∷ u ∷ rest) (next ∷ hops)) each in
    All-cons (IsPassage (network_with lines stations net (ways_of near net legs))) (handed_over a (directed a (path_of near net legs a)) (directed b (path_of near net legs b)))
    (passages_between (path_of near net legs) (legs_between line (t ∷ u ∷ rest) (next ∷ hops)))
    (handed_passage near lines stations net legs most a b refl refl (All-head (IsTracedLeg near lines stations net legs) a (legs_between line (t ∷ u ∷ rest) (next ∷ hops)) each)
    (All-head (IsTracedLeg near lines stations net legs) b (legs_between line (u ∷ rest) hops) later))
    (handed_along near lines stations net legs most line (t ∷ u ∷ rest) (next ∷ hops) later)

-- a station at which a leg begins or ends is on a used edge
pub touched : (near lines stations : ℕ) (net : NetParts) → IsNet net → (legs : List Leg) → AreTraces lines stations net (ways_of near net legs) → (place : ℕ) (leg : Leg) → IsTracedLeg near lines stations net legs leg → Touches place leg →
    is_on_edges (used_at (network_with lines stations net (ways_of near net legs)) place) ≡ true
touched near lines stations net kept legs traces place leg is touches = of_case touches
  where
    points : List ℕ
    points = path_of near net legs leg

    runs : RunsBetween leg.from leg.to points
    runs = leg_runs near lines stations net legs leg is.trace

    found : (p q : ℕ) → runs_over p q points ≡ true → is_on_edges (used_from (length net.points) (ways_of near net legs) p) ≡ true
    found p q e =
        let used : is_used (ways_of near net legs) p q ≡ true = used_by_line p q leg.line.0 (ways_of near net legs) (is.trace.runs p q e) in
        let inside : q < length net.points = (edge_of net kept p q (used_edge lines stations net kept (ways_of near net legs) traces p q used)).j_in in
        on_edges (is_used (ways_of near net legs) p) (range_with_len 0 (length net.points)) (any_found (is_used (ways_of near net legs) p) q (length net.points) inside used)

    at : (p : ℕ) → p ≡ place → (q : ℕ) → runs_over p q points ≡ true → is_on_edges (used_from (length net.points) (ways_of near net legs) place) ≡ true
    at p same q e = subst (λ n. is_on_edges (used_from (length net.points) (ways_of near net legs) n) ≡ true) same (found p q e)

    of_case : Touches place leg → is_on_edges (used_from (length net.points) (ways_of near net legs) place) ≡ true
    of_case (inl from_it) = at leg.from from_it (second_of (directed_between leg.from leg.to points)) (leaves_first leg.from leg.to points is.fit.apart runs)
    of_case (inr to_it) = at leg.to to_it (second_of (reversed (directed_between leg.from leg.to points))) (comes_last leg.from leg.to points is.fit.apart runs)

-- ---- the network

-- the net has the stations among its points
pub stations_stay : (near : ℕ) (ps samples : List Point) → length ps ≤ length (net_points near ps samples)
stations_stay near ps [] = omega arith
stations_stay near ps (s ∷ samples) = at_most (length ps) (length (with_sample near ps s)) (length (net_points near (with_sample near ps s) samples)) (one_sample (has_near near ps s)) (stations_stay near (with_sample near ps s) samples)
  where
    at_most : (a b c : ℕ) → a ≤ b → b ≤ c → a ≤ c
    at_most a b c p q = omega arith

    one_sample : (b : Bool) → length ps ≤ length (cond b ps (ps ++ s ∷ []))
    one_sample true = omega arith
    one_sample false = omega (arith, length-append ps (s ∷ []))

pub is_network : (near lines stations : ℕ) (net : NetParts) → IsNet net → (legs : List Leg) → lines < 2 ^ 32 → stations ≤ length net.points → HasOwnDirections net → AreTraces lines stations net (ways_of near net legs) →
    ((p : ℕ) → p < stations → is_on_edges (used_at (network_with lines stations net (ways_of near net legs)) p) ≡ true) → ways.HasFewLines 1000 (network_with lines stations net (ways_of near net legs)) →
    IsNetwork net.points (network_with lines stations net (ways_of near net legs))
is_network near lines stations net kept legs few most own traces served known = record {
  count = refl;
  few_points = kept.few;
  stations = most;
  few_lines = few;
  in_plane = kept.in_plane;
  ways = λ k d below. let t = traces k d below in trace_way lines stations net kept most (ways_of near net legs) (get_or (ways_of near net legs) k d) t.0 t.1 t.2;
  directions = λ a b c used also other one. own a b c (edge a b used) (edge a c also) other one;
  apart = λ a b used same. let e = edge_of net kept a b (edge a b used) in e.apart (sym (kept.distinct b a e.j_in e.i_in same));
  served = served;
  known_lines = known;
}
  where
    edge : (p q : ℕ) → is_used (ways_of near net legs) p q ≡ true → HasEdge net p q
    edge = used_edge lines stations net kept (ways_of near net legs) traces

pub few_lines : (near lines stations : ℕ) (net : NetParts) (legs : List Leg) (known : List LineId) → length known ≤ 1000 → All (λ (l : Leg). Contains known l.line) legs → ways.HasFewLines 1000 (network_with lines stations net (ways_of near net legs))
few_lines near lines stations net legs known few each =
    (known, few, All-map (λ (w : Way). Contains known w.line) way_of_leg (stretches_of legs) (stretches_all (λ (l : Leg). Contains known l.line) legs each))
  where
    way_of_leg : Leg → Way
    way_of_leg l = way_by near net legs (stretch_of_leg l)

-- ---- passages by another path

between_same : (path other : Leg → List ℕ) (legs : List Leg) → All (λ l. path l ≡ other l) legs → passages_between path legs ≡ passages_between other legs
between_same path other [] same = refl
between_same path other (a ∷ []) same = refl
between_same path other (a ∷ b ∷ rest) same =
    let later = All-tail (λ l. path l ≡ other l) a (b ∷ rest) same in
    ap (λ xs. handed_over a (directed a xs) (directed b (path b)) ∷ passages_between path (b ∷ rest)) (All-head (λ l. path l ≡ other l) a (b ∷ rest) same)
    ∙ ap (λ xs. handed_over a (directed a (other a)) (directed b xs) ∷ passages_between path (b ∷ rest)) (All-head (λ l. path l ≡ other l) b rest later)
    ∙ ap (λ xs. handed_over a (directed a (other a)) (directed b (other b)) ∷ xs) (between_same path other (b ∷ rest) later)

pub all_between_same : {X : Type 0} (path other : Leg → List ℕ) (legs_in : X → List Leg) (xs : List X) → All (λ x. All (λ l. path l ≡ other l) (legs_in x)) xs →
    flat_map (λ x. passages_between path (legs_in x)) xs ≡ flat_map (λ x. passages_between other (legs_in x)) xs
all_between_same path other legs_in [] same = refl
all_between_same {X} path other legs_in (x ∷ xs) same =
    ap (λ ps. ps ++ flat_map (λ x. passages_between path (legs_in x)) xs) (between_same path other (legs_in x) (All-head (λ (y : X). All (λ l. path l ≡ other l) (legs_in y)) x xs same))
    ∙ ap (λ ps. passages_between other (legs_in x) ++ ps) (all_between_same path other legs_in xs (All-tail (λ (y : X). All (λ l. path l ≡ other l) (legs_in y)) x xs same))
