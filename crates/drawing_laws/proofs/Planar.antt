-- A drawing that is clear in the plane is legal: halves of steps are enough to tell.
use Rattle.std.proofs.Common.{◌≡◌, ◌≢◌, refl, sym, ◌∙◌, ap, subst, ℕ, suc, ◌+◌, ◌-◌, ◌*◌, ◌%◌, ◌<◌, ◌≤◌, ◌⊎◌, inl, inr, true, false, ℤ, pos, ◌+ℤ◌, ◌*ℤ◌, List, [], ◌∷◌, length, map, get_or, slice_get, Some, is_none, arith}
use Rattle.std.proofs.lemmas.Bool.{and_from, cases_Bool, cases_eq, eq-eqb, lt-ltb, not_from_false, or_left, or_right}
use Rattle.std.proofs.lemmas.Int.{ints}
use Rattle.std.proofs.Math.Nat.{mul-suc}
use Rattle.std.specs.List.{filter_map}
use Rattle.graph_core.specs.declared.parts.GraphParts.{GraphParts}
use Rattle.map_base.specs.declared.ids.SegId.{SegId}
use Rattle.octi_grid.specs.declared.dir.Dir.{Dir}
use Rattle.octi_grid.specs.declared.point.GridPoint.{GridPoint}
use Rattle.octi_grid.specs.Ways.{doubled, doubled_from, east_of, north_of, number_of, step_from}
use Rattle.octi_grid.specs.Costs.{clockwise_from}
use Rattle.octi_grid.specs.Walks.{doubled_of, PlainWalk}
use Rattle.octi_grid.specs.Legal.{all_apart, are_apart, are_clockwise, are_distinct, are_rising, ends_hold, is_among, is_clear, is_common_end, legal, legs_of, meets_hold, port_of, puts_by, puts_of, Leg, Put}
use Rattle.octi_grid.proofs.LegalLemmas.{ends_hold-from}
use Rattle.octi_grid.proofs.Members.{all_from, among_at, In}
use Rattle.octi_grid.proofs.MeetsLemmas.{apart_from, common_from, distinct_from, meets_hold-from}
use Rattle.octi_grid.proofs.PortsLemmas.{ports_each, why_ports}
use Rattle.octi_grid.proofs.RunLemmas.{same_direction}
use Rattle.octi_grid.proofs.WayLemmas.{same_point}
use Rattle.walk_search.proofs.FreeWalks.{IsUnit, none, more, less, east_unit, north_unit}
use Rattle.drawing_laws.specs.Plane.{PlanePoint, along, in_parts, on_step, ports_round, IsPlaneDrawing}
use Rattle.drawing_laws.proofs.Clockwise.{below_eight}
use Rattle.drawing_laws.proofs.Curves.{along_first, along_later, along_start, contains_in, in_contains}
use Rattle.drawing_laws.proofs.Steps.{across_of, plane_point, step_begins, step_ends, up_of}

-- ---- doubled points as points of the plane

abbrev half_point : GridPoint → PlanePoint
half_point d = record { across = d.x; up = d.y }

twice : (z : ℤ) → (pos 2 *ℤ z) ≡ (z +ℤ z)
twice z = omega (arith, ints)

half_step : (z u : ℤ) → IsUnit u → ((pos 2 *ℤ z) +ℤ (pos 1 *ℤ u)) ≡ ((z +ℤ z) +ℤ u)
half_step z u none = omega (arith, ints)
half_step z u more = omega (arith, ints)
half_step z u less = omega (arith, ints)

at_doubled : (p : GridPoint) → in_parts 2 p ≡ half_point (doubled p)
at_doubled p = plane_point (twice p.x) (twice p.y)

at_middle : (p : GridPoint) (d : Dir) → on_step 2 p d 1 ≡ half_point (step_from (doubled p) d)
at_middle p d = plane_point (half_step p.x (east_of d) (east_unit d)) (half_step p.y (north_of d) (north_unit d))

same_half : (d e : GridPoint) → half_point d ≡ half_point e → d ≡ e
same_half d e h = same_point (across_of (half_point d) (half_point e) h) (up_of (half_point d) (half_point e) h)

-- two halves of a step further on is a step further on
two_more : (p : GridPoint) (d : Dir) (ds : List Dir) (t : ℕ) → along 2 p (d ∷ ds) (t + 2) ≡ along 2 (step_from p d) ds t
two_more p d ds t = by (cases_eq t 0)
  where
    by : (t ≡ 0) ⊎ (t ≡ 0 → ⊥) → along 2 p (d ∷ ds) (t + 2) ≡ along 2 (step_from p d) ds t
    by (inl nought) =
        ap (λ (k : ℕ). along 2 p (d ∷ ds) (k + 2)) nought ∙ along_first 2 p d ds 2 (omega arith) ∙ step_ends 2 p d ∙ sym (along_start 2 (step_from p d) ds)
        ∙ ap (along 2 (step_from p d) ds) (sym nought)
    by (inr some) =
        let apart : t ≢ 0 = some in
        let back : (t + 2) - 2 ≡ t = omega arith in
        along_later 2 p d ds (t + 2) (omega (arith, apart)) ∙ ap (along 2 (step_from p d) ds) back

-- where a doubled point of a way lies along it
record IsAlong (p : GridPoint) (ds : List Dir) (d : GridPoint) : Type 0 where
  pub place : ℕ
  pub within : place ≤ 2 * length ds
  pub there : along 2 p ds place ≡ half_point d

doubled_along : (p : GridPoint) (ds : List Dir) (d : GridPoint) → In d (doubled_from p ds) → IsAlong p ds d
doubled_along p [] d (inl e) = record { place = 0; within = omega arith; there = at_doubled p ∙ ap half_point (sym e) }
doubled_along p [] d (inr m) = absurd m
doubled_along p (s ∷ ds) d (inl e) =
    record { place = 0; within = omega arith; there = along_first 2 p s ds 0 (omega arith) ∙ step_begins 2 p s ∙ at_doubled p ∙ ap half_point (sym e) }
doubled_along p (s ∷ ds) d (inr (inl e)) =
    let long = mul-suc 2 (length ds) in
    record { place = 1; within = omega (arith, long); there = along_first 2 p s ds 1 (omega arith) ∙ at_middle p s ∙ ap half_point (sym e) }
doubled_along p (s ∷ ds) d (inr (inr m)) =
    let rest = doubled_along (step_from p s) ds d m in
    let long = mul-suc 2 (length ds) in
    record { place = rest.place + 2; within = omega (arith, rest.within, long); there = two_more p s ds rest.place ∙ rest.there }

-- a way that doesn't meet itself has no doubled point twice
once_from : (p : GridPoint) (ds : List Dir) → ((s t : ℕ) → s ≤ 2 * length ds → t ≤ 2 * length ds → along 2 p ds s ≡ along 2 p ds t → s ≡ t)
    → are_distinct (doubled_from p ds) ≡ true
once_from p [] simple = refl
once_from p (d ∷ ds) simple =
    distinct_from (doubled p) (step_from (doubled p) d ∷ doubled_from (step_from p d) ds) not_start
    (distinct_from (step_from (doubled p) d) (doubled_from (step_from p d) ds) (λ m. not_later 1 (step_from (doubled p) d) (omega arith) (along_first 2 p d ds 1 (omega arith) ∙ at_middle p d) m)
    (once_from (step_from p d) ds rest_simple))
  where
    long : 2 * suc (length ds) ≡ 2 * length ds + 2
    long = mul-suc 2 (length ds)

    -- what lies in the first step, before its end, doesn't lie behind it
    not_later : (t : ℕ) (e : GridPoint) → t < 2 → along 2 p (d ∷ ds) t ≡ half_point e → In e (doubled_from (step_from p d) ds) → ⊥
    not_later t e low is m =
        let rest = doubled_along (step_from p d) ds e m in
        let same = simple t (rest.place + 2) (omega (arith, long, low)) (omega (arith, long, rest.within)) (is ∙ sym (two_more p d ds rest.place ∙ rest.there)) in
        omega (arith, same, low)

    start_is : along 2 p (d ∷ ds) 0 ≡ half_point (doubled p)
    start_is = along_first 2 p d ds 0 (omega arith) ∙ step_begins 2 p d ∙ at_doubled p

    not_start : In (doubled p) (step_from (doubled p) d ∷ doubled_from (step_from p d) ds) → ⊥
    not_start (inl e) =
        let same = simple 0 1 (omega arith) (omega (arith, long)) (start_is ∙ ap half_point e ∙ sym (along_first 2 p d ds 1 (omega arith) ∙ at_middle p d)) in
        omega (arith, same)
    not_start (inr m) = not_later 0 (doubled p) (omega arith) start_is m

    rest_simple : (s t : ℕ) → s ≤ 2 * length ds → t ≤ 2 * length ds → along 2 (step_from p d) ds s ≡ along 2 (step_from p d) ds t → s ≡ t
    rest_simple s t ls lt e =
        let same = simple (s + 2) (t + 2) (omega (arith, long, ls)) (omega (arith, long, lt)) (two_more p d ds s ∙ e ∙ sym (two_more p d ds t)) in
        omega (arith, same)

-- ---- walks that meet nothing

place_in : {X : Type 0} (x : X) (xs : List X) → In x xs → (j : ℕ) × (slice_get xs j ≡ Some x)
place_in x [] m = absurd m
place_in x (y ∷ ys) (inl e) = (0, ap (λ z. Some z) (sym e))
place_in x (y ∷ ys) (inr m) = let rest = place_in x ys m in (suc rest.0, rest.1)

apart_all : (legs : List Leg) → ((i j : ℕ) (l m : Leg) → i < j → slice_get legs i ≡ Some l → slice_get legs j ≡ Some m → are_apart l m ≡ true) → all_apart legs ≡ true
apart_all [] each = refl
apart_all (l ∷ ls) each =
    and_from _ _ (all_from (are_apart l) ls (λ m on. let place = place_in m ls on in each 0 (suc place.0) l m (omega arith) refl place.1))
    (apart_all ls (λ i j k m less a b. each (suc i) (suc j) k m (omega (arith, less)) a b))

module _ (rounds : List (List SegId)) (legs : List Leg) (h : IsPlaneDrawing rounds legs) where
  two_apart : (i j : ℕ) (l m : Leg) → i ≢ j → slice_get legs i ≡ Some l → slice_get legs j ≡ Some m → are_apart l m ≡ true
  two_apart i j l m other a b = apart_from l m shared
    where
      shared : (d : GridPoint) → In d (doubled_of l.1) → In d (doubled_of m.1) → is_common_end l m d ≡ true
      shared d on_l on_m =
          let one = doubled_along l.1.start l.1.steps d on_l in
          let two = doubled_along m.1.start m.1.steps d on_m in
          let end = h.apart i j l m 2 one.place two.place a b other (omega arith) (one.there ∙ sym two.there) in
          let point : doubled end.at ≡ d = same_half (doubled end.at) d (sym (at_doubled end.at) ∙ sym end.there ∙ one.there) in
          common_from l m d (end.node, end.at) (end.node, end.at) (in_contains (end.node, end.at) (puts_by l) end.of_one)
          (in_contains (end.node, end.at) (puts_by m) end.of_other) refl point point

  own_clear : (l : Leg) (p : Put) → In l legs → In p (puts_of legs) → is_clear l p ≡ true
  own_clear l p on put = by (cases_Bool (is_among (doubled_of l.1) (doubled p.1)))
    where
      own : (l.0.0.0 ≡ p.0) ⊎ (l.0.1.0 ≡ p.0) → is_clear l p ≡ true
      own (inl e) = or_left _ _ (or_left _ _ (eq-eqb l.0.0.0 p.0 e))
      own (inr e) = or_left _ _ (or_right _ _ (eq-eqb l.0.1.0 p.0 e))

      by : (is_among (doubled_of l.1) (doubled p.1) ≡ true) ⊎ (is_among (doubled_of l.1) (doubled p.1) ≡ false) → is_clear l p ≡ true
      by (inl meets) =
          let place = doubled_along l.1.start l.1.steps (doubled p.1) (among_at (doubled_of l.1) (doubled p.1) meets) in
          own (h.clear l p 2 place.place (contains_in l legs on) (contains_in p (puts_of legs) put) (omega arith) (place.there ∙ sym (at_doubled p.1)))
      by (inr off) = or_right _ _ (not_from_false (is_among (doubled_of l.1) (doubled p.1)) off)

  ends_fit : ends_hold legs ≡ true
  ends_fit = ends_hold-from legs (record {
    even = λ p a. h.even p (contains_in p (puts_of legs) a);
    one_place = λ p q a b e. h.one_point p q (contains_in p (puts_of legs) a) (contains_in q (puts_of legs) b) e;
    one_node = λ p q a b e. h.one_node p q (contains_in p (puts_of legs) a) (contains_in q (puts_of legs) b) e;
  })

  meets_fit : meets_hold legs ≡ true
  meets_fit = meets_hold-from legs (record {
    distinct = λ l on. once_from l.1.start l.1.steps (λ s t ls lt e. h.simple l 2 s t (contains_in l legs on) (omega arith) ls lt e);
    apart = apart_all legs (λ i j l m before a b. two_apart i j l m (λ same. omega (arith, same, before)) a b);
    clear = own_clear;
  })

-- ---- ports

-- directions that are the farther the later they stand are rising
rising_from : (d : Dir) (low : ℕ) (ds : List Dir) → ((a : Dir) → In a ds → low < clockwise_from d a)
    → ((i j : ℕ) (a b : Dir) → i < j → slice_get ds i ≡ Some a → slice_get ds j ≡ Some b → clockwise_from d a < clockwise_from d b)
    → are_rising low (map (clockwise_from d) ds) ≡ true
rising_from d low [] above farther = refl
rising_from d low (a ∷ ds) above farther =
    and_from _ _ (lt-ltb low (clockwise_from d a) (above a (inl refl)))
    (rising_from d (clockwise_from d a) ds (λ b on. let place = place_in b ds on in farther 0 (suc place.0) a b (omega arith) refl place.1)
    (λ i j b c less e f. farther (suc i) (suc j) b c (omega (arith, less)) e f))

no_turn : (a b : ℕ) → a < 8 → b < 8 → (b + 8 - a) % 8 ≡ 0 → a ≡ b
no_turn a b la lb h = omega arith

some_turn : (a b : Dir) → a ≢ b → 0 < clockwise_from a b
some_turn a b apart = by (cases_eq (clockwise_from a b) 0)
  where
    by : (clockwise_from a b ≡ 0) ⊎ (clockwise_from a b ≡ 0 → ⊥) → 0 < clockwise_from a b
    by (inl level) = absurd (apart (same_direction a b (no_turn (number_of a) (number_of b) (below_eight a) (below_eight b) level)))
    by (inr some) = let more : clockwise_from a b ≢ 0 = some in omega arith

clockwise_from_all : (ports : List Dir) → ((i j : ℕ) (a b : Dir) → i < j → slice_get ports i ≡ Some a → slice_get ports j ≡ Some b → a ≢ b)
    → ((i j k : ℕ) (a b c : Dir) → i < j → j < k → slice_get ports i ≡ Some a → slice_get ports j ≡ Some b → slice_get ports k ≡ Some c → clockwise_from a b < clockwise_from a c)
    → are_clockwise ports ≡ true
clockwise_from_all [] distinct clockwise = refl
clockwise_from_all (d ∷ ds) distinct clockwise =
    rising_from d 0 ds (λ a on. let place = place_in a ds on in some_turn d a (distinct 0 (suc place.0) d a (omega arith) refl place.1))
    (λ i j a b less e f. clockwise 0 (suc i) (suc j) d a b (omega arith) (omega (arith, less)) refl e f)

-- the ports of a round, as the test of all rounds reads them
round_fits : (rounds : List (List SegId)) (legs : List Leg) (n : ℕ) → are_clockwise (ports_round rounds legs n) ≡ true
    → are_clockwise (filter_map (port_of legs (0 + n)) (get_or rounds n [])) ≡ true
round_fits rounds legs n e =
    let same : n ≡ 0 + n = omega arith in subst (λ (m : ℕ). are_clockwise (filter_map (port_of legs m) (get_or rounds n [])) ≡ true) same e

pub legal_from : (graph : GraphParts) (walks : List PlainWalk) → IsPlaneDrawing graph.rounds (legs_of graph.ends walks) → legal graph walks ≡ true
legal_from graph walks h =
    ap is_none
    (why_ports graph.rounds (legs_of graph.ends walks) true (ends_fit graph.rounds (legs_of graph.ends walks) h) (meets_fit graph.rounds (legs_of graph.ends walks) h)
    (ports_each (legs_of graph.ends walks) 0 graph.rounds
    (λ n below. round_fits graph.rounds (legs_of graph.ends walks) n
    (clockwise_from_all (ports_round graph.rounds (legs_of graph.ends walks) n) (λ i j a b less e f. h.distinct n i j a b below less e f)
    (λ i j k a b c first second e f g. h.clockwise n i j k a b c below first second e f g)))))
