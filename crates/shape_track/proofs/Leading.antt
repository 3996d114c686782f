-- Least costs from the last station to the first, and what they say of snaps.
use Rattle.std.proofs.Common.{◌≡◌, refl, sym, ◌∙◌, ap, subst, ℕ, zero, suc, ◌+◌, ◌-◌, ◌<◌, ◌≤◌, min, Bool, true, false, nat_lt, ◌==◌, ◌||◌, ◌&&◌, IsTrue, List, [], ◌∷◌, length, get_or, ◌⊎◌, inl, inr, arith}
use Rattle.std.proofs.Math.Nat.{le_trans, le_refl}
use Rattle.std.proofs.lemmas.Bool.{leb-true, leb-false, cases_lt, lt-ltb, eq-eqb}
use Rattle.map_base.specs.declared.point.Point.{Point}
use Rattle.fixed_plane.specs.Measures.{dist2_of}
use Rattle.shape_track.specs.Snaps.{sample_at, ArePlacesFrom, cost_of, is_not_after, IsSnapFrom}
use Rattle.shape_track.specs.Sweeps.{taken_at, IsLeastCost, AreLeastCosts, cost_at, IsSweptDown, LeadsTo, Leads}

-- places from a floor on are places from a lower one on
pub ArePlacesFrom-lower : (low floor n : ℕ) (ss : List Point) (is : List ℕ) → low ≤ floor → ArePlacesFrom floor n ss is → ArePlacesFrom low n ss is
ArePlacesFrom-lower low floor n [] [] under placed = tt
ArePlacesFrom-lower low floor n [] (i ∷ is) under placed = placed
ArePlacesFrom-lower low floor n (s ∷ ss) [] under placed = placed
ArePlacesFrom-lower low floor n (s ∷ ss) (i ∷ is) under placed = (le_trans under placed.0, placed.1, placed.2)

-- no stations cost nothing
pub no_stations : (samples : List Point) (floor : ℕ) → IsLeastCost samples [] floor 0
no_stations samples floor = record { places = []; placed = tt; reached = refl; least = λ others placed. omega arith }

-- a station at a place, and least costs of the later ones from there on
taking : (samples : List Point) (s : Point) (ss : List Point) (floor c : ℕ) → floor < length samples → IsLeastCost samples ss floor c →
    (others : List ℕ) → ArePlacesFrom floor (length samples) (s ∷ ss) others → (dist2_of s (sample_at samples floor) + c ≤ cost_of samples (s ∷ ss) others) ⊎ ArePlacesFrom (floor + 1) (length samples) (s ∷ ss) others
taking samples s ss floor c below l [] placed = absurd placed
taking samples s ss floor c below l (i ∷ is) placed = by_order (cases_lt floor i)
  where
    by_order : (floor < i) ⊎ (i ≤ floor) → (dist2_of s (sample_at samples floor) + c ≤ cost_of samples (s ∷ ss) (i ∷ is)) ⊎ ArePlacesFrom (floor + 1) (length samples) (s ∷ ss) (i ∷ is)
    by_order (inl h) = let next : floor + 1 ≤ i = omega arith in inr (next, placed.1, placed.2)
    by_order (inr h) =
        let here : i ≡ floor = omega (arith, placed.0) in
        let later : ArePlacesFrom floor (length samples) ss is = subst (λ (f : ℕ). ArePlacesFrom f (length samples) ss is) here placed.2 in
        let bound : c ≤ cost_of samples ss is = l.least is later in
        let same : dist2_of s (sample_at samples i) ≡ dist2_of s (sample_at samples floor) = ap (λ j. dist2_of s (sample_at samples j)) here in
        inl (sum (dist2_of s (sample_at samples i)) (dist2_of s (sample_at samples floor)) c (cost_of samples ss is) same bound)
      where
        sum : (a b c d : ℕ) → a ≡ b → c ≤ d → b + c ≤ a + d
        sum a b c d e h = omega arith

-- least costs from a floor on, from those from the next floor on
swept_step : (samples : List Point) (s : Point) (ss : List Point) (rest costs : List ℕ) (row : List Bool) → AreLeastCosts samples ss rest → IsSweptDown samples s rest costs row 0 →
    (floor : ℕ) → floor + 1 < length samples → IsLeastCost samples (s ∷ ss) (floor + 1) (get_or costs (floor + 1) 0) → IsLeastCost samples (s ∷ ss) floor (get_or costs floor 0)
swept_step samples s ss rest costs row l swept floor more_below later =
    by_cost (cases_lt (get_or costs (floor + 1) 0) (cost_at samples s rest floor))
  where
    below : floor < length samples
    below = omega arith

    here : IsLeastCost samples ss floor (get_or rest floor 0)
    here = l.least floor below

    is : get_or costs floor 0 ≡ min (cost_at samples s rest floor) (get_or costs (floor + 1) 0)
    is = swept.lesser floor (omega arith) more_below

    lesser : (c h x o : ℕ) → c ≡ min h x → (h ≤ o) ⊎ (x ≤ o) → c ≤ o
    lesser c h x o e (inl k) = omega arith
    lesser c h x o e (inr k) = omega arith

    either : (others : List ℕ) → (dist2_of s (sample_at samples floor) + get_or rest floor 0 ≤ cost_of samples (s ∷ ss) others) ⊎ ArePlacesFrom (floor + 1) (length samples) (s ∷ ss) others →
        (cost_at samples s rest floor ≤ cost_of samples (s ∷ ss) others) ⊎ (get_or costs (floor + 1) 0 ≤ cost_of samples (s ∷ ss) others)
    either others (inl h) = inl h
    either others (inr h) = inr (later.least others h)

    least : (others : List ℕ) → ArePlacesFrom floor (length samples) (s ∷ ss) others → get_or costs floor 0 ≤ cost_of samples (s ∷ ss) others
    least others placed =
        lesser (get_or costs floor 0) (cost_at samples s rest floor) (get_or costs (floor + 1) 0) (cost_of samples (s ∷ ss) others) is
        (either others (taking samples s ss floor (get_or rest floor 0) below here others placed))

    min_first : (c h x : ℕ) → c ≡ min h x → h ≤ x → h ≡ c
    min_first c h x e k = omega arith

    min_second : (c h x : ℕ) → c ≡ min h x → x < h → x ≡ c
    min_second c h x e k = omega arith

    by_cost : (get_or costs (floor + 1) 0 < cost_at samples s rest floor) ⊎ (cost_at samples s rest floor ≤ get_or costs (floor + 1) 0) → IsLeastCost samples (s ∷ ss) floor (get_or costs floor 0)
    by_cost (inl h) = record {
      places = later.places;
      placed = ArePlacesFrom-lower floor (floor + 1) (length samples) (s ∷ ss) later.places (omega arith) later.placed;
      reached = later.reached ∙ min_second (get_or costs floor 0) (cost_at samples s rest floor) (get_or costs (floor + 1) 0) is h;
      least = least;
    }
    by_cost (inr h) = record {
      places = floor ∷ here.places;
      placed = (le_refl floor, below, here.placed);
      reached = ap (λ n. dist2_of s (sample_at samples floor) + n) here.reached ∙ min_first (get_or costs floor 0) (cost_at samples s rest floor) (get_or costs (floor + 1) 0) is h;
      least = least;
    }

-- least costs of the stations from one on, from those of the later ones
swept_at : (samples : List Point) (s : Point) (ss : List Point) (rest costs : List ℕ) (row : List Bool) → AreLeastCosts samples ss rest → IsSweptDown samples s rest costs row 0 →
    (more floor : ℕ) → floor + more + 1 ≡ length samples → IsLeastCost samples (s ∷ ss) floor (get_or costs floor 0)
swept_at samples s ss rest costs row l swept zero floor at_end =
    let below : floor < length samples = omega arith in
    let last : floor + 1 ≡ length samples = omega arith in
    let here = l.least floor below in
    let is : get_or costs floor 0 ≡ cost_at samples s rest floor = swept.last floor (omega arith) last in
    record {
      places = floor ∷ here.places;
      placed = (le_refl floor, below, here.placed);
      reached = ap (λ n. dist2_of s (sample_at samples floor) + n) here.reached ∙ sym is;
      least = λ others placed. by_step others placed is last (taking samples s ss floor (get_or rest floor 0) below here others placed);
    }
  where
    beyond : (others : List ℕ) (f : ℕ) → f ≡ length samples → ArePlacesFrom f (length samples) (s ∷ ss) others → ⊥
    beyond [] f e placed = placed
    beyond (i ∷ is) f e placed = let low : f ≤ i = placed.0 in let high : i < length samples = placed.1 in omega arith

    by_step : (others : List ℕ) → ArePlacesFrom floor (length samples) (s ∷ ss) others → get_or costs floor 0 ≡ cost_at samples s rest floor → floor + 1 ≡ length samples →
        (dist2_of s (sample_at samples floor) + get_or rest floor 0 ≤ cost_of samples (s ∷ ss) others) ⊎ ArePlacesFrom (floor + 1) (length samples) (s ∷ ss) others →
        get_or costs floor 0 ≤ cost_of samples (s ∷ ss) others
    by_step others placed is last (inl h) = subst (λ (n : ℕ). n ≤ cost_of samples (s ∷ ss) others) (sym is) h
    by_step others placed is last (inr h) = absurd (beyond others (floor + 1) last h)
swept_at samples s ss rest costs row l swept (suc more) floor at_end =
    swept_step samples s ss rest costs row l swept floor (omega arith) (swept_at samples s ss rest costs row l swept more (floor + 1) (omega arith))

pub swept_least : (samples : List Point) (s : Point) (ss : List Point) (rest costs : List ℕ) (row : List Bool) → AreLeastCosts samples ss rest → IsSweptDown samples s rest costs row 0 →
    length costs ≡ length samples → AreLeastCosts samples (s ∷ ss) costs
swept_least samples s ss rest costs row l swept count = record {
  count = count;
  least = λ floor below. swept_at samples s ss rest costs row l swept (length samples - floor - 1) floor (omega arith);
}

-- ---- where a row leads

-- at a taken place the least cost is that of the place
taken_cost : (samples : List Point) (s : Point) (rest costs : List ℕ) (row : List Bool) → IsSweptDown samples s rest costs row 0 → (place : ℕ) → place < length samples → taken_at row place ≡ true →
    get_or costs place 0 ≡ cost_at samples s rest place
taken_cost samples s rest costs row swept place below taken = by_order (cases_lt (place + 1) (length samples))
  where
    first : (c h x : ℕ) → c ≡ min h x → h ≤ x → c ≡ h
    first c h x e k = omega arith

    by_order : (place + 1 < length samples) ⊎ (length samples ≤ place + 1) → get_or costs place 0 ≡ cost_at samples s rest place
    by_order (inl more) =
        first (get_or costs place 0) (cost_at samples s rest place) (get_or costs (place + 1) 0) (swept.lesser place (omega arith) more)
        (leb-true (cost_at samples s rest place) (get_or costs (place + 1) 0) (sym (swept.taken place (omega arith) more) ∙ taken))
    by_order (inr end) = swept.last place (omega arith) (omega arith)

-- at a place that is passed the least cost is that of the next, and the place costs more
passed_cost : (samples : List Point) (s : Point) (rest costs : List ℕ) (row : List Bool) → IsSweptDown samples s rest costs row 0 → (place : ℕ) → place + 1 < length samples → taken_at row place ≡ false →
    (get_or costs place 0 ≡ get_or costs (place + 1) 0) × (get_or costs (place + 1) 0 < cost_at samples s rest place)
passed_cost samples s rest costs row swept place more passed =
    let dearer : get_or costs (place + 1) 0 < cost_at samples s rest place =
    leb-false (cost_at samples s rest place) (get_or costs (place + 1) 0) (sym (swept.taken place (omega arith) more) ∙ passed) in
    (second (get_or costs place 0) (cost_at samples s rest place) (get_or costs (place + 1) 0) (swept.lesser place (omega arith) more) dearer, dearer)
  where
    second : (c h x : ℕ) → c ≡ min h x → x < h → c ≡ x
    second c h x e k = omega arith

-- up to the first taken place the least cost stays
same_cost : (samples : List Point) (s : Point) (rest costs : List ℕ) (row : List Bool) → IsSweptDown samples s rest costs row 0 → (place : ℕ) → place < length samples → (steps floor : ℕ) → floor + steps ≡ place →
    ((other : ℕ) → floor ≤ other → other < place → taken_at row other ≡ false) → get_or costs floor 0 ≡ get_or costs place 0
same_cost samples s rest costs row swept place below zero floor at passed = let here : floor ≡ place = omega arith in ap (λ n. get_or costs n 0) here
same_cost samples s rest costs row swept place below (suc steps) floor at passed =
    (passed_cost samples s rest costs row swept floor (omega arith) (passed floor (le_refl floor) (omega arith))).0
    ∙ same_cost samples s rest costs row swept place below steps (floor + 1) (omega arith) (λ other above under. passed other (omega arith) under)

-- the order of dictionaries, by the first places
pub after_lesser : (i j : ℕ) (is js : List ℕ) → i < j → is_not_after (i ∷ is) (j ∷ js) ≡ true
after_lesser i j is js h = ap (λ b. b || ((i == j) && is_not_after is js)) (lt-ltb i j h)

pub after_same : (i j : ℕ) (is js : List ℕ) → i ≡ j → is_not_after is js ≡ true → is_not_after (i ∷ is) (j ∷ js) ≡ true
after_same i j is js e later =
    ap (λ b. nat_lt i j || (b && is_not_after is js)) (eq-eqb i j e) ∙ ap (λ b. nat_lt i j || b) later ∙ or_true (nat_lt i j)
  where
    or_true : (b : Bool) → (b || true) ≡ true
    or_true true = refl
    or_true false = refl

-- the places to which a row leads begin snaps
begins_snap : (samples : List Point) (s : Point) (ss : List Point) (rest costs : List ℕ) (row : List Bool) → AreLeastCosts samples ss rest → IsSweptDown samples s rest costs row 0 →
    length costs ≡ length samples → (floor place : ℕ) (is : List ℕ) → place < length samples → LeadsTo row floor place → IsSnapFrom place samples ss is → IsSnapFrom floor samples (s ∷ ss) (place ∷ is)
begins_snap samples s ss rest costs row l swept count floor place is below leads snap = record {
  placed = (leads.above, below, snap.placed);
  least = λ others placed. subst (λ (n : ℕ). n ≤ cost_of samples (s ∷ ss) others) floor_cost (all_least.least others placed);
  first = first;
}
  where
    rest_cost : cost_of samples ss is ≡ get_or rest place 0
    rest_cost = both (cost_of samples ss is) (get_or rest place 0) (subst (λ (n : ℕ). cost_of samples ss is ≤ n) (l.least place below).reached (snap.least (l.least place below).places (l.least place below).placed)) ((l.least place below).least is snap.placed)
      where
        both : (a b : ℕ) → a ≤ b → b ≤ a → a ≡ b
        both a b h k = omega arith

    place_cost : get_or costs place 0 ≡ cost_at samples s rest place
    place_cost = taken_cost samples s rest costs row swept place below leads.taken

    floor_cost : get_or costs floor 0 ≡ cost_of samples (s ∷ ss) (place ∷ is)
    floor_cost =
        same_cost samples s rest costs row swept place below (place - floor) floor (omega (arith, leads.above)) leads.passed ∙ place_cost
        ∙ ap (λ n. dist2_of s (sample_at samples place) + n) (sym rest_cost)

    all_least : IsLeastCost samples (s ∷ ss) floor (get_or costs floor 0)
    all_least = (swept_least samples s ss rest costs row l swept count).least floor (omega (arith, leads.above))

    earlier : (i : ℕ) → floor ≤ i → i < place → cost_of samples (s ∷ ss) (place ∷ is) < cost_at samples s rest i
    earlier i above under =
        let dearer : get_or costs (i + 1) 0 < cost_at samples s rest i = (passed_cost samples s rest costs row swept i (omega arith) (leads.passed i above under)).1 in
        let to_place : get_or costs (i + 1) 0 ≡ get_or costs place 0 =
        same_cost samples s rest costs row swept place below (place - (i + 1)) (i + 1) (omega arith) (λ other over low. leads.passed other (omega arith) low) in
        subst (λ (n : ℕ). n < cost_at samples s rest i) (to_place ∙ place_cost ∙ ap (λ n. dist2_of s (sample_at samples place) + n) (sym rest_cost)) dearer

    same_rest : (a b c : ℕ) → a + b ≡ a + c → b ≡ c
    same_rest a b c e = omega arith

    clash : (x h d c r : ℕ) → x < h → h ≡ d + r → r ≤ c → d + c ≡ x → ⊥
    clash x h d c r low is more same = omega arith

    by_order : (i : ℕ) (js : List ℕ) → ArePlacesFrom floor (length samples) (s ∷ ss) (i ∷ js) → cost_of samples (s ∷ ss) (i ∷ js) ≡ cost_of samples (s ∷ ss) (place ∷ is) →
        (i < place) ⊎ (place ≤ i) → (place < i) ⊎ (i ≤ place) → IsTrue (is_not_after (place ∷ is) (i ∷ js))
    by_order i js placed same (inl h) k =
        absurd (clash (cost_of samples (s ∷ ss) (place ∷ is)) (cost_at samples s rest i) (dist2_of s (sample_at samples i)) (cost_of samples ss js) (get_or rest i 0)
        (earlier i placed.0 h) refl ((l.least i placed.1).least js placed.2) same)
    by_order i js placed same (inr h) (inl k) = after_lesser place i is js k
    by_order i js placed same (inr h) (inr k) =
        let here : i ≡ place = omega arith in
        let later : ArePlacesFrom place (length samples) ss js = subst (λ (f : ℕ). ArePlacesFrom f (length samples) ss js) here placed.2 in
        let costs_same : cost_of samples ss js ≡ cost_of samples ss is =
        same_rest (dist2_of s (sample_at samples place)) (cost_of samples ss js) (cost_of samples ss is)
        (ap (λ n. dist2_of s (sample_at samples n) + cost_of samples ss js) (sym here) ∙ same) in
        after_same place i is js (sym here) (snap.first js later costs_same)

    first : (others : List ℕ) → ArePlacesFrom floor (length samples) (s ∷ ss) others → cost_of samples (s ∷ ss) others ≡ cost_of samples (s ∷ ss) (place ∷ is) → IsTrue (is_not_after (place ∷ is) others)
    first [] placed same = absurd placed
    first (i ∷ js) placed same = by_order i js placed same (cases_lt i place) (cases_lt place i)

pub leads_of : (samples : List Point) (s : Point) (ss : List Point) (rest costs : List ℕ) (row : List Bool) → AreLeastCosts samples ss rest → IsSweptDown samples s rest costs row 0 →
    length costs ≡ length samples → length row ≡ length samples → 0 < length samples → Leads samples s ss row
leads_of samples s ss rest costs row l swept count row_count some = record {
  count = row_count;
  last = swept.last_taken (length samples - 1) (omega arith) (omega arith);
  begins = begins_snap samples s ss rest costs row l swept count;
}

-- with no station left, nothing costs anything
pub no_costs : (samples : List Point) (costs : List ℕ) → length costs ≡ length samples → ((place : ℕ) → place < length costs → get_or costs place 0 ≡ 0) → AreLeastCosts samples [] costs
no_costs samples costs count none = record {
  count = count;
  least = λ floor below. subst (λ (c : ℕ). IsLeastCost samples [] floor c) (sym (none floor (omega (arith, count)))) (no_stations samples floor);
}
