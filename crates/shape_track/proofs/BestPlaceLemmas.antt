-- The places of a station are gone through from the last one down, as far as they cost no more than a limit.
use Rattle.std.proofs.Common.{◌≡◌, refl, sym, ◌∙◌, ap, subst, ℕ, zero, suc, ◌+◌, ◌-◌, ◌<◌, ◌≤◌, IsTrue, List, [], ◌∷◌, ◌++◌, length, ◌⊎◌, inl, inr, Option, Some, None, arith, length-append}
use Rattle.std.proofs.Math.Seq.{get_or-append_seam}
use Rattle.std.proofs.Math.ListN.{get_or-append}
use Rattle.std.proofs.Math.Nat.{le_antisymm, le_refl}
use Rattle.std.proofs.lemmas.Bool.{cases_lt}
use Rattle.map_base.specs.declared.point.Point.{Point}
use Rattle.fixed_plane.specs.Measures.{dist2_of}
use Rattle.shape_track.specs.declared.best_places.BestPlace.{BestPlace}
use Rattle.shape_track.specs.Snaps.{sample_at, ArePlacesFrom, cost_of, is_not_after, IsSnapFrom}
use Rattle.shape_track.specs.Sweeps.{IsLeastCost}
use Rattle.shape_track.specs.BestPlaces.{entry_at, PointsTo, PointsNowhere, BeginsSnaps, IsLed, AreLed, IsCostFrom, IsDear, IsCheap, AddsPlace, AreSeen, IsDescent}
use Rattle.shape_track.proofs.Leading.{ArePlacesFrom-lower, after_lesser, after_same}

-- ---- one place before others

-- places from one on begin there, or later
first_place : (samples : List Point) (s : Point) (ss : List Point) (p : ℕ) (others : List ℕ) → ArePlacesFrom p (length samples) (s ∷ ss) others →
    ((js : List ℕ) × (others ≡ p ∷ js) × ArePlacesFrom p (length samples) ss js) ⊎ ArePlacesFrom (p + 1) (length samples) (s ∷ ss) others
first_place samples s ss p [] placed = absurd placed
first_place samples s ss p (i ∷ is) placed = by_order (cases_lt p i)
  where
    by_order : (p < i) ⊎ (i ≤ p) → ((js : List ℕ) × (i ∷ is ≡ p ∷ js) × ArePlacesFrom p (length samples) ss js) ⊎ ArePlacesFrom (p + 1) (length samples) (s ∷ ss) (i ∷ is)
    by_order (inl h) = let next : p + 1 ≤ i = omega arith in inr (next, placed.1, placed.2)
    by_order (inr h) =
        let here : i ≡ p = omega (arith, placed.0) in
        inl (is, ap (λ (n : ℕ). n ∷ is) here, subst (λ (f : ℕ). ArePlacesFrom f (length samples) ss is) here placed.2)

-- a snap has the least cost
snap_cost : (samples ss : List Point) (floor c : ℕ) (places : List ℕ) → IsLeastCost samples ss floor c → IsSnapFrom floor samples ss places → cost_of samples ss places ≡ c
snap_cost samples ss floor c places l snap =
    le_antisymm (subst (λ (n : ℕ). cost_of samples ss places ≤ n) l.reached (snap.least l.places l.placed)) (l.least places snap.placed)

-- the least cost stays where a place before costs more
lower_least : (samples : List Point) (s : Point) (ss : List Point) (p c : ℕ) → IsLeastCost samples (s ∷ ss) (p + 1) c →
    ((js : List ℕ) → ArePlacesFrom p (length samples) ss js → c < cost_of samples (s ∷ ss) (p ∷ js)) → IsLeastCost samples (s ∷ ss) p c
lower_least samples s ss p c l dear = record {
  places = l.places;
  placed = ArePlacesFrom-lower p (p + 1) (length samples) (s ∷ ss) l.places (omega arith) l.placed;
  reached = l.reached;
  least = λ others placed. by_first others (first_place samples s ss p others placed);
}
  where
    by_first : (others : List ℕ) → ((js : List ℕ) × (others ≡ p ∷ js) × ArePlacesFrom p (length samples) ss js) ⊎ ArePlacesFrom (p + 1) (length samples) (s ∷ ss) others →
        c ≤ cost_of samples (s ∷ ss) others
    by_first others (inl w) =
        let more : c < cost_of samples (s ∷ ss) others = subst (λ (is : List ℕ). c < cost_of samples (s ∷ ss) is) (sym w.1) (dear w.0 w.2) in
        omega (arith, more)
    by_first others (inr later) = l.least others later

-- and so does a snap
lower_snap : (samples : List Point) (s : Point) (ss : List Point) (p : ℕ) (places : List ℕ) → IsSnapFrom (p + 1) samples (s ∷ ss) places →
    ((js : List ℕ) → ArePlacesFrom p (length samples) ss js → cost_of samples (s ∷ ss) places < cost_of samples (s ∷ ss) (p ∷ js)) → IsSnapFrom p samples (s ∷ ss) places
lower_snap samples s ss p places snap dear = record {
  placed = ArePlacesFrom-lower p (p + 1) (length samples) (s ∷ ss) places (omega arith) snap.placed;
  least = λ others placed. least others (first_place samples s ss p others placed);
  first = λ others placed same. first others same (first_place samples s ss p others placed);
}
  where
    more : (others : List ℕ) → (js : List ℕ) × (others ≡ p ∷ js) × ArePlacesFrom p (length samples) ss js → cost_of samples (s ∷ ss) places < cost_of samples (s ∷ ss) others
    more others w = subst (λ (is : List ℕ). cost_of samples (s ∷ ss) places < cost_of samples (s ∷ ss) is) (sym w.1) (dear w.0 w.2)

    weaker : (a b : ℕ) → a < b → a ≤ b
    weaker a b h = omega arith

    clash : (a b : ℕ) → a < b → b ≡ a → ⊥
    clash a b h e = omega arith

    least : (others : List ℕ) → ((js : List ℕ) × (others ≡ p ∷ js) × ArePlacesFrom p (length samples) ss js) ⊎ ArePlacesFrom (p + 1) (length samples) (s ∷ ss) others →
        cost_of samples (s ∷ ss) places ≤ cost_of samples (s ∷ ss) others
    least others (inl w) = weaker (cost_of samples (s ∷ ss) places) (cost_of samples (s ∷ ss) others) (more others w)
    least others (inr later) = snap.least others later

    first : (others : List ℕ) → cost_of samples (s ∷ ss) others ≡ cost_of samples (s ∷ ss) places →
        ((js : List ℕ) × (others ≡ p ∷ js) × ArePlacesFrom p (length samples) ss js) ⊎ ArePlacesFrom (p + 1) (length samples) (s ∷ ss) others → IsTrue (is_not_after places others)
    first others same (inl w) = absurd (clash (cost_of samples (s ∷ ss) places) (cost_of samples (s ∷ ss) others) (more others w) same)
    first others same (inr later) = snap.first others later same

-- ---- a place that is passed

-- to begin at a place costs more than the limit, or more than the last entry of a row
abbrev pub IsTooDear : List Point → Point → List Point → ℕ → List BestPlace → ℕ → Type 0
IsTooDear samples s ss limit row p = (js : List ℕ) → ArePlacesFrom p (length samples) ss js → IsDear row (cost_of samples (s ∷ ss) (p ∷ js)) limit

-- a row tells of a place that is passed what it tells of the next
passed_led : (samples : List Point) (s : Point) (ss : List Point) (limit : ℕ) (row : List BestPlace) (p : ℕ) → ((k : ℕ) → k < length row → p + 1 ≤ (entry_at row k).place) →
    ((k : ℕ) → k < length row → (entry_at row k).cost ≤ limit) → IsLed samples (s ∷ ss) limit row (p + 1) → IsTooDear samples s ss limit row p → IsLed samples (s ∷ ss) limit row p
passed_led samples s ss limit row p above within led dear = record {
  cost = λ k to. lower_least samples s ss p (entry_at row k).cost (led.cost k (up k to)) (dearer k to);
  begins = λ k to rest snap.
      lower_snap samples s ss p ((entry_at row k).place ∷ rest) (led.begins k (up k to) rest snap)
      (λ js placed. subst (λ (n : ℕ). n < cost_of samples (s ∷ ss) (p ∷ js))
      (sym (snap_cost samples (s ∷ ss) (p + 1) (entry_at row k).cost ((entry_at row k).place ∷ rest) (led.cost k (up k to)) (led.begins k (up k to) rest snap))) (dearer k to js placed));
  nowhere = λ none others placed. by_first none others (first_place samples s ss p others placed);
}
  where
    up : (k : ℕ) → PointsTo row p k → PointsTo row (p + 1) k
    up k to = record {
      within = to.within;
      above = above k to.within;
      last = λ j more below. let low : (entry_at row j).place < p = to.last j more below in omega (arith, low);
    }

    last_is : (k : ℕ) → PointsTo row p k → (k < length row - 1) ⊎ (length row - 1 ≤ k) → k ≡ length row - 1
    last_is k to (inl h) =
        let below : length row - 1 < length row = omega arith in
        let low : (entry_at row (length row - 1)).place < p = to.last (length row - 1) h below in
        let high : p + 1 ≤ (entry_at row (length row - 1)).place = above (length row - 1) below in
        absurd (omega (arith, low, high))
    last_is k to (inr h) = omega (arith, to.within)

    over_limit : (cost c k : ℕ) → c ≤ limit → limit < cost → c < cost
    over_limit cost c k h m = omega arith

    dearer : (k : ℕ) → PointsTo row p k → (js : List ℕ) → ArePlacesFrom p (length samples) ss js → (entry_at row k).cost < cost_of samples (s ∷ ss) (p ∷ js)
    dearer k to js placed = by_dear (dear js placed)
      where
        by_dear : IsDear row (cost_of samples (s ∷ ss) (p ∷ js)) limit → (entry_at row k).cost < cost_of samples (s ∷ ss) (p ∷ js)
        by_dear (inl h) = over_limit (cost_of samples (s ∷ ss) (p ∷ js)) (entry_at row k).cost k (within k to.within) h
        by_dear (inr h) = subst (λ (n : ℕ). (entry_at row n).cost < cost_of samples (s ∷ ss) (p ∷ js)) (sym (last_is k to (cases_lt k (length row - 1)))) h.1

    clash : PointsNowhere row p → (j : ℕ) → j < length row → ⊥
    clash none j below =
        let low : (entry_at row j).place < p = none j below in
        let high : p + 1 ≤ (entry_at row j).place = above j below in
        omega (arith, low, high)

    by_first : PointsNowhere row p → (others : List ℕ) → ((js : List ℕ) × (others ≡ p ∷ js) × ArePlacesFrom p (length samples) ss js) ⊎ ArePlacesFrom (p + 1) (length samples) (s ∷ ss) others →
        limit < cost_of samples (s ∷ ss) others
    by_first none others (inl w) = subst (λ (is : List ℕ). limit < cost_of samples (s ∷ ss) is) (sym w.1) (by_dear (dear w.0 w.2))
      where
        by_dear : IsDear row (cost_of samples (s ∷ ss) (p ∷ w.0)) limit → limit < cost_of samples (s ∷ ss) (p ∷ w.0)
        by_dear (inl h) = h
        by_dear (inr h) = absurd (clash none 0 h.0)
    by_first none others (inr later) = led.nowhere (λ j below. absurd (clash none j below)) others later

-- ---- a place that is taken

-- an entry below a floor changes nothing of what a row tells from there on
kept_led : (samples stations : List Point) (limit : ℕ) (row : List BestPlace) (x : BestPlace) (floor : ℕ) → x.place < floor → IsLed samples stations limit row floor →
    IsLed samples stations limit (row ++ x ∷ []) floor
kept_led samples stations limit row x floor under led = record {
  cost = λ k to. subst (λ (e : BestPlace). IsLeastCost samples stations floor e.cost) (sym (same k (inside k to))) (led.cost k (down k to));
  begins = λ k to. subst (λ (e : BestPlace). BeginsSnaps samples stations floor e.place) (sym (same k (inside k to))) (led.begins k (down k to));
  nowhere = λ none. led.nowhere (λ j below. subst (λ (e : BestPlace). e.place < floor) (same j below) (none j (further j below)));
}
  where
    same : (k : ℕ) → k < length row → entry_at (row ++ x ∷ []) k ≡ entry_at row k
    same k below = get_or-append row (x ∷ []) (record { place = 0; cost = 0 }) k below

    further : (k : ℕ) → k < length row → k < length (row ++ x ∷ [])
    further k below = omega (arith, length-append row (x ∷ []))

    at_end : (k : ℕ) → k ≡ length row → entry_at (row ++ x ∷ []) k ≡ x
    at_end k here = ap (λ n. entry_at (row ++ x ∷ []) n) here ∙ get_or-append_seam row x [] (record { place = 0; cost = 0 })

    inside : (k : ℕ) → PointsTo (row ++ x ∷ []) floor k → k < length row
    inside k to = by_order (cases_lt k (length row))
      where
        by_order : (k < length row) ⊎ (length row ≤ k) → k < length row
        by_order (inl h) = h
        by_order (inr h) =
            let here : k ≡ length row = omega (arith, length-append row (x ∷ []), to.within) in
            let over : floor ≤ x.place = subst (λ (e : BestPlace). floor ≤ e.place) (at_end k here) to.above in
            absurd (omega (arith, over, under))

    down : (k : ℕ) → PointsTo (row ++ x ∷ []) floor k → PointsTo row floor k
    down k to = record {
      within = inside k to;
      above = subst (λ (e : BestPlace). floor ≤ e.place) (same k (inside k to)) to.above;
      last = λ j more below. subst (λ (e : BestPlace). e.place < floor) (same j below) (to.last j more (further j below));
    }

-- an entry of a place with the least cost that begins there tells of that place
taken_led : (samples : List Point) (s : Point) (ss : List Point) (limit : ℕ) (row : List BestPlace) (p c : ℕ) → p < length samples → ((k : ℕ) → k < length row → p + 1 ≤ (entry_at row k).place) →
    IsLed samples (s ∷ ss) limit row (p + 1) → IsLeastCost samples ss p c → IsCheap row (dist2_of s (sample_at samples p) + c) limit →
    IsLed samples (s ∷ ss) limit (row ++ record { place = p; cost = dist2_of s (sample_at samples p) + c } ∷ []) p
taken_led samples s ss limit row p c below above led l cheap = record {
  cost = λ k to. subst (λ (e : BestPlace). IsLeastCost samples (s ∷ ss) p e.cost) (sym (is_new k to)) least;
  begins = λ k to. subst (λ (e : BestPlace). BeginsSnaps samples (s ∷ ss) p e.place) (sym (is_new k to)) begins;
  nowhere = λ none others placed.
      let low : p < p = subst (λ (e : BestPlace). e.place < p) seam (none (length row) end) in
      absurd (omega (arith, low));
}
  where
    end : length row < length (row ++ record { place = p; cost = dist2_of s (sample_at samples p) + c } ∷ [])
    end = omega (arith, length-append row (record { place = p; cost = dist2_of s (sample_at samples p) + c } ∷ []))

    seam : entry_at (row ++ record { place = p; cost = dist2_of s (sample_at samples p) + c } ∷ []) (length row) ≡ record { place = p; cost = dist2_of s (sample_at samples p) + c }
    seam = get_or-append_seam row (record { place = p; cost = dist2_of s (sample_at samples p) + c }) [] (record { place = 0; cost = 0 })

    is_new : (k : ℕ) → PointsTo (row ++ record { place = p; cost = dist2_of s (sample_at samples p) + c } ∷ []) p k →
        entry_at (row ++ record { place = p; cost = dist2_of s (sample_at samples p) + c } ∷ []) k ≡ record { place = p; cost = dist2_of s (sample_at samples p) + c }
    is_new k to = by_order (cases_lt k (length row))
      where
        by_order : (k < length row) ⊎ (length row ≤ k) →
            entry_at (row ++ record { place = p; cost = dist2_of s (sample_at samples p) + c } ∷ []) k ≡ record { place = p; cost = dist2_of s (sample_at samples p) + c }
        by_order (inl h) =
            let low : p < p = subst (λ (e : BestPlace). e.place < p) seam (to.last (length row) h end) in
            absurd (omega (arith, low))
        by_order (inr h) =
            let here : k ≡ length row = omega (arith, length-append row (record { place = p; cost = dist2_of s (sample_at samples p) + c } ∷ []), to.within) in
            ap (λ n. entry_at (row ++ record { place = p; cost = dist2_of s (sample_at samples p) + c } ∷ []) n) here ∙ seam

    none_above : length row ≡ 0 → PointsNowhere row (p + 1)
    none_above empty j h = absurd (omega (arith, empty, h))

    points : 0 < length row → PointsTo row (p + 1) (length row - 1)
    points some = record {
      within = omega arith;
      above = above (length row - 1) (omega arith);
      last = λ j more h. absurd (omega (arith, more, h));
    }

    weaker : (a b d : ℕ) → a ≤ b → b < d → a ≤ d
    weaker a b d h m = omega arith

    through : (a b d : ℕ) → a ≤ b → b ≤ d → a ≤ d
    through a b d h m = omega arith

    later_least : (others : List ℕ) → ArePlacesFrom (p + 1) (length samples) (s ∷ ss) others → dist2_of s (sample_at samples p) + c ≤ cost_of samples (s ∷ ss) others
    later_least others later = by_count (cases_lt 0 (length row)) cheap.1
      where
        beyond : length row ≡ 0 → dist2_of s (sample_at samples p) + c ≤ cost_of samples (s ∷ ss) others
        beyond empty = weaker (dist2_of s (sample_at samples p) + c) limit (cost_of samples (s ∷ ss) others) cheap.0 (led.nowhere (none_above empty) others later)

        by_count : (0 < length row) ⊎ (length row ≤ 0) → (length row ≡ 0) ⊎ (dist2_of s (sample_at samples p) + c ≤ (entry_at row (length row - 1)).cost) →
            dist2_of s (sample_at samples p) + c ≤ cost_of samples (s ∷ ss) others
        by_count (inr none) k = beyond (omega arith)
        by_count (inl some) (inl empty) = beyond empty
        by_count (inl some) (inr h) =
            through (dist2_of s (sample_at samples p) + c) (entry_at row (length row - 1)).cost (cost_of samples (s ∷ ss) others) h ((led.cost (length row - 1) (points some)).least others later)

    sum : (d a b : ℕ) → a ≤ b → d + a ≤ d + b
    sum d a b h = omega arith

    least : IsLeastCost samples (s ∷ ss) p (dist2_of s (sample_at samples p) + c)
    least = record {
      places = p ∷ l.places;
      placed = (le_refl p, below, l.placed);
      reached = ap (λ n. dist2_of s (sample_at samples p) + n) l.reached;
      least = λ others placed. by_first others (first_place samples s ss p others placed);
    }
      where
        by_first : (others : List ℕ) → ((js : List ℕ) × (others ≡ p ∷ js) × ArePlacesFrom p (length samples) ss js) ⊎ ArePlacesFrom (p + 1) (length samples) (s ∷ ss) others →
            dist2_of s (sample_at samples p) + c ≤ cost_of samples (s ∷ ss) others
        by_first others (inl w) =
            subst (λ (is : List ℕ). dist2_of s (sample_at samples p) + c ≤ cost_of samples (s ∷ ss) is) (sym w.1) (sum (dist2_of s (sample_at samples p)) c (cost_of samples ss w.0) (l.least w.0 w.2))
        by_first others (inr later) = later_least others later

    same_rest : (d a b : ℕ) → d + a ≡ d + b → a ≡ b
    same_rest d a b e = omega arith

    begins : (rest : List ℕ) → IsSnapFrom p samples ss rest → IsSnapFrom p samples (s ∷ ss) (p ∷ rest)
    begins rest snap = record {
      placed = (le_refl p, below, snap.placed);
      least = λ others placed. subst (λ (n : ℕ). dist2_of s (sample_at samples p) + n ≤ cost_of samples (s ∷ ss) others) (sym rest_cost) (least.least others placed);
      first = λ others placed same. first others same (first_place samples s ss p others placed);
    }
      where
        rest_cost : cost_of samples ss rest ≡ c
        rest_cost = snap_cost samples ss p c rest l snap

        first : (others : List ℕ) → cost_of samples (s ∷ ss) others ≡ cost_of samples (s ∷ ss) (p ∷ rest) →
            ((js : List ℕ) × (others ≡ p ∷ js) × ArePlacesFrom p (length samples) ss js) ⊎ ArePlacesFrom (p + 1) (length samples) (s ∷ ss) others → IsTrue (is_not_after (p ∷ rest) others)
        first others same (inl w) =
            let both : cost_of samples (s ∷ ss) (p ∷ w.0) ≡ cost_of samples (s ∷ ss) (p ∷ rest) = sym (ap (cost_of samples (s ∷ ss)) w.1) ∙ same in
            subst (λ (is : List ℕ). IsTrue (is_not_after (p ∷ rest) is)) (sym w.1)
            (after_same p p rest w.0 refl (snap.first w.0 w.2 (same_rest (dist2_of s (sample_at samples p)) (cost_of samples ss w.0) (cost_of samples ss rest) both)))
        first [] same (inr later) = absurd later
        first (i ∷ is) same (inr later) = after_lesser p i rest is (omega (arith, later.0))

-- ---- the descent

-- no place is gone through
pub descent_begun : (samples : List Point) (s : Point) (limit : ℕ) (later : List BestPlace) → IsDescent samples s limit later [] (length samples) 0
descent_begun samples s limit later = record {
  in_range = le_refl (length samples);
  entries = record {
    falling = λ j k more below. absurd (no_entry k below);
    in_range = λ k below. absurd (no_entry k below);
    within = λ k below. absurd (no_entry k below);
  };
  above = λ k below. absurd (no_entry k below);
  seen_above = record { count = omega arith; above = λ k below. absurd (no_entry k below) };
  led = λ ss l floor high low. record {
    cost = λ k to. absurd (no_entry k to.within);
    begins = λ k to. absurd (no_entry k to.within);
    nowhere = λ none others placed. absurd (beyond ss floor high others placed);
  };
}
  where
    no_entry : (k : ℕ) → k < 0 → ⊥
    no_entry k h = omega arith

    beyond : (ss : List Point) (floor : ℕ) → length samples ≤ floor → (others : List ℕ) → ArePlacesFrom floor (length samples) (s ∷ ss) others → ⊥
    beyond ss floor high [] placed = placed
    beyond ss floor high (i ∷ is) placed = let over : floor ≤ i = placed.0 in let under : i < length samples = placed.1 in omega arith

-- entries seen from a place on are seen from a lower one on
pub seen_lower : (later : List BestPlace) (low floor seen : ℕ) → low ≤ floor → AreSeen later floor seen → AreSeen later low seen
seen_lower later low floor seen under seen_is = record {
  count = seen_is.count;
  above = λ k below. let high : floor ≤ (entry_at later k).place = seen_is.above k below in omega (arith, high);
}

-- one place is passed
pub place_passed : (samples : List Point) (s : Point) (limit : ℕ) (later row : List BestPlace) (p q seen now : ℕ) → q ≡ p + 1 → IsDescent samples s limit later row q seen → AreSeen later p now →
    ((ss : List Point) → AreLed samples ss limit later → IsTooDear samples s ss limit row p) → IsDescent samples s limit later row p now
place_passed samples s limit later row p q seen now next d seen_now dear = record {
  in_range = omega (arith, d.in_range);
  entries = d.entries;
  above = λ k below. let high : q ≤ (entry_at row k).place = d.above k below in omega (arith, high);
  seen_above = seen_now;
  led = λ ss l floor high low. by_order ss l floor high low (cases_lt p floor);
}
  where
    by_order : (ss : List Point) → AreLed samples ss limit later → (floor : ℕ) → p ≤ floor → floor ≤ length samples → (p < floor) ⊎ (floor ≤ p) → IsLed samples (s ∷ ss) limit row floor
    by_order ss l floor high low (inl h) = d.led ss l floor (omega arith) low
    by_order ss l floor high low (inr h) =
        let here : p ≡ floor = omega arith in
        let above : (k : ℕ) → k < length row → p + 1 ≤ (entry_at row k).place = λ k below. subst (λ (n : ℕ). n ≤ (entry_at row k).place) next (d.above k below) in
        subst (λ (n : ℕ). IsLed samples (s ∷ ss) limit row n) here
        (passed_led samples s ss limit row p above d.entries.within (d.led ss l (p + 1) (omega arith) (omega (arith, d.in_range))) (dear ss l))

-- places are passed whose samples are too far away
pub places_passed : (samples : List Point) (s : Point) (limit : ℕ) (later row : List BestPlace) (steps p q seen : ℕ) → q ≡ p + steps → IsDescent samples s limit later row q seen →
    ((place : ℕ) → p ≤ place → place < q → limit < dist2_of s (sample_at samples place)) → IsDescent samples s limit later row p seen
places_passed samples s limit later row zero p q seen at d far = let here : q ≡ p = omega arith in subst (λ (n : ℕ). IsDescent samples s limit later row n seen) here d
places_passed samples s limit later row (suc steps) p q seen at d far =
    last_passed (places_passed samples s limit later row steps (p + 1) q seen (omega arith) d (λ place high low. far place (omega arith) low))
  where
    more : (d c : ℕ) → limit < d → limit < d + c
    more d c h = omega arith

    last_passed : IsDescent samples s limit later row (p + 1) seen → IsDescent samples s limit later row p seen
    last_passed rest =
        place_passed samples s limit later row p (p + 1) seen seen refl rest (seen_lower later p (p + 1) seen (omega arith) rest.seen_above)
        (λ ss l js placed. inl (more (dist2_of s (sample_at samples p)) (cost_of samples ss js) (far p (le_refl p) (omega arith))))

-- one place is looked at
pub place_added : (samples : List Point) (s : Point) (limit : ℕ) (later row new : List BestPlace) (p q seen now square : ℕ) (rest : Option ℕ) → q ≡ p + 1 → IsDescent samples s limit later row q seen →
    AreSeen later p now → IsCostFrom later p rest → square ≡ dist2_of s (sample_at samples p) → AddsPlace row new p square rest limit → IsDescent samples s limit later new p now
place_added samples s limit later row new p q seen now square None next d seen_now none is same =
    subst (λ (r : List BestPlace). IsDescent samples s limit later r p now) (sym same)
    (place_passed samples s limit later row p q seen now next d seen_now
    (λ ss l js placed. inl (more (dist2_of s (sample_at samples p)) (cost_of samples ss js) ((l p (omega (arith, d.in_range))).nowhere none js placed))))
  where
    more : (d c : ℕ) → limit < c → limit < d + c
    more d c h = omega arith
place_added samples s limit later row new p q seen now square (Some c) next d seen_now to is added = by_cost added
  where
    below : p < length samples
    below = omega (arith, d.in_range)

    least : (ss : List Point) → AreLed samples ss limit later → IsLeastCost samples ss p c
    least ss l = subst (λ (n : ℕ). IsLeastCost samples ss p n) to.2 ((l p below).cost to.0 to.1)

    over : (a b m : ℕ) → a ≤ b → m < a → m < b
    over a b m h k = omega arith

    dearer : (a b : ℕ) → a ≤ b → IsDear row a limit → IsDear row b limit
    dearer a b h (inl k) = inl (over a b limit h k)
    dearer a b h (inr k) = inr (k.0, over a b (entry_at row (length row - 1)).cost h k.1)

    sum : (a x y : ℕ) → x ≤ y → a + x ≤ a + y
    sum a x y h = omega arith

    above : (k : ℕ) → k < length row → p + 1 ≤ (entry_at row k).place
    above k under = subst (λ (n : ℕ). n ≤ (entry_at row k).place) next (d.above k under)

    by_cost : ((new ≡ row) × IsDear row (square + c) limit) ⊎ ((new ≡ row ++ record { place = p; cost = square + c } ∷ []) × IsCheap row (square + c) limit) → IsDescent samples s limit later new p now
    by_cost (inl w) =
        subst (λ (r : List BestPlace). IsDescent samples s limit later r p now) (sym w.0)
        (place_passed samples s limit later row p q seen now next d seen_now
        (λ ss l js placed. dearer (square + c) (cost_of samples (s ∷ ss) (p ∷ js))
        (subst (λ (n : ℕ). square + c ≤ n + cost_of samples ss js) is (sum square c (cost_of samples ss js) ((least ss l).least js placed))) w.1))
    by_cost (inr w) = subst (λ (r : List BestPlace). IsDescent samples s limit later r p now) (sym w.0) taken
      where
        count : length (row ++ record { place = p; cost = square + c } ∷ []) ≡ length row + 1
        count = length-append row (record { place = p; cost = square + c } ∷ [])

        same : (k : ℕ) → k < length row → entry_at (row ++ record { place = p; cost = square + c } ∷ []) k ≡ entry_at row k
        same k under = get_or-append row (record { place = p; cost = square + c } ∷ []) (record { place = 0; cost = 0 }) k under

        at_end : (k : ℕ) → k ≡ length row → entry_at (row ++ record { place = p; cost = square + c } ∷ []) k ≡ record { place = p; cost = square + c }
        at_end k here = ap (λ n. entry_at (row ++ record { place = p; cost = square + c } ∷ []) n) here ∙ get_or-append_seam row (record { place = p; cost = square + c }) [] (record { place = 0; cost = 0 })

        each : (P : BestPlace → Type 0) → ((k : ℕ) → k < length row → P (entry_at row k)) → P (record { place = p; cost = square + c }) →
            (k : ℕ) → k < length (row ++ record { place = p; cost = square + c } ∷ []) → P (entry_at (row ++ record { place = p; cost = square + c } ∷ []) k)
        each P old last k under = by_order (cases_lt k (length row))
          where
            by_order : (k < length row) ⊎ (length row ≤ k) → P (entry_at (row ++ record { place = p; cost = square + c } ∷ []) k)
            by_order (inl h) = subst P (sym (same k h)) (old k h)
            by_order (inr h) = subst P (sym (at_end k (omega (arith, count, under)))) last

        falls : (j k : ℕ) → j < k → k < length (row ++ record { place = p; cost = square + c } ∷ []) → (k < length row) ⊎ (length row ≤ k) →
            (entry_at (row ++ record { place = p; cost = square + c } ∷ []) k).place < (entry_at (row ++ record { place = p; cost = square + c } ∷ []) j).place
        falls j k more under (inl h) =
            let before : j < length row = omega arith in
            subst (λ (e : BestPlace). e.place < (entry_at (row ++ record { place = p; cost = square + c } ∷ []) j).place) (sym (same k h))
            (subst (λ (e : BestPlace). (entry_at row k).place < e.place) (sym (same j before)) (d.entries.falling j k more h))
        falls j k more under (inr h) =
            let here : k ≡ length row = omega (arith, count, under) in
            let before : j < length row = omega arith in
            let high : p + 1 ≤ (entry_at row j).place = above j before in
            let low : p < (entry_at row j).place = omega (arith, high) in
            subst (λ (e : BestPlace). e.place < (entry_at (row ++ record { place = p; cost = square + c } ∷ []) j).place) (sym (at_end k here))
            (subst (λ (e : BestPlace). p < e.place) (sym (same j before)) low)

        led : (ss : List Point) → AreLed samples ss limit later → (floor : ℕ) → p ≤ floor → floor ≤ length samples → (p < floor) ⊎ (floor ≤ p) →
            IsLed samples (s ∷ ss) limit (row ++ record { place = p; cost = square + c } ∷ []) floor
        led ss l floor high low (inl h) = kept_led samples (s ∷ ss) limit row (record { place = p; cost = square + c }) floor h (d.led ss l floor (omega arith) low)
        led ss l floor high low (inr h) =
            let here : p ≡ floor = omega arith in
            subst (λ (n : ℕ). IsLed samples (s ∷ ss) limit (row ++ record { place = p; cost = square + c } ∷ []) n) here
            (subst (λ (n : ℕ). IsLed samples (s ∷ ss) limit (row ++ record { place = p; cost = n + c } ∷ []) p) (sym is)
            (taken_led samples s ss limit row p c below above (d.led ss l (p + 1) (omega arith) below_next) (least ss l)
            (subst (λ (n : ℕ). IsCheap row (n + c) limit) is w.1)))
          where
            below_next : p + 1 ≤ length samples
            below_next = omega (arith, below)

        taken : IsDescent samples s limit later (row ++ record { place = p; cost = square + c } ∷ []) p now
        taken = record {
          in_range = omega (arith, below);
          entries = record {
            falling = λ j k more under. falls j k more under (cases_lt k (length row));
            in_range = each (λ (e : BestPlace). e.place < length samples) d.entries.in_range below;
            within = each (λ (e : BestPlace). e.cost ≤ limit) d.entries.within w.1.0;
          };
          above = each (λ (e : BestPlace). p ≤ e.place) (λ k under. let high : p + 1 ≤ (entry_at row k).place = above k under in omega (arith, high)) (le_refl p);
          seen_above = seen_now;
          led = λ ss l floor high low. led ss l floor high low (cases_lt p floor);
        }

-- where all places are gone through, the row goes on
pub descent_ended : (samples : List Point) (s : Point) (limit : ℕ) (later row : List BestPlace) (p seen : ℕ) → p ≡ 0 → IsDescent samples s limit later row p seen →
    (ss : List Point) → AreLed samples ss limit later → AreLed samples (s ∷ ss) limit row
descent_ended samples s limit later row p seen at d ss l floor below = d.led ss l floor (omega arith) (omega arith)
