-- The snap is the one that is chosen among all lists of places.
use Rattle.std.proofs.Common.{◌≡◌, refl, sym, subst, ℕ, ◌+◌, ◌-◌, ◌<◌, ◌≤◌, Bool, true, false, nat_lt, ◌==◌, ◌||◌, ◌&&◌, List, [], ◌∷◌, length, ◌⊎◌, inl, inr, map, arith}
use Rattle.std.specs.List.{range_with_len}
use Rattle.std.proofs.lemmas.Bool.{lt-ltb, eq-eqb}
use Rattle.map_base.specs.declared.point.Point.{Point}
use Rattle.least_path.proofs.Chosen.{StandsIn, AllAre, IsBetter, least-is, stands-flat_map, stands-map, stands-range, all-flat_map, all-map, all-range, all-weaker}
use Rattle.shape_track.specs.Snaps.{ArePlacesFrom, cost_of, is_not_after, IsSnap}
use Rattle.shape_track.specs.Choices.{all_places, is_no_worse, snap_of}
use Rattle.shape_track.proofs.OneSnap.{by_head, not_after-both}

-- places are among all places
among_all : (n floor : ℕ) (stations : List Point) (places : List ℕ) → ArePlacesFrom floor n stations places → StandsIn places (all_places n floor stations)
among_all n floor [] [] are = inl refl
among_all n floor [] (i ∷ is) are = absurd are
among_all n floor (s ∷ ss) [] are = absurd are
among_all n floor (s ∷ ss) (i ∷ is) are =
    let rest : StandsIn is (all_places n i ss) = among_all n i ss is are.2 in
    let low : floor ≤ i = are.0 in
    let high : i < n = are.1 in
    let within : i < floor + (n - floor) = omega arith in
    stands-flat_map (λ j. map (λ (js : List ℕ). j ∷ js) (all_places n j ss)) i (i ∷ is) (range_with_len floor (n - floor))
    (stands-range floor (n - floor) i low within)
    (stands-map (λ (js : List ℕ). i ∷ js) is (all_places n i ss) rest)

-- all places are places
all_are : (n floor : ℕ) (stations : List Point) → AllAre (ArePlacesFrom floor n stations) (all_places n floor stations)
all_are n floor [] = (tt, tt)
all_are n floor (s ∷ ss) =
    all-flat_map (ArePlacesFrom floor n (s ∷ ss)) (λ j. map (λ (js : List ℕ). j ∷ js) (all_places n j ss)) (range_with_len floor (n - floor))
    (all-range (λ j. AllAre (ArePlacesFrom floor n (s ∷ ss)) (map (λ (js : List ℕ). j ∷ js) (all_places n j ss))) floor (n - floor)
    (λ j low high.
    all-map (ArePlacesFrom floor n (s ∷ ss)) (λ (js : List ℕ). j ∷ js) (all_places n j ss)
    (all-weaker (ArePlacesFrom j n ss) (λ js. ArePlacesFrom floor n (s ∷ ss) (j ∷ js)) (all_places n j ss)
    (λ js are. (low, below j low high, are)) (all_are n j ss))))
  where
    below : (j : ℕ) → floor ≤ j → j < floor + (n - floor) → j < n
    below j low high = omega arith

-- a cost with an order that breaks ties
no_worse_by : (c d : ℕ) (t : Bool) → c ≤ d → (c ≡ d → t ≡ true) → (nat_lt c d || ((c == d) && t)) ≡ true
no_worse_by c d t most tie = by_order (below_or_same most)
  where
    below_or_same : c ≤ d → (c < d) ⊎ (c ≡ d)
    below_or_same h = grind arith

    or-true : (b : Bool) → (b || true) ≡ true
    or-true true = refl
    or-true false = refl

    by_order : (c < d) ⊎ (c ≡ d) → (nat_lt c d || ((c == d) && t)) ≡ true
    by_order (inl less) = subst (λ (b : Bool). (b || ((c == d) && t)) ≡ true) (sym (lt-ltb c d less)) refl
    by_order (inr e) =
        subst (λ (b : Bool). (nat_lt c d || (b && t)) ≡ true) (sym (eq-eqb c d e))
        (subst (λ (b : Bool). (nat_lt c d || b) ≡ true) (sym (tie e)) (or-true (nat_lt c d)))

-- the snap is better than each list of places
snap-better : (samples stations : List Point) (places others : List ℕ) → IsSnap samples stations places →
    ArePlacesFrom 0 (length samples) stations others → IsBetter (is_no_worse samples stations) places others
snap-better samples stations places others snap are = record {
  no_worse = no_worse_by (cost_of samples stations places) (cost_of samples stations others) (is_not_after places others) (snap.least others are) (λ e. snap.first others are (sym e));
  alone = λ h. by_cost (by_head (cost_of samples stations others) (cost_of samples stations places) (is_not_after others places) h);
}
  where
    by_cost : (cost_of samples stations others < cost_of samples stations places)
        ⊎ ((cost_of samples stations others ≡ cost_of samples stations places) × (is_not_after others places ≡ true)) → others ≡ places
    by_cost (inl less) = let most = snap.least others are in absurd (omega arith)
    by_cost (inr tie) = not_after-both others places tie.1 (snap.first others are tie.0)

-- what is a snap is the one that is chosen
pub snap-chosen : (samples stations : List Point) (places : List ℕ) → IsSnap samples stations places → places ≡ snap_of samples stations
snap-chosen samples stations places snap =
    sym (least-is (is_no_worse samples stations) [] places (all_places (length samples) 0 stations)
    (among_all (length samples) 0 stations places snap.placed)
    (all-weaker (ArePlacesFrom 0 (length samples) stations) (IsBetter (is_no_worse samples stations) places) (all_places (length samples) 0 stations)
    (λ others are. snap-better samples stations places others snap are) (all_are (length samples) 0 stations)))
