-- Near net points are joined, and so are stations that a run of samples leads between.
use Rattle.std.proofs.Common.{◌≡◌, ◌≢◌, refl, sym, ◌∙◌, subst, ℕ, zero, suc, ◌+◌, ◌*◌, ◌<◌, ◌≤◌, ◌⊎◌, inl, inr, Bool, true, false, ◌&&◌, not, nat_eq, List, [], ◌∷◌, ◌++◌, length, arith}
use Rattle.std.specs.List.{list_any, range_with_len}
use Rattle.std.proofs.lemmas.Bool.{both_ways, and_parts, and_from, not-true, not_from_false, lt-ltb, leb-true, eq-eqb, ne_eqb, cases_lt, cases_eq, cases_Bool}
use Rattle.std.proofs.lemmas.List.Elements.{All-contains}
use Rattle.std.proofs.lemmas.List.Folds.{Any-from_list_any}
use Rattle.map_base.specs.declared.point.Point.{Point}
use Rattle.fixed_plane.specs.Measures.{dist2_of}
use Rattle.fixed_plane.proofs.Distances.{dist2_of_comm}
use Rattle.track_net.specs.Nearness.{point_at, is_nearer}
use Rattle.track_net.specs.Nets.{NetParts, net_points, net_over, net_of_samples, is_in_disk, parts_them, has_edge, AreDistinct, Leads, Joins}
use Rattle.track_net.specs.Laws.{RunsTo, JoinsStations}
use Rattle.track_net.proofs.Lists.{range_below}
use Rattle.track_net.proofs.Squares.{dist2_of-same, same_where_none, three_steps}
use Rattle.track_net.proofs.EdgeFacts.{net_has_edge}
use Rattle.track_net.proofs.ThinLemmas.{length-net_points}
use Rattle.track_net.proofs.Covering.{AreCovered, samples_are_covered, AreCovered-left, AreCovered-right, point_at-net_points}

-- ways in a net, one after another
Leads-append : (net : NetParts) (i j k : ℕ) (ks ls : List ℕ) → Leads net i j ks → Leads net j k ls → Leads net i k (ks ++ ls)
Leads-append net i j k [] ls h g = subst (λ (n : ℕ). Leads net n k ls) (sym h) g
Leads-append net i j k (m ∷ ks) ls h g = (h.0, Leads-append net m j k ks ls h.1 g)

pub Joins-trans : (net : NetParts) (i j k : ℕ) → Joins net i j → Joins net j k → Joins net i k
Joins-trans net i j k h g = (h.0 ++ g.0, Leads-append net i j k h.0 g.0 h.1 g.1)

-- two numbers that are not equal and have no edge though they are near have a third point in their disk
pub record IsParted (ps : List Point) (i j : ℕ) : Type 0 where
  pub third : ℕ
  pub in_range : third < length ps
  pub not_i : third ≢ i
  pub not_j : third ≢ j
  pub inside : dist2_of (point_at ps i) (point_at ps third) + dist2_of (point_at ps third) (point_at ps j) ≤ dist2_of (point_at ps i) (point_at ps j)

edge_or_parted : (near : ℕ) (ps : List Point) (i j : ℕ) → i ≢ j → dist2_of (point_at ps i) (point_at ps j) < 3 * near * (3 * near) →
    (has_edge near ps i j ≡ true) ⊎ IsParted ps i j
edge_or_parted near ps i j apart close = of_test (cases_Bool parting)
  where
    a : Point
    a = point_at ps i

    b : Point
    b = point_at ps j

    all : List ℕ
    all = range_with_len 0 (length ps)

    parting : Bool
    parting = list_any (parts_them ps i j) all

    of_test : (parting ≡ true) ⊎ (parting ≡ false) → (has_edge near ps i j ≡ true) ⊎ IsParted ps i j
    of_test (inr none) =
        inl (and_from (is_nearer (3 * near) a b) (not (nat_eq i j) && not parting) (lt-ltb (dist2_of a b) (3 * near * (3 * near)) close)
        (and_from (not (nat_eq i j)) (not parting) (not_from_false (nat_eq i j) (ne_eqb i j apart)) (not_from_false parting none)))
    of_test (inl some) =
        let found = Any-from_list_any (parts_them ps i j) all some in
        let k : ℕ = found.1 in
        let p = point_at ps k in
        let third = and_parts (not (nat_eq k i) && not (nat_eq k j)) (is_in_disk a b p) found.4 in
        let others = and_parts (not (nat_eq k i)) (not (nat_eq k j)) third.0 in
        inr (record {
          third = k;
          in_range = All-contains (λ m. m < length ps) all k (range_below (length ps)) (found.0, found.2, found.3);
          not_i = λ same. both_ways (nat_eq k i) (not-true (nat_eq k i) others.0) (eq-eqb k i same);
          not_j = λ same. both_ways (nat_eq k j) (not-true (nat_eq k j) others.1) (eq-eqb k j same);
          inside = leb-true (dist2_of a p + dist2_of p b) (dist2_of a b) third.1;
        })

-- different points are apart
apart_points : (ps : List Point) (i j : ℕ) → AreDistinct ps → i < length ps → j < length ps → i ≢ j → 0 < dist2_of (point_at ps i) (point_at ps j)
apart_points ps i j distinct i_in j_in apart = of_order (cases_lt 0 (dist2_of (point_at ps i) (point_at ps j)))
  where
    of_order : (0 < dist2_of (point_at ps i) (point_at ps j)) ⊎ (dist2_of (point_at ps i) (point_at ps j) ≤ 0) → 0 < dist2_of (point_at ps i) (point_at ps j)
    of_order (inl h) = h
    of_order (inr h) = absurd (apart (distinct i j i_in j_in (same_where_none (point_at ps i) (point_at ps j) (omega arith))))

-- net points nearer than three times `near` are joined: by an edge, or by way of a third point that is nearer to both
joined_within : (near : ℕ) (ps : List Point) → AreDistinct ps → (n i j : ℕ) → i < length ps → j < length ps → dist2_of (point_at ps i) (point_at ps j) < n →
    dist2_of (point_at ps i) (point_at ps j) < 3 * near * (3 * near) → Joins (net_over near ps) i j
joined_within near ps distinct zero i j i_in j_in below close = absurd (omega arith)
joined_within near ps distinct (suc n) i j i_in j_in below close =
    by_case near ps distinct n i j i_in j_in below close (joined_within near ps distinct n) (cases_eq i j)
  where
    by_edge : (near : ℕ) (ps : List Point) → AreDistinct ps → (n i j : ℕ) → i < length ps → j < length ps → dist2_of (point_at ps i) (point_at ps j) < suc n →
        dist2_of (point_at ps i) (point_at ps j) < 3 * near * (3 * near) →
        ((i j : ℕ) → i < length ps → j < length ps → dist2_of (point_at ps i) (point_at ps j) < n → dist2_of (point_at ps i) (point_at ps j) < 3 * near * (3 * near) → Joins (net_over near ps) i j) →
        (has_edge near ps i j ≡ true) ⊎ IsParted ps i j → Joins (net_over near ps) i j
    by_edge near ps distinct n i j i_in j_in below close nearer (inl edge) = (j ∷ [], (net_has_edge near ps i j i_in j_in edge, refl))
    by_edge near ps distinct n i j i_in j_in below close nearer (inr p) =
        let k = p.third in
        let some_i : 0 < dist2_of (point_at ps i) (point_at ps k) = apart_points ps i k distinct i_in p.in_range (λ same. p.not_i (sym same)) in
        let some_j : 0 < dist2_of (point_at ps k) (point_at ps j) = apart_points ps k j distinct p.in_range j_in p.not_j in
        let inside : dist2_of (point_at ps i) (point_at ps k) + dist2_of (point_at ps k) (point_at ps j) ≤ dist2_of (point_at ps i) (point_at ps j) = p.inside in
        Joins-trans (net_over near ps) i k j (nearer i k i_in p.in_range (omega arith) (omega arith)) (nearer k j p.in_range j_in (omega arith) (omega arith))

    by_case : (near : ℕ) (ps : List Point) → AreDistinct ps → (n i j : ℕ) → i < length ps → j < length ps → dist2_of (point_at ps i) (point_at ps j) < suc n →
        dist2_of (point_at ps i) (point_at ps j) < 3 * near * (3 * near) →
        ((i j : ℕ) → i < length ps → j < length ps → dist2_of (point_at ps i) (point_at ps j) < n → dist2_of (point_at ps i) (point_at ps j) < 3 * near * (3 * near) → Joins (net_over near ps) i j) →
        (i ≡ j) ⊎ (i ≡ j → ⊥) → Joins (net_over near ps) i j
    by_case near ps distinct n i j i_in j_in below close nearer (inl same) = ([], same)
    by_case near ps distinct n i j i_in j_in below close nearer (inr apart) = by_edge near ps distinct n i j i_in j_in below close nearer (edge_or_parted near ps i j apart close)

pub near_are_joined : (near : ℕ) (ps : List Point) → AreDistinct ps → (i j : ℕ) → i < length ps → j < length ps →
    dist2_of (point_at ps i) (point_at ps j) < 3 * near * (3 * near) → Joins (net_over near ps) i j
near_are_joined near ps distinct i j i_in j_in close = joined_within near ps distinct (suc (dist2_of (point_at ps i) (point_at ps j))) i j i_in j_in (omega arith) close

-- a run goes on from a point near which net point i lies
joined_along : (near : ℕ) (ps : List Point) → AreDistinct ps → (run : List Point) (p b : Point) (i j : ℕ) → i < length ps → j < length ps → point_at ps j ≡ b →
    dist2_of (point_at ps i) p < near * near → AreCovered near ps run → RunsTo near p run b → Joins (net_over near ps) i j
joined_along near ps distinct [] p b i j i_in j_in at_end close covered ends =
    near_are_joined near ps distinct i j i_in j_in (subst (λ (q : Point). dist2_of (point_at ps i) q < 3 * near * (3 * near)) (ends ∙ sym at_end) (omega arith))
joined_along near ps distinct (q ∷ run) p b i j i_in j_in at_end close covered ends =
    let k = covered.0.number in
    let k_close : dist2_of (point_at ps k) q < near * near = covered.0.close in
    let step : dist2_of p q ≤ near * near = ends.0 in
    let all : dist2_of (point_at ps i) (point_at ps k) ≤ 3 * (dist2_of (point_at ps i) p + dist2_of p q + dist2_of q (point_at ps k)) = three_steps (point_at ps i) p q (point_at ps k) in
    let back : dist2_of q (point_at ps k) ≡ dist2_of (point_at ps k) q = dist2_of_comm q (point_at ps k) in
    let near_k : dist2_of (point_at ps i) (point_at ps k) < 3 * near * (3 * near) = omega arith in
    Joins-trans (net_over near ps) i k j (near_are_joined near ps distinct i k i_in covered.0.in_range near_k)
    (joined_along near ps distinct run q b k j covered.0.in_range j_in at_end k_close covered.1 ends.1)

-- so the stations of a run are joined
pub net_joins_stations : (near : ℕ) (stations samples : List Point) → 0 < near * near → AreDistinct (net_points near stations samples) →
    JoinsStations near stations samples (net_of_samples near stations samples)
net_joins_stations near stations samples some distinct before [] after i j whole i_in j_in run = absurd run
net_joins_stations near stations samples some distinct before (p ∷ run) after i j whole i_in j_in ends =
    let ps = net_points near stations samples in
    let more = length-net_points near stations samples in
    let all : AreCovered near ps (before ++ ((p ∷ run) ++ after)) = subst (λ (ss : List Point). AreCovered near ps ss) whole (samples_are_covered near stations samples some) in
    let here : AreCovered near ps (p ∷ run) = AreCovered-left near ps (p ∷ run) after (AreCovered-right near ps before ((p ∷ run) ++ after) all) in
    let start : point_at ps i ≡ p = point_at-net_points near stations samples i i_in ∙ sym ends.0 in
    joined_along near ps distinct run p (point_at stations j) i j (omega arith) (omega arith) (point_at-net_points near stations samples j j_in)
    (subst (λ (n : ℕ). n < near * near) (sym (dist2_of-same (point_at ps i) p start)) some) here.1 ends.1
