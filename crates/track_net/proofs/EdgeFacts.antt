-- What an edge of a net is.
use Rattle.std.proofs.Common.{◌≡◌, ◌≢◌, sym, ◌∙◌, ap, subst, ℕ, zero, suc, ◌+◌, ◌*◌, ◌<◌, ◌≤◌, ◌⊎◌, inl, inr, Bool, true, false, cond, ◌&&◌, nat_eq, not, List, [], ◌∷◌, length, get_or, filter, Contains, arith}
use Rattle.std.specs.List.{list_any, range_with_len}
use Rattle.std.proofs.lemmas.Bool.{both_ways, and_parts, and_from, not-true, not_from_false, ltb-true, lt-ltb, leb-false, leb-true, eq-eqb, ne_eqb, cases_lt, false_from_ne_true}
use Rattle.std.proofs.lemmas.List.{get_or_past}
use Rattle.std.proofs.lemmas.List.Elements.{All-contains, All-filter, All-weaker, filter_passes}
use Rattle.std.proofs.lemmas.List.Folds.{list_any_at, list_any_none}
use Rattle.std.proofs.lemmas.List.FromFn.{length-range_with_len, get_or-range_with_len}
use Rattle.map_base.specs.declared.point.Point.{Point}
use Rattle.fixed_plane.specs.Measures.{dist2_of}
use Rattle.fixed_plane.proofs.Distances.{dist2_of_comm}
use Rattle.track_net.specs.Nearness.{point_at, is_nearer}
use Rattle.track_net.specs.Nets.{is_in_disk, parts_them, has_edge, edges_at, all_edges, net_over, HasEdge}
use Rattle.track_net.proofs.Lists.{range_below}
use Rattle.track_net.proofs.EdgeLemmas.{length-all_edges, get_or-all_edges}

-- points i and j are two, nearer than three times `near`, and every third point lies outside the disk over them
pub record IsEdge (near : ℕ) (ps : List Point) (i j : ℕ) : Type 0 where
  pub i_in : i < length ps
  pub j_in : j < length ps
  pub apart : i ≢ j
  pub close : dist2_of (point_at ps i) (point_at ps j) < 3 * near * (3 * near)
  pub clear : (k : ℕ) → k < length ps → k ≢ i → k ≢ j → dist2_of (point_at ps i) (point_at ps j) < dist2_of (point_at ps i) (point_at ps k) + dist2_of (point_at ps k) (point_at ps j)

-- a number that is there and passes a test stands among those that pass
Contains-cond : (b : Bool) (y x : ℕ) (ys : List ℕ) → Contains ys x → Contains (cond b (y ∷ ys) ys) x
Contains-cond true y x ys h = (suc h.0, (omega (arith, h.1)), h.2)
Contains-cond false y x ys h = h

Contains-filter_at : (p : ℕ → Bool) (xs : List ℕ) (x k : ℕ) → k < length xs → get_or xs k x ≡ x → p x ≡ true → Contains (filter p xs) x
Contains-filter_at p [] x k below here passes = absurd (omega arith)
Contains-filter_at p (y ∷ ys) x zero below here passes =
    let head : p y ≡ true = ap p here ∙ passes in
    subst (λ (b : Bool). Contains (cond b (y ∷ filter p ys) (filter p ys)) x) (sym head) (0, (omega arith), here)
Contains-filter_at p (y ∷ ys) x (suc k) below here passes = Contains-cond (p y) y x (filter p ys) (Contains-filter_at p ys x k (omega arith) here passes)

pub Contains-filter : (p : ℕ → Bool) (xs : List ℕ) (x : ℕ) → Contains xs x → p x ≡ true → Contains (filter p xs) x
Contains-filter p xs x h passes = Contains-filter_at p xs x h.0 h.1 h.2 passes

pub Contains-range : (n k : ℕ) → k < n → Contains (range_with_len 0 n) k
Contains-range n k below = (k, (omega (arith, length-range_with_len 0 n)), (let here = get_or-range_with_len 0 n k k below in here ∙ (let same : 0 + k ≡ k = omega arith in same)))

edge_of_test : (near : ℕ) (ps : List Point) (i j : ℕ) → i < length ps → j < length ps → has_edge near ps i j ≡ true → IsEdge near ps i j
edge_of_test near ps i j i_in j_in test = record {
  i_in = i_in;
  j_in = j_in;
  apart = λ e. both_ways (nat_eq i j) unequal (equal e);
  close = ltb-true (dist2_of a b) (3 * near * (3 * near)) two.0;
  clear = λ k below not_i not_j. leb-false (dist2_of a (point_at ps k) + dist2_of (point_at ps k) b) (dist2_of a b) (outside k below not_i not_j);
}
  where
    a : Point
    a = point_at ps i

    b : Point
    b = point_at ps j

    parting : Bool
    parting = list_any (parts_them ps i j) (range_with_len 0 (length ps))

    two : (is_nearer (3 * near) a b ≡ true) × ((not (nat_eq i j) && not parting) ≡ true)
    two = and_parts (is_nearer (3 * near) a b) (not (nat_eq i j) && not parting) test

    rest : (not (nat_eq i j) ≡ true) × (not parting ≡ true)
    rest = and_parts (not (nat_eq i j)) (not parting) two.1

    unequal : nat_eq i j ≡ false
    unequal = not-true (nat_eq i j) rest.0

    none : parting ≡ false
    none = not-true parting rest.1

    equal : i ≡ j → nat_eq i j ≡ true
    equal e = eq-eqb i j e

    outside : (k : ℕ) → k < length ps → k ≢ i → k ≢ j → is_in_disk a b (point_at ps k) ≡ false
    outside k below not_i not_j =
        false_from_ne_true (is_in_disk a b (point_at ps k))
        (λ inside.
        both_ways parting none
        (list_any_at (parts_them ps i j) (range_with_len 0 (length ps)) k k (omega (arith, length-range_with_len 0 (length ps)))
        (ap (parts_them ps i j) (get_or-range_with_len 0 (length ps) k k below ∙ (let same : 0 + k ≡ k = omega arith in same))
        ∙ and_from (not (nat_eq k i) && not (nat_eq k j)) (is_in_disk a b (point_at ps k))
        (and_from (not (nat_eq k i)) (not (nat_eq k j)) (not_from_false (nat_eq k i) (ne_eqb k i not_i)) (not_from_false (nat_eq k j) (ne_eqb k j not_j))) inside)))

-- an edge of the net over points is one
pub edge_of_net : (near : ℕ) (ps : List Point) (i j : ℕ) → HasEdge (net_over near ps) i j → IsEdge near ps i j
edge_of_net near ps i j edge = of_order (cases_lt i (length ps))
  where
    all : List ℕ
    all = range_with_len 0 (length ps)

    of_order : (i < length ps) ⊎ (length ps ≤ i) → IsEdge near ps i j
    of_order (inl i_in) =
        let here : Contains (edges_at near ps i) j = subst (λ (xs : List ℕ). Contains xs j) (get_or-all_edges near ps i i_in) edge in
        let test : has_edge near ps i j ≡ true = All-contains (λ x. has_edge near ps i x ≡ true) (edges_at near ps i) j (filter_passes (has_edge near ps i) all) here in
        let j_in : j < length ps = All-contains (λ x. x < length ps) (edges_at near ps i) j (All-filter (has_edge near ps i) (λ x. x < length ps) all (range_below (length ps))) here in
        edge_of_test near ps i j i_in j_in test
    of_order (inr past) =
        let none : get_or (all_edges near ps) i [] ≡ [] = get_or_past (all_edges near ps) i [] (omega (arith, length-all_edges near ps)) in
        let h : Contains [] j = subst (λ (xs : List ℕ). Contains xs j) none edge in
        let below : h.0 < 0 = h.1 in
        absurd (omega arith)

-- and points that pass the test have one
pub net_has_edge : (near : ℕ) (ps : List Point) (i j : ℕ) → i < length ps → j < length ps → has_edge near ps i j ≡ true → HasEdge (net_over near ps) i j
net_has_edge near ps i j i_in j_in test =
    subst (λ (xs : List ℕ). Contains xs j) (sym (get_or-all_edges near ps i i_in)) (Contains-filter (has_edge near ps i) (range_with_len 0 (length ps)) j (Contains-range (length ps) j j_in) test)

-- the test of an edge
pub has_edge_from : (near : ℕ) (ps : List Point) (i j : ℕ) → IsEdge near ps i j → has_edge near ps i j ≡ true
has_edge_from near ps i j e =
    and_from (is_nearer (3 * near) a b) (not (nat_eq i j) && not parting) (lt-ltb (dist2_of a b) (3 * near * (3 * near)) e.close)
    (and_from (not (nat_eq i j)) (not parting) (not_from_false (nat_eq i j) (ne_eqb i j e.apart)) (not_from_false parting none))
  where
    a : Point
    a = point_at ps i

    b : Point
    b = point_at ps j

    parting : Bool
    parting = list_any (parts_them ps i j) (range_with_len 0 (length ps))

    not_parting : (k : ℕ) → k < length ps → parts_them ps i j k ≡ true → ⊥
    not_parting k below test =
        let p = point_at ps k in
        let third = and_parts (not (nat_eq k i) && not (nat_eq k j)) (is_in_disk a b p) test in
        let others = and_parts (not (nat_eq k i)) (not (nat_eq k j)) third.0 in
        let inside : dist2_of a p + dist2_of p b ≤ dist2_of a b = leb-true (dist2_of a p + dist2_of p b) (dist2_of a b) third.1 in
        let outside : dist2_of a b < dist2_of a p + dist2_of p b =
        e.clear k below (λ same. both_ways (nat_eq k i) (not-true (nat_eq k i) others.0) (eq-eqb k i same)) (λ same. both_ways (nat_eq k j) (not-true (nat_eq k j) others.1) (eq-eqb k j same)) in
        omega arith

    none : parting ≡ false
    none =
        list_any_none (parts_them ps i j) (range_with_len 0 (length ps))
        (All-weaker (λ k. k < length ps) (λ k. parts_them ps i j k ≡ false) (λ k below. false_from_ne_true (parts_them ps i j k) (not_parting k below)) (range_with_len 0 (length ps))
        (range_below (length ps)))

-- an edge leads both ways
pub IsEdge_symm : (near : ℕ) (ps : List Point) (i j : ℕ) → IsEdge near ps i j → IsEdge near ps j i
IsEdge_symm near ps i j e = record {
  i_in = e.j_in;
  j_in = e.i_in;
  apart = λ same. e.apart (sym same);
  close = subst (λ (n : ℕ). n < 3 * near * (3 * near)) (dist2_of_comm (point_at ps i) (point_at ps j)) e.close;
  clear = λ k below not_j not_i. turned k (e.clear k below not_i not_j);
}
  where
    turned : (k : ℕ) → dist2_of (point_at ps i) (point_at ps j) < dist2_of (point_at ps i) (point_at ps k) + dist2_of (point_at ps k) (point_at ps j) →
        dist2_of (point_at ps j) (point_at ps i) < dist2_of (point_at ps j) (point_at ps k) + dist2_of (point_at ps k) (point_at ps i)
    turned k h = omega (arith, dist2_of_comm (point_at ps i) (point_at ps j), dist2_of_comm (point_at ps i) (point_at ps k), dist2_of_comm (point_at ps k) (point_at ps j))
