-- A search in a row that rises by its other points.
use Rattle.std.proofs.Common.{◌≡◌, ℕ, zero, suc, ◌<◌, ◌≤◌, ◌⊎◌, inl, inr, Bool, false, cond, eqb, List, [], ◌∷◌, length, get_or, Some, None, refl, sym, ◌∙◌, ap, arith}
use Rattle.std.specs.List.{All, HoldsAt, find}
use Rattle.std.specs.List.Sorted.{IsNonDecreasingBy, IsPartitionPoint}
use Rattle.std.specs.Ordering.{nat_cmp, ordering_index}
use Rattle.std.specs.declared.cmp.Ordering.TheVariants.{Less, Equal, Greater}
use Rattle.std.proofs.lemmas.Bool.{cases_lt, eq-eqb}
use Rattle.std.proofs.lemmas.Bool.Decides.{nat_tests}
use Rattle.std.proofs.lemmas.List.{get_or-map, length-map}
use Rattle.std.proofs.lemmas.List.Elements.{All-head, All-tail}
use Rattle.std.proofs.lemmas.List.Kept.{AllPairs-from_increasing}
use Rattle.way_network.specs.declared.edges.UsedEdge.{UsedEdge}
use Rattle.way_network.specs.Uses.{IsRising, neighbours_in}
use Rattle.way_network.proofs.RisingLists.{eqb_apart}

abbrev to_of : UsedEdge → ℕ
to_of edge = edge.to

rises_in : (row : List UsedEdge) → IsRising row → (i j : ℕ) (d : UsedEdge) → i < j → j < length row → (get_or row i d).to < (get_or row j d).to
rises_in row up i j d l h =
    let pair : get_or (neighbours_in row) i 0 < get_or (neighbours_in row) j 0 = AllPairs-from_increasing (neighbours_in row) up i j 0 l (omega (arith, h, length-map row to_of)) in
    omega (arith, pair, get_or-map to_of row i d 0 (omega (arith, l, h)), get_or-map to_of row j d 0 h)

never_falls : (row : List UsedEdge) → IsRising row → (i j : ℕ) (d : UsedEdge) → i ≤ j → j < length row → (get_or row i d).to ≤ (get_or row j d).to
never_falls row up i j d le h = by (cases_lt i j)
  where
    by : (i < j) ⊎ (j ≤ i) → (get_or row i d).to ≤ (get_or row j d).to
    by (inl l) = omega (arith, rises_in row up i j d l h)
    by (inr g) =
        let same : i ≡ j = omega (arith, le, g) in
        omega (arith, ap (λ (k : ℕ). (get_or row k d).to) same)

comparisons_rise : (row : List UsedEdge) (q : ℕ) → IsRising row → IsNonDecreasingBy (λ edge. ordering_index (nat_cmp edge.to q)) row
comparisons_rise row q up i j d le h = by (get_or row i d).to (get_or row j d).to q (never_falls row up i j d le h)
  where
    by : (a b q : ℕ) → a ≤ b → ordering_index (nat_cmp a q) ≤ ordering_index (nat_cmp b q)
    by a b q l = grind (arith, nat_tests)

-- the edge that leads to a point is the first one
found_at : (row : List UsedEdge) (q i : ℕ) (d : UsedEdge) → i < length row → ((k : ℕ) → k < i → (get_or row k d).to < (get_or row i d).to) → (get_or row i d).to ≡ q
    → find (λ edge. eqb edge.to q) row ≡ Some (get_or row i d)
found_at [] q i d l lower e = absurd (omega (arith, l))
found_at (x ∷ xs) q zero d l lower e = ap (λ (b : Bool). cond b (Some x) (find (λ edge. eqb edge.to q) xs)) (eq-eqb x.to q e)
found_at (x ∷ xs) q (suc i) d l lower e =
    ap (λ (b : Bool). cond b (Some x) (find (λ edge. eqb edge.to q) xs)) (eqb_apart x.to q (inl (omega (arith, lower 0 (omega arith), e))))
    ∙ found_at xs q i d (omega (arith, l)) (λ k h. lower (suc k) (omega (arith, h))) e

not_found : (row : List UsedEdge) (q : ℕ) → All (λ edge. eqb edge.to q ≡ false) row → find (λ edge. eqb edge.to q) row ≡ None
not_found [] q none = refl
not_found (x ∷ xs) q none =
    ap (λ (b : Bool). cond b (Some x) (find (λ edge. eqb edge.to q) xs)) (All-head (λ edge. eqb edge.to q ≡ false) x xs none) ∙ not_found xs q (All-tail (λ edge. eqb edge.to q ≡ false) x xs none)

pub edge_found : (row : List UsedEdge) (q i : ℕ) (edge : UsedEdge) → IsRising row → i < length row → edge ≡ get_or row i edge → HoldsAt (λ e. nat_cmp e.to q ≡ Equal) row i
    → Some edge ≡ find (λ e. eqb e.to q) row
edge_found row q i edge up l is level =
    ap (λ (e : UsedEdge). Some e) is ∙ sym (found_at row q i edge l (λ k h. rises_in row up k i edge h l) (equal (get_or row i edge).to q (level edge)))
  where
    equal : (a q : ℕ) → nat_cmp a q ≡ Equal → a ≡ q
    equal a q h = grind (arith, nat_tests)

pub edge_missing : (row : List UsedEdge) (q i : ℕ) → IsRising row
    → (IsNonDecreasingBy (λ edge. ordering_index (nat_cmp edge.to q)) row → IsPartitionPoint (λ edge. nat_cmp edge.to q ≡ Less) (λ edge. nat_cmp edge.to q ≡ Greater) row i)
    → None ≡ find (λ e. eqb e.to q) row
edge_missing row q i up parted = sym (not_found row q each)
  where
    less : (a q : ℕ) → nat_cmp a q ≡ Less → eqb a q ≡ false
    less a q h = grind (arith, nat_tests)

    greater : (a q : ℕ) → nat_cmp a q ≡ Greater → eqb a q ≡ false
    greater a q h = grind (arith, nat_tests)

    each : All (λ edge. eqb edge.to q ≡ false) row
    each k d l = by (cases_lt k i)
      where
        by : (k < i) ⊎ (i ≤ k) → eqb (get_or row k d).to q ≡ false
        by (inl h) = less (get_or row k d).to q ((parted (comparisons_rise row q up)).0 k d (omega arith) h)
        by (inr h) = greater (get_or row k d).to q ((parted (comparisons_rise row q up)).1 k d h l)
