-- The edges of a point rise.
use Rattle.std.proofs.Common.{◌≡◌, sym, ◌∙◌, ap, subst, ℕ, ◌+◌, ◌<◌, ◌≤◌, ◌⊎◌, inl, inr, List, [], length, get_or, AllPairs, arith}
use Rattle.std.specs.List.{range_with_len}
use Rattle.std.specs.List.Sorted.{IsStrictlyIncreasing}
use Rattle.std.proofs.lemmas.Bool.{cases_order}
use Rattle.std.proofs.lemmas.List.{get_or_default}
use Rattle.std.proofs.lemmas.List.FromFn.{length-range_with_len, get_or-range_with_len, get_or-map-range_with_len}
use Rattle.std.proofs.lemmas.List.Kept.{IsStrictlyIncreasing-filter, AllPairs-from_increasing}
use Rattle.track_net.specs.Nets.{NetParts, IsNet, HasEdge, edges_of_point, edges_at, has_edge}

range_rises : (n : ℕ) → IsStrictlyIncreasing (range_with_len 0 n)
range_rises n k below =
    let within : k + 1 < n = omega (arith, length-range_with_len 0 n) in
    let here : get_or (range_with_len 0 n) k 0 ≡ 0 + k = get_or-range_with_len 0 n k 0 (omega arith) in
    let next : get_or (range_with_len 0 n) (k + 1) 0 ≡ 0 + (k + 1) = get_or-range_with_len 0 n (k + 1) 0 within in
    omega arith

-- of two edges of a point that of the later place has the greater number
pub edges_rise : (net : NetParts) → IsNet net → (at : ℕ) → at < length net.points → AllPairs (λ x y. x < y) (edges_of_point net at)
edges_rise net kept at inside =
    let ps = net.points in
    let same : 0 + at ≡ at = omega arith in
    let row : edges_of_point net at ≡ edges_at kept.near ps at =
    ap (λ (rows : List (List ℕ)). get_or rows at []) kept.edges ∙ get_or-map-range_with_len (edges_at kept.near ps) 0 (length ps) at at [] inside same in
    subst (λ (es : List ℕ). AllPairs (λ x y. x < y) es) (sym row)
    (AllPairs-from_increasing (edges_at kept.near ps at) (IsStrictlyIncreasing-filter (has_edge kept.near ps at) (range_with_len 0 (length ps)) (range_rises (length ps))))

-- so the number at a place is no greater than that of an edge at no earlier place
pub edge_not_below : (net : NetParts) → IsNet net → (at : ℕ) → at < length net.points → (done other : ℕ) (edge : HasEdge net at other) → done ≤ edge.0 →
    get_or (edges_of_point net at) done 0 ≤ other
edge_not_below net kept at inside done other edge later = of_order (cases_order done edge.0)
  where
    here : get_or (edges_of_point net at) edge.0 0 ≡ other
    here = get_or_default (edges_of_point net at) edge.0 0 other edge.1 ∙ edge.2

    of_order : (done ≡ edge.0) ⊎ ((done < edge.0) ⊎ (edge.0 < done)) → get_or (edges_of_point net at) done 0 ≤ other
    of_order (inl e) = let same : get_or (edges_of_point net at) done 0 ≡ other = ap (λ n. get_or (edges_of_point net at) n 0) e ∙ here in omega arith
    of_order (inr (inl h)) =
        let below : get_or (edges_of_point net at) done 0 < other =
        subst (λ (n : ℕ). get_or (edges_of_point net at) done 0 < n) here (edges_rise net kept at inside done edge.0 0 h edge.1) in
        omega arith
    of_order (inr (inr h)) = absurd (omega arith)
