-- Steps that go over no segment twice are not more than the segments.
use Rattle.std.proofs.Common.{◌≡◌, refl, sym, ℕ, ◌<◌, ◌≤◌, true, false, eqb, List, [], ◌∷◌, length, map, ◌⊎◌, inl, inr, arith}
use Rattle.std.proofs.lemmas.Map.Steps.{length-le_from_distinct_below}
use Rattle.std.specs.List.{IsDistinct}
use Rattle.drawing_search.proofs.Common.{contains_in, eqb-true, length-map, list_any, ne_eqb, once_first, or_cases}
use Rattle.drawing_search.proofs.Common.{step_of, true≢false, AllByRecursion, AreApart, AreOnce, Chain, ChainStep}
use Rattle.drawing_search.proofs.Common.{GraphParts, In, IsConsistent, IsRun, NodeId}

-- no segment twice, so not more steps than segments
distinct_of : (ts : List ChainStep) → AreOnce ts → IsDistinct eqb (map (λ (t : ChainStep). t.seg.0) ts)
unfolding IsDistinct
distinct_of [] once = tt
distinct_of (t ∷ ts) once = (others ts (λ q i. once_first t ts once q i), distinct_of ts once.1)
  where
    others : (us : List ChainStep) → ((q : ChainStep) → In q us → q.seg.0 ≡ t.seg.0 → ⊥) → AllByRecursion (λ y. eqb t.seg.0 y ≡ false) (map (λ (u : ChainStep). u.seg.0) us)
    others [] off = tt
    others (u ∷ us) off = (ne_eqb t.seg.0 u.seg.0 (λ e. off u (inl refl) (sym e)), others us (λ q i. off q (inr i)))

pub few_once : (graph : GraphParts) (ts : List ChainStep) → AreOnce ts → ((t : ChainStep) → In t ts → t.seg.0 < length graph.ends) → length ts ≤ length graph.ends
few_once graph ts once all_below =
    let few = length-le_from_distinct_below (map (λ (t : ChainStep). t.seg.0) ts) (length graph.ends) (distinct_of ts once) (λ q e. below ts all_below q e) in
    omega (arith, few, length-map ts (λ (t : ChainStep). t.seg.0))
  where
    below : (us : List ChainStep) → ((t : ChainStep) → In t us → t.seg.0 < length graph.ends) → (q : ℕ) → list_any (eqb q) (map (λ (t : ChainStep). t.seg.0) us) ≡ true → q < length graph.ends
    below [] all q e = absurd (true≢false (sym e))
    below (u ∷ us) all q e = by_first (λ f. below us (λ t i. all t (inr i)) q f) (or_cases (eqb q u.seg.0) (list_any (eqb q) (map (λ (t : ChainStep). t.seg.0) us)) e)
      where
        by_first : (list_any (eqb q) (map (λ (t : ChainStep). t.seg.0) us) ≡ true → q < length graph.ends) → (eqb q u.seg.0 ≡ true) ⊎ (list_any (eqb q) (map (λ (t : ChainStep). t.seg.0) us) ≡ true) → q < length graph.ends
        by_first rest (inl f) = omega (arith, eqb-true q u.seg.0 f, all u (inl refl))
        by_first rest (inr f) = rest f

-- so a run has at most 20,000 steps
pub run_few : (graph : GraphParts) → IsConsistent graph → (c : Chain) → IsRun graph c → length c.steps ≤ 20000
run_few graph fit c run = let few = few_once graph c.steps run.once (λ t i. (step_of graph c.from c.steps run.steps t i).segment) in omega (arith, few, fit.few_segments)

-- and different nodes are not more than the nodes
apart_distinct : (ns : List NodeId) → AreApart ns → IsDistinct eqb (map (λ (n : NodeId). n.0) ns)
unfolding IsDistinct
apart_distinct [] apart = tt
apart_distinct (n ∷ ns) apart = (others ns (λ m i e. apart.0 m (contains_in ns m i) e), apart_distinct ns apart.1)
  where
    others : (ms : List NodeId) → ((m : NodeId) → In m ms → m.0 ≡ n.0 → ⊥) → AllByRecursion (λ y. eqb n.0 y ≡ false) (map (λ (m : NodeId). m.0) ms)
    others [] off = tt
    others (m ∷ ms) off = (ne_eqb n.0 m.0 (λ e. off m (inl refl) (sym e)), others ms (λ q i. off q (inr i)))

pub apart_few : (most : ℕ) (ns : List NodeId) → AreApart ns → ((n : NodeId) → In n ns → n.0 < most) → length ns ≤ most
apart_few most ns apart all_below =
    let few = length-le_from_distinct_below (map (λ (n : NodeId). n.0) ns) most (apart_distinct ns apart) (λ q e. below ns all_below q e) in
    omega (arith, few, length-map ns (λ (n : NodeId). n.0))
  where
    below : (ms : List NodeId) → ((n : NodeId) → In n ms → n.0 < most) → (q : ℕ) → list_any (eqb q) (map (λ (n : NodeId). n.0) ms) ≡ true → q < most
    below [] all q e = absurd (true≢false (sym e))
    below (m ∷ ms) all q e = by_first (λ f. below ms (λ n i. all n (inr i)) q f) (or_cases (eqb q m.0) (list_any (eqb q) (map (λ (n : NodeId). n.0) ms)) e)
      where
        by_first : (list_any (eqb q) (map (λ (n : NodeId). n.0) ms) ≡ true → q < most) → (eqb q m.0 ≡ true) ⊎ (list_any (eqb q) (map (λ (n : NodeId). n.0) ms) ≡ true) → q < most
        by_first rest (inl f) = omega (arith, eqb-true q m.0 f, all m (inl refl))
        by_first rest (inr f) = rest f
