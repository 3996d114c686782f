-- Steps of runs: their segments are at the nodes that they join, and a node between two steps is at no other.
use Rattle.std.proofs.Common.{◌≡◌, refl, sym, ◌∙◌, ap, subst, ℕ, zero, suc, ◌+◌, ◌<◌, Bool, true, false, cond, eqb, List, [], ◌∷◌, length, get_or, Contains, ◌⊎◌, inl, inr, arith}
use Rattle.std.proofs.lemmas.Bool.{eq-eqb, eqb-true, or_left, or_right}
use Rattle.std.proofs.lemmas.List.Sorted.{list_any-IsPermutation}
use Rattle.std.specs.List.{list_any}
use Rattle.map_base.specs.declared.ids.NodeId.{NodeId}
use Rattle.map_base.specs.declared.ids.SegId.{SegId}
use Rattle.graph_core.specs.declared.parts.GraphParts.{GraphParts}
use Rattle.graph_core.specs.Consistent.{AreEnds, IsConsistent}
use Rattle.graph_core.specs.Round.{ends_at, segments_at, segments_from}
use Rattle.line_chains.specs.declared.chain.ChainStep.{ChainStep}
use Rattle.line_chains.specs.Chains.{ends_of, round_of}
use Rattle.octi_grid.proofs.Members.{any_at, In}
use Rattle.segment_router.proofs.Places.{same_seg}
use Rattle.run_laying.specs.Attempts.{inner_nodes}
use Rattle.run_laying.specs.Runs.{AreOnce, AreSteps, LeadsTo, MeetAlone}
use Rattle.run_laying.specs.Sketches.{IsEndOf}

-- what is in a list is at a place of it
pub contains_in : {X : Type 0} (xs : List X) (x : X) → In x xs → Contains xs x
contains_in [] x m = absurd m
contains_in (y ∷ ys) x (inl e) = (0, omega arith, sym e)
contains_in (y ∷ ys) x (inr m) = let rest = contains_in ys x m in (suc rest.0, omega (arith, rest.1), rest.2)

-- a segment is in the round of each of its ends
has_from : (i n k : ℕ) (es : List (NodeId × NodeId)) (d : NodeId × NodeId) → k < length es → ends_at n (get_or es k d) ≡ true → list_any (λ (t : SegId). eqb t.0 (i + k)) (segments_from i n es) ≡ true
has_from i n k [] d h e = absurd (omega (arith, h))
has_from i n zero (f ∷ es) d h e =
    ap (λ b. list_any (λ (t : SegId). eqb t.0 (i + 0)) (cond b (record { 0 = i } ∷ segments_from (i + 1) n es) (segments_from (i + 1) n es))) e
    ∙ or_left (eqb i (i + 0)) (list_any (λ (t : SegId). eqb t.0 (i + 0)) (segments_from (i + 1) n es)) (eq-eqb i (i + 0) (omega arith))
has_from i n (suc k) (f ∷ es) d h e = by_test (ends_at n f) (subst (λ j. list_any (λ (t : SegId). eqb t.0 j) (segments_from (i + 1) n es) ≡ true) same (has_from (i + 1) n k es d (omega arith) e))
  where
    same : i + 1 + k ≡ i + suc k
    same = omega arith

    by_test : (b : Bool) → list_any (λ (t : SegId). eqb t.0 (i + suc k)) (segments_from (i + 1) n es) ≡ true
        → list_any (λ (t : SegId). eqb t.0 (i + suc k)) (cond b (record { 0 = i } ∷ segments_from (i + 1) n es) (segments_from (i + 1) n es)) ≡ true
    by_test true rest = or_right (eqb i (i + suc k)) (list_any (λ (t : SegId). eqb t.0 (i + suc k)) (segments_from (i + 1) n es)) rest
    by_test false rest = rest

pub in_round : (graph : GraphParts) → IsConsistent graph → (s : SegId) (n : ℕ) → s.0 < length graph.ends → n < length graph.kinds → IsEndOf graph s n → In s (get_or graph.rounds n [])
in_round graph fit s n below node is_end =
    found (any_at (λ (t : SegId). eqb t.0 s.0) (get_or graph.rounds n [])
    (sym (list_any-IsPermutation (λ (t : SegId). eqb t.0 s.0) (segments_at n graph.ends) (get_or graph.rounds n []) (fit.rounds n (omega (arith, node, fit.round_each))).1)
    ∙ subst (λ j. list_any (λ (t : SegId). eqb t.0 j) (segments_at n graph.ends) ≡ true) same (has_from 0 n s.0 graph.ends nowhere_to below (ends_here is_end))))
  where
    nowhere_to : NodeId × NodeId
    nowhere_to = (record { 0 = 0 }, record { 0 = 0 })

    same : 0 + s.0 ≡ s.0
    same = omega arith

    ends_here : IsEndOf graph s n → ends_at n (ends_of graph s) ≡ true
    ends_here (inl e) = or_left (eqb (ends_of graph s).0.0 n) (eqb (ends_of graph s).1.0 n) (eq-eqb (ends_of graph s).0.0 n e)
    ends_here (inr e) = or_right (eqb (ends_of graph s).0.0 n) (eqb (ends_of graph s).1.0 n) (eq-eqb (ends_of graph s).1.0 n e)

    found : (t : SegId) × In t (get_or graph.rounds n []) × (eqb t.0 s.0 ≡ true) → In s (get_or graph.rounds n [])
    found (t, m, e) = subst (λ (u : SegId). In u (get_or graph.rounds n [])) (same_seg t s (eqb-true t.0 s.0 e)) m

-- no segment of steps is this one
abbrev pub IsOff : List ChainStep → SegId → Type 0
IsOff ts s = (q : ChainStep) → In q ts → q.seg.0 ≡ s.0 → ⊥

pub once_first : (t : ChainStep) (ts : List ChainStep) → AreOnce (t ∷ ts) → IsOff ts t.seg
once_first t ts once q m e = once.0 q (contains_in ts q m) e

-- the ends of a step
pub leads_from : (graph : GraphParts) (n : NodeId) (t : ChainStep) → LeadsTo graph n t → IsEndOf graph t.seg n.0
leads_from graph n t (inl e) = inl (ap (λ (p : NodeId × NodeId). p.0.0) e)
leads_from graph n t (inr e) = inr (ap (λ (p : NodeId × NodeId). p.1.0) e)

pub leads_to : (graph : GraphParts) (n : NodeId) (t : ChainStep) → LeadsTo graph n t → IsEndOf graph t.seg t.to.0
leads_to graph n t (inl e) = inr (ap (λ (p : NodeId × NodeId). p.1.0) e)
leads_to graph n t (inr e) = inl (ap (λ (p : NodeId × NodeId). p.0.0) e)

pub end_below : (graph : GraphParts) → IsConsistent graph → (s : SegId) (n : ℕ) → s.0 < length graph.ends → IsEndOf graph s n → n < length graph.kinds
end_below graph fit s n below is_end =
    let are : AreEnds (length graph.kinds) (ends_of graph s) =
    fit.ends s.0 (record { 0 = 0 }, record { 0 = 0 }) below in
    elim is_end [ inl e ↦ omega (arith, are.0, are.1, e) | inr e ↦ omega (arith, are.1, e) ]

-- a node at which two segments alone meet is the end of no other
pub only_two : (graph : GraphParts) → IsConsistent graph → (s r : SegId) (m : NodeId) (q : SegId) → MeetAlone graph s m r → m.0 < length graph.kinds → q.0 < length graph.ends → IsEndOf graph q m.0 → (q ≡ s) ⊎ (q ≡ r)
only_two graph fit s r m q alone node below is_end = by_round alone (in_round graph fit q m.0 below node is_end)
  where
    one_of : (u v : SegId) → In q (u ∷ v ∷ []) → (q ≡ u) ⊎ (q ≡ v)
    one_of u v (inl f) = inl f
    one_of u v (inr (inl f)) = inr f
    one_of u v (inr (inr n)) = absurd n

    by_round : MeetAlone graph s m r → In q (round_of graph m) → (q ≡ s) ⊎ (q ≡ r)
    by_round (inl e) i = one_of s r (subst (λ (v : List SegId). In q v) e i)
    by_round (inr e) i = elim (one_of r s (subst (λ (v : List SegId). In q v) e i)) [ inl f ↦ inr f | inr f ↦ inl f ]

-- a node between two steps, with both
pub record IsInner (graph : GraphParts) (ts : List ChainStep) (m : NodeId) : Type 0 where
  pub before : ChainStep
  pub after : ChainStep
  pub on_before : In before ts
  pub on_after : In after ts
  pub alone : MeetAlone graph before.seg m after.seg
  pub node : m.0 < length graph.kinds

pub inner_of : (graph : GraphParts) → IsConsistent graph → (n : NodeId) (ts : List ChainStep) → AreSteps graph n ts → (m : NodeId) → In m (inner_nodes ts) → IsInner graph ts m
inner_of graph fit n [] steps m i = absurd i
inner_of graph fit n (t ∷ []) steps m i = absurd i
inner_of graph fit n (t ∷ u ∷ us) steps m (inl e) = record {
  before = t;
  after = u;
  on_before = inl refl;
  on_after = inr (inl refl);
  alone = subst (λ (p : NodeId). MeetAlone graph t.seg p u.seg) (sym e) steps.2;
  node = subst (λ (p : NodeId). p.0 < length graph.kinds) (sym e) (end_below graph fit t.seg t.to.0 steps.0 (leads_to graph n t steps.1));
}
inner_of graph fit n (t ∷ u ∷ us) steps m (inr i) =
    let rest = inner_of graph fit t.to (u ∷ us) steps.3 m i in
    record { before = rest.before; after = rest.after; on_before = inr rest.on_before; on_after = inr rest.on_after; alone = rest.alone; node = rest.node }

-- each step of a run leads on
pub record IsOnRun (graph : GraphParts) (q : ChainStep) : Type 0 where
  pub from : NodeId
  pub segment : q.seg.0 < length graph.ends
  pub leads : LeadsTo graph from q

pub step_of : (graph : GraphParts) (n : NodeId) (ts : List ChainStep) → AreSteps graph n ts → (q : ChainStep) → In q ts → IsOnRun graph q
step_of graph n [] steps q m = absurd m
step_of graph n (t ∷ []) steps q (inl e) = subst (IsOnRun graph) (sym e) (record { from = n; segment = steps.0; leads = steps.1 })
step_of graph n (t ∷ []) steps q (inr m) = absurd m
step_of graph n (t ∷ u ∷ us) steps q (inl e) = subst (IsOnRun graph) (sym e) (record { from = n; segment = steps.0; leads = steps.1 })
step_of graph n (t ∷ u ∷ us) steps q (inr m) = step_of graph t.to (u ∷ us) steps.3 q m

-- so a node between steps is the end of no segment off the run
pub inner_off : (graph : GraphParts) → IsConsistent graph → (ts : List ChainStep) (m : NodeId) → IsInner graph ts m → (q : SegId) → q.0 < length graph.ends → IsOff ts q → IsEndOf graph q m.0 → ⊥
inner_off graph fit ts m i q below off is_end =
    elim (only_two graph fit i.before.seg i.after.seg m q i.alone i.node below is_end) [
      | inl e ↦ off i.before i.on_before (ap (λ (s : SegId). s.0) (sym e))
      | inr e ↦ off i.after i.on_after (ap (λ (s : SegId). s.0) (sym e))
    ]
