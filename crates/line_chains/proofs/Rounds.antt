-- The segments round a node are segments of the graph.
use Rattle.std.proofs.Common.{◌≡◌, ℕ, ◌+◌, ◌<◌, ◌≤◌, Bool, true, false, cond, eqb, List, [], ◌∷◌, length, get_or, slice_get, Some, subst, arith}
use Rattle.std.specs.List.{All, AllByRecursion}
use Rattle.std.proofs.lemmas.List.Elements.{All-from_recursion}
use Rattle.std.proofs.lemmas.List.Sorted.{All-permutation}
use Rattle.map_base.specs.declared.ids.NodeId.{NodeId}
use Rattle.map_base.specs.declared.ids.SegId.{SegId}
use Rattle.graph_core.specs.declared.parts.GraphParts.{GraphParts}
use Rattle.graph_core.specs.Consistent.{IsConsistent}
use Rattle.graph_core.specs.Round.{ends_at, segments_at, segments_from}
use Rattle.line_chains.specs.Chains.{other_of}

within_from : (m n i : ℕ) (es : List (NodeId × NodeId)) → i + length es ≤ m → AllByRecursion (λ (s : SegId). s.0 < m) (segments_from i n es)
within_from m n i [] h = tt
within_from m n i (e ∷ es) h = by_test (ends_at n e) (within_from m n (i + 1) es (omega arith))
  where
    here : i < m
    here = omega arith

    by_test : (b : Bool) → AllByRecursion (λ (s : SegId). s.0 < m) (segments_from (i + 1) n es)
        → AllByRecursion (λ (s : SegId). s.0 < m) (cond b (record { 0 = i } ∷ segments_from (i + 1) n es) (segments_from (i + 1) n es))
    by_test true rest = (here, rest)
    by_test false rest = rest

pub round_below : (graph : GraphParts) → IsConsistent graph → (n : ℕ) → n < length graph.kinds → All (λ (s : SegId). s.0 < length graph.ends) (get_or graph.rounds n [])
round_below graph fit n h =
    All-permutation (λ (s : SegId). s.0 < length graph.ends) (segments_at n graph.ends) (get_or graph.rounds n []) (fit.rounds n (omega (arith, h, fit.round_each))).1
    (All-from_recursion (λ (s : SegId). s.0 < length graph.ends) (segments_at n graph.ends) (within_from (length graph.ends) n 0 graph.ends (omega arith)))

-- and so is the other one of two
pub other_below : (m : ℕ) (round : List SegId) (s : SegId) → All (λ (t : SegId). t.0 < m) round → s.0 < m → (other_of round s).0 < m
other_below m [] s all h = h
other_below m (a ∷ []) s all h = all 0 a (omega arith)
other_below m (a ∷ b ∷ rest) s all h = by_test (eqb a.0 s.0)
  where
    by_test : (t : Bool) → (let u : SegId = cond t b a in u).0 < m
    by_test true = all 1 b (omega arith)
    by_test false = all 0 a (omega arith)
