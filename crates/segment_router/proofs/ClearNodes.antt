-- Walks are clear of the nodes that they do not join.
use Rattle.std.proofs.Common.{◌≡◌, ℕ, ◌<◌, List, [], ◌∷◌, length, sym, refl, subst, ◌∙◌, ◌⊎◌, inl, inr}
use Rattle.std.proofs.lemmas.Bool.{true≢false}
use Rattle.map_base.specs.declared.ids.SegId.{SegId}
use Rattle.graph_core.specs.declared.parts.GraphParts.{GraphParts}
use Rattle.octi_grid.specs.declared.dir.Dir.{Dir}
use Rattle.octi_grid.specs.declared.point.GridPoint.{GridPoint}
use Rattle.octi_grid.specs.Ways.{after, doubled, doubled_from, points_from, step_from}
use Rattle.octi_grid.specs.Walks.{doubled_of, end_point, PlainWalk}
use Rattle.octi_grid.proofs.Members.{any_from, In}
use Rattle.walk_search.specs.Routes.{inner_points}
use Rattle.walk_search.proofs.FreeWalks.{never_middle, same_doubled}
use Rattle.walk_search.proofs.FreeWays.{inner_from, inner_is}
use Rattle.segment_router.specs.Routes.{ends_of, node_point, Routed}
use Rattle.segment_router.proofs.SettledLemmas.{end_away, start_away, Goes}

-- a doubled point of a way that is a point twice is one of its grid points
pub undoubled : (q p : GridPoint) (ds : List Dir) → In (doubled q) (doubled_from p ds) → In q (points_from p ds)
undoubled q p [] (inl e) = inl (same_doubled q p e)
undoubled q p [] (inr m) = absurd m
undoubled q p (d ∷ ds) (inl e) = inl (same_doubled q p e)
undoubled q p (d ∷ ds) (inr (inl e)) = absurd (never_middle q p d e)
undoubled q p (d ∷ ds) (inr (inr m)) = inr (undoubled q (step_from p d) ds m)

-- the same, by the points between its ends
on_way : (q p : GridPoint) (ds : List Dir) → In (doubled q) (doubled_from p ds) → (q ≡ p) ⊎ (In q (inner_from p ds) ⊎ (q ≡ after p ds))
on_way q p [] (inl e) = inl (same_doubled q p e)
on_way q p [] (inr m) = absurd m
on_way q p (d ∷ ds) (inl e) = inl (same_doubled q p e)
on_way q p (d ∷ ds) (inr (inl e)) = absurd (never_middle q p d e)
on_way q p (d ∷ []) (inr (inr m)) = by_end (on_way q (step_from p d) [] m)
  where
    by_end : (q ≡ step_from p d) ⊎ (⊥ ⊎ (q ≡ step_from p d)) → (q ≡ p) ⊎ (⊥ ⊎ (q ≡ step_from p d))
    by_end (inl e) = inr (inr e)
    by_end (inr (inl m)) = absurd m
    by_end (inr (inr e)) = inr (inr e)
on_way q p (d ∷ e ∷ ds) (inr (inr m)) = by_part (on_way q (step_from p d) (e ∷ ds) m)
  where
    by_part : (q ≡ step_from p d) ⊎ (In q (inner_from (step_from p d) (e ∷ ds)) ⊎ (q ≡ after (step_from p d) (e ∷ ds)))
        → (q ≡ p) ⊎ (((q ≡ step_from p d) ⊎ In q (inner_from (step_from p d) (e ∷ ds))) ⊎ (q ≡ after (step_from p d) (e ∷ ds)))
    by_part (inl h) = inr (inl (inl h))
    by_part (inr (inl n)) = inr (inl (inr n))
    by_part (inr (inr h)) = inr (inr h)

pub on_walk : (w : PlainWalk) (q : GridPoint) → In (doubled q) (doubled_of w) → (q ≡ w.start) ⊎ (In q (inner_points w) ⊎ (q ≡ end_point w))
on_walk w q m = by_steps w.steps refl (on_way q w.start w.steps m)
  where
    by_steps : (ds : List Dir) → w.steps ≡ ds → (q ≡ w.start) ⊎ (In q (inner_from w.start w.steps) ⊎ (q ≡ end_point w)) → (q ≡ w.start) ⊎ (In q (inner_points w) ⊎ (q ≡ end_point w))
    by_steps ds e (inl h) = inl h
    by_steps ds e (inr (inr h)) = inr (inr h)
    by_steps [] e (inr (inl n)) = absurd (subst (λ (v : List Dir). In q (inner_from w.start v)) e n)
    by_steps (d ∷ ds) e (inr (inl n)) = inr (inl (subst (λ (v : List GridPoint). In q v) (sym (inner_is w d ds e)) (subst (λ (v : List Dir). In q (inner_from w.start v)) e n)))

-- a new walk is clear of the nodes that it does not join
pub walk_clear : (graph : GraphParts) (r : Routed) (s : SegId) (w : PlainWalk) → Goes graph r s w → (n : ℕ) → n < length graph.kinds → (n ≡ (ends_of graph s).0.0 → ⊥) → (n ≡ (ends_of graph s).1.0 → ⊥)
    → In (doubled (node_point r n)) (doubled_of w) → ⊥
walk_clear graph r s w g n h not_low not_up m = by_place (on_walk w (node_point r n) m)
  where
    by_place : (node_point r n ≡ w.start) ⊎ (In (node_point r n) (inner_points w) ⊎ (node_point r n ≡ end_point w)) → ⊥
    by_place (inl e) = start_away graph r s w g n h (λ k. not_low (sym k)) (sym e)
    by_place (inr (inl i)) = true≢false (sym (any_from r.board.is_node (inner_points w) (node_point r n) i (g.underway.on_board n h)) ∙ g.route.past_nodes)
    by_place (inr (inr e)) = end_away graph r s w g n h (λ k. not_up (sym k)) (sym e)
