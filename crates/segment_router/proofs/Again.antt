-- What routing again keeps: nodes stay, other segments keep their walks, and walks stay on the board.
use Rattle.std.proofs.Common.{◌≡◌, ◌∙◌, ℕ, ◌<◌, true, List, [], ◌∷◌, length, Option, Some, None, Ok, subst, refl, inl, inr}
use Rattle.std.specs.List.{list_all}
use Rattle.map_base.specs.declared.ids.SegId.{SegId}
use Rattle.graph_core.specs.declared.parts.GraphParts.{GraphParts}
use Rattle.graph_core.specs.Consistent.{IsConsistent}
use Rattle.octi_grid.specs.Walks.{points_of, PlainWalk}
use Rattle.octi_grid.proofs.Members.{In}
use Rattle.grid_board.specs.declared.bounds.Bounds.{Bounds}
use Rattle.grid_board.specs.Boards.{contains}
use Rattle.segment_router.specs.Routes.{after_route, is_settled, node_point, route_each, route_of, walk_at, with_route, Routed}
use Rattle.segment_router.proofs.LaidLemmas.{fixed_point, laid_more, which_walk, IsLaid}
use Rattle.segment_router.proofs.SettledLemmas.{goes, other_walk, stays_settled, Goes}

-- all walks so far lie within bounds
abbrev pub AllWithin : Bounds → Routed → Type 0
AllWithin bounds r = (s : SegId) (w : PlainWalk) → walk_at r s ≡ Some w → list_all (contains bounds) (points_of w) ≡ true

pub record IsAgain (graph : GraphParts) (bounds : Bounds) (order : List SegId) (old r : Routed) : Type 0 where
  pub points : (n : ℕ) → is_settled old n ≡ true → node_point r n ≡ node_point old n
  pub others : (s : SegId) → ((t : SegId) → In t order → s.0 ≡ t.0 → ⊥) → walk_at r s ≡ walk_at old s
  pub within : AllWithin bounds r

module _ (graph : GraphParts) (fit : IsConsistent graph) (bounds : Bounds) where
  within_more : (r : Routed) (s : SegId) (w : PlainWalk) → Goes graph r s w → r.board.bounds ≡ bounds → AllWithin bounds r → AllWithin bounds (with_route graph r s w)
  within_more r s w g same all t v e = elim (which_walk graph r s w g t v e) [
    | inl k ↦ subst (λ (x : PlainWalk). list_all (contains bounds) (points_of x) ≡ true) k.1 (subst (λ (b : Bounds). list_all (contains b) (points_of w) ≡ true) same g.route.inside)
    | inr k ↦ all t v k.1
  ]

  pub again : (order : List SegId) (old r : Routed) → IsLaid graph old → ((s : SegId) → In s order → s.0 < length graph.ends) → old.board.bounds ≡ bounds → AllWithin bounds old
      → route_each graph order old ≡ Ok r → IsAgain graph bounds order old r
  again [] old r laid below same all e =
      let one : old ≡ r = cc in
      subst (λ (x : Routed). IsAgain graph bounds [] old x) one (record { points = λ n h. refl; others = λ s f. refl; within = all })
  again (s ∷ order) old r laid below same all e =
      by_route (route_of graph old s) refl e (λ w k next. again order (with_route graph old s w) r (laid_more graph fit old laid s (below s (inl refl)) w k) (λ t m. below t (inr m)) same
      (within_more old s w (goes graph fit old laid.underway s (below s (inl refl)) w k) same all) next)
    where
      after : (w : PlainWalk) → route_of graph old s ≡ Some w → IsAgain graph bounds order (with_route graph old s w) r → IsAgain graph bounds (s ∷ order) old r
      after w k rest =
          let g = goes graph fit old laid.underway s (below s (inl refl)) w k in
          record {
            points = λ n h. rest.points n (stays_settled graph old s w g n h) ∙ fixed_point graph old s w g n h;
            others = λ t f. rest.others t (λ u m. f u (inr m)) ∙ other_walk graph old s w t (f s (inl refl));
            within = rest.within;
          }

      by_route : (o : Option PlainWalk) → route_of graph old s ≡ o → after_route s (λ w. route_each graph order (with_route graph old s w)) o ≡ Ok r
          → ((w : PlainWalk) → route_of graph old s ≡ Some w → route_each graph order (with_route graph old s w) ≡ Ok r → IsAgain graph bounds order (with_route graph old s w) r)
          → IsAgain graph bounds (s ∷ order) old r
      by_route None k clash rest = cc
      by_route (Some w) k next rest = after w k (rest w k next)
