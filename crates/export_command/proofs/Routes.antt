-- A graph whose nodes have other kinds, but as many of them, has the same routes.
use Rattle.std.proofs.Common.{◌≡◌, ◌∙◌, ap, refl, ℕ, List, [], ◌∷◌, Option, Some, None, Result}
use Rattle.map_method.specs.declared.drawing_plan.DrawingPlan.{DrawingPlan}
use Rattle.map_base.specs.declared.ids.SegId.{SegId}
use Rattle.graph_core.specs.declared.parts.GraphParts.{GraphParts}
use Rattle.graph_core.specs.declared.parts.NodeKind.{NodeKind}
use Rattle.octi_grid.specs.Walks.{PlainWalk}
use Rattle.start_positions.specs.declared.placing.Placing.{Placing}
use Rattle.start_positions.specs.Cells.{limit_of}
use Rattle.start_positions.specs.Homes.{placing_at}
use Rattle.start_positions.specs.Spreads.{spread_offsets}
use Rattle.segment_router.specs.Orders.{routing_order}
use Rattle.segment_router.specs.Routes.{after_route, begun, route_each, route_of, walks_of, with_route, Routed}
use Rattle.segment_router.specs.Routing.{attempts_of, first_drawn, nothing_drawn, or_else, outcome_under, routes_at, route_outcome}

-- the graph, with these kinds of nodes
abbrev pub with_kinds : List NodeKind → GraphParts → GraphParts
with_kinds kinds g = record g { kinds = kinds }

-- what holds of no elements, and of one more wherever it holds, holds of all lists
by_list : {A : Type 0} (P : List A → Type 0) → P [] → ((x : A) (xs : List A) → P xs → P (x ∷ xs)) → (xs : List A) → P xs
by_list P none more [] = none
by_list P none more (x ∷ xs) = more x xs (by_list P none more xs)

module _ (g : GraphParts) (kinds : List NodeKind) where
  abbrev other : GraphParts
  other = with_kinds kinds g

  -- segment after segment
  same_each : (segs : List SegId) (r : Routed) → route_each other segs r ≡ route_each g segs r
  same_each [] r = refl
  same_each (s ∷ segs) r = by (route_of g r s) (λ w. same_each segs (with_route g r s w))
    where
      by : (o : Option PlainWalk)
          → ((w : PlainWalk) → route_each other segs (with_route g r s w) ≡ route_each g segs (with_route g r s w))
          → after_route s (λ w. route_each other segs (with_route other r s w)) o
          ≡ after_route s (λ w. route_each g segs (with_route g r s w)) o
      by None later = refl
      by (Some w) later = later w

  pub same_routes : (plan : DrawingPlan) → route_outcome other plan ≡ route_outcome g plan
  same_routes plan =
      ap (outcome_under (limit_of g.places plan.cell))
      (by_list (λ attempts. (before : Result (List PlainWalk) SegId)
      → first_drawn other plan.cell before attempts ≡ first_drawn g plan.cell before attempts)
      (λ before. refl)
      (λ a attempts later before.
      let placing : Placing = placing_at g plan.cell a.fineness (spread_offsets g.places a.percent) in
      ap (or_else before)
      (ap (λ (r : Result (List PlainWalk) SegId). first_drawn other plan.cell r attempts)
      (ap walks_of (same_each (routing_order g.lines) (begun g placing)))
      ∙ later (routes_at g plan.cell a)))
      (attempts_of plan) nothing_drawn)
