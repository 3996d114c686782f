-- When a segment has no route from a placing.
use Rattle.std.specs.Prelude.{◌≡◌, ℕ, Bool, false, Some, Ok, slice_get}
use Rattle.map_base.specs.declared.ids.SegId.{SegId}
use Rattle.graph_core.specs.declared.parts.GraphParts.{GraphParts}
use Rattle.octi_grid.specs.Walks.{PlainWalk}
use Rattle.walk_search.specs.Routes.{is_free}
use Rattle.start_positions.specs.declared.placing.Placing.{Placing}
use Rattle.segment_router.specs.Orders.{routing_order}
use Rattle.segment_router.specs.Routes.{end_at, ends_of, routed_after, Routed}

-- a walk is free between the two ends of a segment, as routing has come so far
abbrev pub is_free_for : GraphParts → Routed → SegId → PlainWalk → Bool
is_free_for graph r s w = is_free r.board (end_at graph r s (ends_of graph s).0.0) (end_at graph r s (ends_of graph s).1.0) w

-- the segments that are routed before a segment have their routes, and then no walk of any length is free for it
pub record HasNoWalk (graph : GraphParts) (placing : Placing) (s : SegId) : Type 0 where
  pub before : ℕ
  pub routed : Routed
  pub so_far : routed_after graph placing before ≡ Ok routed
  pub next : slice_get (routing_order graph.lines) before ≡ Some s
  pub none : (w : PlainWalk) → is_free_for graph routed s w ≡ false
