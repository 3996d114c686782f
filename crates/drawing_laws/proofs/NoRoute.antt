-- Where a segment has no route: the segments before it have theirs, and no walk is free for it.
use Rattle.std.proofs.Common.{◌≡◌, refl, sym, ◌∙◌, ap, subst, ℕ, zero, suc, ◌<◌, ◌≤◌, inl, inr, true, false, not, List, [], ◌∷◌, length, get_or, take, slice_get, Option, Some, None, Result, Ok, Err, arith}
use Rattle.map_base.specs.declared.ids.SegId.{SegId}
use Rattle.graph_core.specs.declared.parts.GraphParts.{GraphParts}
use Rattle.graph_core.specs.Consistent.{IsConsistent}
use Rattle.octi_grid.specs.Walks.{PlainWalk}
use Rattle.octi_grid.specs.Legal.{legal}
use Rattle.octi_grid.proofs.Members.{false_from, In}
use Rattle.walk_search.specs.Moves.{is_all_or_none, Question, IsQuestion}
use Rattle.walk_search.proofs.Best as best
use Rattle.start_positions.specs.declared.placing.Placing.{Placing}
use Rattle.start_positions.specs.Cells.{is_too_fine}
use Rattle.start_positions.specs.Homes.{placing_at, IsPlacing}
use Rattle.start_positions.specs.Spreads.{spread_offsets}
use Rattle.start_positions.proofs.HomeFacts.{placing_fits}
use Rattle.start_positions.proofs.SpreadLemmas.{spread_each}
use Rattle.segment_router.specs.Orders.{routing_order}
use Rattle.segment_router.specs.Routes.{after_route, begun, end_at, ends_of, is_settled, route_each, route_of, routes_from, walks_of, with_route, Routed}
use Rattle.segment_router.proofs.LaidLemmas.{laid_more, IsLaid}
use Rattle.segment_router.proofs.LegalRoutes.{laid_begins, legal_routes, route_each_segment}
use Rattle.segment_router.proofs.RoutingLemmas.{mask_read, order_place}
use Rattle.drawing_laws.specs.Routing.{is_free_for, HasNoWalk}

-- ---- one segment

-- no route between two ends that may be asked for: no walk is free
module _ (graph : GraphParts) (fit : IsConsistent graph) (r : Routed) (laid : IsLaid graph r) (s : SegId) (known : s.0 < length graph.ends) where
  abbrev low : ℕ
  low = (ends_of graph s).0.0

  abbrev up : ℕ
  up = (ends_of graph s).1.0

  abbrev asked : Question
  asked = record { board = r.board; from = end_at graph r s low; to = end_at graph r s up }

  order : (low < up) × (up < length graph.kinds)
  order = fit.ends s.0 (record { 0 = 0 }, record { 0 = 0 }) known

  free_ports : (n : ℕ) → n < length graph.kinds → not (is_settled r n) ≡ true → is_all_or_none (end_at graph r s n).ports ≡ true
  free_ports n h free = mask_read graph fit r laid.underway s n (is_settled r n) (end_at graph r s n).ports h (settled_same h) refl free
    where
      settled_same : n < length graph.kinds → is_settled r n ≡ get_or r.settled n (is_settled r n)
      settled_same h = other_default r.settled n false (is_settled r n) (omega (arith, h, laid.underway.settled_each))
        where
          other_default : {X : Type 0} (xs : List X) (i : ℕ) (a b : X) → i < length xs → get_or xs i a ≡ get_or xs i b
          other_default [] i a b h = absurd (omega arith)
          other_default (x ∷ xs) zero a b h = refl
          other_default (x ∷ xs) (suc i) a b h = other_default xs i a b (omega arith)

  may_ask : IsQuestion asked
  may_ask = record {
    board = laid.board;
    from_node = laid.underway.on_board low (omega (arith, order.0, order.1));
    to_node = laid.underway.on_board up order.1;
    apart = λ e. omega (arith, order.0, laid.underway.apart low up (omega (arith, order.0, order.1)) order.1 e);
    from_ports = λ free. free_ports low (omega (arith, order.0, order.1)) free;
    to_ports = λ free. free_ports up order.1 free;
  }

  none_free : route_of graph r s ≡ None → (w : PlainWalk) → is_free_for graph r s w ≡ false
  none_free e w = false_from (is_free_for graph r s w) (λ free. best.no_route asked may_ask w e free)

-- ---- one attempt

-- the segments of an order up to the one that has no route
record IsStuck (graph : GraphParts) (order : List SegId) (r : Routed) (s : SegId) : Type 0 where
  pub before : ℕ
  pub routed : Routed
  pub so_far : route_each graph (take before order) r ≡ Ok routed
  pub next : slice_get order before ≡ Some s
  pub none : (w : PlainWalk) → is_free_for graph routed s w ≡ false

stuck : (graph : GraphParts) → IsConsistent graph → (order : List SegId) (r : Routed) (s : SegId) → IsLaid graph r → ((t : SegId) → In t order → t.0 < length graph.ends)
    → route_each graph order r ≡ Err s → IsStuck graph order r s
stuck graph fit [] r s laid known e = cc
stuck graph fit (t ∷ order) r s laid known e =
    by (route_of graph r t) refl e (λ later more f. stuck graph fit order later s more (λ u m. known u (inr m)) f)
  where
    by : (o : Option PlainWalk) → route_of graph r t ≡ o → after_route t (λ w. route_each graph order (with_route graph r t w)) o ≡ Err s
        → ((later : Routed) → IsLaid graph later → route_each graph order later ≡ Err s → IsStuck graph order later s) → IsStuck graph (t ∷ order) r s
    by None is h go_on =
        let same : t ≡ s = cc in
        record {
          before = 0;
          routed = r;
          so_far = refl;
          next = ap (λ (u : SegId). Some u) same;
          none = subst (λ (u : SegId). (w : PlainWalk) → is_free_for graph r u w ≡ false) same (none_free graph fit r laid t (known t (inl refl)) is);
        }
    by (Some w) is h go_on =
        let rest = go_on (with_route graph r t w) (laid_more graph fit r laid t (known t (inl refl)) w is) h in
        record {
          before = suc rest.before;
          routed = rest.routed;
          so_far = ap (λ (o : Option PlainWalk). after_route t (λ v. route_each graph (take rest.before order) (with_route graph r t v)) o) is ∙ rest.so_far;
          next = rest.next;
          none = rest.none;
        }

in_order : (xs : List SegId) (d s : SegId) → In s xs → (i : ℕ) × (i < length xs) × (get_or xs i d ≡ s)
in_order [] d s m = absurd m
in_order (x ∷ xs) d s (inl e) = (0, omega arith, sym e)
in_order (x ∷ xs) d s (inr m) = let rest = in_order xs d s m in (suc rest.0, omega (arith, rest.1), rest.2)

pub fits : (graph : GraphParts) (cell fineness percent : ℕ) → IsConsistent graph → is_too_fine graph.places cell ≡ false → fineness ≤ 16
    → IsPlacing graph (placing_at graph cell fineness (spread_offsets graph.places percent))
fits graph cell fineness percent fit fine few =
    placing_fits graph cell fineness (spread_offsets graph.places percent) fit few fine (spread_each graph.places percent ∙ fit.place_each)

stuck_here : (graph : GraphParts) → IsConsistent graph → (placing : Placing) → IsPlacing graph placing → (s : SegId)
    → walks_of (route_each graph (routing_order graph.lines) (begun graph placing)) ≡ Err s → HasNoWalk graph placing s
stuck_here graph fit placing placed s e = by (route_each graph (routing_order graph.lines) (begun graph placing)) refl e
  where
    known : (t : SegId) → In t (routing_order graph.lines) → t.0 < length graph.ends
    known t m =
        let place = in_order (routing_order graph.lines) t t m in
        let below = order_place graph.lines (routing_order graph.lines) place.0 t refl place.1 in
        subst (λ (u : SegId). u.0 < length graph.ends) place.2 (omega (arith, below, fit.lines_each))

    by : (o : Result Routed SegId) → route_each graph (routing_order graph.lines) (begun graph placing) ≡ o → walks_of o ≡ Err s → HasNoWalk graph placing s
    by (Ok r) is h = cc
    by (Err t) is h =
        let same : t ≡ s = cc in
        let here = stuck graph fit (routing_order graph.lines) (begun graph placing) s (laid_begins graph placing placed) known (is ∙ ap (λ (u : SegId). Err u) same) in
        record { before = here.before; routed = here.routed; so_far = here.so_far; next = here.next; none = here.none }

pub stuck_from : (graph : GraphParts) (placing : Placing) (s : SegId) → IsConsistent graph → IsPlacing graph placing → routes_from graph placing ≡ Err s → HasNoWalk graph placing s
stuck_from graph placing s fit placed e = stuck_here graph fit placing placed s e

-- ---- where each segment has its route

pub homes_legal : (graph : GraphParts) (cell fineness percent : ℕ) (walks : List PlainWalk) → IsConsistent graph → is_too_fine graph.places cell ≡ false → fineness ≤ 16
    → routes_from graph (placing_at graph cell fineness (spread_offsets graph.places percent)) ≡ Ok walks → legal graph walks ≡ true
homes_legal graph cell fineness percent walks fit fine few e =
    legal_routes graph (placing_at graph cell fineness (spread_offsets graph.places percent)) walks fit (fits graph cell fineness percent fit fine few) e

pub homes_each : (graph : GraphParts) (cell fineness percent : ℕ) (walks : List PlainWalk) → IsConsistent graph → is_too_fine graph.places cell ≡ false → fineness ≤ 16
    → routes_from graph (placing_at graph cell fineness (spread_offsets graph.places percent)) ≡ Ok walks → length walks ≡ length graph.ends
homes_each graph cell fineness percent walks fit fine few e =
    route_each_segment graph (placing_at graph cell fineness (spread_offsets graph.places percent)) walks fit (fits graph cell fineness percent fit fine few) e
