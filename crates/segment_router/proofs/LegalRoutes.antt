-- The routes of all segments are legal.
use Rattle.std.proofs.Common.{◌≡◌, ℕ, zero, suc, ◌+◌, ◌<◌, true, eqb, ◌||◌, List, [], ◌∷◌, length, get_or, replicate, slice_get, Option, Some, None, Result, Ok, Err, sym, refl, ap, subst, ◌∙◌, arith, ◌⊎◌, inl, inr}
use Rattle.std.proofs.lemmas.Bool.{and_from, and_parts, cases_Bool, cases_eq, eq-eqb, not_from_false, or_cases, or_left, or_right}
use Rattle.std.specs.Prelude.{is_none}
use Rattle.std.specs.List.{cons_option, filter_map, list_all, zip}
use Rattle.map_base.specs.declared.ids.NodeId.{NodeId}
use Rattle.map_base.specs.declared.ids.SegId.{SegId}
use Rattle.graph_core.specs.declared.parts.GraphParts.{GraphParts}
use Rattle.graph_core.specs.Consistent.{IsConsistent}
use Rattle.octi_grid.specs.declared.point.GridPoint.{GridPoint}
use Rattle.octi_grid.specs.Ways.{are_one, doubled}
use Rattle.octi_grid.specs.Walks.{doubled_of, end_point, PlainWalk}
use Rattle.octi_grid.specs.Legal.{all_apart, are_apart, are_clockwise, ends_hold, is_among, is_clear, is_even, legal, legs_of, meets_hold, port_of, port_where, ports_hold, puts_by, puts_of, Leg, Put}
use Rattle.octi_grid.proofs.Members.{all_from, among_at, from_flat_map, one_point, In}
use Rattle.octi_grid.proofs.LegalLemmas.{ends_hold-from}
use Rattle.octi_grid.proofs.MeetsLemmas.{apart_from, common_from, meets_hold-from}
use Rattle.octi_grid.proofs.PortsLemmas.{ports_each, why_ports}
use Rattle.grid_board.specs.declared.bounds.Bounds.{Bounds}
use Rattle.grid_board.specs.Boards.{cells_of, doubled_bounds, empty_board, is_inside, with_node, AreBounds, BoardParts, IsBoard}
use Rattle.grid_board.proofs.OnBoards.{kept_empty, shown_empty}
use Rattle.start_positions.specs.declared.placing.Placing.{Placing}
use Rattle.start_positions.specs.Homes.{grid_under}
use Rattle.segment_router.specs.Orders.{routing_order}
use Rattle.segment_router.specs.Routes.{after_route, begun, ends_of, is_settled, node_point, port_at_node, port_by, route_each, route_of, routes_from, walk_at, walks_of, with_nodes, with_route, Routed}
use Rattle.start_positions.specs.Homes.{IsPlacing}
use Rattle.segment_router.proofs.Beginning.{nothing_there, underway_begins}
use Rattle.segment_router.proofs.LaidLemmas.{laid_more, HasEnd, IsLaid}
use Rattle.segment_router.proofs.LaidPorts.{clockwise_begins, clockwise_more, ports_agree, AreClockwise}
use Rattle.segment_router.proofs.OrderFacts.{order_has, order_in}
use Rattle.segment_router.proofs.OrderLemmas.{read_at}
use Rattle.segment_router.proofs.Places.{place_below, place_of, seg_at}
use Rattle.segment_router.proofs.RoutingLemmas.{round_within}
use Rattle.segment_router.proofs.SettledLemmas.{goes, other_walk, own_walk}

-- at first nothing is laid
board_with_node : (board : BoardParts) (p : GridPoint) → IsBoard board → is_inside board p ≡ true → is_even p ≡ true → IsBoard (with_node board p)
board_with_node board p fit inside even = record {
  in_range = fit.in_range;
  nodes_inside = λ q e. elim (or_cases (are_one p q) (board.is_node q) e) [
    | inl h ↦ ap (is_inside board) (sym (one_point p q h)) ∙ inside
    | inr h ↦ fit.nodes_inside q h
  ];
  nodes_even = λ q e. elim (or_cases (are_one p q) (board.is_node q) e) [
    | inl h ↦ ap is_even (sym (one_point p q h)) ∙ even
    | inr h ↦ fit.nodes_even q h
  ];
  ends_taken = fit.ends_taken;
}

pub board_with_nodes : (homes : List GridPoint) (board : BoardParts) → IsBoard board → list_all (is_inside board) homes ≡ true → list_all is_even homes ≡ true → IsBoard (with_nodes board homes)
board_with_nodes [] board fit inside even = fit
board_with_nodes (p ∷ homes) board fit inside even =
    board_with_nodes homes (with_node board p) (board_with_node board p fit (and_parts _ _ inside).0 (and_parts _ _ even).0) (and_parts _ _ inside).1 (and_parts _ _ even).1

pub empty_fits : (b : Bounds) → AreBounds b → IsBoard (empty_board b)
empty_fits b fit = subst IsBoard (shown_empty b (cells_of b) (cells_of (doubled_bounds b))) (kept_empty b fit).board

pub no_walk : {P : Type 0} (n i : ℕ) (w : PlainWalk) → (let none : Option PlainWalk = None in get_or (replicate n none) i none) ≡ Some w → P
no_walk n i w e = let clash : (let none : Option PlainWalk = None in none) ≡ Some w = sym (nothing_there n i) ∙ e in cc

pub laid_begins : (graph : GraphParts) (placing : Placing) → IsPlacing graph placing → IsLaid graph (begun graph placing)
laid_begins graph placing fit = record {
  underway = underway_begins graph placing fit;
  board = board_with_nodes placing.points (empty_board (grid_under placing)) (empty_fits (grid_under placing) fit.grid) fit.inside fit.even;
  starts = λ s w e. no_walk (length graph.ends) s.0 w e;
  ends = λ s w e. no_walk (length graph.ends) s.0 w e;
  once = λ s w e. no_walk (length graph.ends) s.0 w e;
  takes = λ s w d e m. no_walk (length graph.ends) s.0 w e;
  apart = λ s t v w d f e. no_walk (length graph.ends) s.0 v e;
  clear = λ s w n e. no_walk (length graph.ends) s.0 w e;
}

-- segments are laid one after another
abbrev pub HasWalk : Routed → SegId → Type 0
HasWalk r s = (w : PlainWalk) × (walk_at r s ≡ Some w)

pub record IsDone (graph : GraphParts) (order : List SegId) (old r : Routed) : Type 0 where
  pub laid : IsLaid graph r
  pub clockwise : AreClockwise graph r
  pub each : (s : SegId) → In s order ⊎ HasWalk old s → HasWalk r s

pub done : (graph : GraphParts) → IsConsistent graph → (order : List SegId) (old r : Routed) → IsLaid graph old → AreClockwise graph old
    → ((s : SegId) → In s order → s.0 < length graph.ends) → route_each graph order old ≡ Ok r → IsDone graph order old r
done graph fit [] old r laid clockwise within e =
    let same : old ≡ r = cc in
    subst (IsDone graph [] old) same
    (record { laid = laid; clockwise = clockwise; each = λ s h. elim h [ inl m ↦ absurd m | inr k ↦ k ] })
done graph fit (s ∷ order) old r laid clockwise within e =
    by_route (route_of graph old s) refl e (λ w k next. done graph fit order (with_route graph old s w) r (laid_more graph fit old laid s (within s (inl refl)) w k)
    (clockwise_more graph fit old s w (goes graph fit old laid.underway s (within s (inl refl)) w k) clockwise) (λ t m. within t (inr m)) next)
  where
    each : (w : PlainWalk) → route_of graph old s ≡ Some w → IsDone graph order (with_route graph old s w) r → (t : SegId) → In t (s ∷ order) ⊎ HasWalk old t → (t.0 ≡ s.0) ⊎ (t.0 ≡ s.0 → ⊥) → HasWalk r t
    each w k d t h (inl same) = d.each t (inr (w, own_walk graph old s w (goes graph fit old laid.underway s (within s (inl refl)) w k) t same))
    each w k d t (inl (inl here)) (inr f) = absurd (f (ap (λ (v : SegId). v.0) here))
    each w k d t (inl (inr m)) (inr f) = d.each t (inl m)
    each w k d t (inr h) (inr f) = d.each t (inr (h.0, other_walk graph old s w t f ∙ h.1))

    after : (w : PlainWalk) → route_of graph old s ≡ Some w → IsDone graph order (with_route graph old s w) r → IsDone graph (s ∷ order) old r
    after w k d = record { laid = d.laid; clockwise = d.clockwise; each = λ t h. each w k d t h (cases_eq t.0 s.0) }

    by_route : (o : Option PlainWalk) → route_of graph old s ≡ o → after_route s (λ w. route_each graph order (with_route graph old s w)) o ≡ Ok r
        → ((w : PlainWalk) → route_of graph old s ≡ Some w → route_each graph order (with_route graph old s w) ≡ Ok r → IsDone graph order (with_route graph old s w) r) → IsDone graph (s ∷ order) old r
    by_route None k clash rest = cc
    by_route (Some w) k next rest = after w k (rest w k next)

pub routes_done : (graph : GraphParts) → IsConsistent graph → (placing : Placing) → IsPlacing graph placing → (r : Routed)
    → route_each graph (routing_order graph.lines) (begun graph placing) ≡ Ok r
    → IsDone graph (routing_order graph.lines) (begun graph placing) r
routes_done graph fit placing placed r e =
    done graph fit (routing_order graph.lines) (begun graph placing) r (laid_begins graph placing placed)
    (clockwise_begins graph (begun graph placing) (λ t. nothing_there (length graph.ends) t.0))
    (λ s m. omega (arith, order_in graph.lines s m, fit.lines_each)) e

-- the walks of all segments, where each has one
abbrev no_ends : NodeId × NodeId
no_ends = (record { 0 = 0 }, record { 0 = 0 })

abbrev pub AllThere : List (Option PlainWalk) → Type 0
AllThere ws = (i : ℕ) → i < length ws → (w : PlainWalk) × (get_or ws i None ≡ Some w)

leg_at : (es : List (NodeId × NodeId)) (ws : List (Option PlainWalk)) → length es ≡ length ws → AllThere ws → (i : ℕ) → i < length es
    → (w : PlainWalk) × (get_or ws i None ≡ Some w) × (slice_get (zip es (filter_map (λ v. v) ws)) i ≡ Some (get_or es i no_ends, w))
leg_at [] ws same all i h = absurd (omega arith)
leg_at (e ∷ es) [] same all i h = absurd (omega arith)
leg_at (e ∷ es) (o ∷ ws) same all i h = by_walk o (all 0 (omega arith)) i h (λ k b. leg_at es ws (omega arith) (λ j d. all (suc j) (omega arith)) k b)
  where
    by_walk : (o : Option PlainWalk) → (w : PlainWalk) × (o ≡ Some w) → (i : ℕ) → i < suc (length es)
        → ((k : ℕ) → k < length es → (w : PlainWalk) × (get_or ws k None ≡ Some w) × (slice_get (zip es (filter_map (λ v. v) ws)) k ≡ Some (get_or es k no_ends, w)))
        → (w : PlainWalk) × (get_or (o ∷ ws) i None ≡ Some w) × (slice_get (zip (e ∷ es) (cons_option o (filter_map (λ v. v) ws))) i ≡ Some (get_or (e ∷ es) i no_ends, w))
    by_walk None there i h rest = let clash : (let none : Option PlainWalk = None in none) ≡ Some there.0 = there.1 in cc
    by_walk (Some w) there zero h rest = (w, refl, refl)
    by_walk (Some w) there (suc k) h rest = rest k (omega arith)

as_many : (es : List (NodeId × NodeId)) (ws : List (Option PlainWalk)) → length es ≡ length ws → AllThere ws → length (zip es (filter_map (λ v. v) ws)) ≡ length es
as_many [] ws same all = refl
as_many (e ∷ es) [] same all = absurd (omega arith)
as_many (e ∷ es) (o ∷ ws) same all = by_walk o (all 0 (omega arith)) (as_many es ws (omega arith) (λ j d. all (suc j) (omega arith)))
  where
    by_walk : (o : Option PlainWalk) → (w : PlainWalk) × (o ≡ Some w) → length (zip es (filter_map (λ v. v) ws)) ≡ length es → length (zip (e ∷ es) (cons_option o (filter_map (λ v. v) ws))) ≡ suc (length es)
    by_walk None there rest = let clash : (let none : Option PlainWalk = None in none) ≡ Some there.0 = there.1 in cc
    by_walk (Some w) there rest = ap suc rest

-- each two of legs are apart
apart_places : (legs : List Leg) → ((i j : ℕ) (l m : Leg) → i < j → slice_get legs i ≡ Some l → slice_get legs j ≡ Some m → are_apart l m ≡ true) → all_apart legs ≡ true
apart_places [] f = refl
apart_places (l ∷ legs) f =
    and_from _ _
    (all_from (are_apart l) legs (λ m k. let p = place_of legs m k in f 0 (suc p.at) l m (omega arith) refl p.there))
    (apart_places legs (λ i j m n h e g. f (suc i) (suc j) m n (omega arith) e g))

-- the legs of a drawing whose segments are all laid
pub record IsLegOf (graph : GraphParts) (r : Routed) (l : Leg) (s : SegId) : Type 0 where
  pub within : s.0 < length graph.ends
  pub walk : walk_at r s ≡ Some l.1
  pub ends : l.0 ≡ ends_of graph s

pub record AreAll (graph : GraphParts) (r : Routed) : Type 0 where
  pub fit : IsConsistent graph
  pub laid : IsLaid graph r
  pub clockwise : AreClockwise graph r
  pub all : (i : ℕ) → i < length graph.ends → (w : PlainWalk) × (get_or r.walks i None ≡ Some w)

abbrev legs_in : GraphParts → Routed → List Leg
legs_in graph r = legs_of graph.ends (filter_map (λ w. w) r.walks)

leg_there : (graph : GraphParts) (r : Routed) → AreAll graph r → (i : ℕ) → i < length graph.ends → (w : PlainWalk) × (get_or r.walks i None ≡ Some w) × (slice_get (legs_in graph r) i ≡ Some (get_or graph.ends i no_ends, w))
leg_there graph r a i h = leg_at graph.ends r.walks (sym a.laid.underway.walks_each) (λ j k. a.all j (omega (arith, a.laid.underway.walks_each))) i h

leg_of_place : (graph : GraphParts) (r : Routed) → AreAll graph r → (i : ℕ) (l : Leg) → i < length (legs_in graph r) → slice_get (legs_in graph r) i ≡ Some l → IsLegOf graph r l (seg_at i)
leg_of_place graph r a i l h e =
    let many : length (legs_in graph r) ≡ length graph.ends = as_many graph.ends r.walks (sym a.laid.underway.walks_each) (λ j k. a.all j (omega (arith, a.laid.underway.walks_each))) in
    let below : i < length graph.ends = omega (arith, many) in
    let there = leg_there graph r a i below in
    let both : Some (let m : Leg = (get_or graph.ends i no_ends, there.0) in m) ≡ Some l = sym there.2 ∙ e in
    let same : (let m : Leg = (get_or graph.ends i no_ends, there.0) in m) ≡ l = cc in
    record { within = below; walk = there.1 ∙ ap (λ (m : Leg). Some m.1) same; ends = sym (ap (λ (m : Leg). m.0) same) }

leg_of_in : (graph : GraphParts) (r : Routed) → AreAll graph r → (l : Leg) → In l (legs_in graph r) → (s : SegId) × IsLegOf graph r l s
leg_of_in graph r a l m = let p = place_of (legs_in graph r) l m in (seg_at p.at, leg_of_place graph r a p.at l p.below p.there)

-- a put is that of a settled node, at its point
pub record IsPutOf (graph : GraphParts) (r : Routed) (p : Put) : Type 0 where
  pub point : p.1 ≡ node_point r p.0
  pub within : p.0 < length graph.kinds
  pub settled : is_settled r p.0 ≡ true

put_by_leg : (graph : GraphParts) (r : Routed) → AreAll graph r → (l : Leg) (s : SegId) → IsLegOf graph r l s → (p : Put) → In p (puts_by l) → IsPutOf graph r p
put_by_leg graph r a l s leg p m = which m
  where
    low : IsPutOf graph r (let q : Put = (l.0.0.0, l.1.start) in q)
    low = record {
      point = a.laid.starts s l.1 leg.walk ∙ ap (λ (e : NodeId × NodeId). node_point r e.0.0) (sym leg.ends);
      within = subst (λ (e : NodeId × NodeId). e.0.0 < length graph.kinds) (sym leg.ends) (omega (arith, a.fit.ends s.0 no_ends leg.within));
      settled = ap (λ (e : NodeId × NodeId). is_settled r e.0.0) leg.ends ∙ a.laid.underway.low_settled s l.1 leg.walk;
    }

    up : IsPutOf graph r (let q : Put = (l.0.1.0, end_point l.1) in q)
    up = record {
      point = a.laid.ends s l.1 leg.walk ∙ ap (λ (e : NodeId × NodeId). node_point r e.1.0) (sym leg.ends);
      within = subst (λ (e : NodeId × NodeId). e.1.0 < length graph.kinds) (sym leg.ends) (a.fit.ends s.0 no_ends leg.within).1;
      settled = ap (λ (e : NodeId × NodeId). is_settled r e.1.0) leg.ends ∙ a.laid.underway.up_settled s l.1 leg.walk;
    }

    which : In p (puts_by l) → IsPutOf graph r p
    which (inl e) = subst (IsPutOf graph r) (sym e) low
    which (inr (inl e)) = subst (IsPutOf graph r) (sym e) up
    which (inr (inr n)) = absurd n

put_in : (graph : GraphParts) (r : Routed) → AreAll graph r → (p : Put) → In p (puts_of (legs_in graph r)) → IsPutOf graph r p
put_in graph r a p m =
    let found = from_flat_map puts_by (legs_in graph r) p m in
    let leg = leg_of_in graph r a found.0 found.1 in
    put_by_leg graph r a found.0 leg.0 leg.1 p found.2

all_ends : (graph : GraphParts) (r : Routed) → AreAll graph r → ends_hold (legs_in graph r) ≡ true
all_ends graph r a = ends_hold-from (legs_in graph r) (record {
  even = λ p m. let f = put_in graph r a p m in ap is_even f.point ∙ a.laid.underway.even p.0 f.within;
  one_place = λ p q m n e. (put_in graph r a p m).point ∙ ap (node_point r) e ∙ sym (put_in graph r a q n).point;
  one_node = λ p q m n e.
      let f = put_in graph r a p m in
      let g = put_in graph r a q n in
      a.laid.underway.apart p.0 q.0 f.within g.within (sym f.point ∙ e ∙ g.point);
})

-- where a leg puts a node of its segment
own_put : (graph : GraphParts) (r : Routed) → AreAll graph r → (l : Leg) (s : SegId) → IsLegOf graph r l s → (n : ℕ) → HasEnd (ends_of graph s) n → (p : Put) × In p (puts_by l) × (p.0 ≡ n) × (p.1 ≡ node_point r n)
own_put graph r a l s leg n (inl e) =
    let here : l.0.0.0 ≡ n = ap (λ (v : NodeId × NodeId). v.0.0) leg.ends ∙ e in
    ((l.0.0.0, l.1.start), inl refl, here, a.laid.starts s l.1 leg.walk ∙ ap (node_point r) e)
own_put graph r a l s leg n (inr e) =
    let here : l.0.1.0 ≡ n = ap (λ (v : NodeId × NodeId). v.1.0) leg.ends ∙ e in
    ((l.0.1.0, end_point l.1), inr (inl refl), here, a.laid.ends s l.1 leg.walk ∙ ap (node_point r) e)

two_apart : (graph : GraphParts) (r : Routed) → AreAll graph r → (i j : ℕ) (l m : Leg) → i < j → slice_get (legs_in graph r) i ≡ Some l → slice_get (legs_in graph r) j ≡ Some m → are_apart l m ≡ true
two_apart graph r a i j l m h e f =
    apart_from l m
    (λ d x y.
    let one = leg_of_place graph r a i l (place_below (legs_in graph r) i l e) e in
    let other = leg_of_place graph r a j m (place_below (legs_in graph r) j m f) f in
    let met = a.laid.apart (seg_at i) (seg_at j) l.1 m.1 d (λ same. omega (arith, h, same)) one.walk other.walk x y in
    let p = own_put graph r a l (seg_at i) one met.node met.of_one in
    let q = own_put graph r a m (seg_at j) other met.node met.of_other in
    common_from l m d p.0 q.0 p.1 q.1 (p.2 ∙ sym q.2) (ap doubled p.3 ∙ met.there) (ap doubled q.3 ∙ met.there))

leg_clear : (graph : GraphParts) (r : Routed) → AreAll graph r → (l : Leg) (p : Put) → In l (legs_in graph r) → In p (puts_of (legs_in graph r)) → is_clear l p ≡ true
leg_clear graph r a l p m n = elim (cases_Bool (is_among (doubled_of l.1) (doubled p.1))) [
  | inl t ↦ (let leg = leg_of_in graph r a l m in
      let put = put_in graph r a p n in
      or_left _ _ (own leg.0 leg.1
      (a.laid.clear leg.0 l.1 p.0 leg.1.walk put.within put.settled (subst (λ v. In (doubled v) (doubled_of l.1)) put.point (among_at (doubled_of l.1) (doubled p.1) t)))))
  | inr f ↦ or_right _ _ (not_from_false _ f)
]
  where
    own : (s : SegId) → IsLegOf graph r l s → HasEnd (ends_of graph s) p.0 → (eqb l.0.0.0 p.0 || eqb l.0.1.0 p.0) ≡ true
    own s leg (inl e) = or_left _ _ (eq-eqb _ _ (ap (λ (v : NodeId × NodeId). v.0.0) leg.ends ∙ e))
    own s leg (inr e) = or_right _ _ (eq-eqb _ _ (ap (λ (v : NodeId × NodeId). v.1.0) leg.ends ∙ e))

all_meets : (graph : GraphParts) (r : Routed) → AreAll graph r → meets_hold (legs_in graph r) ≡ true
all_meets graph r a = meets_hold-from (legs_in graph r) (record {
  distinct = λ l m. let leg = leg_of_in graph r a l m in a.laid.once leg.0 l.1 leg.1.walk;
  apart = apart_places (legs_in graph r) (two_apart graph r a);
  clear = leg_clear graph r a;
})

-- the port of a leg is that of its segment
port_there : (graph : GraphParts) (r : Routed) → AreAll graph r → (n : ℕ) → n < length graph.kinds → (s : SegId) → In s (get_or graph.rounds n []) → port_of (legs_in graph r) n s ≡ port_at_node graph r n s
port_there graph r a n h s m =
    let p = place_of (get_or graph.rounds n []) s m in
    let is : get_or (get_or graph.rounds n []) p.at s ≡ s = read_at (get_or graph.rounds n []) p.at s s p.there in
    let within : s.0 < length graph.ends = subst (λ (t : SegId). t.0 < length graph.ends) is (round_within graph a.fit n h (get_or graph.rounds n []) refl p.at s p.below) in
    let there = leg_there graph r a s.0 within in
    ap (port_where n) there.2 ∙ sym (ap (port_by (ends_of graph s) n) there.1)

all_ports : (graph : GraphParts) (r : Routed) → AreAll graph r → ports_hold graph.rounds (legs_in graph r) ≡ true
all_ports graph r a = ports_each (legs_in graph r) 0 graph.rounds (λ i h. at_node i (omega (arith, a.fit.round_each)))
  where
    at_node : (i : ℕ) → i < length graph.kinds → are_clockwise (filter_map (port_of (legs_in graph r) (0 + i)) (get_or graph.rounds i [])) ≡ true
    at_node i h =
        let same : 0 + i ≡ i = omega arith in
        ap (λ v. are_clockwise (filter_map (port_of (legs_in graph r) v) (get_or graph.rounds i []))) same
        ∙ ap are_clockwise (ports_agree (port_of (legs_in graph r) i) (port_at_node graph r i) (get_or graph.rounds i []) (port_there graph r a i h))
        ∙ a.clockwise i h

pub all_legal : (graph : GraphParts) (r : Routed) → AreAll graph r → legal graph (filter_map (λ w. w) r.walks) ≡ true
all_legal graph r a = ap is_none (why_ports graph.rounds (legs_in graph r) true (all_ends graph r a) (all_meets graph r a) (all_ports graph r a))

-- what routes are made of: routing at its end, when every segment has its walk
pub record AreRoutes (graph : GraphParts) (walks : List PlainWalk) : Type 0 where
  pub routed : Routed
  pub all : AreAll graph routed
  pub are : filter_map (λ w. w) routed.walks ≡ walks

all_routed : (graph : GraphParts) (placing : Placing) (walks : List PlainWalk) → IsConsistent graph → IsPlacing graph placing → routes_from graph placing ≡ Ok walks → AreRoutes graph walks
all_routed graph placing walks fit placed e = by_end (route_each graph (routing_order graph.lines) (begun graph placing)) refl e
  where
    all_there : (r : Routed) → IsDone graph (routing_order graph.lines) (begun graph placing) r → AreAll graph r
    all_there r d = record {
      fit = fit;
      laid = d.laid;
      clockwise = d.clockwise;
      all = λ i h. d.each (seg_at i) (inl (order_has graph.lines i (omega (arith, fit.lines_each)) (fit.lines i [] (omega (arith, fit.lines_each))).0));
    }

    by_end : (o : Result Routed SegId) → route_each graph (routing_order graph.lines) (begun graph placing) ≡ o → walks_of o ≡ Ok walks → AreRoutes graph walks
    by_end (Err s) is clash = cc
    by_end (Ok r) is same = record { routed = r; all = all_there r (routes_done graph fit placing placed r is); are = cc }

-- the routes from a placing are legal
pub legal_routes : (graph : GraphParts) (placing : Placing) (walks : List PlainWalk) → IsConsistent graph → IsPlacing graph placing → routes_from graph placing ≡ Ok walks → legal graph walks ≡ true
legal_routes graph placing walks fit placed e =
    let f = all_routed graph placing walks fit placed e in
    subst (λ (ws : List PlainWalk). legal graph ws ≡ true) f.are (all_legal graph f.routed f.all)

-- and there is one for each segment
pub all_kept : (ws : List (Option PlainWalk)) → AllThere ws → length (filter_map (λ v. v) ws) ≡ length ws
all_kept [] all = refl
all_kept (o ∷ ws) all = by_walk o (all 0 (omega arith)) (all_kept ws (λ j d. all (suc j) (omega arith)))
  where
    by_walk : (o : Option PlainWalk) → (w : PlainWalk) × (o ≡ Some w) → length (filter_map (λ v. v) ws) ≡ length ws → length (cons_option o (filter_map (λ v. v) ws)) ≡ suc (length ws)
    by_walk None there rest = let clash : (let none : Option PlainWalk = None in none) ≡ Some there.0 = there.1 in cc
    by_walk (Some w) there rest = ap suc rest

pub route_each_segment : (graph : GraphParts) (placing : Placing) (walks : List PlainWalk) → IsConsistent graph → IsPlacing graph placing → routes_from graph placing ≡ Ok walks → length walks ≡ length graph.ends
route_each_segment graph placing walks fit placed e =
    let f = all_routed graph placing walks fit placed e in
    let each = f.all.laid.underway.walks_each in
    ap length (sym f.are) ∙ all_kept f.routed.walks (λ i h. f.all.all i (omega (arith, each))) ∙ each
