-- The ports round each node stand clockwise, walk by walk.
use Rattle.std.proofs.Common.{◌≡◌, ℕ, ◌<◌, true, cond, List, [], ◌∷◌, length, get_or, Option, Some, None, sym, refl, ap, ◌∙◌, arith, ◌⊎◌, inl, inr}
use Rattle.std.proofs.lemmas.Bool.{cases_eq, eq-eqb, ne_eqb}
use Rattle.std.specs.List.{cons_option, filter_map}
use Rattle.map_base.specs.declared.ids.NodeId.{NodeId}
use Rattle.map_base.specs.declared.ids.SegId.{SegId}
use Rattle.graph_core.specs.declared.parts.GraphParts.{GraphParts}
use Rattle.graph_core.specs.Consistent.{IsConsistent}
use Rattle.octi_grid.specs.declared.dir.Dir.{Dir}
use Rattle.octi_grid.specs.Walks.{end_port, start_port, PlainWalk}
use Rattle.octi_grid.specs.Legal.{are_clockwise}
use Rattle.octi_grid.proofs.Members.{In}
use Rattle.walk_search.specs.Routes.{allows}
use Rattle.segment_router.specs.Ports.{is_allowed, mask_of, stops_from, with_port}
use Rattle.segment_router.specs.Routes.{ends_of, port_at_node, port_by, walk_at, with_route, Routed}
use Rattle.segment_router.proofs.ClockLemmas.{allowed_port, spaced_clockwise, stops_ports}
use Rattle.segment_router.proofs.MaskLemmas.{ends_round}
use Rattle.segment_router.proofs.SettledLemmas.{other_walk, own_walk, same_ends, which_node, Goes}

-- the ports round each node stand clockwise
abbrev pub AreClockwise : GraphParts → Routed → Type 0
AreClockwise graph r = (n : ℕ) → n < length graph.kinds → are_clockwise (filter_map (port_at_node graph r n) (get_or graph.rounds n [])) ≡ true

pub ports_agree : (f h : SegId → Option Dir) (round : List SegId) → ((t : SegId) → In t round → f t ≡ h t) → filter_map f round ≡ filter_map h round
ports_agree f h [] e = refl
ports_agree f h (t ∷ round) e =
    ap (λ o. cons_option o (filter_map f round)) (e t (inl refl)) ∙ ap (cons_option (h t)) (ports_agree f h round (λ u m. e u (inr m)))

-- the ports afterwards
port_then : (graph : GraphParts) (r : Routed) (s : SegId) (w : PlainWalk) → Goes graph r s w → (n : ℕ) (d : Dir) → port_by (ends_of graph s) n (Some w) ≡ Some d → (t : SegId)
    → port_at_node graph (with_route graph r s w) n t ≡ with_port s d (port_at_node graph r n) t
port_then graph r s w g n d e t = elim (cases_eq t.0 s.0) [
  | inl h ↦ ap (port_by (ends_of graph t) n) (own_walk graph r s w g t h)
      ∙ ap (λ (p : NodeId × NodeId). port_by p n (Some w)) (same_ends graph s t h)
      ∙ e
      ∙ sym (ap (λ b. cond b (Some d) (port_at_node graph r n t)) (eq-eqb s.0 t.0 (sym h)))
  | inr f ↦ ap (port_by (ends_of graph t) n) (other_walk graph r s w t f)
      ∙ sym (ap (λ b. cond b (Some d) (port_at_node graph r n t)) (ne_eqb s.0 t.0 (λ h. f (sym h))))
]

-- a node at which the port of the new walk is allowed
allowed_then : (graph : GraphParts) (r : Routed) (s : SegId) (w : PlainWalk) → Goes graph r s w → (n : ℕ)
    → allows (mask_of (is_allowed (get_or graph.rounds n []) (port_at_node graph r n) s)) (port_by (ends_of graph s) n (Some w)) ≡ true
    → are_clockwise (filter_map (port_at_node graph (with_route graph r s w) n) (get_or graph.rounds n [])) ≡ true
allowed_then graph r s w g n e =
    let round = get_or graph.rounds n [] in
    let f = port_at_node graph r n in
    let port = allowed_port (is_allowed round f s) (port_by (ends_of graph s) n (Some w)) e in
    ap are_clockwise
    (ports_agree (port_at_node graph (with_route graph r s w) n) (with_port s port.0 f) round (λ t _. port_then graph r s w g n port.0 port.1 t)
    ∙ sym (stops_ports (with_port s port.0 f) round 0))
    ∙ spaced_clockwise (length round) (stops_from 0 (with_port s port.0 f) round) port.2

pub clockwise_more : (graph : GraphParts) → IsConsistent graph → (r : Routed) (s : SegId) (w : PlainWalk) → Goes graph r s w → AreClockwise graph r → AreClockwise graph (with_route graph r s w)
clockwise_more graph fit r s w g before n h = by_node (which_node (ends_of graph s).0.0 (ends_of graph s).1.0 n)
  where
    at_start : port_by (ends_of graph s) (ends_of graph s).0.0 (Some w) ≡ start_port w
    at_start = ap (λ b. cond b (start_port w) (end_port w)) (eq-eqb (ends_of graph s).0.0 (ends_of graph s).0.0 refl)

    at_end : port_by (ends_of graph s) (ends_of graph s).1.0 (Some w) ≡ end_port w
    at_end = ap (λ b. cond b (start_port w) (end_port w)) (ne_eqb (ends_of graph s).0.0 (ends_of graph s).1.0 (λ e. omega (arith, g.order, e)))

    low : are_clockwise (filter_map (port_at_node graph (with_route graph r s w) (ends_of graph s).0.0) (get_or graph.rounds (ends_of graph s).0.0 [])) ≡ true
    low =
        allowed_then graph r s w g (ends_of graph s).0.0
        (ap (allows (mask_of (is_allowed (get_or graph.rounds (ends_of graph s).0.0 []) (port_at_node graph r (ends_of graph s).0.0) s))) at_start ∙ g.route.leaves)

    up : are_clockwise (filter_map (port_at_node graph (with_route graph r s w) (ends_of graph s).1.0) (get_or graph.rounds (ends_of graph s).1.0 [])) ≡ true
    up =
        allowed_then graph r s w g (ends_of graph s).1.0
        (ap (allows (mask_of (is_allowed (get_or graph.rounds (ends_of graph s).1.0 []) (port_at_node graph r (ends_of graph s).1.0) s))) at_end ∙ g.route.arrives)

    not_own : (n ≡ (ends_of graph s).0.0 → ⊥) → (n ≡ (ends_of graph s).1.0 → ⊥) → (t : SegId) → ((ends_of graph t).0.0 ≡ n) ⊎ ((ends_of graph t).1.0 ≡ n) → t.0 ≡ s.0 → ⊥
    not_own f k t (inl e) same = f (sym e ∙ ap (λ (p : NodeId × NodeId). p.0.0) (same_ends graph s t same))
    not_own f k t (inr e) same = k (sym e ∙ ap (λ (p : NodeId × NodeId). p.1.0) (same_ends graph s t same))

    by_node : (n ≡ (ends_of graph s).0.0) ⊎ ((n ≡ (ends_of graph s).1.0) ⊎ ((n ≡ (ends_of graph s).0.0 → ⊥) × (n ≡ (ends_of graph s).1.0 → ⊥)))
        → are_clockwise (filter_map (port_at_node graph (with_route graph r s w) n) (get_or graph.rounds n [])) ≡ true
    by_node (inl e) = ap (λ v. are_clockwise (filter_map (port_at_node graph (with_route graph r s w) v) (get_or graph.rounds v []))) e ∙ low
    by_node (inr (inl e)) = ap (λ v. are_clockwise (filter_map (port_at_node graph (with_route graph r s w) v) (get_or graph.rounds v []))) e ∙ up
    by_node (inr (inr f)) =
        ap are_clockwise
        (ports_agree (port_at_node graph (with_route graph r s w) n) (port_at_node graph r n) (get_or graph.rounds n [])
        (λ t m. ap (port_by (ends_of graph t) n) (other_walk graph r s w t (not_own f.0 f.1 t (ends_round graph fit n h t m)))))
        ∙ before n h

-- where no segment has a walk there are no ports
no_ports : (f : SegId → Option Dir) (round : List SegId) → ((t : SegId) → f t ≡ None) → filter_map f round ≡ []
no_ports f [] e = refl
no_ports f (t ∷ round) e = ap (λ o. cons_option o (filter_map f round)) (e t) ∙ no_ports f round e

pub clockwise_begins : (graph : GraphParts) (r : Routed) → ((t : SegId) → walk_at r t ≡ None) → AreClockwise graph r
clockwise_begins graph r none n h = ap are_clockwise (no_ports (port_at_node graph r n) (get_or graph.rounds n []) (λ t. ap (port_by (ends_of graph t) n) (none t)))
