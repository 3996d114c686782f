-- Steps over the edges of a net.
use Rattle.std.proofs.Common.{◌≡◌, refl, sym, ◌∙◌, ap, subst, ℕ, ◌+◌, ◌*◌, ◌<◌, ◌≤◌, ◌⊎◌, inl, inr, Bool, true, false, cond, ◌&&◌, List, [], ◌∷◌, arith}
use Rattle.std.proofs.lemmas.Bool.{cases_lt}
use Rattle.fixed_plane.specs.Measures.{dist2_of}
use Rattle.least_path.specs.Paths.{Path, IsWeighted}
use Rattle.track_net.specs.Nearness.{point_at}
use Rattle.track_net.specs.Nets.{NetParts, IsNet, net_over, HasEdge, Leads}
use Rattle.track_net.proofs.EdgeFacts.{IsEdge, IsEdge_symm, edge_of_net, has_edge_from, net_has_edge}
use Rattle.track_net.proofs.Squares.{same_where_none}
use Rattle.net_paths.specs.Corridors.{is_in_corridor, CorridorParts}
use Rattle.net_paths.specs.Searching.{cost_along, StepAlong}

-- a net is the net over its points
whole_net : (net : NetParts) (kept : IsNet net) → net ≡ net_over kept.near net.points
whole_net net kept = ap (λ (es : List (List ℕ)). record { points = net.points; edges = es }) kept.edges

-- what an edge of a net is
pub edge_of : (net : NetParts) (kept : IsNet net) (i j : ℕ) → HasEdge net i j → IsEdge kept.near net.points i j
edge_of net kept i j edge = edge_of_net kept.near net.points i j (subst (λ (n : NetParts). HasEdge n i j) (whole_net net kept) edge)

-- it leads both ways
pub HasEdge_symm : (net : NetParts) → IsNet net → (i j : ℕ) → HasEdge net i j → HasEdge net j i
HasEdge_symm net kept i j edge =
    let back = IsEdge_symm kept.near net.points i j (edge_of net kept i j edge) in
    subst (λ (n : NetParts). HasEdge n j i) (sym (whole_net net kept)) (net_has_edge kept.near net.points j i back.i_in back.j_in (has_edge_from kept.near net.points j i back))

-- no edge is free
pub apart : (net : NetParts) (kept : IsNet net) (i j : ℕ) → HasEdge net i j → 1 ≤ dist2_of (point_at net.points i) (point_at net.points j)
apart net kept i j edge = of_order (cases_lt 0 (dist2_of (point_at net.points i) (point_at net.points j)))
  where
    e : IsEdge kept.near net.points i j
    e = edge_of net kept i j edge

    of_order : (0 < dist2_of (point_at net.points i) (point_at net.points j)) ⊎ (dist2_of (point_at net.points i) (point_at net.points j) ≤ 0) → 1 ≤ dist2_of (point_at net.points i) (point_at net.points j)
    of_order (inl h) = omega arith
    of_order (inr h) = absurd (e.apart (kept.distinct i j e.i_in e.j_in (same_where_none (point_at net.points i) (point_at net.points j) (omega arith))))

pub not_free : (b : Bool) (d : ℕ) → 1 ≤ d → 1 ≤ cond b d (8 * d)
not_free b d h = of_test b
  where
    of_test : (b : Bool) → 1 ≤ cond b d (8 * d)
    of_test true = h
    of_test false = omega arith

-- steps are weighted
pub steps_are_weighted : (corridor : CorridorParts) (net : NetParts) → IsNet net → IsWeighted (StepAlong corridor net)
steps_are_weighted corridor net kept = record {
  one_state = λ a l s t c d p q. p.leads_to ∙ sym q.leads_to;
  one_cost = λ a l s t c d p q. p.cost ∙ sym q.cost;
  not_free = λ a l s c p.
      subst (λ (n : ℕ). 1 ≤ n) (sym p.cost)
      (not_free (is_in_corridor corridor.near corridor.samples (point_at net.points a) && is_in_corridor corridor.near corridor.samples (point_at net.points l)) (dist2_of (point_at net.points a) (point_at net.points l)) (apart net kept a l p.edge));
}

-- what the net joins, a path leads to
pub path_of_leads : (corridor : CorridorParts) (net : NetParts) (i j : ℕ) (ks : List ℕ) → Leads net i j ks → (c : ℕ) × Path (StepAlong corridor net) i j ks c
path_of_leads corridor net i j [] h = (0, (h, refl))
path_of_leads corridor net i j (k ∷ ks) h =
    let rest = path_of_leads corridor net k j ks h.1 in
    (cost_along corridor net.points i k + rest.0, (k, cost_along corridor net.points i k, rest.0, record { edge = h.0; leads_to = refl; cost = refl }, rest.1, refl))
