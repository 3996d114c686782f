-- Allowed ports depend on the ports of a round's segments alone; where none has one, all are allowed or none.
use Rattle.std.proofs.Common.{◌≡◌, ℕ, ◌+◌, ◌-◌, ◌^◌, ◌<◌, Bool, true, false, cond, eqb, leb, ◌&&◌, List, [], ◌∷◌, length, get_or, map, sum, Option, Some, None, sym, refl, ap, ◌∙◌, arith, ◌⊎◌, inl, inr}
use Rattle.std.proofs.lemmas.Bool.{or_cases, eqb-true, eqb-false, true≢false}
use Rattle.std.specs.List.{list_all}
use Rattle.map_base.specs.declared.ids.SegId.{SegId}
use Rattle.graph_core.specs.declared.parts.GraphParts.{GraphParts}
use Rattle.graph_core.specs.Consistent.{IsConsistent}
use Rattle.graph_core.specs.Round.{ends_at}
use Rattle.octi_grid.specs.declared.dir.Dir.{Dir}
use Rattle.octi_grid.specs.declared.dir.Dir.TheVariants as dir
use Rattle.octi_grid.specs.Ways.{number_of}
use Rattle.octi_grid.specs.Walks.{PlainWalk}
use Rattle.octi_grid.proofs.Members.{In}
use Rattle.octi_grid.proofs.PortsLemmas.{round_ends}
use Rattle.walk_search.specs.Moves.{is_all_or_none}
use Rattle.walk_search.specs.Routes.{directions}
use Rattle.walk_search.proofs.Turning.{of_eight}
use Rattle.segment_router.proofs.Places.{all_in, same_seg}
use Rattle.segment_router.specs.Ports.{allowed_mask, are_spaced, distance_to, gaps_of, gaps_to, is_allowed, mask_of, port_in, stops_from, turned_over, with_port, with_stop, Stop}
use Rattle.segment_router.specs.Routes.{ends_of, is_settled, port_at_node, port_by, walk_at, Routed}
use Rattle.segment_router.specs.Underway.{known_ports, with_known, IsUnderway}

-- tests that agree give one mask
map_agree : {X Y : Type 0} (f h : X → Y) (xs : List X) → ((x : X) → f x ≡ h x) → map f xs ≡ map h xs
map_agree f h [] e = refl
map_agree f h (x ∷ xs) e = ap (λ y. y ∷ map f xs) (e x) ∙ ap (λ ys. h x ∷ ys) (map_agree f h xs e)

pub mask_agree : (f h : Dir → Bool) → ((d : Dir) → f d ≡ h d) → mask_of f ≡ mask_of h
mask_agree f h e = ap sum (map_agree (λ (d : Dir). cond (f d) (2 ^ number_of d) 0) (λ (d : Dir). cond (h d) (2 ^ number_of d) 0) directions (λ d. ap (λ b. cond b (2 ^ number_of d) 0) (e d)))

-- ports that agree on a round give one list of stops
pub stops_agree : (f h : SegId → Option Dir) (round : List SegId) (i : ℕ) → ((s : SegId) → In s round → f s ≡ h s) → stops_from i f round ≡ stops_from i h round
stops_agree f h [] i e = refl
stops_agree f h (s ∷ round) i e =
    ap (λ o. with_stop i o (stops_from (i + 1) f round)) (e s (inl refl)) ∙ ap (with_stop i (h s)) (stops_agree f h round (i + 1) (λ t m. e t (inr m)))

pub allowed_agree : (f h : SegId → Option Dir) (round : List SegId) (seg : SegId) → ((s : SegId) → In s round → f s ≡ h s) → allowed_mask round f seg ≡ allowed_mask round h seg
allowed_agree f h round seg e =
    mask_agree (is_allowed round f seg) (is_allowed round h seg)
    (λ d. ap (are_spaced (length round)) (stops_agree (with_port seg d f) (with_port seg d h) round 0 (λ s m. ap (λ o. cond (eqb seg.0 s.0) (Some d) o) (e s m))))

-- the kept list of a round's ports gives the same ports
not_listed : (f : SegId → Option Dir) (round : List SegId) (s : SegId) → f s ≡ None → port_in (known_ports f round) s ≡ None
not_listed f [] s e = refl
not_listed f (t ∷ round) s e = by_port (f t) refl (not_listed f round s e)
  where
    by_test : (b : Bool) (d : Dir) → eqb t.0 s.0 ≡ b → f t ≡ Some d → port_in (known_ports f round) s ≡ None → cond b (Some d) (port_in (known_ports f round) s) ≡ None
    by_test true d h is rest = let clash : Some d ≡ None = sym is ∙ ap f (same_seg t s (eqb-true _ _ h)) ∙ e in cc
    by_test false d h is rest = rest

    by_port : (o : Option Dir) → f t ≡ o → port_in (known_ports f round) s ≡ None → port_in (with_known t o (known_ports f round)) s ≡ None
    by_port None is rest = rest
    by_port (Some d) is rest = by_test (eqb t.0 s.0) d refl is rest

listed : (f : SegId → Option Dir) (round : List SegId) (s : SegId) (d : Dir) → f s ≡ Some d → In s round → port_in (known_ports f round) s ≡ Some d
listed f [] s d e m = absurd m
listed f (t ∷ round) s d e m = by_port (f t) refl m (listed f round s d e)
  where
    later : (eqb t.0 s.0 ≡ false) → In s (t ∷ round) → In s round
    later h (inl same) = absurd (eqb-false _ _ h (sym (ap (λ (v : SegId). v.0) same)))
    later h (inr n) = n

    by_test : (b : Bool) (o : Dir) → eqb t.0 s.0 ≡ b → f t ≡ Some o → In s (t ∷ round) → (In s round → port_in (known_ports f round) s ≡ Some d) → cond b (Some o) (port_in (known_ports f round) s) ≡ Some d
    by_test true o h is m rest = sym is ∙ ap f (same_seg t s (eqb-true _ _ h)) ∙ e
    by_test false o h is m rest = rest (later h m)

    none_later : f t ≡ None → In s (t ∷ round) → In s round
    none_later is (inl same) = let clash : Some d ≡ None = sym e ∙ ap f same ∙ is in cc
    none_later is (inr n) = n

    by_port : (o : Option Dir) → f t ≡ o → In s (t ∷ round) → (In s round → port_in (known_ports f round) s ≡ Some d) → port_in (with_known t o (known_ports f round)) s ≡ Some d
    by_port None is m rest = rest (none_later is m)
    by_port (Some o) is m rest = by_test (eqb t.0 s.0) o refl is m rest

pub known_same : (f : SegId → Option Dir) (round : List SegId) (s : SegId) → In s round → port_in (known_ports f round) s ≡ f s
known_same f round s m = by_port (f s) refl
  where
    by_port : (o : Option Dir) → f s ≡ o → port_in (known_ports f round) s ≡ o
    by_port None e = not_listed f round s e
    by_port (Some d) e = listed f round s d e m

pub allowed_known : (f : SegId → Option Dir) (round : List SegId) (seg : SegId) → allowed_mask round (port_in (known_ports f round)) seg ≡ allowed_mask round f seg
allowed_known f round seg = allowed_agree (port_in (known_ports f round)) f round seg (known_same f round)

-- where no other segment of a round has a port, it is all one which port a segment is to have
abbrev places_from : ℕ → SegId → List SegId → List ℕ
places_from i seg [] = []
places_from i seg (s ∷ round) = cond (eqb seg.0 s.0) (i ∷ places_from (i + 1) seg round) (places_from (i + 1) seg round)

abbrev with_ports : Dir → List ℕ → List Stop
with_ports d [] = []
with_ports d (i ∷ is) = (i, d) ∷ with_ports d is

lone_stops : (seg : SegId) (d : Dir) (round : List SegId) (i : ℕ) → stops_from i (with_port seg d (λ _. None)) round ≡ with_ports d (places_from i seg round)
lone_stops seg d [] i = refl
lone_stops seg d (s ∷ round) i = by_test (eqb seg.0 s.0) (lone_stops seg d round (i + 1))
  where
    by_test : (b : Bool) → stops_from (i + 1) (with_port seg d (λ _. None)) round ≡ with_ports d (places_from (i + 1) seg round)
        → with_stop i (cond b (Some d) None) (stops_from (i + 1) (with_port seg d (λ _. None)) round) ≡ with_ports d (cond b (i ∷ places_from (i + 1) seg round) (places_from (i + 1) seg round))
    by_test true e = ap (λ (v : List Stop). (let s : Stop = (i, d) in s) ∷ v) e
    by_test false e = e

distance_round : (d : Dir) → distance_to d d ≡ 8
distance_round = of_eight (λ d. distance_to d d ≡ 8) refl refl refl refl refl refl refl refl

lone_gaps : (count : ℕ) (d : Dir) (first at : ℕ) (is : List ℕ) → gaps_to count (first, d) (at, d) (with_ports d is) ≡ gaps_to count (first, dir.N) (at, dir.N) (with_ports dir.N is)
lone_gaps count d first at [] = ap (λ n. (let g : ℕ × ℕ = (n, first + count - at) in g) ∷ []) (distance_round d)
lone_gaps count d first at (i ∷ is) =
    ap (λ n. (let g : ℕ × ℕ = (n, i - at) in g) ∷ gaps_to count (first, d) (i, d) (with_ports d is)) (distance_round d)
    ∙ ap (λ (v : List (ℕ × ℕ)). (let g : ℕ × ℕ = (8, i - at) in g) ∷ v) (lone_gaps count d first i is)

lone_round : (count : ℕ) (d : Dir) (is : List ℕ) → gaps_of count (with_ports d is) ≡ gaps_of count (with_ports dir.N is)
lone_round count d [] = refl
lone_round count d (i ∷ is) = lone_gaps count d i i is

spaced_by_gaps : (count : ℕ) (ss ts : List Stop) → gaps_of count ss ≡ gaps_of count ts → are_spaced count ss ≡ are_spaced count ts
spaced_by_gaps count ss ts e = ap (λ (gs : List (ℕ × ℕ)). eqb (turned_over gs) 8 && list_all (λ (g : ℕ × ℕ). leb g.1 g.0) gs) e

lone_spaced : (f : SegId → Option Dir) (round : List SegId) (seg : SegId) (d : Dir) → ((s : SegId) → In s round → f s ≡ None) → is_allowed round f seg d ≡ is_allowed round (λ _. None) seg dir.N
lone_spaced f round seg d none =
    ap (are_spaced (length round)) (stops_agree (with_port seg d f) (with_port seg d (λ _. None)) round 0 (λ s m. ap (λ o. cond (eqb seg.0 s.0) (Some d) o) (none s m)))
    ∙ ap (are_spaced (length round)) (lone_stops seg d round 0)
    ∙ spaced_by_gaps (length round) (with_ports d (places_from 0 seg round)) (with_ports dir.N (places_from 0 seg round)) (lone_round (length round) d (places_from 0 seg round))
    ∙ ap (are_spaced (length round)) (sym (lone_stops seg dir.N round 0))

one_mask : (b : Bool) → is_all_or_none (mask_of (λ _. b)) ≡ true
one_mask true = refl
one_mask false = refl

pub lone_mask : (f : SegId → Option Dir) (round : List SegId) (seg : SegId) → ((s : SegId) → In s round → f s ≡ None) → is_all_or_none (allowed_mask round f seg) ≡ true
lone_mask f round seg none =
    ap is_all_or_none (mask_agree (is_allowed round f seg) (λ _. is_allowed round (λ _. None) seg dir.N) (λ d. lone_spaced f round seg d none))
    ∙ one_mask (is_allowed round (λ _. None) seg dir.N)

-- a segment of a round ends at the node
pub ends_round : (graph : GraphParts) → IsConsistent graph → (n : ℕ) → n < length graph.kinds → (s : SegId) → In s (get_or graph.rounds n []) → ((ends_of graph s).0.0 ≡ n) ⊎ ((ends_of graph s).1.0 ≡ n)
ends_round graph fit n h s m =
    let ends =
    all_in (λ (t : SegId). ends_at n (ends_of graph t) ≡ true) (get_or graph.rounds n []) s
    (round_ends graph fit n (omega (arith, fit.round_each))) m in
    elim (or_cases (eqb (ends_of graph s).0.0 n) (eqb (ends_of graph s).1.0 n) ends) [
      | inl e ↦ inl (eqb-true _ _ e)
      | inr e ↦ inr (eqb-true _ _ e)
    ]

-- at a node that is not settled no segment has its route, so all ports are allowed or none
no_port : (graph : GraphParts) → IsConsistent graph → (r : Routed) → IsUnderway graph r → (n : ℕ) → n < length graph.kinds → is_settled r n ≡ false → (s : SegId) → In s (get_or graph.rounds n []) → port_at_node graph r n s ≡ None
no_port graph fit r underway n h free s m = by_walk (walk_at r s) refl
  where
    settled : (w : PlainWalk) → walk_at r s ≡ Some w → ((ends_of graph s).0.0 ≡ n) ⊎ ((ends_of graph s).1.0 ≡ n) → is_settled r n ≡ true
    settled w e (inl k) = ap (is_settled r) (sym k) ∙ underway.low_settled s w e
    settled w e (inr k) = ap (is_settled r) (sym k) ∙ underway.up_settled s w e

    by_walk : (o : Option PlainWalk) → walk_at r s ≡ o → port_by (ends_of graph s) n o ≡ None
    by_walk None e = refl
    by_walk (Some w) e = absurd (true≢false (sym (settled w e (ends_round graph fit n h s m)) ∙ free))

pub free_mask : (graph : GraphParts) → IsConsistent graph → (r : Routed) → IsUnderway graph r → (n : ℕ) → n < length graph.kinds → (seg : SegId) → is_settled r n ≡ false
    → is_all_or_none (allowed_mask (get_or graph.rounds n []) (port_at_node graph r n) seg) ≡ true
free_mask graph fit r underway n h seg free = lone_mask (port_at_node graph r n) (get_or graph.rounds n []) seg (no_port graph fit r underway n h free)
