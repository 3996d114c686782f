-- Corners of a line graph: what becomes one stays one; and what becomes one where chains bend lies between their ends.
use Rattle.std.proofs.Common.{◌≡◌, refl, sym, ◌∙◌, ap, subst, ℕ, zero, suc, ◌+◌, ◌-◌, ◌<◌, Bool, true, false, not, cond, eqb, nat_lt, ◌||◌, List, [], ◌∷◌, ◌++◌, length, map, max, min, take, drop, fold, get_or, set, ◌⊎◌, inl, inr, arith, get_or-set_same, get_or-set_other, length-set, length-drop}
use Rattle.std.proofs.lemmas.Bool.{and_from, and_parts, cases_eq, cases_lt, eq-eqb, eqb-true, lt-ltb, ltb-true, not-false, or_left, true≢false, cond_both, false_from_ne_true}
use Rattle.std.proofs.lemmas.List.{get_or-drop, get_or-map, get_or-take, length-map, length-take}
use Rattle.std.specs.Prelude.{slice_range}
use Rattle.std.specs.List.{flat_map}
use Rattle.map_base.specs.declared.ids.NodeId.{NodeId}
use Rattle.map_base.specs.declared.ids.SegId.{SegId}
use Rattle.graph_core.specs.declared.parts.GraphParts.{GraphParts}
use Rattle.graph_core.specs.Consistent.{IsConsistent}
use Rattle.line_chains.specs.declared.chain.Chain.{Chain}
use Rattle.line_chains.specs.declared.chain.ChainStep.{ChainStep}
use Rattle.line_chains.specs.Bends.{bend_place, bends_of, chain_bends, corners_of, far_off, first_place, greatest, is_bent, last_place, node_at, off_of, offs_of, place_of, with_corner}
use Rattle.line_chains.specs.Chains.{chains_of, end_after, end_of, is_reached, nodes_along, nodes_of, plain_corners, ring_corners, round_of, with_ring}
use Rattle.octi_grid.proofs.Members.{in_append, In}
use Rattle.run_laying.specs.Attempts.{inner_nodes}
use Rattle.run_laying.proofs.LaidRuns.{still_raised}
use Rattle.kept_walks.proofs.Ways.{HasCorners}

-- ---- flags that are raised

pub kept_corner : (ns : List NodeId) (corners : List Bool) (n : ℕ) → get_or corners n false ≡ true → get_or (fold with_corner corners ns) n false ≡ true
kept_corner [] corners n e = e
kept_corner (m ∷ ns) corners n e = kept_corner ns (set corners m.0 true) n (still_raised corners m.0 n e)

pub new_corner : (ns : List NodeId) (corners : List Bool) (m : NodeId) → In m ns → m.0 < length corners → get_or (fold with_corner corners ns) m.0 false ≡ true
new_corner [] corners m i below = absurd i
new_corner (p ∷ ns) corners m (inl e) below =
    kept_corner ns (set corners p.0 true) m.0 (ap (λ (q : NodeId). get_or (set corners p.0 true) q.0 false) e ∙ get_or-set_same corners p.0 true false (subst (λ (q : NodeId). q.0 < length corners) e below))
new_corner (p ∷ ns) corners m (inr i) below = new_corner ns (set corners p.0 true) m i (omega (arith, below, length-set corners p.0 true))

pub from_corner : (ns : List NodeId) (corners : List Bool) (n : ℕ) → get_or (fold with_corner corners ns) n false ≡ true → (get_or corners n false ≡ true) ⊎ ((m : NodeId) × In m ns × (m.0 ≡ n))
from_corner [] corners n e = inl e
from_corner (p ∷ ns) corners n e = by_rest (from_corner ns (set corners p.0 true) n e)
  where
    by_rest : (get_or (set corners p.0 true) n false ≡ true) ⊎ ((m : NodeId) × In m ns × (m.0 ≡ n)) → (get_or corners n false ≡ true) ⊎ ((m : NodeId) × In m (p ∷ ns) × (m.0 ≡ n))
    by_rest (inr (m, i, same)) = inr (m, inr i, same)
    by_rest (inl f) = elim (cases_eq n p.0) [
      | inl same ↦ inr (p, inl refl, sym same)
      | inr other ↦ inl (sym (get_or-set_other corners p.0 n true false other) ∙ f)
    ]

many_corners : (ns : List NodeId) (corners : List Bool) → length (fold with_corner corners ns) ≡ length corners
many_corners [] corners = refl
many_corners (m ∷ ns) corners = many_corners ns (set corners m.0 true) ∙ length-set corners m.0 true

-- ---- rings

kept_ring : (graph : GraphParts) (ns : List NodeId) (corners : List Bool) (n : ℕ) → get_or corners n false ≡ true → get_or (fold (with_ring graph) corners ns) n false ≡ true
kept_ring graph [] corners n e = e
kept_ring graph (m ∷ ns) corners n e = kept_ring graph ns (with_ring graph corners m) n
    (cond_both (is_reached graph corners m) corners (set corners m.0 true) (λ flags. get_or flags n false ≡ true) (λ b. e) (λ b. still_raised corners m.0 n e))

many_rings : (graph : GraphParts) (ns : List NodeId) (corners : List Bool) → length (fold (with_ring graph) corners ns) ≡ length corners
many_rings graph [] corners = refl
many_rings graph (m ∷ ns) corners =
    many_rings graph ns (with_ring graph corners m) ∙ cond_both (is_reached graph corners m) corners
    (set corners m.0 true) (λ flags. length flags ≡ length corners) (λ b. refl) (λ b. length-set corners m.0 true)

pub ring_many : (graph : GraphParts) → IsConsistent graph → length (ring_corners graph) ≡ length graph.kinds
ring_many graph fit = many_rings graph (nodes_of graph) (plain_corners graph) ∙ length-map graph.rounds (λ (round : List SegId). not (eqb (length round) 2)) ∙ fit.round_each

pub corners_many : (graph : GraphParts) → IsConsistent graph → (cell : ℕ) → length (corners_of graph cell) ≡ length graph.kinds
corners_many graph fit cell = many_corners (flat_map (chain_bends graph cell) (chains_of graph (ring_corners graph))) (ring_corners graph) ∙ ring_many graph fit

pub ring_has : (graph : GraphParts) → IsConsistent graph → HasCorners graph (ring_corners graph)
ring_has graph fit n node e = eqb-true (length (round_of graph n)) 2 (not-false (eqb (length (round_of graph n)) 2) (sym plain ∙ free))
  where
    plain : get_or (plain_corners graph) n.0 false ≡ not (eqb (length (round_of graph n)) 2)
    plain = get_or-map (λ (round : List SegId). not (eqb (length round) 2)) graph.rounds n.0 [] false (omega (arith, node, fit.round_each))

    free : get_or (plain_corners graph) n.0 false ≡ false
    free =
        false_from_ne_true (get_or (plain_corners graph) n.0 false)
        (λ f. true≢false (sym (kept_ring graph (nodes_of graph) (plain_corners graph) n.0 f) ∙ e))

-- ---- bends

greatest_in : (ks : List ℕ) → 0 < length ks → In (greatest ks) ks
greatest_in [] some = absurd (omega (arith, some))
greatest_in (k ∷ []) some = inl (omega arith)
greatest_in (k ∷ j ∷ js) some = elim (cases_lt k (greatest (j ∷ js))) [
  | inl less ↦ (let is : max k (greatest (j ∷ js)) ≡ greatest (j ∷ js) = omega (arith, less) in
      inr (subst (λ m. In m (j ∷ js)) (sym is) (greatest_in (j ∷ js) (omega arith))))
  | inr more ↦ inl (omega (arith, more))
]

first_below : (k : ℕ) (ks : List ℕ) → In k ks → first_place k ks < length ks
first_below k [] i = absurd i
first_below k (j ∷ js) (inl e) = let here : first_place k (j ∷ js) ≡ 0 = ap (λ b. cond b 0 (suc (first_place k js))) (eq-eqb j k (sym e)) in omega (arith, here)
first_below k (j ∷ js) (inr i) =
    let h = first_below k js i in
    cond_both (eqb j k) 0 (suc (first_place k js)) (λ n. n < suc (length js)) (λ b. omega arith) (λ b. omega (arith, h))

-- a bend lies between the ends
place_inside : (graph : GraphParts) (nodes : List NodeId) → 2 < length nodes → bend_place graph nodes + 1 < length nodes
place_inside graph nodes long =
    let below = first_below (greatest (offs_of graph nodes)) (offs_of graph nodes) (greatest_in (offs_of graph nodes) (omega (arith, many, long))) in omega (arith, below, many, long)
  where
    sizes : (n : ℕ) → min (n - 1 - 1) (n - 1) ≡ n - 2
    sizes n = omega arith

    many : length (offs_of graph nodes) ≡ length nodes - 2
    many =
        length-map (slice_range nodes 1 (last_place nodes)) (λ (n : NodeId). off_of (place_of graph (node_at nodes 0)) (place_of graph (node_at nodes (last_place nodes))) (place_of graph n))
        ∙ length-take (last_place nodes - 1) (drop 1 nodes)
        ∙ ap (min (last_place nodes - 1)) (length-drop 1 nodes)
        ∙ sizes (length nodes)

-- where a bend stands among nodes
pub record IsBendAt (nodes : List NodeId) (m : NodeId) : Type 0 where
  pub place : ℕ
  pub after : 0 < place
  pub before : place + 1 < length nodes
  pub there : node_at nodes place ≡ m

pub bend_at : (most : ℕ) (graph : GraphParts) (cell : ℕ) (nodes : List NodeId) (m : NodeId) → In m (bends_of most graph cell nodes) → IsBendAt nodes m
bend_at zero graph cell nodes m i = absurd i
bend_at (suc most) graph cell nodes m i = by_test (is_bent graph cell nodes) refl i (bend_at most graph cell (take (bend_place graph nodes + 1) nodes) m) (bend_at most graph cell (drop (bend_place graph nodes) nodes) m)
  where
    k : ℕ
    k = bend_place graph nodes

    front : List NodeId
    front = take (k + 1) nodes

    rear : List NodeId
    rear = drop k nodes

    by_test : (b : Bool) → is_bent graph cell nodes ≡ b → In m (cond b (node_at nodes k ∷ (bends_of most graph cell front ++ bends_of most graph cell rear)) []) → (In m (bends_of most graph cell front) → IsBendAt front m) → (In m (bends_of most graph cell rear) → IsBendAt rear m) → IsBendAt nodes m
    by_test false e j in_front in_rear = absurd j
    by_test true e (inl same) in_front in_rear = record { place = k; after = omega arith; before = place_inside graph nodes long; there = sym same }
      where
        long : 2 < length nodes
        long = ltb-true 2 (length nodes) (and_parts (nat_lt 2 (length nodes)) ((eqb (node_at nodes 0).0 (node_at nodes (last_place nodes)).0) || nat_lt (far_off graph cell nodes) (greatest (offs_of graph nodes))) e).0
    by_test true e (inr j) in_front in_rear =
        elim (in_append m (bends_of most graph cell front) (bends_of most graph cell rear) j) [
          | inl x ↦ (let at = in_front x in
              let many = length-take (k + 1) nodes in
              record { place = at.place; after = at.after; before = omega (arith, at.before, many); there = sym (get_or-take (k + 1) nodes at.place (record { 0 = 0 }) (omega (arith, at.before, many))) ∙ at.there })
          | inr x ↦ (let at = in_rear x in
              let many = length-drop k nodes in
              record { place = k + at.place; after = omega (arith, at.after); before = omega (arith, at.before, many); there = sym (get_or-drop k nodes at.place (record { 0 = 0 })) ∙ at.there })
        ]

-- and among the nodes of a chain
inner_place : (ts : List ChainStep) (i : ℕ) → i + 1 < length ts → In (node_at (map (λ (t : ChainStep). t.to) ts) i) (inner_nodes ts)
inner_place [] i h = absurd (omega arith)
inner_place (t ∷ []) i h = absurd (omega (arith, h))
inner_place (t ∷ u ∷ us) zero h = inl refl
inner_place (t ∷ u ∷ us) (suc i) h = inr (inner_place (u ∷ us) i (omega (arith, h)))

pub along_inner : (c : Chain) (m : NodeId) → IsBendAt (nodes_along c) m → In m (inner_nodes c.steps)
along_inner c m at = by_place at.place at.after at.before at.there
  where
    many : length (nodes_along c) ≡ suc (length c.steps)
    many = ap (λ k. suc k) (length-map c.steps (λ (t : ChainStep). t.to))

    by_place : (k : ℕ) → 0 < k → k + 1 < length (nodes_along c) → node_at (nodes_along c) k ≡ m → In m (inner_nodes c.steps)
    by_place zero some h e = absurd (omega (arith, some))
    by_place (suc i) some h e = subst (λ (p : NodeId). In p (inner_nodes c.steps)) e (inner_place c.steps i (omega (arith, h, many)))

-- a chain that ends where it begins is bent
last_along : (n : NodeId) (ts : List ChainStep) → node_at (n ∷ map (λ (t : ChainStep). t.to) ts) (length ts) ≡ end_after n ts
last_along n [] = refl
last_along n (t ∷ ts) = last_along t.to ts

pub ring_bend : (graph : GraphParts) (cell : ℕ) (c : Chain) → c.from.0 ≡ (end_of c).0 → 1 < length c.steps → (m : NodeId) × In m (chain_bends graph cell c) × In m (inner_nodes c.steps)
ring_bend graph cell c ring long = (m, there, along_inner c m (bend_at (length nodes) graph cell nodes m there))
  where
    nodes : List NodeId
    nodes = nodes_along c

    m : NodeId
    m = node_at nodes (bend_place graph nodes)

    many : length nodes ≡ suc (length c.steps)
    many = ap (λ k. suc k) (length-map c.steps (λ (t : ChainStep). t.to))

    last : (node_at nodes (last_place nodes)).0 ≡ (end_of c).0
    last = let place : last_place nodes ≡ length c.steps = omega (arith, many) in ap (λ k. (node_at nodes k).0) place ∙ ap (λ (x : NodeId). x.0) (last_along c.from c.steps)

    bent : is_bent graph cell nodes ≡ true
    bent =
        and_from (nat_lt 2 (length nodes)) (eqb (node_at nodes 0).0 (node_at nodes (last_place nodes)).0 || nat_lt (far_off graph cell nodes) (greatest (offs_of graph nodes))) (lt-ltb 2 (length nodes) (omega (arith, many, long)))
        (or_left (eqb (node_at nodes 0).0 (node_at nodes (last_place nodes)).0) (nat_lt (far_off graph cell nodes) (greatest (offs_of graph nodes))) (eq-eqb (node_at nodes 0).0 (node_at nodes (last_place nodes)).0 (ring ∙ sym last)))

    there : In m (chain_bends graph cell c)
    there =
        subst (λ k. In m (bends_of k graph cell nodes)) (sym many)
        (subst (λ b. In m (cond b (m ∷ (bends_of (length c.steps) graph cell (take (bend_place graph nodes + 1) nodes) ++ bends_of (length c.steps) graph cell (drop (bend_place graph nodes) nodes))) [])) (sym bent) (inl refl))
