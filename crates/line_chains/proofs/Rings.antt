-- A node that no way from a corner comes over becomes one: which nodes ways come over then.
use Rattle.std.proofs.Common.{◌≡◌, ◌≢◌, ◌∙◌, refl, sym, ap, ap₂, subst, ℕ, zero, suc, ◌+◌, ◌-◌, ◌<◌, ◌≤◌, ◌⊎◌, inl, inr, Bool, true, false, cond, ◌&&◌, ◌||◌, eqb, List, [], ◌∷◌, length, get_or, set, map, fold, arith, length-set, get_or-set_same, get_or-set_other}
use Rattle.std.specs.List.{list_any, range_with_len}
use Rattle.std.proofs.lemmas.Bool.{cases_eq, eq-eqb, ne_eqb, or_parts}
use Rattle.std.proofs.lemmas.List.{get_or-map, get_or_default, length-map, same_lists}
use Rattle.std.proofs.lemmas.List.FromFn.{get_or-map-range_with_len, length-map-range_with_len}
use Rattle.map_base.specs.declared.ids.NodeId.{NodeId}
use Rattle.map_base.specs.declared.ids.SegId.{SegId}
use Rattle.graph_core.specs.declared.parts.GraphParts.{GraphParts}
use Rattle.graph_core.specs.Consistent.{IsConsistent}
use Rattle.line_chains.specs.declared.chain.Chain.{Chain}
use Rattle.line_chains.specs.declared.chain.ChainStep.{ChainStep}
use Rattle.line_chains.specs.Chains.{comes_over, is_corner, is_reached, is_reached_from, nodes_along, nodes_of, plain_corners, ring_corners, round_of, steps_from, way_from, with_ring}
use Rattle.line_chains.specs.Marks.{marked_from, reached_by}
use Rattle.line_chains.proofs.Below.{ways_below}
use Rattle.line_chains.proofs.Flags.{flag_from, length-ways}
use Rattle.line_chains.proofs.Listing.{nodes_between, one_node}
use Rattle.line_chains.proofs.Reaching.{reached_upto, same_steps, upto_corner, upto_other}

-- flags, node by node
node_by_number : (count k : ℕ) (d : NodeId) → k < count → get_or (nodes_between 0 count) k d ≡ record { 0 = k }
node_by_number count k d h = get_or-map-range_with_len (λ n. (let m : NodeId = record { 0 = n } in m)) 0 count k k d h (omega arith)

pub flag_reached : (graph : GraphParts) (corners : List Bool) (k : NodeId) (d : Bool) → k.0 < length graph.kinds → get_or (reached_by graph corners) k.0 d ≡ is_reached graph corners k
flag_reached graph corners k d h =
    get_or-map (is_reached graph corners) (nodes_of graph) k.0 k d (subst (λ m. k.0 < m) (sym (length-map-range_with_len (λ n. (let m : NodeId = record { 0 = n } in m)) 0 (length graph.kinds))) h)
    ∙ ap (is_reached graph corners) (node_by_number (length graph.kinds) k.0 k h)

pub length-reached : (graph : GraphParts) (corners : List Bool) → length (reached_by graph corners) ≡ length graph.kinds
length-reached graph corners = length-map (nodes_of graph) (is_reached graph corners) ∙ length-map-range_with_len (λ n. (let m : NodeId = record { 0 = n } in m)) 0 (length graph.kinds)

pub flags_are : (graph : GraphParts) (corners flags : List Bool) → length flags ≡ length graph.kinds → ((k : NodeId) → k.0 < length graph.kinds → get_or flags k.0 false ≡ is_reached graph corners k) → flags ≡ reached_by graph corners
flags_are graph corners flags each same =
    same_lists flags (reached_by graph corners) (each ∙ sym (length-reached graph corners))
    (λ k d h. let below : k < length graph.kinds = omega (arith, each, h) in
    let n : NodeId = record { 0 = k } in
    get_or_default flags k d false h ∙ same n below ∙ sym (flag_reached graph corners n d below))

-- a way that doesn't come over a node, as steps
over_steps : (n : NodeId) (ts : List ChainStep) → list_any (λ (m : NodeId). eqb m.0 n.0) (map (λ (t : ChainStep). t.to) ts) ≡ list_any (λ (t : ChainStep). eqb t.to.0 n.0) ts
over_steps n [] = refl
over_steps n (t ∷ ts) = ap (λ b. eqb t.to.0 n.0 || b) (over_steps n ts)

same_way : (graph : GraphParts) (corners : List Bool) (n m : NodeId) (s : SegId) → comes_over n (way_from graph corners m s) ≡ false → way_from graph (set corners n.0 true) m s ≡ way_from graph corners m s
same_way graph corners n m s away =
    let steps = steps_from graph corners (length graph.ends) m s in
    let behind : list_any (λ (k : NodeId). eqb k.0 n.0) (map (λ (t : ChainStep). t.to) steps) ≡ false = (or_parts (eqb m.0 n.0) (list_any (λ (k : NodeId). eqb k.0 n.0) (map (λ (t : ChainStep). t.to) steps)) away).1 in
    ap (λ (v : List ChainStep). (let way : Chain = record { from = m; steps = v } in way)) (same_steps graph corners n (length graph.ends) m s (sym (over_steps n steps) ∙ behind))

same_over : (graph : GraphParts) (corners : List Bool) (n m k : NodeId) (round : List SegId) → list_any (λ (s : SegId). comes_over n (way_from graph corners m s)) round ≡ false
    → list_any (λ (s : SegId). comes_over k (way_from graph (set corners n.0 true) m s)) round ≡ list_any (λ (s : SegId). comes_over k (way_from graph corners m s)) round
same_over graph corners n m k [] away = refl
same_over graph corners n m k (s ∷ round) away =
    let parts = or_parts (comes_over n (way_from graph corners m s)) (list_any (λ (s : SegId). comes_over n (way_from graph corners m s)) round) away in
    ap₂ (λ (way : Chain) (b : Bool). comes_over k way || b) (same_way graph corners n m s parts.0) (same_over graph corners n m k round parts.1)

-- a corner that no way comes over has no segments
self_over : (graph : GraphParts) (corners : List Bool) (n k : NodeId) (round : List SegId) → list_any (λ (s : SegId). comes_over n (way_from graph corners n s)) round ≡ false → list_any (λ (s : SegId). comes_over k (way_from graph corners n s)) round ≡ false
self_over graph corners n k [] away = refl
self_over graph corners n k (s ∷ round) away =
    let here : eqb n.0 n.0 ≡ false = (or_parts (eqb n.0 n.0) (list_any (λ (m : NodeId). eqb m.0 n.0) (map (λ (t : ChainStep). t.to) (steps_from graph corners (length graph.ends) n s)))
    (or_parts (comes_over n (way_from graph corners n s)) (list_any (λ (s : SegId). comes_over n (way_from graph corners n s)) round) away).0).0 in
    let clash : true ≡ false = sym (eq-eqb n.0 n.0 refl) ∙ here in cc

not_from_self : (graph : GraphParts) (corners : List Bool) (n k : NodeId) → is_reached_from graph corners n n ≡ false → is_reached_from graph corners k n ≡ false
not_from_self graph corners n k away = by_corner (is_corner corners n) away
  where
    by_corner : (t : Bool) → (t && list_any (λ (s : SegId). comes_over n (way_from graph corners n s)) (round_of graph n)) ≡ false → (t && list_any (λ (s : SegId). comes_over k (way_from graph corners n s)) (round_of graph n)) ≡ false
    by_corner true e = self_over graph corners n k (round_of graph n) e
    by_corner false e = refl

-- from one corner, once the node is one too
abbrev over : GraphParts → List Bool → NodeId → NodeId → Bool
over graph corners n k = list_any (λ (s : SegId). comes_over k (way_from graph (set corners n.0 true) n s)) (round_of graph n)

from_one : (graph : GraphParts) (corners : List Bool) (n k m : NodeId) → n.0 < length corners → is_reached_from graph corners n m ≡ false
    → is_reached_from graph (set corners n.0 true) k m ≡ ((eqb m.0 n.0 && over graph corners n k) || is_reached_from graph corners k m)
from_one graph corners n k m below away = by_cases (cases_eq m.0 n.0)
  where
    or_nothing : (t : Bool) → t ≡ (t || false)
    or_nothing true = refl
    or_nothing false = refl

    here : (v : NodeId) → n ≡ v → is_reached_from graph corners n v ≡ false → is_reached_from graph (set corners n.0 true) k v ≡ (over graph corners n k || is_reached_from graph corners k v)
    here v same not_here =
        subst (λ (u : NodeId). is_reached_from graph (set corners n.0 true) k u ≡ (over graph corners n k || is_reached_from graph corners k u)) same
        (ap (λ t. t && over graph corners n k) (get_or-set_same corners n.0 true false below)
        ∙ or_nothing (over graph corners n k)
        ∙ ap (λ t. over graph corners n k || t) (sym (not_from_self graph corners n k (subst (λ (u : NodeId). is_reached_from graph corners n u ≡ false) (sym same) not_here))))

    there : m.0 ≢ n.0 → (t : Bool) → is_corner corners m ≡ t → (t && list_any (λ (s : SegId). comes_over n (way_from graph corners m s)) (round_of graph m)) ≡ false
        → (t && list_any (λ (s : SegId). comes_over k (way_from graph (set corners n.0 true) m s)) (round_of graph m)) ≡ (t && list_any (λ (s : SegId). comes_over k (way_from graph corners m s)) (round_of graph m))
    there f true e not_there = same_over graph corners n m k (round_of graph m) not_there
    there f false e not_there = refl

    by_cases : (m.0 ≡ n.0) ⊎ (m.0 ≢ n.0) → is_reached_from graph (set corners n.0 true) k m ≡ ((eqb m.0 n.0 && over graph corners n k) || is_reached_from graph corners k m)
    by_cases (inl e) =
        here m (ap (λ i. (let u : NodeId = record { 0 = i } in u)) (sym e)) away
        ∙ sym (ap (λ t. (t && over graph corners n k) || is_reached_from graph corners k m) (eq-eqb m.0 n.0 e))
    by_cases (inr f) =
        ap (λ t. t && list_any (λ (s : SegId). comes_over k (way_from graph (set corners n.0 true) m s)) (round_of graph m)) (get_or-set_other corners n.0 m.0 true false f)
        ∙ there f (is_corner corners m) refl away
        ∙ sym (ap (λ t. (t && over graph corners n k) || is_reached_from graph corners k m) (ne_eqb m.0 n.0 f))

-- and from all of them
mixed : (a b o p q : Bool) → (((a && o) || p) || ((b && o) || q)) ≡ (((a || b) && o) || (p || q))
mixed true true true p q = refl
mixed true true false p q = refl
mixed true false true p q = refl
mixed true false false p q = refl
mixed false true true true q = refl
mixed false true true false q = refl
mixed false true false p q = refl
mixed false false o p q = refl

from_all : (graph : GraphParts) (corners : List Bool) (n k : NodeId) (ms : List NodeId) → n.0 < length corners → list_any (is_reached_from graph corners n) ms ≡ false
    → list_any (is_reached_from graph (set corners n.0 true) k) ms ≡ ((list_any (λ (m : NodeId). eqb m.0 n.0) ms && over graph corners n k) || list_any (is_reached_from graph corners k) ms)
from_all graph corners n k [] below away = refl
from_all graph corners n k (m ∷ ms) below away =
    let parts = or_parts (is_reached_from graph corners n m) (list_any (is_reached_from graph corners n) ms) away in
    ap₂ (λ s t. s || t) (from_one graph corners n k m below parts.0) (from_all graph corners n k ms below parts.1)
    ∙ mixed (eqb m.0 n.0) (list_any (λ (m : NodeId). eqb m.0 n.0) ms) (over graph corners n k) (is_reached_from graph corners k m) (list_any (is_reached_from graph corners k) ms)

among : (n : NodeId) (i m : ℕ) → i ≤ n.0 → n.0 < i + m → list_any (λ (k : NodeId). eqb k.0 n.0) (nodes_between i m) ≡ true
among n i zero low high = absurd (omega arith)
among n i (suc m) low high = by_cases (λ f. among n (i + 1) m (omega (arith, f)) (omega arith)) (cases_eq i n.0)
  where
    or_true : (s t : Bool) → t ≡ true → (s || t) ≡ true
    or_true true t e = refl
    or_true false t e = e

    by_cases : ((i ≢ n.0) → list_any (λ (k : NodeId). eqb k.0 n.0) (nodes_between (i + 1) m) ≡ true) → (i ≡ n.0) ⊎ (i ≢ n.0) → (eqb i n.0 || list_any (λ (k : NodeId). eqb k.0 n.0) (nodes_between (i + 1) m)) ≡ true
    by_cases later (inl e) = ap (λ t. t || list_any (λ (k : NodeId). eqb k.0 n.0) (nodes_between (i + 1) m)) (eq-eqb i n.0 e)
    by_cases later (inr f) = or_true (eqb i n.0) (list_any (λ (k : NodeId). eqb k.0 n.0) (nodes_between (i + 1) m)) (later f)

pub ring_reached : (graph : GraphParts) → IsConsistent graph → (corners : List Bool) (n : NodeId) (reached : List Bool) → length corners ≡ length graph.kinds → n.0 < length graph.kinds → is_reached graph corners n ≡ false
    → reached ≡ reached_by graph corners → marked_from graph (set corners n.0 true) n reached ≡ reached_by graph (set corners n.0 true)
ring_reached graph fit corners n reached each node away before =
    flags_are graph (set corners n.0 true) (marked_from graph (set corners n.0 true) n reached) (marks ∙ length-reached graph corners)
    (λ k below.
    flag_from graph (set corners n.0 true) n (round_of graph n) reached k flags (ways_below graph fit (set corners n.0 true) n node)
    ∙ ap (λ t. over graph corners n k || t) (ap (λ (fs : List Bool). get_or fs k.0 false) before ∙ flag_reached graph corners k false below)
    ∙ ap (λ t. (t && over graph corners n k) || is_reached graph corners k) (sym (among n 0 (length graph.kinds) (omega arith) (omega (arith, node))))
    ∙ sym (from_all graph corners n k (nodes_of graph) (omega (arith, each, node)) away))
  where
    flags : length reached ≡ length graph.kinds
    flags = ap length before ∙ length-reached graph corners

    marks : length (marked_from graph (set corners n.0 true) n reached) ≡ length (reached_by graph corners)
    marks = length-ways (map (way_from graph (set corners n.0 true) n) (round_of graph n)) reached ∙ ap length before

-- corners with those of one node more
pub ring_made : (graph : GraphParts) (corners : List Bool) (n : NodeId) → is_reached graph corners n ≡ false → with_ring graph corners n ≡ set corners n.0 true
ring_made graph corners n e = ap (λ t. cond t corners (set corners n.0 true)) e

pub ring_kept : (graph : GraphParts) (corners : List Bool) (n : NodeId) → is_reached graph corners n ≡ true → with_ring graph corners n ≡ corners
ring_kept graph corners n e = ap (λ t. cond t corners (set corners n.0 true)) e

pub length-ring : (graph : GraphParts) (corners : List Bool) (n : NodeId) → length (with_ring graph corners n) ≡ length corners
length-ring graph corners n = by_test (is_reached graph corners n)
  where
    by_test : (t : Bool) → length (cond t corners (set corners n.0 true)) ≡ length corners
    by_test true = refl
    by_test false = length-set corners n.0 true

pub rings_more : (graph : GraphParts) (count i : ℕ) (corners new whole : List Bool) → i < count → new ≡ with_ring graph corners (record { 0 = i })
    → fold (with_ring graph) corners (nodes_between i (count - i)) ≡ whole → fold (with_ring graph) new (nodes_between (i + 1) (count - (i + 1))) ≡ whole
rings_more graph count i corners new whole h step e =
    ap (λ (cs : List Bool). fold (with_ring graph) cs (nodes_between (i + 1) (count - (i + 1)))) step
    ∙ sym (ap (λ (v : List NodeId). fold (with_ring graph) corners v) (one_node count i h))
    ∙ e

pub rings_begin : (graph : GraphParts) (count : ℕ) (corners : List Bool) → count ≡ length graph.kinds → corners ≡ plain_corners graph → fold (with_ring graph) corners (nodes_between 0 (count - 0)) ≡ ring_corners graph
rings_begin graph count corners each is =
    let all : count - 0 ≡ length graph.kinds = omega (arith, each) in
    ap₂ (λ (cs : List Bool) m. fold (with_ring graph) cs (nodes_between 0 m)) is all

pub rings_over : (graph : GraphParts) (count i : ℕ) (corners whole : List Bool) → count ≤ i → fold (with_ring graph) corners (nodes_between i (count - i)) ≡ whole → corners ≡ whole
rings_over graph count i corners whole h e =
    let none : count - i ≡ 0 = omega arith in
    sym (ap (λ m. fold (with_ring graph) corners (nodes_between i m)) none) ∙ e

-- what ways from one corner more come over
pub corner_more : (graph : GraphParts) → IsConsistent graph → (corners : List Bool) (n : ℕ) (reached new : List Bool) (k : NodeId) → length reached ≡ length graph.kinds → n < length graph.kinds
    → new ≡ cond (is_corner corners (record { 0 = n })) (marked_from graph corners (record { 0 = n }) reached) reached → get_or reached k.0 false ≡ reached_upto graph corners n k
    → get_or new k.0 false ≡ reached_upto graph corners (n + 1) k
corner_more graph fit corners n reached new k each below step before = ap (λ (fs : List Bool). get_or fs k.0 false) step ∙ by_corner (is_corner corners m) refl
  where
    m : NodeId
    m = record { 0 = n }

    by_corner : (t : Bool) → is_corner corners m ≡ t → get_or (cond t (marked_from graph corners m reached) reached) k.0 false ≡ reached_upto graph corners (n + 1) k
    by_corner true e = flag_from graph corners m (round_of graph m) reached k each (ways_below graph fit corners m below) ∙ upto_corner graph corners n k (get_or reached k.0 false) e before
    by_corner false e = upto_other graph corners n k (get_or reached k.0 false) e before

pub corner_length : (graph : GraphParts) (corners : List Bool) (n : NodeId) (reached : List Bool) → length (cond (is_corner corners n) (marked_from graph corners n reached) reached) ≡ length reached
corner_length graph corners n reached = by_corner (is_corner corners n)
  where
    by_corner : (t : Bool) → length (cond t (marked_from graph corners n reached) reached) ≡ length reached
    by_corner true = length-ways (map (way_from graph corners n) (round_of graph n)) reached
    by_corner false = refl

pub reached_all : (graph : GraphParts) (corners : List Bool) (n : ℕ) (k : NodeId) → n ≡ length graph.kinds → reached_upto graph corners n k ≡ is_reached graph corners k
reached_all graph corners n k e = ap (λ m. list_any (is_reached_from graph corners k) (nodes_between 0 m)) e
