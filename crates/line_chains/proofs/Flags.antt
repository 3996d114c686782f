-- Flags of nodes that are raised along ways.
use Rattle.std.proofs.Common.{◌≡◌, ◌≢◌, ◌∙◌, refl, sym, ap, subst, ℕ, zero, suc, ◌+◌, ◌<◌, ◌≤◌, ◌⊎◌, inl, inr, Bool, true, false, not, ◌||◌, eqb, List, [], ◌∷◌, length, get_or, set, map, fold, drop, replicate, arith, length-set, get_or-set_same, get_or-set_other}
use Rattle.std.specs.List.{list_any, All}
use Rattle.std.proofs.lemmas.Bool.{cases_eq, eq-eqb, ne_eqb}
use Rattle.std.proofs.lemmas.List.{drop_all, drop_more, get_or_default, get_or-map, length-map, same_lists}
use Rattle.map_base.specs.declared.ids.NodeId.{NodeId}
use Rattle.map_base.specs.declared.ids.SegId.{SegId}
use Rattle.graph_core.specs.declared.parts.GraphParts.{GraphParts}
use Rattle.line_chains.specs.declared.chain.Chain.{Chain}
use Rattle.line_chains.specs.declared.chain.ChainStep.{ChainStep}
use Rattle.line_chains.specs.Chains.{comes_over, nodes_along, way_from}
use Rattle.line_chains.specs.Marks.{marked, marked_from, marked_over}

-- one flag
pub flag_marked : (flags : List Bool) (n k : NodeId) → n.0 < length flags → get_or (marked flags n) k.0 false ≡ (eqb n.0 k.0 || get_or flags k.0 false)
flag_marked flags n k h = by_cases (cases_eq n.0 k.0)
  where
    by_cases : (n.0 ≡ k.0) ⊎ (n.0 ≢ k.0) → get_or (marked flags n) k.0 false ≡ (eqb n.0 k.0 || get_or flags k.0 false)
    by_cases (inl e) = ap (λ i. get_or (set flags n.0 true) i false) (sym e) ∙ get_or-set_same flags n.0 true false h ∙ sym (ap (λ t. t || get_or flags k.0 false) (eq-eqb n.0 k.0 e))
    by_cases (inr f) = get_or-set_other flags n.0 k.0 true false (λ e. f (sym e)) ∙ sym (ap (λ t. t || get_or flags k.0 false) (ne_eqb n.0 k.0 f))

or_shift : (s t x : Bool) → (s || (t || x)) ≡ ((t || s) || x)
or_shift true true x = refl
or_shift true false x = refl
or_shift false true x = refl
or_shift false false x = refl

-- all nodes are below the number of flags
abbrev pub AreBelow : ℕ → List NodeId → Type 0
AreBelow count ns = All (λ (n : NodeId). n.0 < count) ns

rest_below : (count : ℕ) (n : NodeId) (ns : List NodeId) → AreBelow count (n ∷ ns) → AreBelow count ns
rest_below count n ns all i d h = all (suc i) d (omega arith)

pub length-marked : (ns : List NodeId) (flags : List Bool) → length (fold marked flags ns) ≡ length flags
length-marked [] flags = refl
length-marked (n ∷ ns) flags = length-marked ns (marked flags n) ∙ length-set flags n.0 true

-- the flags of nodes of a list
pub flag_over : (ns : List NodeId) (flags : List Bool) (k : NodeId) → AreBelow (length flags) ns → get_or (fold marked flags ns) k.0 false ≡ (list_any (λ (n : NodeId). eqb n.0 k.0) ns || get_or flags k.0 false)
flag_over [] flags k all = refl
flag_over (n ∷ ns) flags k all =
    flag_over ns (marked flags n) k (subst (λ c. AreBelow c ns) (sym (length-set flags n.0 true)) (rest_below (length flags) n ns all))
    ∙ ap (λ t. list_any (λ (m : NodeId). eqb m.0 k.0) ns || t) (flag_marked flags n k (all 0 n (omega arith)))
    ∙ or_shift (list_any (λ (m : NodeId). eqb m.0 k.0) ns) (eqb n.0 k.0) (get_or flags k.0 false)

-- and of the nodes of ways
abbrev pub WaysBelow : GraphParts → List Bool → NodeId → List SegId → Type 0
WaysBelow graph corners n round = All (λ (s : SegId). AreBelow (length graph.kinds) (nodes_along (way_from graph corners n s))) round

pub length-ways : (ways : List Chain) (flags : List Bool) → length (fold marked_over flags ways) ≡ length flags
length-ways [] flags = refl
length-ways (w ∷ ws) flags = length-ways ws (marked_over flags w) ∙ length-marked (nodes_along w) flags

pub flag_from : (graph : GraphParts) (corners : List Bool) (n : NodeId) (round : List SegId) (flags : List Bool) (k : NodeId) → length flags ≡ length graph.kinds → WaysBelow graph corners n round
    → get_or (fold marked_over flags (map (way_from graph corners n) round)) k.0 false ≡ (list_any (λ s. comes_over k (way_from graph corners n s)) round || get_or flags k.0 false)
flag_from graph corners n [] flags k each all = refl
flag_from graph corners n (s ∷ round) flags k each all =
    flag_from graph corners n round (marked_over flags way) k (length-marked (nodes_along way) flags ∙ each) (λ i d h. all (suc i) d (omega arith))
    ∙ ap (λ t. list_any (λ s. comes_over k (way_from graph corners n s)) round || t) (flag_over (nodes_along way) flags k (subst (λ c. AreBelow c (nodes_along way)) (sym each) (all 0 s (omega arith))))
    ∙ or_shift (list_any (λ s. comes_over k (way_from graph corners n s)) round) (comes_over k way) (get_or flags k.0 false)
  where
    way : Chain
    way = way_from graph corners n s

-- the ways from a corner by one segment more
pub marks_more : (graph : GraphParts) (corners : List Bool) (n : NodeId) (round : List SegId) (i : ℕ) (d : SegId) (way : Chain) (old new whole : List Bool) → i < length round
    → way ≡ way_from graph corners n (get_or round i d) → new ≡ marked_over old way
    → fold marked_over old (map (way_from graph corners n) (drop i round)) ≡ whole → fold marked_over new (map (way_from graph corners n) (drop (i + 1) round)) ≡ whole
marks_more graph corners n round i d way old new whole h way_is step e =
    ap (λ (fs : List Bool). fold marked_over fs (map (way_from graph corners n) (drop (i + 1) round))) (step ∙ ap (marked_over old) way_is)
    ∙ sym (ap (λ (v : List SegId). fold marked_over old (map (way_from graph corners n) v)) (drop_more round i d h))
    ∙ e

pub marks_over : (graph : GraphParts) (corners : List Bool) (n : NodeId) (round : List SegId) (i : ℕ) (old whole : List Bool) → length round ≤ i
    → fold marked_over old (map (way_from graph corners n) (drop i round)) ≡ whole → old ≡ whole
marks_over graph corners n round i old whole h e = sym (ap (λ (v : List SegId). fold marked_over old (map (way_from graph corners n) v)) (drop_all i round h)) ∙ e

-- the nodes of a way one by one
pub nodes_more : (steps : List ChainStep) (i : ℕ) (d : ChainStep) (old new whole : List Bool) → i < length steps → new ≡ marked old (get_or steps i d).to
    → fold marked old (map (λ (t : ChainStep). t.to) (drop i steps)) ≡ whole → fold marked new (map (λ (t : ChainStep). t.to) (drop (i + 1) steps)) ≡ whole
nodes_more steps i d old new whole h step e =
    ap (λ (fs : List Bool). fold marked fs (map (λ (t : ChainStep). t.to) (drop (i + 1) steps))) step
    ∙ sym (ap (λ (v : List ChainStep). fold marked old (map (λ (t : ChainStep). t.to) v)) (drop_more steps i d h))
    ∙ e

-- no flag is raised
pub none_raised : (m k : ℕ) → get_or (replicate m false) k false ≡ false
none_raised zero k = refl
none_raised (suc m) zero = refl
none_raised (suc m) (suc k) = none_raised m k

-- flags that are put one after another
pub put_more : (f : ℕ → Bool) (flags : List Bool) (n : ℕ) (v : Bool) → n < length flags → ((k : ℕ) → k < n → get_or flags k false ≡ f k) → v ≡ f n → (k : ℕ) → k < n + 1 → get_or (set flags n v) k false ≡ f k
put_more f flags n v below before here k h = by_cases (cases_eq k n)
  where
    by_cases : (k ≡ n) ⊎ (k ≢ n) → get_or (set flags n v) k false ≡ f k
    by_cases (inl e) = ap (λ i. get_or (set flags n v) i false) e ∙ get_or-set_same flags n v false below ∙ here ∙ ap f (sym e)
    by_cases (inr g) = get_or-set_other flags n k v false g ∙ before k (omega (arith, g))

pub plain_are : (rounds : List (List SegId)) (flags : List Bool) → length flags ≡ length rounds → ((k : ℕ) → k < length rounds → get_or flags k false ≡ not (eqb (length (get_or rounds k [])) 2))
    → flags ≡ map (λ (round : List SegId). not (eqb (length round) 2)) rounds
plain_are rounds flags each same =
    same_lists flags (map (λ (round : List SegId). not (eqb (length round) 2)) rounds) (each ∙ sym (length-map rounds (λ (round : List SegId). not (eqb (length round) 2))))
    (λ k d h. let below : k < length rounds = omega (arith, each, h) in
    get_or_default flags k d false h ∙ same k below ∙ sym (get_or-map (λ (round : List SegId). not (eqb (length round) 2)) rounds k [] d below))
