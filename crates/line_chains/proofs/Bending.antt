-- Where a chain bends: the place is one between its ends, and as many steps of splitting as it has nodes are enough.
use Rattle.std.proofs.Common.{◌≡◌, ◌∙◌, refl, sym, ap, ap₂, subst, ℕ, zero, suc, ◌+◌, ◌-◌, ◌<◌, ◌≤◌, ◌⊎◌, inl, inr, Bool, true, false, cond, ◌&&◌, ◌||◌, eqb, nat_lt, max, min, List, [], ◌∷◌, ◌++◌, length, map, fold, take, drop, get_or, slice_range, Option, Some, None, arith, length-drop, length-set}
use Rattle.std.proofs.lemmas.Bool.{and_parts, cases_lt, eq-eqb, ne_eqb, lt-ltb, ltb-true, le-ltb}
use Rattle.std.specs.List.{flat_map}
use Rattle.std.proofs.lemmas.List.{drop_more, length-map, length-take}
use Rattle.std.proofs.lemmas.List.Sums.{fold-append}
use Rattle.map_base.specs.declared.ids.NodeId.{NodeId}
use Rattle.graph_core.specs.declared.parts.GraphParts.{GraphParts}
use Rattle.line_chains.specs.declared.chain.Chain.{Chain}
use Rattle.line_chains.specs.Bends.{bend_place, bends_of, chain_bends, far_off, first_place, greatest, is_bent, last_place, node_at, off_of, offs_of, place_of, with_corner}

-- the greatest number stands in a list
pub stands_below : (xs : List ℕ) → 0 < length xs → first_place (greatest xs) xs < length xs
stands_below [] h = absurd (omega (arith, h))
stands_below (x ∷ []) h = let first : eqb x (max x 0) ≡ true = eq-eqb x (max x 0) (omega arith) in subst (λ t. cond t 0 (suc 0) < 1) (sym first) (omega arith)
stands_below (x ∷ y ∷ ys) h = by_order (stands_below (y ∷ ys) (omega arith)) (cases_lt x (greatest (y ∷ ys)))
  where
    g : ℕ
    g = greatest (y ∷ ys)

    by_order : first_place g (y ∷ ys) < length (y ∷ ys) → (x < g) ⊎ (g ≤ x) → first_place (max x g) (x ∷ y ∷ ys) < length (x ∷ y ∷ ys)
    by_order rest (inl low) =
        let most : max x g ≡ g = omega arith in
        subst (λ m. first_place m (x ∷ y ∷ ys) < length (x ∷ y ∷ ys)) (sym most)
        (subst (λ t. cond t 0 (suc (first_place g (y ∷ ys))) < length (x ∷ y ∷ ys)) (sym (ne_eqb x g (λ e. omega (arith, e)))) (omega (arith, rest)))
    by_order rest (inr high) =
        let most : max x g ≡ x = omega arith in
        subst (λ m. first_place m (x ∷ y ∷ ys) < length (x ∷ y ∷ ys)) (sym most)
        (subst (λ t. cond t 0 (suc (first_place x (y ∷ ys))) < length (x ∷ y ∷ ys)) (sym (eq-eqb x x refl)) (omega arith))

-- so a chain bends at a place between its ends
length_offs : (graph : GraphParts) (nodes : List NodeId) → length (offs_of graph nodes) ≡ length nodes - 2
length_offs graph nodes =
    length-map (slice_range nodes 1 (last_place nodes)) (λ (n : NodeId). off_of (place_of graph (node_at nodes 0)) (place_of graph (node_at nodes (last_place nodes))) (place_of graph n))
    ∙ length-take (last_place nodes - 1) (drop 1 nodes)
    ∙ ap (min (last_place nodes - 1)) (length-drop 1 nodes)
    ∙ sizes (length nodes)
  where
    sizes : (n : ℕ) → min (n - 1 - 1) (n - 1) ≡ n - 2
    sizes n = omega arith

pub offs_below : (graph : GraphParts) (nodes : List NodeId) → 2 < length nodes → first_place (greatest (offs_of graph nodes)) (offs_of graph nodes) + 2 < length nodes
offs_below graph nodes h =
    let below = stands_below (offs_of graph nodes) (omega (arith, h, length_offs graph nodes)) in
    omega (arith, below, h, length_offs graph nodes)

pub place_inside : (graph : GraphParts) (nodes : List NodeId) → 2 < length nodes → bend_place graph nodes + 1 < length nodes
place_inside graph nodes h = omega (arith, offs_below graph nodes h)

pub bent_long : (graph : GraphParts) (cell : ℕ) (nodes : List NodeId) → is_bent graph cell nodes ≡ true → 2 < length nodes
bent_long graph cell nodes e = ltb-true 2 (length nodes) (and_parts (nat_lt 2 (length nodes)) _ e).0

pub short : (graph : GraphParts) (cell : ℕ) (nodes : List NodeId) → length nodes ≤ 2 → is_bent graph cell nodes ≡ false
short graph cell nodes h =
    ap (λ t. t && (eqb (node_at nodes 0).0 (node_at nodes (last_place nodes)).0 || nat_lt (far_off graph cell nodes) (greatest (offs_of graph nodes)))) (le-ltb 2 (length nodes) h)

-- the nodes at which it bends, as so many steps of splitting find them
abbrev pub bends_by : GraphParts → ℕ → List NodeId → List NodeId → List NodeId → Bool → List NodeId
bends_by graph cell nodes before behind bent = cond bent (node_at nodes (bend_place graph nodes) ∷ (before ++ behind)) []

pub enough : (graph : GraphParts) (cell m k : ℕ) (nodes : List NodeId) → length nodes ≤ m → length nodes ≤ k → bends_of m graph cell nodes ≡ bends_of k graph cell nodes
enough graph cell zero zero nodes a b = refl
enough graph cell zero (suc k) nodes a b =
    let p = bend_place graph nodes in
    sym (ap (bends_by graph cell nodes (bends_of k graph cell (take (p + 1) nodes)) (bends_of k graph cell (drop p nodes))) (short graph cell nodes (omega arith)))
enough graph cell (suc m) zero nodes a b =
    let p = bend_place graph nodes in
    ap (bends_by graph cell nodes (bends_of m graph cell (take (p + 1) nodes)) (bends_of m graph cell (drop p nodes))) (short graph cell nodes (omega arith))
enough graph cell (suc m) (suc k) nodes a b = by_test (λ ns c d. enough graph cell m k ns c d) (is_bent graph cell nodes) refl
  where
    p : ℕ
    p = bend_place graph nodes

    of : ℕ → Bool → List NodeId
    of j t = bends_by graph cell nodes (bends_of j graph cell (take (p + 1) nodes)) (bends_of j graph cell (drop p nodes)) t

    by_test : ((ns : List NodeId) → length ns ≤ m → length ns ≤ k → bends_of m graph cell ns ≡ bends_of k graph cell ns)
        → (t : Bool) → is_bent graph cell nodes ≡ t → of m (is_bent graph cell nodes) ≡ of k (is_bent graph cell nodes)
    by_test parts false e = ap (of m) e ∙ sym (ap (of k) e)
    by_test parts true e =
        let inside = place_inside graph nodes (bent_long graph cell nodes e) in
        let first : length (take (p + 1) nodes) ≡ min (p + 1) (length nodes) = length-take (p + 1) nodes in
        let second : length (drop p nodes) ≡ length nodes - p = length-drop p nodes in
        ap (of m) e
        ∙ ap₂ (λ (x y : List NodeId). node_at nodes p ∷ (x ++ y)) (parts (take (p + 1) nodes) (omega (arith, first, inside)) (omega (arith, first, inside)))
        (parts (drop p nodes) (omega (arith, second, inside)) (omega (arith, second, inside)))
        ∙ sym (ap (of k) e)

-- corners at the nodes at which a bent chain bends
pub corners_bent : (graph : GraphParts) (cell : ℕ) (nodes : List NodeId) (corners : List Bool) → is_bent graph cell nodes ≡ true
    → fold with_corner corners (bends_of (length nodes) graph cell nodes)
    ≡ fold with_corner (fold with_corner (with_corner corners (node_at nodes (bend_place graph nodes))) (bends_of (length (take (bend_place graph nodes + 1) nodes)) graph cell (take (bend_place graph nodes + 1) nodes)))
    (bends_of (length (drop (bend_place graph nodes) nodes)) graph cell (drop (bend_place graph nodes) nodes))
corners_bent graph cell nodes corners e = of_length (length nodes) refl
  where
    p : ℕ
    p = bend_place graph nodes

    inside : p + 1 < length nodes
    inside = place_inside graph nodes (bent_long graph cell nodes e)

    first : length (take (p + 1) nodes) ≡ min (p + 1) (length nodes)
    first = length-take (p + 1) nodes

    second : length (drop p nodes) ≡ length nodes - p
    second = length-drop p nodes

    of_length : (n : ℕ) → length nodes ≡ n → fold with_corner corners (bends_of n graph cell nodes)
        ≡ fold with_corner (fold with_corner (with_corner corners (node_at nodes p)) (bends_of (length (take (p + 1) nodes)) graph cell (take (p + 1) nodes))) (bends_of (length (drop p nodes)) graph cell (drop p nodes))
    of_length zero long = absurd (omega (arith, inside, long))
    of_length (suc n) long =
        ap (λ t. fold with_corner corners (bends_by graph cell nodes (bends_of n graph cell (take (p + 1) nodes)) (bends_of n graph cell (drop p nodes)) t)) e
        ∙ fold-append with_corner (with_corner corners (node_at nodes p)) (bends_of n graph cell (take (p + 1) nodes)) (bends_of n graph cell (drop p nodes))
        ∙ ap₂ (λ (x y : List NodeId). fold with_corner (fold with_corner (with_corner corners (node_at nodes p)) x) y)
        (enough graph cell n (length (take (p + 1) nodes)) (take (p + 1) nodes) (omega (arith, first, inside, long)) (omega arith))
        (enough graph cell n (length (drop p nodes)) (drop p nodes) (omega (arith, second, inside, long)) (omega arith))

pub corners_straight : (graph : GraphParts) (cell : ℕ) (nodes : List NodeId) (corners : List Bool) → is_bent graph cell nodes ≡ false → fold with_corner corners (bends_of (length nodes) graph cell nodes) ≡ corners
corners_straight graph cell nodes corners e = of_length (length nodes)
  where
    of_length : (n : ℕ) → fold with_corner corners (bends_of n graph cell nodes) ≡ corners
    of_length zero = refl
    of_length (suc n) =
        ap (λ t. fold with_corner corners (bends_by graph cell nodes (bends_of n graph cell (take (bend_place graph nodes + 1) nodes)) (bends_of n graph cell (drop (bend_place graph nodes) nodes)) t)) e

-- the place of a bend, as it is told
pub none_bent : (t : Bool) (p : ℕ) (o : Option ℕ) → o ≡ cond t (Some p) None → o ≡ None → t ≡ false
none_bent true p o e none = cc
none_bent false p o e none = refl

pub some_bent : (t : Bool) (p q : ℕ) (o : Option ℕ) → o ≡ cond t (Some p) None → o ≡ Some q → (t ≡ true) × (q ≡ p)
some_bent true p q o e some = (refl, cc)
some_bent false p q o e some = cc

-- corners at the nodes at which it does so, part by part
pub corners_made : (graph : GraphParts) (cell : ℕ) (nodes : List NodeId) (place : ℕ) (corners first second third : List Bool) → is_bent graph cell nodes ≡ true → place ≡ bend_place graph nodes
    → first ≡ with_corner corners (node_at nodes place) → second ≡ fold with_corner first (bends_of (length (take (place + 1) nodes)) graph cell (take (place + 1) nodes))
    → third ≡ fold with_corner second (bends_of (length (drop place nodes)) graph cell (drop place nodes)) → third ≡ fold with_corner corners (bends_of (length nodes) graph cell nodes)
corners_made graph cell nodes place corners first second third bent at one two three =
    three
    ∙ ap (λ (cs : List Bool). fold with_corner cs (bends_of (length (drop place nodes)) graph cell (drop place nodes))) (two ∙ ap (λ (cs : List Bool). fold with_corner cs (bends_of (length (take (place + 1) nodes)) graph cell (take (place + 1) nodes))) one)
    ∙ ap (λ p. fold with_corner (fold with_corner (with_corner corners (node_at nodes p)) (bends_of (length (take (p + 1) nodes)) graph cell (take (p + 1) nodes))) (bends_of (length (drop p nodes)) graph cell (drop p nodes))) at
    ∙ sym (corners_bent graph cell nodes corners bent)

-- the corners of one chain more
pub bends_more : (graph : GraphParts) (cell : ℕ) (chains : List Chain) (i : ℕ) (c : Chain) (corners new whole : List Bool) → i < length chains → c ≡ get_or chains i c
    → new ≡ fold with_corner corners (chain_bends graph cell c) → fold with_corner corners (flat_map (chain_bends graph cell) (drop i chains)) ≡ whole
    → fold with_corner new (flat_map (chain_bends graph cell) (drop (i + 1) chains)) ≡ whole
bends_more graph cell chains i c corners new whole h at step e =
    ap (λ (cs : List Bool). fold with_corner cs (flat_map (chain_bends graph cell) (drop (i + 1) chains))) (step ∙ ap (λ (x : Chain). fold with_corner corners (chain_bends graph cell x)) at)
    ∙ sym (fold-append with_corner corners (chain_bends graph cell (get_or chains i c)) (flat_map (chain_bends graph cell) (drop (i + 1) chains)))
    ∙ sym (ap (λ (v : List Chain). fold with_corner corners (flat_map (chain_bends graph cell) v)) (drop_more chains i c h))
    ∙ e

pub length-corners : (ns : List NodeId) (corners : List Bool) → length (fold with_corner corners ns) ≡ length corners
length-corners [] corners = refl
length-corners (n ∷ ns) corners = length-corners ns (with_corner corners n) ∙ length-set corners n.0 true

-- what lies behind a place between the ends is shorter
pub rear_shorter : (ns : List NodeId) (p : ℕ) → 0 < p → p < length ns → length (take (length ns - p) (drop p ns)) < length ns
rear_shorter ns p some below =
    let rest : length (drop p ns) ≡ length ns - p = length-drop p ns in
    let all : length (take (length ns - p) (drop p ns)) ≡ min (length ns - p) (length (drop p ns)) = length-take (length ns - p) (drop p ns) in
    omega (arith, rest, all, some, below)
