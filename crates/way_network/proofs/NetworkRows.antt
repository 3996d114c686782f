-- What is read from the kept used edges of a network is what the network has.
use Rattle.std.proofs.Common.{◌≡◌, refl, sym, ◌∙◌, ap, subst, ℕ, zero, suc, ◌+◌, ◌-◌, ◌<◌, Bool, true, false, cond, not, ◌&&◌, ◌||◌, eqb, List, [], ◌∷◌, ◌++◌, Some, length, get_or, map, filter, All, eq-eqb, eqb-true, lt-ltb, arith}
use Rattle.std.specs.List.{find, flat_map, list_any, range_with_len}
use Rattle.std.specs.Option.{unwrap_or}
use Rattle.std.proofs.lemmas.List.Elements.{All-nil, All-cons, All-head, All-tail, All-append, All-map, All-weaker, All-filter, filter_passes}
use Rattle.std.proofs.lemmas.List.Folds.{list_any_at}
use Rattle.std.proofs.lemmas.List.FromFn.{get_or-map-range_with_len, get_or-range_with_len, length-range_with_len, length-map-range_with_len}
use Rattle.map_base.specs.declared.point.Point.{Point}
use Rattle.track_net.proofs.Lists.{range_below, list_any-filter}
use Rattle.way_network.specs.declared.edges.UsedEdge.{UsedEdge}
use Rattle.way_network.specs.Edges.{is_used}
use Rattle.way_network.specs.Chains.{Network, used_at, has_node, onward, chain_on, chain_from}
use Rattle.way_network.specs.Segments.{turns_before, put_in_order, around, last_of, first_of, second_of, chains_from, rising_chains, nodes_of, segment_chains, ends_of, lines_of, round_of}
use Rattle.way_network.specs.Tables.{edge_to, edges_from, edge_table, row_at}
use Rattle.way_network.specs.Uses.{has_number}
use Rattle.way_network.proofs.RisingLists.{has_filtered, has_below}
use Rattle.way_network.specs.Premises.{HasEndsApart, IsNetwork}
use Rattle.way_network.specs.Rows.{stands_before, point_of, row_around, other_in, walked_on, walked_from, rises_from, row_chains, all_chains, IsNeighbour, LeadAway, AllLeadAway, AreKnown, AreEdgesOver}
use Rattle.way_network.specs.Numbers.{lines_or_none, lines_to, row_lines, row_round, ends_among, number_to, EndsBelow}
use Rattle.way_network.proofs.Turning.{all_put_in}
use Rattle.way_network.proofs.Walking.{last_of_at}

-- functions that agree on each element
map_same : {A B : Type 0} (f h : A → B) (xs : List A) → All (λ x. f x ≡ h x) xs → map f xs ≡ map h xs
map_same f h [] same = refl
map_same f h (x ∷ xs) same =
    ap (λ y. y ∷ map f xs) (All-head (λ z. f z ≡ h z) x xs same) ∙ ap (λ ys. h x ∷ ys) (map_same f h xs (All-tail (λ z. f z ≡ h z) x xs same))

flat_map_same : {A B : Type 0} (f h : A → List B) (xs : List A) → All (λ x. f x ≡ h x) xs → flat_map f xs ≡ flat_map h xs
flat_map_same f h [] same = refl
flat_map_same f h (x ∷ xs) same =
    ap (λ ys. ys ++ flat_map f xs) (All-head (λ z. f z ≡ h z) x xs same) ∙ ap (λ ys. h x ++ ys) (flat_map_same f h xs (All-tail (λ z. f z ≡ h z) x xs same))

all_flat_map : {A B : Type 0} (P : B → Type 0) (f : A → List B) (xs : List A) → All (λ x. All P (f x)) xs → All P (flat_map f xs)
all_flat_map P f [] each = All-nil P
all_flat_map P f (x ∷ xs) each =
    All-append P (f x) (flat_map f xs) (All-head (λ z. All P (f z)) x xs each) (all_flat_map P f xs (All-tail (λ z. All P (f z)) x xs each))

all_put_in_order : (P : ℕ → Type 0) (before : ℕ → ℕ → Bool) (xs : List ℕ) → All P xs → All P (put_in_order before xs)
all_put_in_order P before [] each = each
all_put_in_order P before (x ∷ xs) each =
    all_put_in P before x (put_in_order before xs) (All-head P x xs each) (all_put_in_order P before xs (All-tail P x xs each))

-- a used edge leads from the one point to the other, which is known
pub record IsNext (g : Network) (p q : ℕ) : Type 0 where
  pub known : q < g.points
  pub used : is_used g.ways p q ≡ true

next_of : (g : Network) (p : ℕ) → All (IsNext g p) (used_at g p)
next_of g p k d below = record {
  known = All-filter (is_used g.ways p) (λ q. q < g.points) (range_with_len 0 g.points) (range_below g.points) k d below;
  used = filter_passes (is_used g.ways p) (range_with_len 0 g.points) k d below;
}

around_next : (points : List Point) (g : Network) (p : ℕ) → All (IsNext g p) (around points g p)
around_next points g p = all_put_in_order (IsNext g p) (turns_before points p) (used_at g p) (next_of g p)

-- the nodes are points
pub nodes_known : (g : Network) → All (λ p. p < g.points) (nodes_of g)
nodes_known g = All-filter (has_node g) (λ p. p < g.points) (range_with_len 0 g.points) (range_below g.points)

-- the rows of the table
pub length-edge_table : (g : Network) → length (edge_table g) ≡ g.points
length-edge_table g = length-map-range_with_len (edges_from g) 0 g.points

row_is : (g : Network) (p : ℕ) → p < g.points → row_at (edge_table g) p ≡ edges_from g p
row_is g p below = get_or-map-range_with_len (edges_from g) 0 g.points p p [] below (omega arith)

node_is : (g : Network) (p : ℕ) → p < g.points → has_number (nodes_of g) p ≡ has_node g p
node_is g p below =
    has_filtered (has_node g) p (range_with_len 0 g.points) ∙ ap (λ b. b && has_node g p) (has_below p g.points ∙ lt-ltb p g.points below)

ends_of_row : (g : Network) (p : ℕ) (qs : List ℕ) → map point_of (map (edge_to g p) qs) ≡ qs
ends_of_row g p [] = refl
ends_of_row g p (q ∷ qs) = ap (λ rest. q ∷ rest) (ends_of_row g p qs)

neighbours_are : (g : Network) (p : ℕ) → p < g.points → map point_of (row_at (edge_table g) p) ≡ used_at g p
neighbours_are g p below = ap (λ row. map point_of row) (row_is g p below) ∙ ends_of_row g p (used_at g p)

-- edges lead to points that are known
pub known_table : (g : Network) → AreKnown (edge_table g)
known_table g =
    let n : ℕ = length (edge_table g) in
    All-map (λ (row : List UsedEdge). All (λ (edge : UsedEdge). edge.to < n) row) (edges_from g) (range_with_len 0 g.points)
    (λ k d below. known_row n (length-edge_table g) (get_or (range_with_len 0 g.points) k d))
  where
    known_row : (n : ℕ) → n ≡ g.points → (p : ℕ) → All (λ (edge : UsedEdge). edge.to < n) (edges_from g p)
    known_row n same p =
        All-map (λ (edge : UsedEdge). edge.to < n) (edge_to g p) (used_at g p)
        (All-weaker (IsNext g p) (λ q. q < n) (λ q next. subst (λ m. q < m) (sym same) next.known) (used_at g p) (next_of g p))

-- and that lie elsewhere
pub table_leads_away : (points : List Point) (g : Network) → g.points ≡ length points → HasEndsApart points g → AllLeadAway points (edge_table g)
table_leads_away points g count apart p below =
    let known : p < g.points = omega (arith, length-edge_table g) in
    subst (λ (row : List UsedEdge). LeadAway points p row) (sym (row_is g p known))
    (All-map (λ (edge : UsedEdge). IsNeighbour points p edge.to) (edge_to g p) (used_at g p)
    (All-weaker (IsNext g p) (IsNeighbour points p) (λ q next. record { known = subst (λ m. q < m) count next.known; apart = apart p q next.used }) (used_at g p) (next_of g p)))

-- the table of a network over points of the plane
pub table_over : (points : List Point) (g : Network) → IsNetwork points g → AreEdgesOver points (edge_table g)
table_over points g network = record {
  in_plane = network.in_plane;
  row_each = length-edge_table g ∙ network.count;
  known = known_table g;
  lead_away = table_leads_away points g network.count network.apart;
}

-- where a chain goes on
onward_is : (g : Network) (from here : ℕ) → here < g.points → other_in (row_at (edge_table g) here) from here ≡ onward g from here
onward_is g from here below = ap (λ qs. unwrap_or (find (λ p. not (eqb p from)) qs) here) (neighbours_are g here below)

found_known : (n from here : ℕ) (qs : List ℕ) → All (λ q. q < n) qs → here < n → unwrap_or (find (λ p. not (eqb p from)) qs) here < n
found_known n from here [] known stays = stays
found_known n from here (q ∷ qs) known stays =
    elim (not (eqb q from)) as (λ t. unwrap_or (cond t (Some q) (find (λ p. not (eqb p from)) qs)) here < n) [
      | true ↦ All-head (λ p. p < n) q qs known
      | false ↦ found_known n from here qs (All-tail (λ p. p < n) q qs known) stays
    ]

onward_known : (g : Network) (from here : ℕ) → here < g.points → onward g from here < g.points
onward_known g from here below =
    found_known g.points from here (used_at g here) (All-weaker (IsNext g here) (λ q. q < g.points) (λ q next. next.known) (used_at g here) (next_of g here)) below

-- the chains that are walked
walked_is : (g : Network) (n from here : ℕ) → here < g.points → walked_on (edge_table g) (nodes_of g) n from here ≡ chain_on g n from here
walked_is g zero from here below = refl
walked_is g (suc n) from here below =
    ap (λ b. here ∷ cond b [] (walked_on (edge_table g) (nodes_of g) n here (other_in (row_at (edge_table g) here) from here))) (node_is g here below)
    ∙ ap (λ next. here ∷ cond (has_node g here) [] (walked_on (edge_table g) (nodes_of g) n here next)) (onward_is g from here below)
    ∙ ap (λ ps. here ∷ cond (has_node g here) [] ps) (walked_is g n here (onward g from here) (onward_known g from here below))

chain_is : (g : Network) (from here : ℕ) → here < g.points → walked_from (edge_table g) (nodes_of g) from here ≡ chain_from g from here
chain_is g from here below =
    ap (λ n. from ∷ walked_on (edge_table g) (nodes_of g) n from here) (length-edge_table g) ∙ ap (λ ps. from ∷ ps) (walked_is g g.points from here below)

around_is : (points : List Point) (g : Network) (p : ℕ) → p < g.points → row_around points p (row_at (edge_table g) p) ≡ around points g p
unfolding stands_before
around_is points g p below = ap (λ qs. put_in_order (turns_before points p) qs) (neighbours_are g p below)

rising_are : (points : List Point) (g : Network) (p : ℕ) → p < g.points → row_chains points (edge_table g) (nodes_of g) p ≡ rising_chains points g p
rising_are points g p below =
    let walked = walked_from (edge_table g) (nodes_of g) p in
    ap (λ qs. filter (rises_from p) (map walked qs)) (around_is points g p below)
    ∙ ap (λ chains. filter (rises_from p) chains) (map_same walked (chain_from g p) (around points g p)
    (All-weaker (IsNext g p) (λ q. walked q ≡ chain_from g p q) (λ q next. chain_is g p q next.known) (around points g p) (around_next points g p)))

-- the chains that are the segments
pub segments_are : (points : List Point) (g : Network) → all_chains points (edge_table g) (nodes_of g) ≡ segment_chains points g
segments_are points g =
    flat_map_same (row_chains points (edge_table g) (nodes_of g)) (rising_chains points g) (nodes_of g)
    (All-weaker (λ p. p < g.points) (λ p. row_chains points (edge_table g) (nodes_of g) p ≡ rising_chains points g p) (rising_are points g) (nodes_of g) (nodes_known g))

-- the rounds
pub rounds_are : (points : List Point) (g : Network) (chains : List (List ℕ)) →
    map (row_round points (edge_table g) chains) (nodes_of g) ≡ map (round_of points g chains) (nodes_of g)
rounds_are points g chains =
    map_same (row_round points (edge_table g) chains) (round_of points g chains) (nodes_of g)
    (All-weaker (λ p. p < g.points) (λ p. row_round points (edge_table g) chains p ≡ round_of points g chains p)
    (λ p below. ap (λ qs. map (number_to chains p) qs) (around_is points g p below)) (nodes_of g) (nodes_known g))

-- a chain of a network from a point over a used edge
pub record IsChainOf (g : Network) (chain : List ℕ) : Type 0 where
  pub first : first_of chain < g.points
  pub last : last_of chain < g.points
  pub next : IsNext g (first_of chain) (second_of chain)

points_known : (g : Network) (n from here : ℕ) → here < g.points → All (λ p. p < g.points) (chain_on g n from here)
points_known g zero from here below = All-cons (λ p. p < g.points) here [] below (All-nil (λ p. p < g.points))
points_known g (suc n) from here below =
    All-cons (λ p. p < g.points) here (cond (has_node g here) [] (chain_on g n here (onward g from here))) below
    (elim (has_node g here) as (λ t. All (λ p. p < g.points) (cond t [] (chain_on g n here (onward g from here)))) [
      | true ↦ All-nil (λ p. p < g.points)
      | false ↦ points_known g n here (onward g from here) (onward_known g from here below)
    ])

second_is : (g : Network) (n from here : ℕ) → here ≡ second_of (from ∷ chain_on g n from here)
second_is g zero from here = refl
second_is g (suc n) from here = refl

last_is : (P : ℕ → Type 0) (p : ℕ) (ps : List ℕ) → All P (p ∷ ps) → P (last_of (p ∷ ps))
last_is P p ps each = let n : ℕ = length ps in subst P (last_of_at (p ∷ ps)) (each (suc n - 1) 0 (omega arith))

is_chain : (g : Network) (p q : ℕ) → p < g.points → IsNext g p q → IsChainOf g (chain_from g p q)
is_chain g p q below next = record {
  first = below;
  last = last_is (λ r. r < g.points) p (chain_on g g.points p q) (All-cons (λ r. r < g.points) p (chain_on g g.points p q) below (points_known g g.points p q next.known));
  next = subst (IsNext g p) (second_is g g.points p q) next;
}

pub are_chains : (points : List Point) (g : Network) → All (IsChainOf g) (segment_chains points g)
are_chains points g =
    all_flat_map (IsChainOf g) (rising_chains points g) (nodes_of g)
    (All-weaker (λ p. p < g.points) (λ p. All (IsChainOf g) (rising_chains points g p)) rising (nodes_of g) (nodes_known g))
  where
    rising : (p : ℕ) → p < g.points → All (IsChainOf g) (rising_chains points g p)
    rising p below =
        All-filter (rises_from p) (IsChainOf g) (chains_from points g p)
        (All-map (IsChainOf g) (chain_from g p) (around points g p)
        (All-weaker (IsNext g p) (λ q. IsChainOf g (chain_from g p q)) (λ q next. is_chain g p q below next) (around points g p) (around_next points g p)))

-- the nodes at the ends of the segments
pub ends_are : (points : List Point) (g : Network) → map (ends_among (nodes_of g)) (segment_chains points g) ≡ map (ends_of g) (segment_chains points g)
ends_are points g = refl

pub ends_below : (points : List Point) (g : Network) → All (EndsBelow g.points) (segment_chains points g)
ends_below points g =
    All-weaker (IsChainOf g) (EndsBelow g.points) (λ chain is. record { first = is.first; last = is.last }) (segment_chains points g) (are_chains points g)

-- the lines of an edge are found in the row of its point
find_edge : (g : Network) (p q : ℕ) (qs : List ℕ) → list_any (λ x. eqb x q) qs ≡ true → find (λ (edge : UsedEdge). eqb edge.to q) (map (edge_to g p) qs) ≡ Some (edge_to g p q)
find_edge g p q [] there = absurd (cc)
find_edge g p q (x ∷ qs) there = of_test (eqb x q) refl (find_edge g p q qs)
  where
    of_test : (b : Bool) → eqb x q ≡ b → (list_any (λ y. eqb y q) qs ≡ true → find (λ (edge : UsedEdge). eqb edge.to q) (map (edge_to g p) qs) ≡ Some (edge_to g p q)) →
        find (λ (edge : UsedEdge). eqb edge.to q) (map (edge_to g p) (x ∷ qs)) ≡ Some (edge_to g p q)
    of_test true e later = ap (λ t. cond t (Some (edge_to g p x)) (find (λ (edge : UsedEdge). eqb edge.to q) (map (edge_to g p) qs))) e ∙ ap (λ y. Some (edge_to g p y)) (eqb-true x q e)
    of_test false e later =
        ap (λ t. cond t (Some (edge_to g p x)) (find (λ (edge : UsedEdge). eqb edge.to q) (map (edge_to g p) qs))) e
        ∙ later (sym (ap (λ t. t || list_any (λ y. eqb y q) qs) e) ∙ there)

used_found : (g : Network) (p q : ℕ) → IsNext g p q → list_any (λ x. eqb x q) (used_at g p) ≡ true
used_found g p q next =
    let below : q < length (range_with_len 0 g.points) = subst (λ n. q < n) (sym (length-range_with_len 0 g.points)) next.known in
    let here : get_or (range_with_len 0 g.points) q 0 ≡ q = get_or-range_with_len 0 g.points q 0 next.known ∙ none_more q in
    list_any-filter (λ x. eqb x q) (is_used g.ways p) (λ x e. ap (λ y. is_used g.ways p y) (eqb-true x q e) ∙ next.used) (range_with_len 0 g.points)
    ∙ list_any_at (λ x. eqb x q) (range_with_len 0 g.points) q 0 below (eq-eqb (get_or (range_with_len 0 g.points) q 0) q here)
  where
    none_more : (n : ℕ) → 0 + n ≡ n
    none_more n = omega arith

-- the lines of the segments
pub lines_are : (points : List Point) (g : Network) → map (row_lines (edge_table g)) (segment_chains points g) ≡ map (lines_of g) (segment_chains points g)
lines_are points g =
    map_same (row_lines (edge_table g)) (lines_of g) (segment_chains points g)
    (All-weaker (IsChainOf g) (λ chain. row_lines (edge_table g) chain ≡ lines_of g chain) one (segment_chains points g) (are_chains points g))
  where
    one : (chain : List ℕ) → IsChainOf g chain → row_lines (edge_table g) chain ≡ lines_of g chain
    one chain is =
        ap (λ row. lines_to row (second_of chain)) (row_is g (first_of chain) is.first)
        ∙ ap lines_or_none (find_edge g (first_of chain) (second_of chain) (used_at g (first_of chain)) (used_found g (first_of chain) (second_of chain) is.next))
