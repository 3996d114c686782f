-- Groups that are listed one after another, and their attempts.
use Rattle.std.proofs.Common.{◌≡◌, refl, sym, ◌∙◌, ap, ℕ, zero, suc, ◌+◌, ◌<◌, Bool, true, false, cond, List, [], ◌∷◌, ◌++◌, length, filter, map, drop, get_or, append_assoc, append-nil, arith}
use Rattle.std.proofs.lemmas.Bool.{ne_eqb}
use Rattle.std.proofs.lemmas.List.{drop_more, flat_map_more}
use Rattle.std.proofs.lemmas.List.Elements.{filter-append}
use Rattle.std.proofs.lemmas.List.FromFn.{map-range_with_len_more}
use Rattle.std.specs.List.{flat_map}
use Rattle.std.specs.Prelude.{All}
use Rattle.map_base.specs.declared.ids.NodeId.{NodeId}
use Rattle.map_base.specs.declared.ids.SegId.{SegId}
use Rattle.graph_core.specs.declared.parts.GraphParts.{GraphParts}
use Rattle.graph_core.specs.Consistent.{IsConsistent}
use Rattle.line_chains.specs.declared.chain.Chain.{Chain}
use Rattle.line_chains.specs.Chains.{end_of, ends_of, is_corner}
use Rattle.octi_grid.specs.declared.dir.Dir.TheVariants as dir
use Rattle.segment_router.proofs.Places.{in_at}
use Rattle.run_laying.specs.Attempts.{run_of, Attempt}
use Rattle.run_laying.specs.Searches.{attempts_alone, attempts_by}
use Rattle.drawing_search.specs.declared.group.Group.{Group}
use Rattle.drawing_search.specs.Changes.{AreApart}
use Rattle.drawing_search.specs.Searched.{attempts_in, attempts_of}
use Rattle.kept_walks.specs.Groups.{all_nodes}
use Rattle.kept_walks.specs.Straightening.{single_runs}
use Rattle.kept_walks.proofs.Serving.{single_is}

-- a group whose nodes move
abbrev at_rest : Group → List Attempt
at_rest g = record { nodes = g.nodes; dir = dir.N; count = 0; runs = g.runs } ∷ []

pub attempts_moved : (g : Group) → 0 < g.lengths → attempts_in g ≡ attempts_by g.lengths g.nodes g.runs
attempts_moved g some =
    ap (λ b. cond b (at_rest g) (attempts_by g.lengths g.nodes g.runs)) (ne_eqb g.lengths 0 (λ e. omega (arith, e, some)))

pub one_group_more : (gs : List Group) (g : Group) → attempts_of (gs ++ g ∷ []) ≡ attempts_of gs ++ attempts_in g
one_group_more gs g = sym (flat_map_more attempts_in [] gs g)

-- a group for each of some
pub push_more : {X : Type 0} (F : X → List Attempt) (xs : List X) (i : ℕ) (d : X) (gs new : List Group) (g : Group) → i < length xs → attempts_in g ≡ F (get_or xs i d) → new ≡ gs ++ g ∷ []
    → attempts_of new ++ flat_map F (drop (i + 1) xs) ≡ attempts_of gs ++ flat_map F (drop i xs)
push_more F xs i d gs new g h is pushed =
    ap (λ (v : List Group). attempts_of v ++ flat_map F (drop (i + 1) xs)) pushed
    ∙ ap (λ (v : List Attempt). v ++ flat_map F (drop (i + 1) xs)) (one_group_more gs g ∙ ap (λ (v : List Attempt). attempts_of gs ++ v) is)
    ∙ append_assoc (attempts_of gs) (F (get_or xs i d)) (flat_map F (drop (i + 1) xs))
    ∙ sym (ap (λ ys. attempts_of gs ++ flat_map F ys) (drop_more xs i d h))

-- each by itself
abbrev pub alone : Chain → List Attempt
alone c = attempts_alone c ∷ []

pub all_alone : (cs : List Chain) → flat_map alone cs ≡ map attempts_alone cs
all_alone [] = refl
all_alone (c ∷ cs) = ap (λ (v : List Attempt). attempts_alone c ∷ v) (all_alone cs)

-- nodes by their numbers
pub one_node_more : (n : ℕ) → all_nodes (n + 1) ≡ all_nodes n ++ record { 0 = n } ∷ []
one_node_more n = map-range_with_len_more (λ i. (let m : NodeId = record { 0 = i } in m)) 0 n n (omega arith)

-- a group for each node
pub push_node_more : (F : NodeId → List Attempt) (old : List Attempt) (gs new : List Group) (g : Group) (n : ℕ) → attempts_of gs ≡ old ++ flat_map F (all_nodes n) → attempts_in g ≡ F (record { 0 = n }) → new ≡ gs ++ g ∷ []
    → attempts_of new ≡ old ++ flat_map F (all_nodes (n + 1))
push_node_more F old gs new g n before is pushed =
    ap attempts_of pushed
    ∙ one_group_more gs g
    ∙ ap (λ (v : List Attempt). v ++ attempts_in g) before
    ∙ ap (λ (v : List Attempt). (old ++ flat_map F (all_nodes n)) ++ v) is
    ∙ flat_map_more F old (all_nodes n) (record { 0 = n })
    ∙ ap (λ (ns : List NodeId). old ++ flat_map F ns) (sym (one_node_more n))

-- or for each that is a corner
corners_split : (corners : List Bool) (n : ℕ) (b : Bool) → is_corner corners (record { 0 = n }) ≡ b
    → filter (is_corner corners) (all_nodes (n + 1)) ≡ cond b (filter (is_corner corners) (all_nodes n) ++ record { 0 = n } ∷ []) (filter (is_corner corners) (all_nodes n))
corners_split corners n b e =
    ap (filter (is_corner corners)) (one_node_more n)
    ∙ filter-append (is_corner corners) (all_nodes n) (record { 0 = n } ∷ [])
    ∙ ap (λ t. filter (is_corner corners) (all_nodes n) ++ cond t (record { 0 = n } ∷ []) []) e
    ∙ by_test b
  where
    by_test : (t : Bool) → filter (is_corner corners) (all_nodes n) ++ cond t (record { 0 = n } ∷ []) [] ≡ cond t (filter (is_corner corners) (all_nodes n) ++ record { 0 = n } ∷ []) (filter (is_corner corners) (all_nodes n))
    by_test true = refl
    by_test false = append-nil (filter (is_corner corners) (all_nodes n))

pub corner_more : (corners : List Bool) (F : NodeId → List Attempt) (old before new : List Attempt) (n : ℕ) → before ≡ old ++ flat_map F (filter (is_corner corners) (all_nodes n))
    → new ≡ before ++ cond (is_corner corners (record { 0 = n })) (F (record { 0 = n })) [] → new ≡ old ++ flat_map F (filter (is_corner corners) (all_nodes (n + 1)))
corner_more corners F old before new n so_far is =
    is
    ∙ ap (λ (v : List Attempt). v ++ cond (is_corner corners (record { 0 = n })) (F (record { 0 = n })) []) so_far
    ∙ by_test (is_corner corners (record { 0 = n }))
    ∙ ap (λ (ns : List NodeId). old ++ flat_map F ns) (sym (corners_split corners n (is_corner corners (record { 0 = n })) refl))
  where
    by_test : (b : Bool) → (old ++ flat_map F (filter (is_corner corners) (all_nodes n))) ++ cond b (F (record { 0 = n })) []
        ≡ old ++ flat_map F (cond b (filter (is_corner corners) (all_nodes n) ++ record { 0 = n } ∷ []) (filter (is_corner corners) (all_nodes n)))
    by_test true = flat_map_more F old (filter (is_corner corners) (all_nodes n)) (record { 0 = n })
    by_test false = append-nil (old ++ flat_map F (filter (is_corner corners) (all_nodes n)))

-- all groups of a pass
pub all_pushed : (a b c d e f u v w x y : List Attempt) → a ≡ [] → b ≡ a ++ u → c ≡ b ++ v → d ≡ c ++ w → e ≡ d ++ x → f ≡ e ++ y → f ≡ u ++ ((v ++ w) ++ (x ++ y))
all_pushed a b c d e f u v w x y none first second third fourth fifth =
    fifth
    ∙ ap (λ (z : List Attempt). z ++ y) (fourth ∙ ap (λ (z : List Attempt). z ++ x) (third ∙ ap (λ (z : List Attempt). z ++ w) (second ∙ ap (λ (z : List Attempt). z ++ v) (first ∙ ap (λ (z : List Attempt). z ++ u) none))))
    ∙ regroup
  where
    regroup : (((u ++ v) ++ w) ++ x) ++ y ≡ u ++ ((v ++ w) ++ (x ++ y))
    regroup = simp append_assoc

-- a node alone, or two, are apart
pub one_apart : (n : NodeId) → AreApart (n ∷ [])
one_apart n = (λ m there same. absurd (omega (arith, there.1)), tt)

pub two_apart : (n m : NodeId) → (n.0 ≡ m.0 → ⊥) → AreApart (n ∷ m ∷ [])
two_apart n m apart = (λ k there same. by_place there.0 there.1 there.2 same, one_apart m)
  where
    by_place : {k : NodeId} (i : ℕ) → i < 1 → get_or (m ∷ []) i k ≡ k → k.0 ≡ n.0 → ⊥
    by_place zero h at same = apart (sym same ∙ ap (λ (x : NodeId). x.0) (sym at))
    by_place (suc i) h at same = absurd (omega (arith, h))

-- the ends of a segment are two nodes
pub singles_apart : (graph : GraphParts) → IsConsistent graph → All (λ (c : Chain). c.from.0 ≡ (end_of c).0 → ⊥) (single_runs graph)
singles_apart graph fit = λ i d below. by_segment (get_or (single_runs graph) i d) (single_is graph (get_or (single_runs graph) i d) (in_at (single_runs graph) i d below))
  where
    by_segment : (c : Chain) → (s : SegId) × (s.0 < length graph.ends) × (c ≡ run_of graph s) → c.from.0 ≡ (end_of c).0 → ⊥
    by_segment c (s, h, is) same =
        let order = (fit.ends s.0 (record { 0 = 0 }, record { 0 = 0 }) h).0 in
        let ends : (ends_of graph s).0.0 ≡ (ends_of graph s).1.0 = ap (λ (x : Chain). x.from.0) (sym is) ∙ same ∙ ap (λ (x : Chain). (end_of x).0) is in
        omega (arith, order, ends)
