-- The attempts of a pass fit the graph: nodes that move have all their segments on the runs that end at them.
use Rattle.std.proofs.Common.{◌≡◌, refl, sym, ◌∙◌, ap, subst, ℕ, zero, suc, ◌+◌, ◌*◌, ◌%◌, ◌<◌, ◌≤◌, Bool, true, false, cond, eqb, ◌||◌, List, [], ◌∷◌, ◌++◌, length, filter, map, get_or, ◌⊎◌, inl, inr, arith}
use Rattle.std.proofs.lemmas.Bool.{eq-eqb, eqb-true, or_left, or_right, true≢false, cond_both}
use Rattle.std.specs.List.{flat_map, list_any, range_with_len}
use Rattle.std.specs.Prelude.{All}
use Rattle.map_base.specs.declared.ids.NodeId.{NodeId}
use Rattle.map_base.specs.declared.ids.SegId.{SegId}
use Rattle.graph_core.specs.declared.parts.GraphParts.{GraphParts}
use Rattle.graph_core.specs.Consistent.{IsConsistent}
use Rattle.line_chains.specs.declared.chain.Chain.{Chain}
use Rattle.line_chains.specs.declared.chain.ChainStep.{ChainStep}
use Rattle.line_chains.specs.Bends.{corners_of}
use Rattle.line_chains.specs.Chains.{chains_of, end_of, ends_of, is_corner, nodes_of, round_of}
use Rattle.octi_grid.specs.declared.dir.Dir.{Dir}
use Rattle.octi_grid.proofs.Members.{any_at, any_from, from_flat_map, in_append, false_from, In}
use Rattle.segment_router.proofs.Places.{in_at}
use Rattle.segment_router.proofs.RouteLemmas.{in_filter}
use Rattle.run_laying.specs.Attempts.{has_node, inner_nodes, is_inner, is_on_runs, run_of, Attempt}
use Rattle.run_laying.specs.Runs.{AreBeside, IsBeside, IsFitting, IsRun}
use Rattle.run_laying.specs.Searches.{attempts_alone, attempts_of_length}
use Rattle.walk_search.specs.Routes.{directions}
use Rattle.drawing_search.proofs.Takable.{from_map, in_from}
use Rattle.kept_walks.specs.Moves.{move_attempts}
use Rattle.kept_walks.specs.Straightening.{moves_of, moves_over, runs_at, single_runs, straight_attempts}
use Rattle.kept_walks.proofs.ChainRuns.{chain_is, chain_run, chain_way, corner_chains_beside, corners_has, from_range}
use Rattle.kept_walks.proofs.Ways.{HasCorners}
use Rattle.kept_walks.proofs.Serving.{corner_served, node_served, single_is, EndsAt, IsServed}

-- ---- attempts by nodes that are served

to_filter : {X : Type 0} (test : X → Bool) (xs : List X) (x : X) → In x xs → test x ≡ true → In x (filter test xs)
to_filter test [] x i e = absurd i
to_filter test (y ∷ ys) x (inl same) e = subst (λ b. In x (cond b (y ∷ filter test ys) (filter test ys))) (sym (ap test (sym same) ∙ e)) (inl same)
to_filter test (y ∷ ys) x (inr i) e =
    let later = to_filter test ys x i e in
    cond_both (test y) (y ∷ filter test ys) (filter test ys) (In x) (λ b. inr later) (λ b. later)

pub all_of : {X : Type 0} (P : X → Type 0) (xs : List X) → ((x : X) → In x xs → P x) → All P xs
all_of P xs each = λ k d h. each (get_or xs k d) (in_at xs k d h)

filter_beside : (test : Chain → Bool) (cs : List Chain) → AreBeside cs → AreBeside (filter test cs)
filter_beside test [] beside = tt
filter_beside test (c ∷ cs) beside =
    let rest = filter_beside test cs beside.1 in
    cond_both (test c) (c ∷ filter test cs) (filter test cs) AreBeside (λ b. (off, rest)) (λ b. rest)
  where
    off : IsBeside (filter test cs) c
    off t there = false_from (is_on_runs (filter test cs) t.seg.0) (λ e. by_run (any_at (λ (d : Chain). list_any (λ (u : ChainStep). eqb u.seg.0 t.seg.0) d.steps) (filter test cs) e))
      where
        by_run : (d : Chain) × In d (filter test cs) × (list_any (λ (u : ChainStep). eqb u.seg.0 t.seg.0) d.steps ≡ true) → ⊥
        by_run (d, i, e) = true≢false (sym (any_from (λ (x : Chain). list_any (λ (u : ChainStep). eqb u.seg.0 t.seg.0) x.steps) cs d (in_filter test cs d i).1 e) ∙ beside.0 t there)

module _ (graph : GraphParts) (fit : IsConsistent graph) (runs : List Chain) (run : (c : Chain) → In c runs → IsRun graph c) (beside : AreBeside runs) where
  -- nodes that are served move by an even number of steps
  served_fitting : (nodes : List NodeId) (d : Dir) (count : ℕ) → ((n : NodeId) → In n nodes → IsServed graph runs n) → count % 2 ≡ 0 → IsFitting graph (record { nodes = nodes; dir = d; count = count; runs = runs_at nodes runs })
  served_fitting nodes d count served even = record {
    runs = all_of (IsRun graph) (runs_at nodes runs) (λ c i. run c (in_filter test runs c i).1);
    beside = filter_beside test runs beside;
    nodes = all_of (λ (n : NodeId). n.0 < length graph.kinds) nodes (λ n i. (served n i).node);
    ends = all_of (λ (n : NodeId). is_inner (runs_at nodes runs) n.0 ≡ false) nodes (λ n i. outer n i);
    all = all_of (λ (n : NodeId). All (λ (s : SegId). is_on_runs (runs_at nodes runs) s.0 ≡ true) (round_of graph n)) nodes (λ n i. all_of (λ (s : SegId). is_on_runs (runs_at nodes runs) s.0 ≡ true) (round_of graph n) (λ s j. on n i s j));
    even = even;
  }
    where
      test : Chain → Bool
      test c = has_node nodes c.from.0 || has_node nodes (end_of c).0

      outer : (n : NodeId) → In n nodes → is_inner (runs_at nodes runs) n.0 ≡ false
      outer n i = false_from (is_inner (runs_at nodes runs) n.0) (λ e. by_run (any_at (λ (c : Chain). has_node (inner_nodes c.steps) n.0) (runs_at nodes runs) e))
        where
          by_run : (c : Chain) × In c (runs_at nodes runs) × (has_node (inner_nodes c.steps) n.0 ≡ true) → ⊥
          by_run (c, j, e) =
              let at = any_at (λ (m : NodeId). eqb m.0 n.0) (inner_nodes c.steps) e in
              (served n i).outer c (in_filter test runs c j).1 at.0 at.1 (eqb-true at.0.0 n.0 at.2)

      there : (n : NodeId) → In n nodes → has_node nodes n.0 ≡ true
      there n i = any_from (λ (m : NodeId). eqb m.0 n.0) nodes n i (eq-eqb n.0 n.0 refl)

      ends_there : (n : NodeId) → In n nodes → (c : Chain) → EndsAt n c → test c ≡ true
      ends_there n i c (inl e) = or_left (has_node nodes c.from.0) (has_node nodes (end_of c).0) (ap (λ (m : NodeId). has_node nodes m.0) e ∙ there n i)
      ends_there n i c (inr e) = or_right (has_node nodes c.from.0) (has_node nodes (end_of c).0) (ap (λ (m : NodeId). has_node nodes m.0) e ∙ there n i)

      on : (n : NodeId) → In n nodes → (s : SegId) → In s (round_of graph n) → is_on_runs (runs_at nodes runs) s.0 ≡ true
      on n i s j =
          let found = (served n i).on s j in
          any_from (λ (c : Chain). list_any (λ (t : ChainStep). eqb t.seg.0 s.0) c.steps) (runs_at nodes runs) found.0 (to_filter test runs found.0 found.1 (ends_there n i found.0 found.2))
          (any_from (λ (t : ChainStep). eqb t.seg.0 s.0) found.0.steps found.3.0 found.3.1 (eq-eqb found.3.0.seg.0 s.0 (ap (λ (x : SegId). x.0) found.3.2)))

  moves_fitting : (lengths : ℕ) (nodes : List NodeId) → ((n : NodeId) → In n nodes → IsServed graph runs n) → (a : Attempt) → In a (moves_of lengths runs nodes) → IsFitting graph a
  moves_fitting lengths nodes served a i =
      let length_of = from_flat_map (λ k. attempts_of_length nodes (runs_at nodes runs) (2 * (k + 1))) (range_with_len 0 lengths) a i in
      let by_dir = from_map (λ d. (let x : Attempt = record { nodes = nodes; dir = d; count = 2 * (length_of.0 + 1); runs = runs_at nodes runs } in x)) directions a length_of.2 in
      subst (IsFitting graph) (sym by_dir.2) (served_fitting nodes by_dir.0 (2 * (length_of.0 + 1)) served (omega arith))

  one : (n : NodeId) → IsServed graph runs n → (m : NodeId) → In m (n ∷ []) → IsServed graph runs m
  one n s m (inl e) = subst (IsServed graph runs) (sym e) s
  one n s m (inr none) = absurd none

  -- each node by itself
  pub each_fitting : (lengths : ℕ) (nodes : List NodeId) → ((n : NodeId) → In n nodes → IsServed graph runs n) → (a : Attempt) → In a (flat_map (λ n. moves_of lengths runs (n ∷ [])) nodes) → IsFitting graph a
  each_fitting lengths nodes served a i =
      let at = from_flat_map (λ n. moves_of lengths runs (n ∷ [])) nodes a i in moves_fitting lengths (at.0 ∷ []) (one at.0 (served at.0 at.1)) a at.2

  -- and then the two ends of each run
  pub over_fitting : (nodes : List NodeId) → ((n : NodeId) → In n nodes → IsServed graph runs n) → ((c : Chain) → In c runs → IsServed graph runs c.from × IsServed graph runs (end_of c)) → (a : Attempt) → In a (moves_over runs nodes) → IsFitting graph a
  over_fitting nodes served ends a i = elim (in_append a (flat_map (λ n. moves_of 4 runs (n ∷ [])) nodes) (flat_map (λ (c : Chain). moves_of 4 runs (c.from ∷ end_of c ∷ [])) runs) i) [
    | inl j ↦ each_fitting 4 nodes served a j
    | inr j ↦ (let at = from_flat_map (λ (c : Chain). moves_of 4 runs (c.from ∷ end_of c ∷ [])) runs a j in
        let two = ends at.0 at.1 in
        moves_fitting 4 (at.0.from ∷ end_of at.0 ∷ []) (both at.0.from (end_of at.0) two.0 two.1) a at.2)
  ]
    where
      both : (n k : NodeId) → IsServed graph runs n → IsServed graph runs k → (m : NodeId) → In m (n ∷ k ∷ []) → IsServed graph runs m
      both n k s t m (inl e) = subst (IsServed graph runs) (sym e) s
      both n k s t m (inr (inl e)) = subst (IsServed graph runs) (sym e) t
      both n k s t m (inr (inr none)) = absurd none

-- ---- all attempts of a pass

alone_fitting : (graph : GraphParts) (c : Chain) → IsRun graph c → IsFitting graph (attempts_alone c)
alone_fitting graph c run = record {
  runs =
      all_of (IsRun graph) (c ∷ [])
      (λ d i. elim i [ inl e ↦ subst (IsRun graph) (sym e) run | inr none ↦ absurd none ]);
  beside = ((λ t there. refl), tt);
  nodes = λ k d h. absurd (omega (arith, h));
  ends = λ k d h. absurd (omega (arith, h));
  all = λ k d h. absurd (omega (arith, h));
  even = refl;
}

single_run : (graph : GraphParts) → IsConsistent graph → (s : SegId) → s.0 < length graph.ends → IsRun graph (run_of graph s)
single_run graph fit s below =
    let are = fit.ends s.0 (record { 0 = 0 }, record { 0 = 0 }) below in
    record { some = omega arith; steps = (below, inl refl); once = ((λ u there e. in_from [] u there), tt); apart = λ e. omega (arith, e, are.0) }

singles_beside : (graph : GraphParts) (a k : ℕ) → AreBeside (map (λ s. run_of graph (record { 0 = s })) (range_with_len a k))
singles_beside graph a zero = tt
singles_beside graph a (suc k) = (off, singles_beside graph (a + 1) k)
  where
    off : IsBeside (map (λ s. run_of graph (record { 0 = s })) (range_with_len (a + 1) k)) (run_of graph (record { 0 = a }))
    off t there = false_from (is_on_runs (map (λ s. run_of graph (record { 0 = s })) (range_with_len (a + 1) k)) t.seg.0) (λ e. by_run (any_at (λ (c : Chain). list_any (λ (u : ChainStep). eqb u.seg.0 t.seg.0) c.steps) (map (λ s. run_of graph (record { 0 = s })) (range_with_len (a + 1) k)) e))
      where
        own : t.seg.0 ≡ a
        own =
            elim (in_from (record { seg = record { 0 = a }; to = (ends_of graph (record { 0 = a })).1 } ∷ []) t there) [
              | inl e ↦ ap (λ (x : ChainStep). x.seg.0) e
              | inr none ↦ absurd none
            ]

        from_later : (b m : ℕ) (x : ℕ) → In x (range_with_len b m) → b ≤ x
        from_later b zero x i = absurd i
        from_later b (suc m) x (inl e) = omega (arith, e)
        from_later b (suc m) x (inr i) = omega (arith, from_later (b + 1) m x i)

        by_run : (c : Chain) × In c (map (λ s. run_of graph (record { 0 = s })) (range_with_len (a + 1) k)) × (list_any (λ (u : ChainStep). eqb u.seg.0 t.seg.0) c.steps ≡ true) → ⊥
        by_run (c, i, e) =
            let at = from_map (λ s. run_of graph (record { 0 = s })) (range_with_len (a + 1) k) c i in
            let low = from_later (a + 1) k at.0 at.1 in
            let there_too : list_any (λ (u : ChainStep). eqb u.seg.0 t.seg.0) (run_of graph (record { 0 = at.0 })).steps ≡ true = ap (λ (x : Chain). list_any (λ (u : ChainStep). eqb u.seg.0 t.seg.0) x.steps) (sym at.2) ∙ e in
            let same = eqb-true at.0 t.seg.0 (first_true (eqb at.0 t.seg.0) there_too) in
            omega (arith, same, own, low)
          where
            first_true : (b : Bool) → (b || false) ≡ true → b ≡ true
            first_true true f = refl
            first_true false f = f

node_of : (graph : GraphParts) (n : NodeId) → In n (nodes_of graph) → n.0 < length graph.kinds
node_of graph n j = let r = from_range 0 (length graph.kinds) n j in omega (arith, r.1)

module _ (graph : GraphParts) (fit : IsConsistent graph) where
  singles_run : (c : Chain) → In c (single_runs graph) → IsRun graph c
  singles_run c k = let at = single_is graph c k in subst (IsRun graph) (sym at.2) (single_run graph fit at.0 at.1)

  pub all_moves_fit : All (IsFitting graph) (move_attempts graph)
  all_moves_fit =
      all_of (IsFitting graph) (move_attempts graph)
      (each_fitting graph fit (single_runs graph) singles_run (singles_beside graph 0 (length graph.ends)) 1 (nodes_of graph)
      (λ n k. node_served graph fit n (node_of graph n k)))

module _ (graph : GraphParts) (fit : IsConsistent graph) (cell : ℕ) where
  abbrev corners : List Bool
  corners = corners_of graph cell

  has : HasCorners graph corners
  has = corners_has graph fit cell

  chain_ends : (c : Chain) → In c (chains_of graph corners) → IsServed graph (chains_of graph corners) c.from × IsServed graph (chains_of graph corners) (end_of c)
  chain_ends c i =
      let run = chain_run graph fit cell c i in
      let w = chain_way graph fit corners has c (chain_is graph corners c i) in
      (corner_served graph fit corners has c.from run.1 w.from, corner_served graph fit corners has (end_of c) run.2 w.end)

  single_ends : (c : Chain) → In c (single_runs graph) → IsServed graph (single_runs graph) c.from × IsServed graph (single_runs graph) (end_of c)
  single_ends c i =
      let at = single_is graph c i in
      let are = fit.ends at.0.0 (record { 0 = 0 }, record { 0 = 0 }) at.1 in
      subst (λ (x : Chain). IsServed graph (single_runs graph) x.from × IsServed graph (single_runs graph) (end_of x)) (sym at.2)
      (node_served graph fit (ends_of graph at.0).0 (omega (arith, are.0, are.1)), node_served graph fit (ends_of graph at.0).1 (omega (arith, are.1)))

  pub straight_fitting : (a : Attempt) → In a (straight_attempts graph (corners_of graph cell)) → IsFitting graph a
  straight_fitting a i = elim (in_append a (map attempts_alone (chains_of graph corners)) (moves_over (chains_of graph corners) (filter (is_corner corners) (nodes_of graph)) ++ moves_over (single_runs graph) (nodes_of graph)) i) [
    | inl j ↦ (let at = from_map attempts_alone (chains_of graph corners) a j in subst (IsFitting graph) (sym at.2) (alone_fitting graph at.0 (chain_run graph fit cell at.0 at.1).0))
    | inr j ↦ by_rest (in_append a (moves_over (chains_of graph corners) (filter (is_corner corners) (nodes_of graph))) (moves_over (single_runs graph) (nodes_of graph)) j)
  ]
    where
      by_rest : In a (moves_over (chains_of graph corners) (filter (is_corner corners) (nodes_of graph))) ⊎ In a (moves_over (single_runs graph) (nodes_of graph)) → IsFitting graph a
      by_rest (inl j) =
          over_fitting graph fit (chains_of graph corners) (λ c k. (chain_run graph fit cell c k).0) (corner_chains_beside graph fit cell) (filter (is_corner corners) (nodes_of graph))
          (λ n k. (let there = in_filter (is_corner corners) (nodes_of graph) n k in corner_served graph fit corners has n (node_of graph n there.1) there.0)) chain_ends a j
      by_rest (inr j) =
          over_fitting graph fit (single_runs graph) (singles_run graph fit) (singles_beside graph 0 (length graph.ends)) (nodes_of graph)
          (λ n k. node_served graph fit n (node_of graph n k)) single_ends a j

  pub all_fitting : All (IsFitting graph) (straight_attempts graph (corners_of graph cell))
  all_fitting = all_of (IsFitting graph) (straight_attempts graph (corners_of graph cell)) straight_fitting
