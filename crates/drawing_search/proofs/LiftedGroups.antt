-- A group is taken off a whole drawing: its runs one after another, then its nodes; and each run gets its bounds.
use Rattle.std.proofs.Common.{◌≡◌, sym, ◌∙◌, ap, ap₂, subst, ℕ, ◌+◌, ◌<◌, ◌≤◌, true, List, [], ◌∷◌, ◌++◌, length, fold, map, take, get_or, arith, length-append}
use Rattle.std.proofs.lemmas.List.Elements.{All-push}
use Rattle.drawing_search.proofs.Common.{apart_in, attempts_in, flat_map, flat_map_more, fold_more, in_at, is_near}
use Rattle.drawing_search.proofs.Common.{is_standing, lifted, map_more, nowhere, point_of_node, points_along, put_back}
use Rattle.drawing_search.proofs.Common.{run_gain, scale_of, sketch_weight, stands_below, take_all, take_more}
use Rattle.drawing_search.proofs.Common.{taken_off, walks_along, without_run, All, AreAlike, AreApart, CanPutBack}
use Rattle.drawing_search.proofs.Common.{Chain, GraphParts, GridPoint, Group, HaveLeast, IsField, IsFitting, IsLeastOf}
use Rattle.drawing_search.proofs.Common.{IsLegalSketch, IsLifted, IsRun, IsSettled, IsSmallLeast, IsTakable, LeastTurns}
use Rattle.drawing_search.proofs.Common.{Lifted, NodeId, PlainWalk, Scale, SegId, Sketch}
use Rattle.drawing_search.proofs.Lifts.{all_liftable, can_put_back, legal_then, lifted_at, node_weighs, off_alike, put_back_is, run_weighs_then, same_points_along, same_walks_along, taken, IsGroup}
use Rattle.drawing_search.proofs.Takable.{stands_near}
use Rattle.drawing_search.proofs.TakenBack.{lift_legal, lift_points, runs_points}
use Rattle.drawing_search.specs.declared.gains.Field.{Field}
use Rattle.drawing_search.proofs.TriedGroups.{group_is}

-- one run more has its bounds
have_push : (scale : Scale) (graph : GraphParts) (k : Sketch) (cs : List Chain) (ls : List LeastTurns) (c : Chain) (l : LeastTurns) → length ls ≡ length cs → HaveLeast scale graph k cs ls → IsLeastOf scale graph k c l → HaveLeast scale graph k (cs ++ c ∷ []) (ls ++ l ∷ [])
have_push scale graph k [] [] c l each have one = (one, tt)
have_push scale graph k [] (m ∷ ms) c l each have one = absurd (omega (arith, each))
have_push scale graph k (d ∷ cs) [] c l each have one = absurd have
have_push scale graph k (d ∷ cs) (m ∷ ms) c l each have one = (have.0, have_push scale graph k cs ms c l (omega (arith, each)) have.1 one)

-- these runs were taken off, and these nodes
pub record AreLifted (scale : Scale) (graph : GraphParts) (first : List GridPoint) (old : Sketch) (cs : List Chain) (ns : List NodeId) (k : Sketch) (l : Lifted) : Type 0 where
  pub sketch : k ≡ fold lifted (fold without_run old cs) ns
  pub walks : l.walks.items ≡ flat_map (λ (c : Chain). walks_along old c.steps) cs
  pub inner : l.inner.items ≡ flat_map (λ (c : Chain). points_along old c.steps) cs
  pub moved : l.moved.items ≡ map (λ (n : NodeId). (n, point_of_node old n.0)) ns
  pub rest : l.rest ≡ sketch_weight scale graph first k
  pub light : l.rest ≤ sketch_weight scale graph first old
  pub least : l.least.items ≡ []

-- so many runs were taken off, or all of them and so many nodes
abbrev pub AreRunsLifted : Scale → GraphParts → List GridPoint → Sketch → List Chain → ℕ → Sketch → Lifted → Type 0
AreRunsLifted scale graph first old runs i k l = AreLifted scale graph first old (take i runs) [] k l

abbrev pub AreNodesLifted : Scale → GraphParts → List GridPoint → Sketch → List NodeId → List Chain → ℕ → Sketch → Lifted → Type 0
AreNodesLifted scale graph first old nodes runs i k l = AreLifted scale graph first old runs (take i nodes) k l

-- all of it is off, and so many runs have their bounds
pub record AreLeastLifted (scale : Scale) (graph : GraphParts) (first : List GridPoint) (old : Sketch) (nodes : List NodeId) (runs : List Chain) (i : ℕ) (k : Sketch) (l : Lifted) : Type 0 where
  pub sketch : k ≡ fold lifted (fold without_run old runs) nodes
  pub walks : l.walks.items ≡ flat_map (λ (c : Chain). walks_along old c.steps) runs
  pub inner : l.inner.items ≡ flat_map (λ (c : Chain). points_along old c.steps) runs
  pub moved : l.moved.items ≡ map (λ (n : NodeId). (n, point_of_node old n.0)) nodes
  pub rest : l.rest ≡ sketch_weight scale graph first k
  pub light : l.rest ≤ sketch_weight scale graph first old
  pub each : length l.least.items ≡ length (take i runs)
  pub least : HaveLeast scale graph k (take i runs) l.least.items
  pub small : All IsSmallLeast l.least.items

-- what is known of a node that is taken off next
pub record IsNodeReady (graph : GraphParts) (k : Sketch) (n : NodeId) : Type 0 where
  pub legal : IsLegalSketch graph k
  pub stands : is_standing k n.0 ≡ true
  pub node : n.0 < length graph.kinds
  pub near : is_near 2000 (point_of_node k n.0) ≡ true

module _ (f : Field) (field : IsField f) (old : Sketch) (weight : ℕ) (settled : IsSettled (scale_of f.by) f.graph.now f.first.now old weight) (b : Group) (fitting : All (IsFitting f.graph.now) (attempts_in b)) (apart : AreApart b.nodes) where
  g : IsGroup f.graph.now b.nodes b.runs
  g = group_is f.graph.now b fitting apart

  -- ---- runs

  pub runs_begin : (k : Sketch) (l : Lifted) → k ≡ old → l.walks.items ≡ [] → l.inner.items ≡ [] → l.moved.items ≡ [] → l.rest ≡ sketch_weight (scale_of f.by) f.graph.now f.first.now old → l.least.items ≡ [] → AreRunsLifted (scale_of f.by) f.graph.now f.first.now old b.runs 0 k l
  runs_begin k l is walks inner moved rest least = record {
    sketch = is;
    walks = walks;
    inner = inner;
    moved = moved;
    rest = rest ∙ ap (sketch_weight (scale_of f.by) f.graph.now f.first.now) (sym is);
    light = omega (arith, rest);
    least = least;
  }

  -- the run of an iteration, as it is read
  module _ (rs : List Chain) (same : rs ≡ b.runs) (i : ℕ) (r : Chain) (is_read : r ≡ get_or rs i r) (read_below : i < length rs) where
    below : i < length b.runs
    below = subst (λ (v : List Chain). i < length v) same read_below

    is_run : r ≡ get_or b.runs i r
    is_run = is_read ∙ ap (λ (v : List Chain). get_or v i r) same

    run_of_group : IsRun f.graph.now r
    run_of_group = subst (IsRun f.graph.now) (sym is_run) (g.run (get_or b.runs i r) (in_at b.runs i r below))

    module _ (k : Sketch) (l : Lifted) (a : AreRunsLifted (scale_of f.by) f.graph.now f.first.now old b.runs i k l) where
      -- it may be taken off
      pub run_takable : IsTakable f.graph.now k r
      run_takable = subst (IsTakable f.graph.now k) (sym is_run) (subst (λ (j : Sketch). IsTakable f.graph.now j (get_or b.runs i r)) (sym a.sketch) (taken f.graph.now field.graph old settled.legal settled.whole b.nodes b.runs g i r below))

      run_less : sketch_weight (scale_of f.by) f.graph.now f.first.now k ≡ sketch_weight (scale_of f.by) f.graph.now f.first.now (without_run k r) + run_gain (scale_of f.by) f.graph.now f.first.now k r
      run_less =
          subst (λ (j : Sketch). sketch_weight (scale_of f.by) f.graph.now f.first.now j ≡ sketch_weight (scale_of f.by) f.graph.now f.first.now (without_run j r) + run_gain (scale_of f.by) f.graph.now f.first.now j r) (sym a.sketch)
          (subst (λ (c : Chain). sketch_weight (scale_of f.by) f.graph.now f.first.now (fold without_run old (take i b.runs)) ≡ sketch_weight (scale_of f.by) f.graph.now f.first.now (without_run (fold without_run old (take i b.runs)) c) + run_gain (scale_of f.by) f.graph.now f.first.now (fold without_run old (take i b.runs)) c) (sym is_run)
          (run_weighs_then f.graph.now field.graph old settled.legal settled.whole b.nodes b.runs g i r below (scale_of f.by) f.first.now))

      -- it adds no more than what is on the board weighs
      pub run_fits : run_gain (scale_of f.by) f.graph.now f.first.now k r ≤ l.rest
      run_fits = let less = run_less in omega (arith, less, a.rest)

      pub run_lifted : (new : Sketch) (m : Lifted) → new ≡ without_run k r → m.walks.items ≡ l.walks.items ++ walks_along k r.steps → m.inner.items ≡ l.inner.items ++ points_along k r.steps
          → m.moved.items ≡ l.moved.items → m.rest + run_gain (scale_of f.by) f.graph.now f.first.now k r ≡ l.rest → m.least.items ≡ l.least.items → AreRunsLifted (scale_of f.by) f.graph.now f.first.now old b.runs (i + 1) new m
      run_lifted new m is walks inner moved rest least = record {
        sketch = is ∙ ap₂ without_run a.sketch is_run ∙ sym (fold_more without_run old b.runs i r below);
        walks =
            walks
            ∙ ap₂ (λ (xs ys : List (SegId × PlainWalk)). xs ++ ys) a.walks (ap₂ (λ (j : Sketch) (c : Chain). walks_along j c.steps) a.sketch is_run ∙ same_walks_along f.graph.now field.graph old settled.legal settled.whole b.nodes b.runs g i r below)
            ∙ flat_map_more (λ (c : Chain). walks_along old c.steps) [] (take i b.runs) (get_or b.runs i r)
            ∙ ap (flat_map (λ (c : Chain). walks_along old c.steps)) (sym (take_more b.runs i r below));
        inner =
            inner
            ∙ ap₂ (λ (xs ys : List (NodeId × GridPoint)). xs ++ ys) a.inner (ap₂ (λ (j : Sketch) (c : Chain). points_along j c.steps) a.sketch is_run ∙ same_points_along f.graph.now field.graph old settled.legal settled.whole b.nodes b.runs g i r below)
            ∙ flat_map_more (λ (c : Chain). points_along old c.steps) [] (take i b.runs) (get_or b.runs i r)
            ∙ ap (flat_map (λ (c : Chain). points_along old c.steps)) (sym (take_more b.runs i r below));
        moved = moved ∙ a.moved;
        rest = let less = run_less in let there = ap (sketch_weight (scale_of f.by) f.graph.now f.first.now) is in omega (arith, less, there, rest, a.rest);
        light = omega (arith, rest, a.light);
        least = least ∙ a.least;
      }

    -- and it has its bounds, where all of the group is off
    module _ (k : Sketch) (l : Lifted) (a : AreLeastLifted (scale_of f.by) f.graph.now f.first.now old b.nodes b.runs i k l) where
      pub least_asks : IsLegalSketch f.graph.now k × IsRun f.graph.now r
      least_asks = (subst (IsLegalSketch f.graph.now) (sym a.sketch) (lift_legal f.graph.now (fold without_run old b.runs) b.nodes (legal_then f.graph.now field.graph old settled.legal settled.whole b.nodes b.runs g) (all_liftable f.graph.now field.graph old settled.legal settled.whole b.nodes b.runs g)), run_of_group)

      pub least_more : (m : Lifted) (x : LeastTurns) → IsLeastOf (scale_of f.by) f.graph.now k r x → IsSmallLeast x → m.walks.items ≡ l.walks.items → m.inner.items ≡ l.inner.items → m.moved.items ≡ l.moved.items → m.rest ≡ l.rest
          → m.least.items ≡ l.least.items ++ x ∷ [] → AreLeastLifted (scale_of f.by) f.graph.now f.first.now old b.nodes b.runs (i + 1) k m
      least_more m x is small walks inner moved rest least =
          let one_more : take (i + 1) b.runs ≡ take i b.runs ++ r ∷ [] = take_more b.runs i r below ∙ ap (λ (c : Chain). take i b.runs ++ c ∷ []) (sym is_run) in
          record {
            sketch = a.sketch;
            walks = walks ∙ a.walks;
            inner = inner ∙ a.inner;
            moved = moved ∙ a.moved;
            rest = rest ∙ a.rest;
            light = omega (arith, rest, a.light);
            each = let one = length-append l.least.items (x ∷ []) in let more = ap length least in let front = ap length one_more ∙ length-append (take i b.runs) (r ∷ []) in omega (arith, one, more, front, a.each);
            least = subst (λ (cs : List Chain). HaveLeast (scale_of f.by) f.graph.now k cs m.least.items) (sym one_more) (subst (HaveLeast (scale_of f.by) f.graph.now k (take i b.runs ++ r ∷ [])) (sym least) (have_push (scale_of f.by) f.graph.now k (take i b.runs) l.least.items r x a.each a.least is));
            small = subst (All IsSmallLeast) (sym least) (All-push IsSmallLeast l.least.items x a.small small);
          }

  -- ---- nodes

  abbrev k1 : Sketch
  k1 = fold without_run old b.runs

  pub nodes_begin : (i : ℕ) (k : Sketch) (l : Lifted) → length b.runs ≤ i → AreRunsLifted (scale_of f.by) f.graph.now f.first.now old b.runs i k l → AreNodesLifted (scale_of f.by) f.graph.now f.first.now old b.nodes b.runs 0 k l
  nodes_begin i k l past a = subst (λ (cs : List Chain). AreLifted (scale_of f.by) f.graph.now f.first.now old cs [] k l) (take_all i b.runs past) a

  -- the node of an iteration, as it is read
  module _ (ns : List NodeId) (same : ns ≡ b.nodes) (i : ℕ) (d : NodeId) (read_below : i < length ns) (k : Sketch) (l : Lifted) (a : AreNodesLifted (scale_of f.by) f.graph.now f.first.now old b.nodes b.runs i k l) where
    abbrev n : NodeId
    n = get_or ns i d

    node_at : i < length b.nodes
    node_at = subst (λ (v : List NodeId). i < length v) same read_below

    is_node : get_or ns i d ≡ get_or b.nodes i d
    is_node = ap (λ (v : List NodeId). get_or v i d) same

    at : (IsLegalSketch f.graph.now (fold lifted k1 (take i b.nodes))) × (is_standing (fold lifted k1 (take i b.nodes)) n.0 ≡ true)
    at =
        subst (λ (m : NodeId). (IsLegalSketch f.graph.now (fold lifted k1 (take i b.nodes))) × (is_standing (fold lifted k1 (take i b.nodes)) m.0 ≡ true)) (sym is_node)
        (lifted_at f.graph.now k1 b.nodes (all_liftable f.graph.now field.graph old settled.legal settled.whole b.nodes b.runs g) i d node_at)

    -- it stands, near the origin
    pub node_ready : IsNodeReady f.graph.now k (get_or ns i d)
    node_ready =
        let legal = subst (IsLegalSketch f.graph.now) (sym a.sketch) at.0 in
        let stands = ap (λ (j : Sketch). is_standing j n.0) a.sketch ∙ at.1 in
        record { legal = legal; stands = stands; node = stands_below f.graph.now k legal n.0 stands; near = stands_near f.graph.now k legal n.0 stands }

    same_point : point_of_node k n.0 ≡ point_of_node old n.0
    same_point = ap (λ (j : Sketch). point_of_node j n.0) a.sketch ∙ ap (λ (ps : List GridPoint). get_or ps n.0 nowhere) (lift_points k1 (take i b.nodes) ∙ runs_points b.runs old)

    node_less : sketch_weight (scale_of f.by) f.graph.now f.first.now k ≡ sketch_weight (scale_of f.by) f.graph.now f.first.now (lifted k n) + apart_in (scale_of f.by) f.first.now k n.0
    node_less = node_weighs (scale_of f.by) f.graph.now f.first.now k node_ready.legal n node_ready.stands

    -- its distance weighs no more than what is on the board
    pub node_fits : apart_in (scale_of f.by) f.first.now k (get_or ns i d).0 ≤ l.rest
    node_fits = let less = node_less in omega (arith, less, a.rest)

    pub node_lifted : (new : Sketch) (m : Lifted) → new ≡ lifted k (get_or ns i d) → m.walks.items ≡ l.walks.items → m.inner.items ≡ l.inner.items → m.moved.items ≡ l.moved.items ++ (get_or ns i d, point_of_node k (get_or ns i d).0) ∷ []
        → m.rest + apart_in (scale_of f.by) f.first.now k (get_or ns i d).0 ≡ l.rest → m.least.items ≡ l.least.items → AreNodesLifted (scale_of f.by) f.graph.now f.first.now old b.nodes b.runs (i + 1) new m
    node_lifted new m is walks inner moved rest least = record {
      sketch = is ∙ ap₂ lifted a.sketch is_node ∙ sym (fold_more lifted k1 b.nodes i d node_at);
      walks = walks ∙ a.walks;
      inner = inner ∙ a.inner;
      moved =
          moved
          ∙ ap₂ (λ (xs : List (NodeId × GridPoint)) (p : GridPoint). xs ++ (n, p) ∷ []) a.moved same_point
          ∙ ap (λ (x : NodeId). map (λ (q : NodeId). (q, point_of_node old q.0)) (take i b.nodes) ++ (x, point_of_node old x.0) ∷ []) is_node
          ∙ sym (map_more (λ (q : NodeId). (q, point_of_node old q.0)) b.nodes i d node_at);
      rest = let less = node_less in let there = ap (sketch_weight (scale_of f.by) f.graph.now f.first.now) is in omega (arith, less, there, rest, a.rest);
      light = omega (arith, rest, a.light);
      least = least ∙ a.least;
    }

  -- ---- bounds

  pub least_begin : (i : ℕ) (k : Sketch) (l : Lifted) → length b.nodes ≤ i → AreNodesLifted (scale_of f.by) f.graph.now f.first.now old b.nodes b.runs i k l → AreLeastLifted (scale_of f.by) f.graph.now f.first.now old b.nodes b.runs 0 k l
  least_begin i k l past a = record {
    sketch = a.sketch ∙ ap (fold lifted k1) all;
    walks = a.walks;
    inner = a.inner;
    moved = a.moved ∙ ap (map (λ (n : NodeId). (n, point_of_node old n.0))) all;
    rest = a.rest;
    light = a.light;
    each = ap length a.least;
    least = tt;
    small = subst (All IsSmallLeast) (sym a.least) (λ k d below. absurd (omega (arith, below)));
  }
    where
      all : take i b.nodes ≡ b.nodes
      all = take_all i b.nodes past

  -- so the group is off
  pub group_lifted : (i : ℕ) (k : Sketch) (l : Lifted) → length b.runs ≤ i → AreLeastLifted (scale_of f.by) f.graph.now f.first.now old b.nodes b.runs i k l → IsLifted (scale_of f.by) f.graph.now f.first.now b old k l
  group_lifted i k l past a = record {
    off = subst (λ (j : Sketch). AreAlike j (taken_off f.graph.now old b.nodes b.runs)) (sym a.sketch) (off_alike f.graph.now field.graph old settled.legal settled.whole b.nodes b.runs g);
    moved = a.moved;
    can = λ j same. of_parts (λ (ms is : List (NodeId × GridPoint)) (ws : List (SegId × PlainWalk)). CanPutBack j ms is ws) (can_put_back f.graph.now field.graph old settled.legal settled.whole b.nodes b.runs g j (subst (AreAlike j) a.sketch same));
    back = λ j same. of_parts (λ (ms is : List (NodeId × GridPoint)) (ws : List (SegId × PlainWalk)). put_back j ms is ws ≡ old) (put_back_is f.graph.now field.graph old settled.legal settled.whole b.nodes b.runs g j (subst (AreAlike j) a.sketch same));
    rest = a.rest;
    light = a.light;
    each = a.each ∙ ap length all;
    least = subst (λ (cs : List Chain). HaveLeast (scale_of f.by) f.graph.now k cs l.least.items) all a.least;
    small = a.small;
  }
    where
      all : take i b.runs ≡ b.runs
      all = take_all i b.runs past

      of_parts : (P : List (NodeId × GridPoint) → List (NodeId × GridPoint) → List (SegId × PlainWalk) → Type 0)
          → P (map (λ (n : NodeId). (n, point_of_node old n.0)) b.nodes) (flat_map (λ (c : Chain). points_along old c.steps) b.runs) (flat_map (λ (c : Chain). walks_along old c.steps) b.runs) → P l.moved.items l.inner.items l.walks.items
      of_parts P h =
          subst (λ ms. P ms l.inner.items l.walks.items) (sym a.moved)
          (subst (λ is. P (map (λ (n : NodeId). (n, point_of_node old n.0)) b.nodes) is l.walks.items) (sym a.inner)
          (subst (λ ws. P (map (λ (n : NodeId). (n, point_of_node old n.0)) b.nodes) (flat_map (λ (c : Chain). points_along old c.steps) b.runs) ws) (sym a.walks) h))
