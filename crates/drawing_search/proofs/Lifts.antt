-- What is left of a whole drawing from which runs are taken off, and then nodes that are to move: what it weighs, and that all
-- of it can be put back.
use Rattle.std.proofs.Common.{◌≡◌, refl, sym, ◌∙◌, ap, ap₂, subst, ℕ, zero, suc, ◌+◌, ◌*◌, ◌<◌, Bool, true, false, not, cond, eqb, ◌&&◌, List, [], ◌∷◌, ◌++◌, length, fold, map, take, get_or, Option, Some, None, ◌⊎◌, inl, inr, arith, get_or-set_same, get_or-set_other}
use Rattle.drawing_search.proofs.Common.{all_in, any_at, any_from, apart_in, beside_off, cases_eq, cons_option}
use Rattle.drawing_search.proofs.Common.{contains, contains_in, end_after, end_below, end_of, eq-eqb, eqb-true}
use Rattle.drawing_search.proofs.Common.{filter_map, first_leads, flat_map, from_flat_map, get_or-map-range_with_len}
use Rattle.drawing_search.proofs.Common.{has_node, in_append, in_at, in_flat_map, in_round, inner_nodes, inner_of}
use Rattle.drawing_search.proofs.Common.{inner_off, is_inner, is_on_runs, is_standing, leads_from, leads_to}
use Rattle.drawing_search.proofs.Common.{length-map-range_with_len, lifted, list_all, list_any, ne_eqb, node_weight_in}
use Rattle.drawing_search.proofs.Common.{nowhere, once_first, option_map, point_of_node, points_along, points_of}
use Rattle.drawing_search.proofs.Common.{put_back, range_with_len, round_of, run_gain, segment_weight, sketch_weight}
use Rattle.drawing_search.proofs.Common.{stands_below, stays_standing, step_of, stood_at, sum_by, taken_off, true≢false}
use Rattle.drawing_search.proofs.Common.{turns_in, walk_along, walk_in, walk_left, walks_along, without_run}
use Rattle.drawing_search.proofs.Common.{without_walks, AreAlike, AreApart, AreBeside, AreLiftable, AreOnce, AreSteps}
use Rattle.drawing_search.proofs.Common.{AreTakable, Attempt, Bounds, CanPutBack, CanStand, CanWalk, Chain, ChainStep}
use Rattle.drawing_search.proofs.Common.{GraphParts, GridPoint, HasWalk, In, IsConsistent, IsEndOf, IsFitting}
use Rattle.drawing_search.proofs.Common.{IsLegalSketch, IsRun, IsTakable, IsWhole, NodeId, PlainWalk, Scale, SegId}
use Rattle.drawing_search.proofs.Common.{Sketch}
use Rattle.drawing_search.proofs.Growing.{at_one, one_more, same_sum}
use Rattle.drawing_search.proofs.PutBack.{all_back, can_stand_each, can_walk_each, flag_still, same_list, stood_bounds, stood_flags, stood_points, stood_walks, AreGivenOnce, ArePutOnce, IsGiven, IsPut}
use Rattle.drawing_search.proofs.Restored.{run_weighs}
use Rattle.drawing_search.proofs.Takable.{inner_apart, legal_without, liftable_each, walk_below, in_taken, in_mapped, from_map}
use Rattle.drawing_search.proofs.TakenBack.{inner_beside, lift_bounds, lift_flags, lift_legal, lift_points, lift_walks, low_each, low_on_runs, none_on_runs, runs_beside, runs_points, still_low, still_standing, takable_each, IsInnerOf, IsOneOf, IsOnOf, IsSameBeside}

-- ---- what is in lists that are made of others

from_filter_map : {X Y : Type 0} (f : X → Option Y) (xs : List X) (y : Y) → In y (filter_map f xs) → (x : X) × In x xs × (f x ≡ Some y)
from_filter_map {X} {Y} f [] y i = absurd i
from_filter_map {X} {Y} f (x ∷ xs) y i = by_first (λ j. from_filter_map f xs y j) (f x) refl i
  where
    by_first : (In y (filter_map f xs) → (z : X) × In z xs × (f z ≡ Some y)) → (o : Option Y) → f x ≡ o → In y (cons_option o (filter_map f xs)) → (z : X) × In z (x ∷ xs) × (f z ≡ Some y)
    by_first later None e j = let rest = later j in (rest.0, inr rest.1, rest.2)
    by_first later (Some z) e (inl same) = (x, inl refl, e ∙ ap (λ v. Some v) (sym same))
    by_first later (Some z) e (inr j) = let rest = later j in (rest.0, inr rest.1, rest.2)

in_filter_map : {X Y : Type 0} (f : X → Option Y) (xs : List X) (x : X) (y : Y) → In x xs → f x ≡ Some y → In y (filter_map f xs)
in_filter_map {X} {Y} f [] x y i e = absurd i
in_filter_map {X} {Y} f (z ∷ zs) x y (inl same) e = subst (λ o. In y (cons_option o (filter_map f zs))) (sym (ap f (sym same) ∙ e)) (inl refl)
in_filter_map {X} {Y} f (z ∷ zs) x y (inr i) e = by_first (f z) (in_filter_map f zs x y i e)
  where
    by_first : (o : Option Y) → In y (filter_map f zs) → In y (cons_option o (filter_map f zs))
    by_first None j = j
    by_first (Some w) j = inr j

-- runs that share no segment, and different nodes that lie between no two of their steps and whose segments are all on them
pub record IsGroup (graph : GraphParts) (nodes : List NodeId) (runs : List Chain) : Type 0 where
  pub run : (c : Chain) → In c runs → IsRun graph c
  pub beside : AreBeside runs
  pub node : (n : NodeId) → In n nodes → n.0 < length graph.kinds
  pub outer : (n : NodeId) → In n nodes → is_inner runs n.0 ≡ false
  pub bare : (n : NodeId) → In n nodes → (s : SegId) → In s (round_of graph n) → is_on_runs runs s.0 ≡ true
  pub apart : AreApart nodes

pub group_of : (graph : GraphParts) (a : Attempt) → IsFitting graph a → AreApart a.nodes → IsGroup graph a.nodes a.runs
group_of graph a fits apart = record {
  run = λ c i. all_in (IsRun graph) a.runs c (λ k d h. fits.runs k d h) i;
  beside = fits.beside;
  node = λ n i. all_in (λ (m : NodeId). m.0 < length graph.kinds) a.nodes n (λ k d h. fits.nodes k d h) i;
  outer = λ n i. all_in (λ (m : NodeId). is_inner a.runs m.0 ≡ false) a.nodes n (λ k d h. fits.ends k d h) i;
  bare = λ n i s j. all_in (λ (t : SegId). is_on_runs a.runs t.0 ≡ true) (round_of graph n) s (λ k d h. bare_at n i k d h) j;
  apart = apart;
}
  where
    bare_at : (n : NodeId) → In n a.nodes → (k : ℕ) (d : SegId) → k < length (round_of graph n) → is_on_runs a.runs (get_or (round_of graph n) k d).0 ≡ true
    bare_at n i = all_in (λ (m : NodeId). (k : ℕ) (d : SegId) → k < length (round_of graph m) → is_on_runs a.runs (get_or (round_of graph m) k d).0 ≡ true) a.nodes n (λ k d h. fits.all k d h) i

-- a node is one of some or lies between steps of runs, and a segment is on them, where the tests say so
pub node_true : (nodes : List NodeId) (n : ℕ) → IsOneOf nodes n → has_node nodes n ≡ true
node_true nodes n (m, i, e) = any_from (λ (p : NodeId). eqb p.0 n) nodes m i (eq-eqb m.0 n e)

pub node_from : (nodes : List NodeId) (n : ℕ) → has_node nodes n ≡ true → IsOneOf nodes n
node_from nodes n e = let at = any_at (λ (p : NodeId). eqb p.0 n) nodes e in (at.0, at.1, eqb-true at.0.0 n at.2)

pub inner_true : (runs : List Chain) (n : ℕ) → IsInnerOf runs n → is_inner runs n ≡ true
inner_true runs n (c, i, one) = any_from (λ (x : Chain). has_node (inner_nodes x.steps) n) runs c i (node_true (inner_nodes c.steps) n one)

pub inner_from : (runs : List Chain) (n : ℕ) → is_inner runs n ≡ true → IsInnerOf runs n
inner_from runs n e = let run = any_at (λ (x : Chain). has_node (inner_nodes x.steps) n) runs e in (run.0, run.1, node_from (inner_nodes run.0.steps) n run.2)

pub on_true : (runs : List Chain) (s : SegId) → IsOnOf runs s → is_on_runs runs s.0 ≡ true
on_true runs s (c, i, (q, j, e)) = any_from (λ (x : Chain). list_any (λ (t : ChainStep). eqb t.seg.0 s.0) x.steps) runs c i (any_from (λ (t : ChainStep). eqb t.seg.0 s.0) c.steps q j (eq-eqb q.seg.0 s.0 e))

pub on_from : (runs : List Chain) (s : SegId) → is_on_runs runs s.0 ≡ true → IsOnOf runs s
on_from runs s e =
    let run = any_at (λ (x : Chain). list_any (λ (t : ChainStep). eqb t.seg.0 s.0) x.steps) runs e in
    let at = any_at (λ (t : ChainStep). eqb t.seg.0 s.0) run.0.steps run.2 in
    (run.0, run.1, (at.0, at.1, eqb-true at.0.seg.0 s.0 at.2))

-- the first and the last step of a run
first_step_of : (graph : GraphParts) (n : NodeId) (ts : List ChainStep) → AreSteps graph n ts → 0 < length ts → (q : ChainStep) × In q ts × IsEndOf graph q.seg n.0
first_step_of graph n [] steps some = absurd (omega (arith, some))
first_step_of graph n (t ∷ ts) steps some = (t, inl refl, leads_from graph n t (first_leads graph n t ts steps).1)

last_step_of : (graph : GraphParts) (n : NodeId) (ts : List ChainStep) → AreSteps graph n ts → 0 < length ts → (q : ChainStep) × In q ts × IsEndOf graph q.seg (end_after n ts).0
last_step_of graph n [] steps some = absurd (omega (arith, some))
last_step_of graph n (t ∷ []) steps some = (t, inl refl, leads_to graph n t steps.1)
last_step_of graph n (t ∷ u ∷ us) steps some = let rest = last_step_of graph t.to (u ∷ us) steps.3 (omega arith) in (rest.0, inr rest.1, rest.2)

-- a run shares no segment with those before it
front_beside : (cs : List Chain) → AreBeside cs → (i : ℕ) (d : Chain) → i < length cs → (b : Chain) → In b (take i cs) → (q p : ChainStep) → In q b.steps → In p (get_or cs i d).steps → p.seg.0 ≡ q.seg.0 → ⊥
front_beside [] beside i d h b m q p on_b on_c same = absurd (omega arith)
front_beside (x ∷ cs) beside zero d h b m q p on_b on_c same = m
front_beside (x ∷ cs) beside (suc i) d h b (inl e) q p on_b on_c same =
    beside_off x cs beside (get_or cs i d) (in_at cs i d (omega arith)) q p (subst (λ (y : Chain). In q y.steps) e on_b) on_c same
front_beside (x ∷ cs) beside (suc i) d h b (inr m) q p on_b on_c same = front_beside cs beside.1 i d (omega arith) b m q p on_b on_c same

taken_at : (graph : GraphParts) (k : Sketch) (cs : List Chain) → AreTakable graph k cs → (i : ℕ) (d : Chain) → i < length cs → IsTakable graph (fold without_run k (take i cs)) (get_or cs i d)
taken_at graph k [] can i d h = absurd (omega arith)
taken_at graph k (c ∷ cs) can zero d h = can.0
taken_at graph k (c ∷ cs) can (suc i) d h = taken_at graph (without_run k c) cs can.1 i d (omega arith)

pub lifted_at : (graph : GraphParts) (k : Sketch) (ns : List NodeId) → AreLiftable graph k ns → (i : ℕ) (d : NodeId) → i < length ns → (IsLegalSketch graph (fold lifted k (take i ns))) × (is_standing (fold lifted k (take i ns)) (get_or ns i d).0 ≡ true)
lifted_at graph k [] can i d h = absurd (omega arith)
lifted_at graph k (n ∷ ns) can zero d h = (can.0.legal, can.0.stands)
lifted_at graph k (n ∷ ns) can (suc i) d h = lifted_at graph (lifted k n) ns can.1 i d (omega arith)

-- a node that is taken off, and at which no line turns then, weighed for its distance
pub node_weighs : (scale : Scale) (graph : GraphParts) (first : List GridPoint) (k : Sketch) → IsLegalSketch graph k → (n : NodeId) → is_standing k n.0 ≡ true
    → sketch_weight scale graph first k ≡ sketch_weight scale graph first (lifted k n) + apart_in scale first k n.0
node_weighs scale graph first k h n stands =
    let segments : sum_by (λ s. segment_weight scale k (record { 0 = s })) (range_with_len 0 (length graph.ends)) ≡ sum_by (λ s. segment_weight scale (lifted k n) (record { 0 = s })) (range_with_len 0 (length graph.ends)) = refl in
    let nodes = same_sum (node_weight_in scale graph first k) (one_more (node_weight_in scale graph first (lifted k n)) n.0 (apart_in scale first k n.0)) (range_with_len 0 (length graph.kinds)) (λ m i. each m (cases_eq m n.0)) in
    let one = at_one (node_weight_in scale graph first (lifted k n)) n.0 (apart_in scale first k n.0) 0 (length graph.kinds) (omega arith) (omega (arith, below)) in
    omega (arith, segments, nodes, one)
  where
    below : n.0 < length graph.kinds
    below = stands_below graph k h n.0 stands

    each : (m : ℕ) → (m ≡ n.0) ⊎ (m ≡ n.0 → ⊥) → node_weight_in scale graph first k m ≡ one_more (node_weight_in scale graph first (lifted k n)) n.0 (apart_in scale first k n.0) m
    each m (inl e) =
        let turns : scale.overs * turns_in graph (lifted k n) m ≡ scale.overs * turns_in graph k m = refl in
        let before : cond (is_standing k m) (apart_in scale first k m) 0 ≡ apart_in scale first k m = ap (λ b. cond b (apart_in scale first k m) 0) (ap (is_standing k) e ∙ stands) in
        let low : is_standing (lifted k n) m ≡ false = ap (is_standing (lifted k n)) e ∙ get_or-set_same k.stand n.0 false false (omega (arith, below, h.stand_each)) in
        let afterwards : cond (is_standing (lifted k n) m) (apart_in scale first (lifted k n) m) 0 ≡ 0 = ap (λ b. cond b (apart_in scale first (lifted k n) m) 0) low in
        let added : cond (eqb m n.0) (apart_in scale first k n.0) 0 ≡ apart_in scale first k n.0 = ap (λ b. cond b (apart_in scale first k n.0) 0) (eq-eqb m n.0 e) in
        let same : apart_in scale first k m ≡ apart_in scale first k n.0 = ap (apart_in scale first k) e in
        omega (arith, turns, before, afterwards, added, same)
    each m (inr f) =
        let turns : scale.overs * turns_in graph (lifted k n) m ≡ scale.overs * turns_in graph k m = refl in
        let flag : is_standing (lifted k n) m ≡ is_standing k m = get_or-set_other k.stand n.0 m false false f in
        let same : cond (is_standing (lifted k n) m) (apart_in scale first (lifted k n) m) 0 ≡ cond (is_standing k m) (apart_in scale first k m) 0 = ap (λ b. cond b (apart_in scale first k m) 0) flag in
        let none : cond (eqb m n.0) (apart_in scale first k n.0) 0 ≡ 0 = ap (λ b. cond b (apart_in scale first k n.0) 0) (ne_eqb m n.0 f) in
        omega (arith, turns, same, none)

-- ---- all of a group

module _ (graph : GraphParts) (fit : IsConsistent graph) (old : Sketch) (h : IsLegalSketch graph old) (whole : IsWhole old) (nodes : List NodeId) (runs : List Chain) (g : IsGroup graph nodes runs) where
  all_stand : (n : ℕ) → n < length graph.kinds → is_standing old n ≡ true
  all_stand n below = whole.nodes n (omega (arith, below, h.stand_each))

  has : (s : SegId) → s.0 < length graph.ends → HasWalk old s
  has s below = whole.walks s.0 (omega (arith, below, h.walks_each))

  pub all_takable : AreTakable graph old runs
  all_takable = takable_each graph fit runs old h g.run g.beside (λ c i m j. all_stand m.0 (inner_of graph fit c.from c.steps (g.run c i).steps m j).node)

  -- ---- one run after another

  module _ (i : ℕ) (d : Chain) (below : i < length runs) where
    abbrev k : Sketch
    k = fold without_run old (take i runs)

    abbrev c : Chain
    c = get_or runs i d

    on : In (get_or runs i d) runs
    on = in_at runs i d below

    pub taken : IsTakable graph (fold without_run old (take i runs)) (get_or runs i d)
    taken = taken_at graph old runs all_takable i d below

    -- nothing of it was taken before
    off : (b : Chain) → In b (take i runs) → (q p : ChainStep) → In q b.steps → In p c.steps → p.seg.0 ≡ q.seg.0 → ⊥
    off b m q p on_b on_c same = front_beside runs g.beside i d below b m q p on_b on_c same

    pub same_walk_then : (q : ChainStep) → In q c.steps → walk_in k q.seg ≡ walk_in old q.seg
    same_walk_then q j = (runs_beside (take i runs) old).walks q.seg (λ (b, m, (p, on_b, same)). off b m p q on_b j (sym same))

    have : (q : ChainStep) → In q c.steps → HasWalk k q.seg
    have q j = let there = has q.seg (step_of graph c.from c.steps (g.run c on).steps q j).segment in (there.0, same_walk_then q j ∙ there.1)

    end_stands : (n : ℕ) (q : ChainStep) → In q c.steps → IsEndOf graph q.seg n → is_standing k n ≡ true
    end_stands n q j is_end =
        (runs_beside (take i runs) old).stand n (λ (b, m, inner). not_inner b m inner)
        ∙ all_stand n (end_below graph fit q.seg n (step_of graph c.from c.steps (g.run c on).steps q j).segment is_end)
      where
        not_inner : (b : Chain) → In b (take i runs) → IsOneOf (inner_nodes b.steps) n → ⊥
        not_inner b m (p, at, e) =
            inner_off graph fit b.steps p (inner_of graph fit b.from b.steps (g.run b (in_taken runs i b m)).steps p at) q.seg (step_of graph c.from c.steps (g.run c on).steps q j).segment (λ r on_b same. off b m r q on_b j (sym same))
            (subst (IsEndOf graph q.seg) (sym e) is_end)

    pub run_weighs_then : (scale : Scale) (first : List GridPoint) → sketch_weight scale graph first k ≡ sketch_weight scale graph first (without_run k c) + run_gain scale graph first k c
    run_weighs_then scale first =
        let r = g.run c on in
        let one = first_step_of graph c.from c.steps r.steps r.some in
        let other = last_step_of graph c.from c.steps r.steps r.some in
        run_weighs graph fit k c taken have (end_stands c.from.0 one.0 one.1 one.2) (end_stands (end_of c).0 other.0 other.1 other.2) scale first

    -- its walks and the points of its nodes are those of the drawing
    same_filter : {X Y : Type 0} (f f' : X → Option Y) (xs : List X) → ((x : X) → In x xs → f x ≡ f' x) → filter_map f xs ≡ filter_map f' xs
    same_filter f f' [] same = refl
    same_filter f f' (x ∷ xs) same = ap₂ (λ o ys. cons_option o ys) (same x (inl refl)) (same_filter f f' xs (λ y m. same y (inr m)))

    pub same_walks_along : walks_along k c.steps ≡ walks_along old c.steps
    same_walks_along = same_filter (walk_along k) (walk_along old) c.steps (λ q j. ap (option_map (λ (w : PlainWalk). (q.seg, w))) (same_walk_then q j))

    pub same_points_along : points_along k c.steps ≡ points_along old c.steps
    same_points_along = ap (λ (ps : List GridPoint). map (λ (n : NodeId). (n, get_or ps n.0 nowhere)) (inner_nodes c.steps)) (runs_points (take i runs) old)

  -- ---- all runs, and then the nodes

  abbrev k1 : Sketch
  k1 = fold without_run old runs

  abbrev k2 : Sketch
  k2 = fold lifted (fold without_run old runs) nodes

  beside_them : IsSameBeside runs old k1
  beside_them = runs_beside runs old

  pub legal_then : IsLegalSketch graph (fold without_run old runs)
  legal_then = all_legal old runs all_takable h
    where
      one_off : (j : Sketch) (c : Chain) → IsTakable graph j c → IsLegalSketch graph (without_run j c)
      one_off j c can = lift_legal graph (without_walks j c.steps) (inner_nodes c.steps) (legal_without graph fit j can.legal c.steps) can.inner

      all_legal : (j : Sketch) (cs : List Chain) → AreTakable graph j cs → IsLegalSketch graph j → IsLegalSketch graph (fold without_run j cs)
      all_legal j [] can legal = legal
      all_legal j (c ∷ cs) can legal = all_legal (without_run j c) cs can.1 (one_off j c can.0)

  not_inner : (n : NodeId) → In n nodes → IsInnerOf runs n.0 → ⊥
  not_inner n i inner = true≢false (sym (inner_true runs n.0 inner) ∙ g.outer n i)

  pub all_liftable : AreLiftable graph (fold without_run old runs) nodes
  all_liftable = liftable_each graph k1 legal_then nodes (λ n i. beside_them.stand n.0 (not_inner n i) ∙ all_stand n.0 (g.node n i)) bare g.apart
    where
      bare : (n : NodeId) → In n nodes → (t : SegId) (v : PlainWalk) → walk_in k1 t ≡ Some v → IsEndOf graph t n.0 → ⊥
      bare n i t v e is_end =
          let on = on_from runs t (g.bare n i t (in_round graph fit t n.0 (walk_below graph k1 legal_then t v e) (g.node n i) is_end)) in
          let none : None ≡ Some v = sym (none_on_runs runs old t on) ∙ e in
          cc

  -- ---- what stands then

  flag_then : (n : ℕ) → n < length graph.kinds → is_standing k2 n ≡ (not (is_inner runs n) && not (has_node nodes n))
  flag_then n below = by_flags (is_inner runs n) (has_node nodes n) refl refl
    where
      low : (ns : List NodeId) (j : Sketch) → is_standing j n ≡ false → is_standing (fold lifted j ns) n ≡ false
      low ns j e = still_low j ns n e

      by_flags : (a b : Bool) → is_inner runs n ≡ a → has_node nodes n ≡ b → is_standing k2 n ≡ (not a && not b)
      by_flags true b inner node = low nodes k1 (low_on_runs runs old n (inner_from runs n inner))
      by_flags false true inner node = low_each k1 nodes n (node_from nodes n node)
      by_flags false false inner node =
          still_standing k1 nodes n (λ m. true≢false (sym (node_true nodes n m) ∙ node)) ∙ beside_them.stand n (λ m. true≢false (sym (inner_true runs n m) ∙ inner)) ∙ all_stand n below

  walk_then : (s : SegId) → walk_in k2 s ≡ cond (is_on_runs runs s.0) None (walk_in old s)
  walk_then s = ap (λ (os : List (Option PlainWalk)). get_or os s.0 None) (lift_walks k1 nodes) ∙ by_run (is_on_runs runs s.0) refl
    where
      by_run : (b : Bool) → is_on_runs runs s.0 ≡ b → walk_in k1 s ≡ cond b None (walk_in old s)
      by_run true e = none_on_runs runs old s (on_from runs s e)
      by_run false e = beside_them.walks s (λ m. true≢false (sym (on_true runs s m) ∙ e))

  same_points_then : k2.points ≡ old.points
  same_points_then = lift_points k1 nodes ∙ runs_points runs old

  flags_each : length k2.stand ≡ length graph.kinds
  flags_each = lift_flags k1 nodes ∙ beside_them.stand_each ∙ h.stand_each

  walks_each_then : length k2.walks ≡ length graph.ends
  walks_each_then = ap length (lift_walks k1 nodes) ∙ beside_them.walks_each ∙ h.walks_each

  pub off_alike : AreAlike (fold lifted (fold without_run old runs) nodes) (taken_off graph old nodes runs)
  off_alike = record {
    bounds = lift_bounds k1 nodes ∙ beside_them.bounds;
    points_each = ap length same_points_then;
    stand = same_list false k2.stand (map (stays_standing old nodes runs) (range_with_len 0 (length graph.kinds))) (flags_each ∙ sym (length-map-range_with_len (stays_standing old nodes runs) 0 (length graph.kinds))) (λ n below. flag n (omega (arith, below, length-map-range_with_len (stays_standing old nodes runs) 0 (length graph.kinds))));
    walks = same_list None k2.walks (map (walk_left old runs) (range_with_len 0 (length graph.ends))) (walks_each_then ∙ sym (length-map-range_with_len (walk_left old runs) 0 (length graph.ends))) (λ s below. walk s (omega (arith, below, length-map-range_with_len (walk_left old runs) 0 (length graph.ends))));
    points = λ n e. ap (λ (ps : List GridPoint). get_or ps n nowhere) same_points_then;
  }
    where
      flag : (n : ℕ) → n < length graph.kinds → is_standing k2 n ≡ get_or (map (stays_standing old nodes runs) (range_with_len 0 (length graph.kinds))) n false
      flag n below =
          flag_then n below
          ∙ ap (λ b. b && (not (is_inner runs n) && not (has_node nodes n))) (sym (all_stand n below))
          ∙ sym (get_or-map-range_with_len (stays_standing old nodes runs) 0 (length graph.kinds) n n false below (omega arith))

      walk : (s : ℕ) → s < length graph.ends → get_or k2.walks s None ≡ get_or (map (walk_left old runs) (range_with_len 0 (length graph.ends))) s None
      walk s below = walk_then (record { 0 = s }) ∙ sym (get_or-map-range_with_len (walk_left old runs) 0 (length graph.ends) s s None below (omega arith))

  -- ---- what was taken off

  abbrev pub moved_of : List (NodeId × GridPoint)
  moved_of = map (λ (n : NodeId). (n, point_of_node old n.0)) nodes

  abbrev pub inner_of_all : List (NodeId × GridPoint)
  inner_of_all = flat_map (λ (c : Chain). points_along old c.steps) runs

  abbrev pub walks_of_all : List (SegId × PlainWalk)
  walks_of_all = flat_map (λ (c : Chain). walks_along old c.steps) runs

  moved_at : (m : NodeId × GridPoint) → In m moved_of → (n : NodeId) × In n nodes × (m ≡ (n, point_of_node old n.0))
  moved_at m i = from_map (λ (n : NodeId). (n, point_of_node old n.0)) nodes m i

  record IsInnerAt (m : NodeId × GridPoint) : Type 0 where
    run : Chain
    on : In run runs
    node : NodeId
    inner : In node (inner_nodes run.steps)
    is : m ≡ (node, point_of_node old node.0)

  inner_at : (m : NodeId × GridPoint) → In m inner_of_all → IsInnerAt m
  inner_at m i =
      let found = from_flat_map (λ (c : Chain). points_along old c.steps) runs m i in
      let at = from_map (λ (n : NodeId). (n, point_of_node old n.0)) (inner_nodes found.0.steps) m found.2 in
      record { run = found.0; on = found.1; node = at.0; inner = at.1; is = at.2 }

  record IsWalkAt (m : SegId × PlainWalk) : Type 0 where
    run : Chain
    on : In run runs
    step : ChainStep
    there : In step run.steps
    segment : m.0 ≡ step.seg
    walk : walk_in old step.seg ≡ Some m.1

  walk_of_step : (t : ChainStep) (m : SegId × PlainWalk) → walk_along old t ≡ Some m → (m.0 ≡ t.seg) × (walk_in old t.seg ≡ Some m.1)
  walk_of_step t m e = by_walk (walk_in old t.seg) refl e
    where
      by_walk : (o : Option PlainWalk) → walk_in old t.seg ≡ o → option_map (λ (w : PlainWalk). (let p : SegId × PlainWalk = (t.seg, w) in p)) o ≡ Some m → (m.0 ≡ t.seg) × (walk_in old t.seg ≡ Some m.1)
      by_walk None is f = cc
      by_walk (Some w) is f =
          let pair : (let p : SegId × PlainWalk = (t.seg, w) in p) ≡ m = cc in
          (sym (ap (λ (p : SegId × PlainWalk). p.0) pair), is ∙ ap (λ (p : SegId × PlainWalk). Some p.1) pair)

  walk_at : (m : SegId × PlainWalk) → In m walks_of_all → IsWalkAt m
  walk_at m i =
      let found = from_flat_map (λ (c : Chain). walks_along old c.steps) runs m i in
      let at = from_filter_map (walk_along old) found.0.steps m found.2 in
      let is = walk_of_step at.0 m at.2 in
      record { run = found.0; on = found.1; step = at.0; there = at.1; segment = is.0; walk = is.1 }

  -- each of it once
  points_once : (ns : List NodeId) → AreApart ns → ArePutOnce (map (λ (n : NodeId). (n, point_of_node old n.0)) ns)
  points_once [] apart = tt
  points_once (n ∷ ns) apart = (λ (p, i, e). again p i e, points_once ns apart.1)
    where
      again : (p : NodeId × GridPoint) → In p (map (λ (m : NodeId). (m, point_of_node old m.0)) ns) → p.0.0 ≡ n.0 → ⊥
      again p i e =
          let at = from_map (λ (m : NodeId). (m, point_of_node old m.0)) ns p i in
          apart.0 at.0 (contains_in ns at.0 at.1) (ap (λ (x : NodeId × GridPoint). x.0.0) (sym at.2) ∙ e)

  both_once : (xs ys : List (NodeId × GridPoint)) → ArePutOnce xs → ArePutOnce ys → ((m : NodeId × GridPoint) → In m xs → IsPut m.0.0 ys → ⊥) → ArePutOnce (xs ++ ys)
  both_once [] ys a b off = b
  both_once (x ∷ xs) ys a b off = (λ (p, i, e). again p (in_append p xs ys i) e, both_once xs ys a.1 b (λ m i. off m (inr i)))
    where
      again : (p : NodeId × GridPoint) → In p xs ⊎ In p ys → p.0.0 ≡ x.0.0 → ⊥
      again p (inl i) e = a.0 (p, i, e)
      again p (inr i) e = off x (inl refl) (p, i, e)

  inner_once : (cs : List Chain) → ((c : Chain) → In c cs → IsRun graph c) → AreBeside cs → ArePutOnce (flat_map (λ (c : Chain). points_along old c.steps) cs)
  inner_once [] run beside = tt
  inner_once (c ∷ cs) run beside =
      both_once (points_along old c.steps) (flat_map (λ (d : Chain). points_along old d.steps) cs) (points_once (inner_nodes c.steps) (inner_apart graph fit c.from c.steps (run c (inl refl)).steps (run c (inl refl)).once))
      (inner_once cs (λ d i. run d (inr i)) beside.1) apart
    where
      apart : (m : NodeId × GridPoint) → In m (points_along old c.steps) → IsPut m.0.0 (flat_map (λ (d : Chain). points_along old d.steps) cs) → ⊥
      apart m i (p, j, e) =
          let at = from_map (λ (n : NodeId). (n, point_of_node old n.0)) (inner_nodes c.steps) m i in
          let found = from_flat_map (λ (d : Chain). points_along old d.steps) cs p j in
          let other = from_map (λ (n : NodeId). (n, point_of_node old n.0)) (inner_nodes found.0.steps) p found.2 in
          inner_beside graph fit c found.0 (run c (inl refl)) (run found.0 (inr found.1)) (λ q r on_c on_d. beside_off c cs beside found.0 found.1 q r on_c on_d) other.0 other.1
          (at.0, at.1, ap (λ (x : NodeId × GridPoint). x.0.0) (sym at.2) ∙ sym e ∙ ap (λ (x : NodeId × GridPoint). x.0.0) other.2)

  steps_once : (ts : List ChainStep) → AreOnce ts → AreGivenOnce (walks_along old ts)
  steps_once [] once = tt
  steps_once (t ∷ ts) once = by_walk (steps_once ts once.1) (walk_along old t) refl
    where
      again : (m p : SegId × PlainWalk) → walk_along old t ≡ Some m → In p (walks_along old ts) → p.0.0 ≡ m.0.0 → ⊥
      again m p e i same =
          let at = from_filter_map (walk_along old) ts p i in
          once_first t ts once at.0 at.1 (ap (λ (s : SegId). s.0) (sym (walk_of_step at.0 p at.2).0) ∙ same ∙ ap (λ (s : SegId). s.0) (walk_of_step t m e).0)

      by_walk : AreGivenOnce (walks_along old ts) → (o : Option (SegId × PlainWalk)) → walk_along old t ≡ o → AreGivenOnce (cons_option o (walks_along old ts))
      by_walk rest None e = rest
      by_walk rest (Some m) e = (λ (p, i, same). again m p e i same, rest)

  both_given : (xs ys : List (SegId × PlainWalk)) → AreGivenOnce xs → AreGivenOnce ys → ((m : SegId × PlainWalk) → In m xs → IsGiven m.0.0 ys → ⊥) → AreGivenOnce (xs ++ ys)
  both_given [] ys a b off = b
  both_given (x ∷ xs) ys a b off = (λ (p, i, e). again p (in_append p xs ys i) e, both_given xs ys a.1 b (λ m i. off m (inr i)))
    where
      again : (p : SegId × PlainWalk) → In p xs ⊎ In p ys → p.0.0 ≡ x.0.0 → ⊥
      again p (inl i) e = a.0 (p, i, e)
      again p (inr i) e = off x (inl refl) (p, i, e)

  walks_once : (cs : List Chain) → ((c : Chain) → In c cs → IsRun graph c) → AreBeside cs → AreGivenOnce (flat_map (λ (c : Chain). walks_along old c.steps) cs)
  walks_once [] run beside = tt
  walks_once (c ∷ cs) run beside =
      both_given (walks_along old c.steps) (flat_map (λ (d : Chain). walks_along old d.steps) cs) (steps_once c.steps (run c (inl refl)).once) (walks_once cs (λ d i. run d (inr i)) beside.1) apart
    where
      apart : (m : SegId × PlainWalk) → In m (walks_along old c.steps) → IsGiven m.0.0 (flat_map (λ (d : Chain). walks_along old d.steps) cs) → ⊥
      apart m i (p, j, e) =
          let at = from_filter_map (walk_along old) c.steps m i in
          let found = from_flat_map (λ (d : Chain). walks_along old d.steps) cs p j in
          let other = from_filter_map (walk_along old) found.0.steps p found.2 in
          beside_off c cs beside found.0 found.1 at.0 other.0 at.1 other.1
          (ap (λ (s : SegId). s.0) (sym (walk_of_step other.0 p other.2).0) ∙ e ∙ ap (λ (s : SegId). s.0) (walk_of_step at.0 m at.2).0)

  -- ---- it can be put back

  module _ (k : Sketch) (a : AreAlike k (fold lifted (fold without_run old runs) nodes)) where
    bounds_then : k.bounds ≡ old.bounds
    bounds_then = a.bounds ∙ lift_bounds k1 nodes ∙ beside_them.bounds

    points_then : length k.points ≡ length graph.kinds
    points_then = a.points_each ∙ ap length same_points_then ∙ h.points_each

    flags_then : length k.stand ≡ length graph.kinds
    flags_then = ap length a.stand ∙ flags_each

    off_then : (n : ℕ) → n < length graph.kinds → (not (is_inner runs n) && not (has_node nodes n)) ≡ false → is_standing k n ≡ false
    off_then n below e = ap (λ (fs : List Bool). get_or fs n false) a.stand ∙ flag_then n below ∙ e

    stands_again : (j : Sketch) → j.bounds ≡ old.bounds → length j.points ≡ length graph.kinds → length j.stand ≡ length graph.kinds → (m : NodeId × GridPoint) (n : NodeId) → m ≡ (n, point_of_node old n.0) → n.0 < length graph.kinds → is_standing j n.0 ≡ false
        → CanStand j m.0 m.1
    stands_again j bounds points flags m n e below low =
        subst (λ (p : NodeId × GridPoint). CanStand j p.0 p.1) (sym e)
        (record {
          node = omega (arith, below, points);
          flag = omega (arith, below, flags);
          lifted = low;
          inside = ap (λ (b : Bounds). contains b (point_of_node old n.0)) bounds ∙ h.inside n.0 (all_stand n.0 below);
          even = h.even n.0 (all_stand n.0 below);
        })

    moved_low : (n : NodeId) → In n nodes → is_standing k n.0 ≡ false
    moved_low n i = off_then n.0 (g.node n i) (ap₂ (λ x y. not x && not y) (g.outer n i) (node_true nodes n.0 (n, i, refl)))

    inner_below : (c : Chain) → In c runs → (n : NodeId) → In n (inner_nodes c.steps) → n.0 < length graph.kinds
    inner_below c i n j = (inner_of graph fit c.from c.steps (g.run c i).steps n j).node

    inner_low : (c : Chain) → In c runs → (n : NodeId) → In n (inner_nodes c.steps) → is_standing k n.0 ≡ false
    inner_low c i n j = off_then n.0 (inner_below c i n j) (ap (λ x. not x && not (has_node nodes n.0)) (inner_true runs n.0 (c, i, (n, j, refl))))

    abbrev after_moved : Sketch
    after_moved = fold stood_at k moved_of

    abbrev after_inner : Sketch
    after_inner = fold stood_at (fold stood_at k moved_of) inner_of_all

    pub can_put_back : CanPutBack k moved_of inner_of_all walks_of_all
    can_put_back = record {
      moved = can_stand_each k moved_of (λ m i. of_moved m (moved_at m i)) (points_once nodes g.apart);
      inner = can_stand_each after_moved inner_of_all (λ m i. of_inner m (inner_at m i)) (inner_once runs g.run g.beside);
      walks = can_walk_each after_inner walks_of_all (λ m i. of_walk m (walk_at m i)) (walks_once runs g.run g.beside);
    }
      where
        of_moved : (m : NodeId × GridPoint) → (n : NodeId) × In n nodes × (m ≡ (n, point_of_node old n.0)) → CanStand k m.0 m.1
        of_moved m (n, i, e) = stands_again k bounds_then points_then flags_then m n e (g.node n i) (moved_low n i)

        not_moved : (c : Chain) → In c runs → (n : NodeId) → In n (inner_nodes c.steps) → IsPut n.0 moved_of → ⊥
        not_moved c i n j (p, at, e) =
            let m = moved_at p at in
            not_inner m.0 m.1 (c, i, (n, j, sym e ∙ ap (λ (x : NodeId × GridPoint). x.0.0) m.2))

        of_inner : (m : NodeId × GridPoint) → IsInnerAt m → CanStand after_moved m.0 m.1
        of_inner m at =
            stands_again after_moved (stood_bounds k moved_of ∙ bounds_then) (stood_points k moved_of ∙ points_then) (stood_flags k moved_of ∙ flags_then) m at.node at.is (inner_below at.run at.on at.node at.inner)
            (flag_still k moved_of at.node.0 (not_moved at.run at.on at.node at.inner) ∙ inner_low at.run at.on at.node at.inner)

        same_walks : after_inner.walks ≡ k.walks
        same_walks = stood_walks after_moved inner_of_all ∙ stood_walks k moved_of

        of_walk : (m : SegId × PlainWalk) → IsWalkAt m → CanWalk after_inner m.0 m.1
        of_walk m at =
            let below = (step_of graph at.run.from at.run.steps (g.run at.run at.on).steps at.step at.there).segment in
            subst (λ (s : SegId). CanWalk after_inner s m.1) (sym at.segment)
            (record {
              segment = omega (arith, below, ap length same_walks, ap length a.walks, walks_each_then);
              free = ap (λ (os : List (Option PlainWalk)). get_or os at.step.seg.0 None) (same_walks ∙ a.walks) ∙ walk_then at.step.seg ∙ ap (λ b. cond b None (walk_in old at.step.seg)) (on_true runs at.step.seg (at.run, at.on, (at.step, at.there, refl)));
              inside =
                  ap (λ (b : Bounds). list_all (contains b) (points_of m.1)) (stood_bounds after_moved inner_of_all ∙ stood_bounds k moved_of ∙ bounds_then) ∙ h.within at.step.seg m.1 at.walk;
            })

    pub put_back_is : put_back k moved_of inner_of_all walks_of_all ≡ old
    put_back_is = all_back old k moved_of inner_of_all walks_of_all (record {
      bounds = bounds_then;
      points_each = points_then ∙ sym h.points_each;
      stand_each = flags_then ∙ sym h.stand_each;
      walks_each = ap length a.walks ∙ walks_each_then ∙ sym h.walks_each;
      moved_are = λ m i. of_point m (moved_at m i).0 (moved_at m i).2;
      inner_are = λ m i. of_point m (inner_at m i).node (inner_at m i).is;
      walks_are = λ m i. ap (walk_in old) (walk_at m i).segment ∙ (walk_at m i).walk;
      all_stand = whole.nodes;
      node = λ n below. by_flags n (omega (arith, below, h.stand_each)) (is_inner runs n) (has_node nodes n) refl refl;
      segment = λ s below. by_run (record { 0 = s }) (omega (arith, below, h.walks_each)) (is_on_runs runs s) refl;
      fields = h.points_each ∙ sym h.stand_each;
    })
      where
        of_point : (m : NodeId × GridPoint) (n : NodeId) → m ≡ (n, point_of_node old n.0) → m.1 ≡ point_of_node old m.0.0
        of_point m n e = subst (λ (p : NodeId × GridPoint). p.1 ≡ point_of_node old p.0.0) (sym e) refl

        put_inner : (n : ℕ) → IsInnerOf runs n → IsPut n inner_of_all
        put_inner n (c, i, (m, j, e)) =
            ((m, point_of_node old m.0), in_flat_map (λ (d : Chain). points_along old d.steps) runs c (m, point_of_node old m.0) i (in_mapped (λ (p : NodeId). (p, point_of_node old p.0)) (inner_nodes c.steps) m j), e)

        put_moved : (n : ℕ) → IsOneOf nodes n → IsPut n moved_of
        put_moved n (m, i, e) = ((m, point_of_node old m.0), in_mapped (λ (p : NodeId). (p, point_of_node old p.0)) nodes m i, e)

        by_flags : (n : ℕ) → n < length graph.kinds → (x y : Bool) → is_inner runs n ≡ x → has_node nodes n ≡ y → ((is_standing k n ≡ true) × (point_of_node k n ≡ point_of_node old n)) ⊎ (IsPut n moved_of ⊎ IsPut n inner_of_all)
        by_flags n below true y inner node = inr (inr (put_inner n (inner_from runs n inner)))
        by_flags n below false true inner node = inr (inl (put_moved n (node_from nodes n node)))
        by_flags n below false false inner node =
            let stands : is_standing k2 n ≡ true = flag_then n below ∙ ap₂ (λ x y. not x && not y) inner node in
            inl (ap (λ (fs : List Bool). get_or fs n false) a.stand ∙ stands, a.points n stands ∙ ap (λ (ps : List GridPoint). get_or ps n nowhere) same_points_then)

        by_run : (s : SegId) → s.0 < length graph.ends → (b : Bool) → is_on_runs runs s.0 ≡ b → (get_or k.walks s.0 None ≡ get_or old.walks s.0 None) ⊎ IsGiven s.0 walks_of_all
        by_run s below false e = inl (ap (λ (os : List (Option PlainWalk)). get_or os s.0 None) a.walks ∙ walk_then s ∙ ap (λ b. cond b None (walk_in old s)) e)
        by_run s below true e = inr (given (on_from runs s e))
          where
            given : IsOnOf runs s → IsGiven s.0 walks_of_all
            given (c, i, (q, j, same)) =
                let there = has q.seg (step_of graph c.from c.steps (g.run c i).steps q j).segment in
                ((q.seg, there.0), in_flat_map (λ (d : Chain). walks_along old d.steps) runs c (q.seg, there.0) i (in_filter_map (walk_along old) c.steps q (q.seg, there.0) j (ap (option_map (λ (w : PlainWalk). (q.seg, w))) there.1)), same)
