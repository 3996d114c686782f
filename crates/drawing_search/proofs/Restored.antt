-- A run that stands is one that is laid along its own walks: so a drawing weighs what it weighs without the run, and what the
-- run adds.
use Rattle.std.proofs.Common.{◌≡◌, refl, sym, ◌∙◌, ap, subst, ℕ, suc, ◌+◌, ◌<◌, true, false, cond, List, [], ◌∷◌, length, get_or, set, Option, Some, None, ◌⊎◌, inl, inr, arith, length-set, get_or-set_same, get_or-set_other}
use Rattle.line_chains.specs.Chains.{ends_of}
use Rattle.run_laying.proofs.RunFacts.{IsOff}
use Rattle.run_laying.proofs.Standing.{end_stands}
use Rattle.drawing_search.proofs.Common.{back_again, back_end, cases_eq, end_below, end_of, end_point, eq-eqb}
use Rattle.drawing_search.proofs.Common.{first_leads, first_outer, from_low, inner_nodes, inner_step, is_standing}
use Rattle.drawing_search.proofs.Common.{last_outer, leads_to, ne_eqb, nowhere, point_of_node, reversed_walk, run_gain}
use Rattle.drawing_search.proofs.Common.{set-get_or, sketch_weight, turned_of, unwrap_or, walk_in, with_piece}
use Rattle.drawing_search.proofs.Common.{with_pieces, without_run, without_walks, AreSteps, Chain, ChainStep}
use Rattle.drawing_search.proofs.Common.{GraphParts, GridPoint, HasWalk, In, IsClearFor, IsConsistent, IsLegalSketch}
use Rattle.drawing_search.proofs.Common.{IsTakable, IsTurned, LeadsTo, NodeId, PlainWalk, Scale, SegId, Sketch}
use Rattle.drawing_search.proofs.Gained.{run_gained}
use Rattle.drawing_search.proofs.PricedRuns.{leads_apart}
use Rattle.drawing_search.proofs.PutBack.{same_list}
use Rattle.drawing_search.proofs.Takable.{legal_without, same_stand}
use Rattle.drawing_search.proofs.TakenBack.{lift_flags, lift_legal, lift_walks, low_each, run_bounds, run_none, run_points, run_stands, run_walks, without_each}

-- the walk of a segment, from a node over steps
abbrev pub walk_or : Sketch → SegId → PlainWalk
walk_or k s = unwrap_or (walk_in k s) (record { start = nowhere; steps = [] })

abbrev pub pieces_along : GraphParts → Sketch → NodeId → List ChainStep → List PlainWalk
pieces_along graph k n [] = []
pieces_along graph k n (t ∷ ts) = from_low graph t.seg n (walk_or k t.seg) ∷ pieces_along graph k t.to ts

pub length-pieces_along : (graph : GraphParts) (k : Sketch) (n : NodeId) (ts : List ChainStep) → length (pieces_along graph k n ts) ≡ length ts
length-pieces_along graph k n [] = refl
length-pieces_along graph k n (t ∷ ts) = ap (λ m. suc m) (length-pieces_along graph k t.to ts)

-- a drawing is another one, but for walks of steps, and for nodes to which they lead
pub record IsBut (old : Sketch) (ts : List ChainStep) (k : Sketch) : Type 0 where
  pub bounds : k.bounds ≡ old.bounds
  pub points : k.points ≡ old.points
  pub stand_each : length k.stand ≡ length old.stand
  pub walks_each : length k.walks ≡ length old.walks
  pub stand : (m : ℕ) → ((q : ChainStep) → In q ts → q.to.0 ≡ m → ⊥) → is_standing k m ≡ is_standing old m
  pub walks : (s : SegId) → IsOff ts s → walk_in k s ≡ walk_in old s

same_but : (old k : Sketch) → IsBut old [] k → k ≡ old
same_but old k but =
    λ i. record {
      bounds = but.bounds i;
      points = but.points i;
      stand = same_list false k.stand old.stand but.stand_each (λ m h. but.stand m (λ q j e. j)) i;
      walks = same_list None k.walks old.walks but.walks_each (λ s h. but.walks (record { 0 = s }) (λ q j e. j)) i;
    }

module _ (graph : GraphParts) (fit : IsConsistent graph) (old : Sketch) (h : IsLegalSketch graph old) (n : NodeId) (t : ChainStep) (v : PlainWalk) (is : walk_in old t.seg ≡ Some v) (below : t.seg.0 < length graph.ends) (leads : LeadsTo graph n t) where
  abbrev w : PlainWalk
  w = from_low graph t.seg n v

  apart : n.0 ≡ t.to.0 → ⊥
  apart = leads_apart graph fit n t below leads

  turned : IsTurned graph t.seg n.0 t.to.0 v (from_low graph t.seg n v)
  turned = turned_of graph n t v leads apart

  there : end_point (from_low graph t.seg n v) ≡ point_of_node old t.to.0
  there = by_way turned
    where
      by_way : IsTurned graph t.seg n.0 t.to.0 v (from_low graph t.seg n v) → end_point (from_low graph t.seg n v) ≡ point_of_node old t.to.0
      by_way (inl (low, up, same)) = ap end_point same ∙ h.ends t.seg v is ∙ ap (point_of_node old) up
      by_way (inr (low, up, same)) = ap end_point same ∙ back_end v ∙ h.starts t.seg v is ∙ ap (point_of_node old) low

  again : from_low graph t.seg n (from_low graph t.seg n v) ≡ v
  again = by_way turned
    where
      by_way : IsTurned graph t.seg n.0 t.to.0 v (from_low graph t.seg n v) → from_low graph t.seg n (from_low graph t.seg n v) ≡ v
      by_way (inl (low, up, same)) = ap (λ b. cond b w (reversed_walk w)) (eq-eqb (ends_of graph t.seg).0.0 n.0 low) ∙ same
      by_way (inr (low, up, same)) =
          ap (λ b. cond b w (reversed_walk w)) (ne_eqb (ends_of graph t.seg).0.0 n.0 (λ e. apart (sym e ∙ low))) ∙ ap reversed_walk same ∙ back_again v

  to_stands : is_standing old t.to.0 ≡ true
  to_stands = end_stands graph old h t.seg v is t.to.0 (leads_to graph n t leads)

  node : t.to.0 < length graph.kinds
  node = end_below graph fit t.seg t.to.0 below (leads_to graph n t leads)

  pub piece_put : (ts : List ChainStep) (k : Sketch) → IsBut old (t ∷ ts) k → IsBut old ts (with_piece graph n t (from_low graph t.seg n v) k)
  piece_put ts k but = record {
    bounds = but.bounds;
    points = ap (λ (ps : List GridPoint). set ps t.to.0 (end_point w)) but.points ∙ ap (set old.points t.to.0) there ∙ set-get_or old.points t.to.0 nowhere;
    stand_each = length-set k.stand t.to.0 true ∙ but.stand_each;
    walks_each = length-set k.walks t.seg.0 (Some (from_low graph t.seg n w)) ∙ but.walks_each;
    stand = λ m off. by_node m off (cases_eq m t.to.0);
    walks = λ s off. by_segment s off (cases_eq s.0 t.seg.0);
  }
    where
      by_node : (m : ℕ) → ((q : ChainStep) → In q ts → q.to.0 ≡ m → ⊥) → (m ≡ t.to.0) ⊎ (m ≡ t.to.0 → ⊥) → get_or (set k.stand t.to.0 true) m false ≡ is_standing old m
      by_node m off (inl e) =
          ap (λ i. get_or (set k.stand t.to.0 true) i false) e
          ∙ get_or-set_same k.stand t.to.0 true false (omega (arith, node, but.stand_each, h.stand_each))
          ∙ sym (ap (is_standing old) e ∙ to_stands)
      by_node m off (inr f) = get_or-set_other k.stand t.to.0 m true false f ∙ but.stand m none
        where
          none : (q : ChainStep) → In q (t ∷ ts) → q.to.0 ≡ m → ⊥
          none q (inl same) e = f (sym e ∙ ap (λ (p : ChainStep). p.to.0) same)
          none q (inr i) e = off q i e

      by_segment : (s : SegId) → IsOff ts s → (s.0 ≡ t.seg.0) ⊎ (s.0 ≡ t.seg.0 → ⊥) → get_or (set k.walks t.seg.0 (Some (from_low graph t.seg n w))) s.0 None ≡ walk_in old s
      by_segment s off (inl e) =
          ap (λ i. get_or (set k.walks t.seg.0 (Some (from_low graph t.seg n w))) i None) e
          ∙ get_or-set_same k.walks t.seg.0 (Some (from_low graph t.seg n w)) None (omega (arith, below, but.walks_each, h.walks_each))
          ∙ ap (λ (y : PlainWalk). Some y) again
          ∙ sym (ap (λ i. get_or old.walks i None) e ∙ is)
      by_segment s off (inr f) = get_or-set_other k.walks t.seg.0 s.0 (Some (from_low graph t.seg n w)) None f ∙ but.walks s none
        where
          none : IsOff (t ∷ ts) s
          none q (inl same) e = f (sym e ∙ ap (λ (p : ChainStep). p.seg.0) same)
          none q (inr i) e = off q i e

-- ---- a run

rest_steps : (graph : GraphParts) (n : NodeId) (t : ChainStep) (ts : List ChainStep) → AreSteps graph n (t ∷ ts) → AreSteps graph t.to ts
rest_steps graph n t [] steps = tt
rest_steps graph n t (u ∷ us) steps = steps.3

pub all_put : (graph : GraphParts) → IsConsistent graph → (old : Sketch) → IsLegalSketch graph old → (n : NodeId) (ts : List ChainStep) (k : Sketch) → AreSteps graph n ts → ((q : ChainStep) → In q ts → HasWalk old q.seg) → IsBut old ts k
    → with_pieces graph n ts (pieces_along graph old n ts) k ≡ old
all_put graph fit old h n [] k steps have but = same_but old k but
all_put graph fit old h n (t ∷ ts) k steps have but =
    all_put graph fit old h t.to ts (with_piece graph n t (from_low graph t.seg n (walk_or old t.seg)) k) (rest_steps graph n t ts steps) (λ q i. have q (inr i)) (of_walk (have t (inl refl)))
  where
    of_walk : HasWalk old t.seg → IsBut old ts (with_piece graph n t (from_low graph t.seg n (walk_or old t.seg)) k)
    of_walk (v, is) =
        let on = first_leads graph n t ts steps in
        let same : walk_or old t.seg ≡ v = ap (λ (o : Option PlainWalk). unwrap_or o (record { start = nowhere; steps = [] })) is in
        subst (λ (y : PlainWalk). IsBut old ts (with_piece graph n t (from_low graph t.seg n y) k)) (sym same) (piece_put graph fit old h n t v is on.0 on.1 ts k but)

module _ (graph : GraphParts) (fit : IsConsistent graph) (old : Sketch) (c : Chain) (can : IsTakable graph old c) (have : (q : ChainStep) → In q c.steps → HasWalk old q.seg) (from : is_standing old c.from.0 ≡ true)
    (end : is_standing old (end_of c).0 ≡ true) where
  abbrev k : Sketch
  k = without_run old c

  pub run_taken_legal : IsLegalSketch graph (without_run old c)
  run_taken_legal = lift_legal graph (without_walks old c.steps) (inner_nodes c.steps) (legal_without graph fit old can.legal c.steps) can.inner

  -- it may be laid then
  pub clear_then : IsClearFor (without_run old c) c
  clear_then = record {
    from = run_stands old c c.from.0 (λ (m, i, e). first_outer graph fit c.from c.steps can.run.steps can.run.once m i e) ∙ from;
    end = run_stands old c (end_of c).0 (λ (m, i, e). last_outer graph fit c.from c.steps can.run.steps can.run.once m i e) ∙ end;
    inner = λ m i. low_each (without_walks old c.steps) (inner_nodes c.steps) m.0 (m, i, refl);
    walks = λ q i. run_none old c q i;
  }

  but_run : IsBut old c.steps (without_run old c)
  but_run = record {
    bounds = run_bounds old c;
    points = run_points old c;
    stand_each = lift_flags (without_walks old c.steps) (inner_nodes c.steps) ∙ ap length (same_stand old c.steps);
    walks_each = ap length (lift_walks (without_walks old c.steps) (inner_nodes c.steps)) ∙ without_each old c.steps;
    stand = λ m off. run_stands old c m (λ (p, i, e). let step = inner_step c.steps p i in off step.0 step.1 (ap (λ (x : NodeId). x.0) (sym step.2) ∙ e));
    walks = λ s off. run_walks old c s (λ (q, i, e). off q i e);
  }

  pub restored : with_pieces graph c.from c.steps (pieces_along graph old c.from c.steps) (without_run old c) ≡ old
  restored = all_put graph fit old can.legal c.from c.steps (without_run old c) can.run.steps have but_run

  -- so it weighs what the run adds less
  pub run_weighs : (scale : Scale) (first : List GridPoint) → sketch_weight scale graph first old ≡ sketch_weight scale graph first (without_run old c) + run_gain scale graph first old c
  run_weighs scale first =
      subst (λ (j : Sketch). sketch_weight scale graph first j ≡ sketch_weight scale graph first k + run_gain scale graph first j c) restored
      (run_gained graph fit k run_taken_legal c can.run clear_then (pieces_along graph old c.from c.steps) (length-pieces_along graph old c.from c.steps) there_then scale first)
    where
      there_then : point_of_node (with_pieces graph c.from c.steps (pieces_along graph old c.from c.steps) k) (end_of c).0 ≡ point_of_node k (end_of c).0
      there_then = ap (λ (j : Sketch). point_of_node j (end_of c).0) restored ∙ ap (λ (ps : List GridPoint). get_or ps (end_of c).0 nowhere) (sym (run_points old c))
