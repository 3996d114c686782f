-- A run is laid step by step along a walk that is cut.
use Rattle.std.proofs.Common.{◌≡◌, refl, sym, ◌∙◌, ap, subst, ℕ, ◌+◌, ◌<◌, Bool, true, false, cond, nat_lt, List, [], ◌∷◌, length, map, drop, get_or, set, Option, Some, None, inl, arith, length-drop, ◌≤◌, ◌⊎◌, inr}
use Rattle.run_laying.proofs.FreeRoutes.{free_of_route}
use Rattle.run_laying.proofs.Piecewise.{IsFreeWalk}
use Rattle.drawing_search.proofs.Common.{all_in, board_under, cases_lt, contains, cost_of, cut_place, cuts_at, cuts_of}
use Rattle.drawing_search.proofs.Common.{drop_more, end_below, end_of, end_point, even_steps, first_seg_of, from_low}
use Rattle.drawing_search.proofs.Common.{get_or-map-range_with_len, if_within, inner_nodes, is_even, is_standing}
use Rattle.drawing_search.proofs.Common.{laid_along, laid_further, laid_within, last_seg_of, laying_of, leads_to}
use Rattle.drawing_search.proofs.Common.{leb-true, length-points, list_all, lt-ltb, nat_le, nowhere, piece_along}
use Rattle.drawing_search.proofs.Common.{piece_of, pieces_of, point_at, point_of_node, points_from, points_of}
use Rattle.drawing_search.proofs.Common.{range_with_len, run_walk, set-get_or, short_inside, stood, walk_in, with_piece}
use Rattle.drawing_search.proofs.Common.{with_pieces, with_walk_of, AreCuts, Chain, ChainStep, Dir, GraphParts}
use Rattle.drawing_search.proofs.Common.{GridPoint, IsClearFor, IsConsistent, IsFreeFor, IsLaying, IsLegalSketch, IsRun}
use Rattle.drawing_search.proofs.Common.{IsTrack, IsWalk, NodeId, PlainWalk, SegId, Sketch, StandsAfter}
use Rattle.drawing_search.proofs.FieldFacts.{one_behind}

-- ---- what was found

pub within_some : (most : ℕ) (o : Option PlainWalk) (w : PlainWalk) → Some w ≡ if_within most o → o ≡ Some w
within_some most None w e = cc
within_some most (Some v) w e = by_test (nat_le (cost_of v) most) e
  where
    by_test : (t : Bool) → Some w ≡ cond t (Some v) None → Some v ≡ Some w
    by_test true f = sym f
    by_test false f = cc

pub cuts_some : (points : List GridPoint) (count : ℕ) (cs : List ℕ) → Some cs ≡ cuts_at points count → (nat_le count (even_steps points) ≡ true) × (cs ≡ map (cut_place points count) (range_with_len 0 (count + 1)))
cuts_some points count cs e = by_test (nat_le count (even_steps points)) refl e
  where
    by_test : (t : Bool) → nat_le count (even_steps points) ≡ t → Some cs ≡ cond t (Some (map (cut_place points count) (range_with_len 0 (count + 1)))) None
        → (nat_le count (even_steps points) ≡ true) × (cs ≡ map (cut_place points count) (range_with_len 0 (count + 1)))
    by_test true is f = (is, cc)
    by_test false is f = cc

pub cuts_none : (points : List GridPoint) (count : ℕ) → None ≡ cuts_at points count → nat_le count (even_steps points) ≡ false
cuts_none points count e = by_test (nat_le count (even_steps points)) refl e
  where
    by_test : (t : Bool) → nat_le count (even_steps points) ≡ t → None ≡ cond t (Some (map (cut_place points count) (range_with_len 0 (count + 1)))) None → nat_le count (even_steps points) ≡ false
    by_test true is f = cc
    by_test false is f = is

pub none_laid : (graph : GraphParts) (most : ℕ) (c : Chain) (k : Sketch) → None ≡ if_within most (run_walk graph (board_under k) c) → laid_within graph most c k ≡ None
none_laid graph most c k e = ap (laid_along graph c k) (sym e)

pub uncut_laid : (graph : GraphParts) (most : ℕ) (c : Chain) (k : Sketch) (w : PlainWalk) → Some w ≡ if_within most (run_walk graph (board_under k) c) → nat_le (length c.steps) (even_steps (points_of w)) ≡ false
    → laid_within graph most c k ≡ None
uncut_laid graph most c k w e few =
    ap (laid_along graph c k) (sym e) ∙ ap (λ t. cond t (Some (with_pieces graph c.from c.steps (pieces_of w (length c.steps)) k)) None) few

pub all_laid_along : (graph : GraphParts) (most : ℕ) (c : Chain) (k new : Sketch) (w : PlainWalk) → Some w ≡ if_within most (run_walk graph (board_under k) c) → nat_le (length c.steps) (even_steps (points_of w)) ≡ true
    → new ≡ with_pieces graph c.from c.steps (pieces_of w (length c.steps)) k → laid_within graph most c k ≡ Some new
all_laid_along graph most c k new w e enough is =
    ap (laid_along graph c k) (sym e)
    ∙ ap (λ t. cond t (Some (with_pieces graph c.from c.steps (pieces_of w (length c.steps)) k)) None) enough
    ∙ ap (λ (j : Sketch). Some j) (sym is)

-- what a step wants, and what the node to which it leads is then
pub record IsStepOf (graph : GraphParts) (is_inner : Bool) (t : ChainStep) (v : PlainWalk) (k : Sketch) : Type 0 where
  pub segment : t.seg.0 < length graph.ends
  pub node : t.to.0 < length graph.kinds
  pub free : walk_in k t.seg ≡ None
  pub to : StandsAfter is_inner k t.to.0 (end_point v)

step_fits : (graph : GraphParts) → IsConsistent graph → (n : NodeId) (t : ChainStep) (ts : List ChainStep) (v : PlainWalk) (vs : List PlainWalk) (k : Sketch) (w : PlainWalk) (l : SegId) (e : ℕ)
    → IsLaying graph n (t ∷ ts) (v ∷ vs) k w l e → (b : Bool) → b ≡ nat_lt 0 (length ts) → IsStepOf graph b t v k
step_fits graph fit n t [] v [] k w l e h b is = record {
  segment = h.steps.0;
  node = end_below graph fit t.seg t.to.0 h.steps.0 (leads_to graph n t h.steps.1);
  free = h.none t (inl refl);
  to =
      subst (λ a. StandsAfter a k t.to.0 (end_point v)) (sym is)
      (subst (λ m. is_standing k m ≡ true) (sym h.at) h.free.to_stands, ap (point_of_node k) h.at ∙ sym h.free.end ∙ ap end_point (sym h.cut.0));
}
step_fits graph fit n t [] v (x ∷ xs) k w l e h b is = absurd (omega (arith, h.each))
step_fits graph fit n t (u ∷ us) v vs k w l e h b is = record {
  segment = h.steps.0;
  node = end_below graph fit t.seg t.to.0 h.steps.0 (leads_to graph n t h.steps.1);
  free = h.none t (inl refl);
  to = subst (λ a. StandsAfter a k t.to.0 (end_point v)) (sym (is ∙ lt-ltb 0 (length (u ∷ us)) (omega arith))) (h.lifted t.to (inl refl));
}

further : (graph : GraphParts) → IsConsistent graph → (n : NodeId) (t : ChainStep) (ts : List ChainStep) (v : PlainWalk) (vs : List PlainWalk) (k : Sketch) (w : PlainWalk) (l : SegId) (e : ℕ)
    → IsLaying graph n (t ∷ ts) (v ∷ vs) k w l e → 0 < length ts → (rest : PlainWalk) × IsLaying graph t.to ts vs (with_piece graph n t v k) rest l e
further graph fit n t [] v vs k w l e h some = absurd (omega arith)
further graph fit n t (u ∷ us) v [] k w l e h some = absurd (omega (arith, h.each))
further graph fit n t (u ∷ us) v (x ∷ xs) k w l e h some = laid_further graph fit n t u us v x xs k w l e h

-- the segment has its piece, and the node to which it leads stands at the end of that, or stood there before
pub piece_stood : (graph : GraphParts) (n : NodeId) (t : ChainStep) (w : PlainWalk) (k mid new : Sketch) (p : GridPoint) → mid ≡ with_walk_of k t.seg (Some (from_low graph t.seg n w)) → p ≡ end_point w → new ≡ stood mid t.to p → new ≡ with_piece graph n t w k
piece_stood graph n t w k mid new p given at is = is ∙ ap (λ (j : Sketch). stood j t.to p) given ∙ ap (stood (with_walk_of k t.seg (Some (from_low graph t.seg n w))) t.to) at

pub piece_kept : (graph : GraphParts) (n : NodeId) (t : ChainStep) (w : PlainWalk) (k mid : Sketch) → mid ≡ with_walk_of k t.seg (Some (from_low graph t.seg n w)) → is_standing k t.to.0 ≡ true → point_of_node k t.to.0 ≡ end_point w → mid ≡ with_piece graph n t w k
piece_kept graph n t w k mid given stands at =
    given
    ∙ (λ i. record {
      bounds = k.bounds;
      points = sym (ap (set k.points t.to.0) (sym at) ∙ set-get_or k.points t.to.0 nowhere) i;
      stand = sym (ap (set k.stand t.to.0) (sym stands) ∙ set-get_or k.stand t.to.0 false) i;
      walks = set k.walks t.seg.0 (Some (from_low graph t.seg n w));
    })

-- the run from a step on is still to be laid, if there is one
pub record IsLayingFrom (graph : GraphParts) (n : NodeId) (ts : List ChainStep) (vs : List PlainWalk) (i : ℕ) (k : Sketch) (l : SegId) (e : ℕ) : Type 0 where
  pub walk : PlainWalk
  pub laying : IsLaying graph n (drop i ts) (drop i vs) k walk l e

module _ (graph : GraphParts) (fit : IsConsistent graph) (n : NodeId) (ts : List ChainStep) (vs : List PlainWalk) (i : ℕ) (k : Sketch) (l : SegId) (e : ℕ) (each : length vs ≡ length ts) (below : i < length ts) (d : ChainStep) (x : PlainWalk) where
  abbrev t : ChainStep
  t = get_or ts i d

  abbrev v : PlainWalk
  v = get_or vs i x

  first : drop i ts ≡ t ∷ drop (i + 1) ts
  first = drop_more ts i d below

  first_piece : drop i vs ≡ v ∷ drop (i + 1) vs
  first_piece = drop_more vs i x (omega (arith, each, below))

  here : (h : IsLayingFrom graph n ts vs i k l e) → IsLaying graph n (t ∷ drop (i + 1) ts) (v ∷ drop (i + 1) vs) k h.walk l e
  here h = subst (λ (qs : List ChainStep). IsLaying graph n qs (v ∷ drop (i + 1) vs) k h.walk l e) first (subst (λ (bs : List PlainWalk). IsLaying graph n (drop i ts) bs k h.walk l e) first_piece h.laying)

  pub step_of_run : IsLayingFrom graph n ts vs i k l e → (b : Bool) → b ≡ nat_lt (i + 1) (length ts) → IsStepOf graph b (get_or ts i d) (get_or vs i x) k
  step_of_run h b is = step_fits graph fit n t (drop (i + 1) ts) v (drop (i + 1) vs) k h.walk l e (here h) b (is ∙ one_behind ts i)

  pub run_further : IsLayingFrom graph n ts vs i k l e → i + 1 < length ts → IsLayingFrom graph (get_or ts i d).to ts vs (i + 1) (with_piece graph n (get_or ts i d) (get_or vs i x) k) l e
  run_further h more =
      let rest = further graph fit n t (drop (i + 1) ts) v (drop (i + 1) vs) k h.walk l e (here h) (omega (arith, length-drop (i + 1) ts, more)) in
      record { walk = rest.0; laying = rest.1 }

  -- the rest of the run is laid on what there is then
  pub pieces_more : with_pieces graph n (drop i ts) (drop i vs) k ≡ with_pieces graph (get_or ts i d).to (drop (i + 1) ts) (drop (i + 1) vs) (with_piece graph n (get_or ts i d) (get_or vs i x) k)
  pieces_more = ap (λ (qs : List ChainStep). with_pieces graph n qs (drop i vs) k) first ∙ ap (λ (bs : List PlainWalk). with_pieces graph n (t ∷ drop (i + 1) ts) bs k) first_piece

-- ---- a run that is laid along the walk that was found: where it is cut, and how its steps begin

pub clear_of : (k : Sketch) (c : Chain) → IsFreeFor k c → IsClearFor k c
clear_of k c free = record {
  from = free.from;
  end = free.end;
  inner = λ m i. all_in (λ (n : NodeId). is_standing k n.0 ≡ false) (inner_nodes c.steps) m (λ j d h. free.inner j d h) i;
  walks = λ q i. all_in (λ (t : ChainStep). walk_in k t.seg ≡ None) c.steps q (λ j d h. free.walks j d h) i;
}

-- the track of a walk
first_point : (p : GridPoint) (ds : List Dir) → point_at (points_from p ds) 0 ≡ p
first_point p [] = refl
first_point p (d ∷ ds) = refl

pub track_of : (w : PlainWalk) → IsWalk w → IsTrack (points_of w) w.steps
track_of w is = record { walk = subst IsWalk (sym same) is; points_are = ap (λ (p : GridPoint). points_from p w.steps) (sym first) }
  where
    first : point_at (points_of w) 0 ≡ w.start
    first = first_point w.start w.steps

    same : (let v : PlainWalk = record { start = point_at (points_of w) 0; steps = w.steps } in v) ≡ w
    same = ap (λ (p : GridPoint). (let v : PlainWalk = record { start = p; steps = w.steps } in v)) first

module _ (graph : GraphParts) (fit : IsConsistent graph) (k : Sketch) (h : IsLegalSketch graph k) (c : Chain) (run : IsRun graph c) (free : IsFreeFor k c) (most : ℕ) (w : PlainWalk) (found : Some w ≡ if_within most (run_walk graph (board_under k) c)) where
  pub free_walk : IsFreeWalk graph k c.from.0 (end_of c).0 (first_seg_of c.steps) (last_seg_of c) w
  free_walk = free_of_route graph k h c.from.0 (end_of c).0 (first_seg_of c.steps) (last_seg_of c) w free.from free.end run.apart (within_some most (run_walk graph (board_under k) c) w found)

  pub start_even : is_even w.start ≡ true
  start_even = ap is_even free_walk.start ∙ h.even c.from.0 free.from

  -- its points may be cut
  pub some_points : 0 < length (points_of w)
  some_points = omega (arith, length-points w.start w.steps)

  pub few_points : length (points_of w) < 2147483648
  few_points = let short = short_inside k.bounds h.bounds w free_walk.once free_walk.within in omega (arith, length-points w.start w.steps, short)

  pub first_even : is_even (point_at (points_of w) 0) ≡ true
  first_even = ap is_even (first_point w.start w.steps) ∙ start_even

  pub points_inside : list_all (contains k.bounds) (points_of w) ≡ true
  points_inside = free_walk.within

  module _ (enough : nat_le (length c.steps) (even_steps (points_of w)) ≡ true) where
    cuts : AreCuts w (cut_place (points_of w) (length c.steps)) (length c.steps)
    cuts = cuts_of w (length c.steps) start_even (ap is_even free_walk.end ∙ h.even (end_of c).0 free.end) run.some (leb-true (length c.steps) (even_steps (points_of w)) enough)

    pub cut_order : (i : ℕ) → i < length c.steps → cut_place (points_of w) (length c.steps) i < cut_place (points_of w) (length c.steps) (i + 1)
    cut_order i below = cuts.rises i below

    pub cut_within : (i : ℕ) → i < length c.steps → cut_place (points_of w) (length c.steps) (i + 1) ≤ length w.steps
    cut_within i below = by_order (cases_lt (i + 1) (length c.steps))
      where
        by_order : (i + 1 < length c.steps) ⊎ (length c.steps ≤ i + 1) → cut_place (points_of w) (length c.steps) (i + 1) ≤ length w.steps
        by_order (inl less) = omega (arith, cuts.below (i + 1) less)
        by_order (inr last) = let same : i + 1 ≡ length c.steps = omega (arith, below, last) in omega (arith, ap (cut_place (points_of w) (length c.steps)) same, cuts.last)

    pub cut_even : (i : ℕ) → i < length c.steps → is_even (point_at (points_of w) (cut_place (points_of w) (length c.steps) (i + 1))) ≡ true
    cut_even i below = cuts.even (i + 1) (omega arith)

    pub laying_begins : IsLayingFrom graph c.from c.steps (pieces_of w (length c.steps)) 0 k (last_seg_of c) (end_of c).0
    laying_begins = record { walk = w; laying = laying_of graph k c w h run (clear_of k c free) free_walk (leb-true (length c.steps) (even_steps (points_of w)) enough) }

    -- pieces, by the cuts at their ends
    pub piece_at : (i : ℕ) (x : PlainWalk) → i < length c.steps → get_or (pieces_of w (length c.steps)) i x ≡ piece_along (points_of w) w.steps (cut_place (points_of w) (length c.steps) i) (cut_place (points_of w) (length c.steps) (i + 1))
    piece_at i x below = get_or-map-range_with_len (piece_of w (length c.steps)) 0 (length c.steps) i i x below (omega arith)

    pub cut_at : (cs : List ℕ) (i d : ℕ) → cs ≡ map (cut_place (points_of w) (length c.steps)) (range_with_len 0 (length c.steps + 1)) → i ≤ length c.steps → get_or cs i d ≡ cut_place (points_of w) (length c.steps) i
    cut_at cs i d is below = ap (λ (v : List ℕ). get_or v i d) is ∙ get_or-map-range_with_len (cut_place (points_of w) (length c.steps)) 0 (length c.steps + 1) i i d (omega (arith, below)) (omega arith)
