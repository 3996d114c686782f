-- What each step of a run wants that is laid along the walk that was found.
use Rattle.std.proofs.Common.{◌≡◌, refl, sym, ◌∙◌, ap, ap₂, subst, ℕ, ◌+◌, ◌<◌, ◌≤◌, Bool, true, nat_le, nat_lt, List, [], length, drop, get_or, map, None, Some, arith}
use Rattle.drawing_search.proofs.Common.{board_under, contains, cut_place, cuts_at, drop_all, end_of, end_point}
use Rattle.drawing_search.proofs.Common.{even_steps, if_within, is_even, laid_within, last_seg_of}
use Rattle.drawing_search.proofs.Common.{length-map-range_with_len, length-pieces, list_all, nowhere, piece_along}
use Rattle.drawing_search.proofs.Common.{pieces_of, point_at, points_of, range_with_len, run_walk, walk_in, with_piece}
use Rattle.drawing_search.proofs.Common.{with_pieces, Bounds, Chain, ChainStep, Dir, GraphParts, GridPoint}
use Rattle.drawing_search.proofs.Common.{IsConsistent, IsFreeFor, IsLegalSketch, IsRun, IsTrack, NodeId, PlainWalk}
use Rattle.drawing_search.proofs.Common.{Sketch, StandsAfter}
use Rattle.drawing_search.proofs.Laid.{all_laid_along, cuts_some, pieces_more, run_further, step_of_run, IsLayingFrom, IsStepOf, cut_at, cut_even, cut_order, cut_within, laying_begins, piece_at, points_inside}
use Rattle.drawing_search.proofs.Steps.{piece_end}

-- the walk that was found, step by step, and where it is cut
pub record IsCutRun (graph : GraphParts) (k : Sketch) (c : Chain) (most : ℕ) (w : PlainWalk) (ps : List GridPoint) (ds : List Dir) (cs : List ℕ) : Type 0 where
  pub found : Some w ≡ if_within most (run_walk graph (board_under k) c)
  pub points : ps ≡ points_of w
  pub steps : ds ≡ w.steps
  pub track : IsTrack ps ds
  pub enough : nat_le (length c.steps) (even_steps (points_of w)) ≡ true
  pub cuts : cs ≡ map (cut_place (points_of w) (length c.steps)) (range_with_len 0 (length c.steps + 1))

pub cut_run : (graph : GraphParts) (k : Sketch) (c : Chain) (most : ℕ) (w : PlainWalk) (ps : List GridPoint) (ds : List Dir) (cs : List ℕ) (ts : List ChainStep) → Some w ≡ if_within most (run_walk graph (board_under k) c)
    → ps ≡ points_of w → ds ≡ w.steps → IsTrack ps ds → ts ≡ c.steps → Some cs ≡ cuts_at ps (length ts) → IsCutRun graph k c most w ps ds cs
cut_run graph k c most w ps ds cs ts found points steps track same is =
    let cut = cuts_some (points_of w) (length c.steps) cs (is ∙ ap₂ (λ (qs : List GridPoint) (us : List ChainStep). cuts_at qs (length us)) points same) in
    record { found = found; points = points; steps = steps; track = track; enough = cut.0; cuts = cut.1 }

module _ (graph : GraphParts) (fit : IsConsistent graph) (k : Sketch) (h : IsLegalSketch graph k) (c : Chain) (run : IsRun graph c) (free : IsFreeFor k c) (most : ℕ) (w : PlainWalk) (ps : List GridPoint) (ds : List Dir) (cs : List ℕ) (by : IsCutRun graph k c most w ps ds cs) where
  abbrev count : ℕ
  count = length c.steps

  abbrev pieces : List PlainWalk
  pieces = pieces_of w count

  abbrev cut : ℕ → ℕ
  cut i = cut_place (points_of w) count i

  pub cuts_many : length cs ≡ length c.steps + 1
  cuts_many = ap length by.cuts ∙ length-map-range_with_len (cut_place (points_of w) (length c.steps)) 0 (length c.steps + 1)

  pub run_begins : IsLayingFrom graph c.from c.steps pieces 0 k (last_seg_of c) (end_of c).0
  run_begins = laying_begins graph fit k h c run free most w by.found by.enough

  pub run_inside : list_all (contains k.bounds) ps ≡ true
  run_inside = ap (list_all (contains k.bounds)) by.points ∙ points_inside graph fit k h c run free most w by.found

  -- step i, with the cuts at its ends as they were read
  module _ (i a b x y : ℕ) (below : i < count) (start : a ≡ get_or cs i x) (end : b ≡ get_or cs (i + 1) y) where
    start_is : a ≡ cut i
    start_is = start ∙ cut_at graph fit k h c run free most w by.found by.enough cs i x by.cuts (omega (arith, below))

    end_is : b ≡ cut (i + 1)
    end_is = end ∙ cut_at graph fit k h c run free most w by.found by.enough cs (i + 1) y by.cuts (omega (arith, below))

    order_is : cut i < cut (i + 1)
    order_is = cut_order graph fit k h c run free most w by.found by.enough i below

    within_is : cut (i + 1) ≤ length w.steps
    within_is = cut_within graph fit k h c run free most w by.found by.enough i below

    pub run_order : a < b
    run_order = omega (arith, order_is, start_is, end_is)

    pub run_within : b ≤ length ds
    run_within = omega (arith, within_is, end_is, ap length by.steps)

    pub run_even : is_even (point_at ps b) ≡ true
    run_even = ap₂ (λ (qs : List GridPoint) j. is_even (point_at qs j)) by.points end_is ∙ cut_even graph fit k h c run free most w by.found by.enough i below

    module _ (at : NodeId) (mid : Sketch) (left : IsLayingFrom graph at c.steps pieces i mid (last_seg_of c) (end_of c).0) (d : ChainStep) (v : PlainWalk) where
      piece_is : get_or pieces i v ≡ piece_along ps ds a b
      piece_is =
          piece_at graph fit k h c run free most w by.found by.enough i v below
          ∙ sym (ap₂ (λ m n. piece_along (points_of w) w.steps m n) start_is end_is)
          ∙ sym (ap₂ (λ (qs : List GridPoint) (es : List Dir). piece_along qs es a b) by.points by.steps)

      pub step_here : (inner : Bool) → inner ≡ nat_lt (i + 1) count → IsStepOf graph inner (get_or c.steps i d) (get_or pieces i v) mid
      step_here inner is = step_of_run graph fit at c.steps pieces i mid (last_seg_of c) (end_of c).0 (length-pieces w count) below d v left inner is

      -- the node to which it leads is where its piece ends
      pub stands_here : (inner : Bool) → inner ≡ nat_lt (i + 1) count → StandsAfter inner mid (get_or c.steps i d).to.0 (point_at ps b)
      stands_here inner is =
          subst (StandsAfter inner mid (get_or c.steps i d).to.0)
          (ap end_point piece_is ∙ piece_end ps ds by.track a b (omega (arith, run_order)) run_within)
          (step_here inner is).to

      module _ (new : Sketch) (is : new ≡ with_piece graph at (get_or c.steps i d) (piece_along ps ds a b) mid) where
        there : new ≡ with_piece graph at (get_or c.steps i d) (get_or pieces i v) mid
        there = is ∙ ap (λ (u : PlainWalk). with_piece graph at (get_or c.steps i d) u mid) (sym piece_is)

        pub further_left : i + 1 < count → IsLayingFrom graph (get_or c.steps i d).to c.steps pieces (i + 1) new (last_seg_of c) (end_of c).0
        further_left more =
            subst (λ (j : Sketch). IsLayingFrom graph (get_or c.steps i d).to c.steps pieces (i + 1) j (last_seg_of c) (end_of c).0) (sym there)
            (run_further graph fit at c.steps pieces i mid (last_seg_of c) (end_of c).0 (length-pieces w count) below d v left more)

        pub rest_further : with_pieces graph (get_or c.steps i d).to (drop (i + 1) c.steps) (drop (i + 1) pieces) new ≡ with_pieces graph at (drop i c.steps) (drop i pieces) mid
        rest_further =
            ap (with_pieces graph (get_or c.steps i d).to (drop (i + 1) c.steps) (drop (i + 1) pieces)) there
            ∙ sym (pieces_more graph fit at c.steps pieces i mid (last_seg_of c) (end_of c).0 (length-pieces w count) below d v)

  -- nothing is left at the end
  pub run_ends : (i : ℕ) (at : NodeId) (new : Sketch) → count ≤ i → with_pieces graph at (drop i c.steps) (drop i pieces) new ≡ with_pieces graph c.from c.steps pieces k → laid_within graph most c k ≡ Some new
  run_ends i at new past rest =
      all_laid_along graph most c k new w by.found by.enough
      (sym (ap₂ (λ (ts : List ChainStep) (vs : List PlainWalk). with_pieces graph at ts vs new) (drop_all i c.steps past) (drop_all i pieces (omega (arith, past, length-pieces w count)))) ∙ rest)

-- the run is laid up to step i, from which the rest of it comes
pub record IsUnderWay (graph : GraphParts) (k : Sketch) (c : Chain) (most : ℕ) (ps : List GridPoint) (ds : List Dir) (cs : List ℕ) (i : ℕ) (at : NodeId) (mid : Sketch) : Type 0 where
  pub walk : PlainWalk
  pub by : IsCutRun graph k c most walk ps ds cs
  pub bounds : mid.bounds ≡ k.bounds
  pub rest : with_pieces graph at (drop i c.steps) (drop i (pieces_of walk (length c.steps))) mid ≡ with_pieces graph c.from c.steps (pieces_of walk (length c.steps)) k
  pub left : i < length c.steps → IsLayingFrom graph at c.steps (pieces_of walk (length c.steps)) i mid (last_seg_of c) (end_of c).0

-- what a step wants that is laid on a drawing, between two places of the walk
pub record IsStepReady (graph : GraphParts) (k : Sketch) (inner : Bool) (t : ChainStep) (ps : List GridPoint) (ds : List Dir) (a b : ℕ) : Type 0 where
  pub segment : t.seg.0 < length graph.ends
  pub node : t.to.0 < length graph.kinds
  pub legal : IsLegalSketch graph k
  pub free : walk_in k t.seg ≡ None
  pub to : StandsAfter inner k t.to.0 (point_at ps b)
  pub order : a < b
  pub within : b ≤ length ds
  pub inside : list_all (contains k.bounds) ps ≡ true
  pub even : is_even (point_at ps b) ≡ true

module _ (graph : GraphParts) (fit : IsConsistent graph) (k : Sketch) (h : IsLegalSketch graph k) (c : Chain) (run : IsRun graph c) (free : IsFreeFor k c) (most : ℕ) (ps : List GridPoint) (ds : List Dir) (cs : List ℕ) (ts : List ChainStep) (same : ts ≡ c.steps) where
  pub way_begins : (w : PlainWalk) → IsCutRun graph k c most w ps ds cs → IsUnderWay graph k c most ps ds cs 0 c.from k
  way_begins w by = record { walk = w; by = by; bounds = refl; rest = refl; left = λ some. run_begins graph fit k h c run free most w ps ds cs by }

  module _ (i : ℕ) (at : NodeId) (mid : Sketch) (u : IsUnderWay graph k c most ps ds cs i at mid) where
    pub way_cuts : length cs ≡ length ts + 1
    way_cuts = cuts_many graph fit k h c run free most u.walk ps ds cs u.by ∙ sym (ap (λ (v : List ChainStep). length v + 1) same)

    module _ (below : i < length ts) (a b : ℕ) (start : a ≡ get_or cs i a) (end : b ≡ get_or cs (i + 1) b) (d : ChainStep) where
      below_count : i < length c.steps
      below_count = subst (λ (v : List ChainStep). i < length v) same below

      same_step : get_or ts i d ≡ get_or c.steps i d
      same_step = ap (λ (v : List ChainStep). get_or v i d) same

      abbrev no_walk : PlainWalk
      no_walk = record { start = nowhere; steps = [] }

      pub step_ready : (inner : Bool) → inner ≡ nat_lt (i + 1) (length ts) → IsStepReady graph mid inner (get_or ts i d) ps ds a b
      step_ready inner is =
          subst (λ (t : ChainStep). IsStepReady graph mid inner t ps ds a b) (sym same_step)
          (record {
            segment = fits.segment;
            node = fits.node;
            legal = (u.left below_count).laying.legal;
            free = fits.free;
            to = stands_here graph fit k h c run free most u.walk ps ds cs u.by i a b a b below_count start end at mid (u.left below_count) d no_walk inner is_inner;
            order = run_order graph fit k h c run free most u.walk ps ds cs u.by i a b a b below_count start end;
            within = run_within graph fit k h c run free most u.walk ps ds cs u.by i a b a b below_count start end;
            inside = ap (λ (z : Bounds). list_all (contains z) ps) u.bounds ∙ run_inside graph fit k h c run free most u.walk ps ds cs u.by;
            even = run_even graph fit k h c run free most u.walk ps ds cs u.by i a b a b below_count start end;
          })
        where
          is_inner : inner ≡ nat_lt (i + 1) (length c.steps)
          is_inner = is ∙ ap (λ (v : List ChainStep). nat_lt (i + 1) (length v)) same

          fits : IsStepOf graph inner (get_or c.steps i d) (get_or (pieces_of u.walk (length c.steps)) i no_walk) mid
          fits = step_here graph fit k h c run free most u.walk ps ds cs u.by i a b a b below_count start end at mid (u.left below_count) d no_walk inner is_inner

      pub step_laid : (new : Sketch) → new ≡ with_piece graph at (get_or ts i d) (piece_along ps ds a b) mid → IsUnderWay graph k c most ps ds cs (i + 1) (get_or ts i d).to new
      step_laid new is =
          subst (λ (t : ChainStep). IsUnderWay graph k c most ps ds cs (i + 1) t.to new) (sym same_step)
          (record {
            walk = u.walk;
            by = u.by;
            bounds = ap (λ (j : Sketch). j.bounds) is ∙ u.bounds;
            rest = rest_further graph fit k h c run free most u.walk ps ds cs u.by i a b a b below_count start end at mid (u.left below_count) d no_walk new laid_there ∙ u.rest;
            left = λ more. further_left graph fit k h c run free most u.walk ps ds cs u.by i a b a b below_count start end at mid (u.left below_count) d no_walk new laid_there more;
          })
        where
          laid_there : new ≡ with_piece graph at (get_or c.steps i d) (piece_along ps ds a b) mid
          laid_there = is ∙ ap (λ (t : ChainStep). with_piece graph at t (piece_along ps ds a b) mid) same_step

    pub way_ends : length ts ≤ i → laid_within graph most c k ≡ Some mid
    way_ends past = run_ends graph fit k h c run free most u.walk ps ds cs u.by i at mid (subst (λ (v : List ChainStep). length v ≤ i) same past) u.rest
