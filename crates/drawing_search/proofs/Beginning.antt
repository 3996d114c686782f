-- A search begins with a whole drawing on its board, as it is made, and ends with one.
use Rattle.std.proofs.Common.{◌≡◌, refl, sym, ◌∙◌, ap, ap₂, subst, ℕ, zero, suc, ◌+◌, ◌<◌, ◌≤◌, Bool, true, not, List, [], ◌∷◌, length, map, get_or, replicate, Option, Some, None, Result, Ok, Err, arith, ◌-◌, false, ◌++◌, set, append-nil, length-append}
use Rattle.drawing_weights.proofs.Spans.{first_within, inside_near, past_bounds}
use Rattle.drawing_search.specs.declared.searching.Searched.{Searched}
use Rattle.drawing_search.proofs.Common.{and_from, are_near, bare_sketch, bounds_past, contains, fill_by_all}
use Rattle.drawing_search.proofs.Common.{filter_map, found_on, get_or-map, get_or_default, is_even, is_inner, is_near}
use Rattle.drawing_search.proofs.Common.{is_standing, kept_sketch, length-map, length-map-range_with_len}
use Rattle.drawing_search.proofs.Common.{length-replicate, list_all, map-append, nowhere, point_of, points_all}
use Rattle.drawing_search.proofs.Common.{points_of, range_with_len, set-get_or, sketch_weight, stood, walk_beside}
use Rattle.drawing_search.proofs.Common.{walk_in, walks_of, weight_by, whole_legal, whole_sketch, with_walk_of}
use Rattle.drawing_search.proofs.Common.{without_runs, All, AreBounds, Attempt, Bounds, Found, GraphParts, GridPoint}
use Rattle.drawing_search.proofs.Common.{Group, IfOk, IsConsistent, IsDrawn, IsFitting, IsLegalSketch, IsOnBoard}
use Rattle.drawing_search.proofs.Common.{IsSearched, IsSearchedOn, IsWhole, PlainWalk, Scale, Sketch}
use Rattle.drawing_search.proofs.OnWalks.{same_weight, sketch_by_walks, IsGood}
use Rattle.drawing_search.proofs.RunReads.{near_more}
use Rattle.drawing_search.proofs.Searches.{IsBetweenPasses}
use Rattle.octi_grid.specs.declared.dir.Dir.TheVariants as dir

-- ---- a list whose rest is one value

first_left : {X : Type 0} (xs : List X) (m : ℕ) (d : X) → get_or (xs ++ replicate m d) (length xs) d ≡ d
first_left [] zero d = refl
first_left [] (suc m) d = refl
first_left (x ∷ xs) m d = first_left xs m d

set_left : {X : Type 0} (xs : List X) (m : ℕ) (d y : X) → 0 < m → set (xs ++ replicate m d) (length xs) y ≡ (xs ++ y ∷ []) ++ replicate (m - 1) d
set_left [] zero d y h = absurd (omega (arith, h))
set_left [] (suc m) d y h = let same : m ≡ suc m - 1 = omega arith in ap (λ k. y ∷ replicate k d) same
set_left (x ∷ xs) m d y h = ap (λ zs. x ∷ zs) (set_left xs m d y h)

one_true : (n : ℕ) → replicate n true ++ true ∷ [] ≡ replicate (n + 1) true
one_true zero = refl
one_true (suc n) = let same : suc (n + 1) ≡ suc n + 1 = omega arith in ap (λ (bs : List Bool). true ∷ bs) (one_true n) ∙ ap (λ k. replicate k true) same

-- ---- nodes

abbrev pub with_nodes : Bounds → List GridPoint → ℕ → ℕ → Sketch
with_nodes bounds points segments n = record { bounds = bounds; points = points; stand = replicate n true ++ replicate (length points - n) false; walks = replicate segments None }

module _ (bounds : Bounds) (points : List GridPoint) (segments : ℕ) where
  pub nodes_none : bare_sketch bounds points segments ≡ with_nodes bounds points segments 0
  nodes_none =
      let same : length points ≡ length points - 0 = omega arith in
      ap (λ n. (let k : Sketch = record { bounds = bounds; points = points; stand = replicate n false; walks = replicate segments None } in k)) same

  module _ (n : ℕ) (below : n < length points) where
    pub node_low : is_standing (with_nodes bounds points segments n) n ≡ false
    node_low =
        let at : n ≡ length (replicate n true) = sym (length-replicate n true) in
        ap (λ i. get_or (replicate n true ++ replicate (length points - n) false) i false) at ∙ first_left (replicate n true) (length points - n) false

    pub node_flag : n < length (with_nodes bounds points segments n).stand
    node_flag = omega (arith, below, length-append (replicate n true) (replicate (length points - n) false), length-replicate n true, length-replicate (length points - n) false)

    pub node_built : (p : GridPoint) → p ≡ get_or points n nowhere → stood (with_nodes bounds points segments n) (record { 0 = n }) p ≡ with_nodes bounds points segments (n + 1)
    node_built p is =
        let at : n ≡ length (replicate n true) = sym (length-replicate n true) in
        let less : length points - n - 1 ≡ length points - (n + 1) = omega arith in
        ap (λ (ps : List GridPoint). (let k : Sketch = record { bounds = bounds; points = ps; stand = set (replicate n true ++ replicate (length points - n) false) n true; walks = replicate segments None } in k)) (ap (set points n) is ∙ set-get_or points n nowhere)
        ∙ ap (λ (fs : List Bool). (let k : Sketch = record { bounds = bounds; points = points; stand = fs; walks = replicate segments None } in k))
        (ap (λ i. set (replicate n true ++ replicate (length points - n) false) i true) at
        ∙ set_left (replicate n true) (length points - n) false true (omega (arith, below))
        ∙ ap₂ (λ (u v : List Bool). u ++ v) (one_true n) (ap (λ m. replicate m false) less))

-- ---- walks

abbrev pub with_walks : Bounds → List GridPoint → List PlainWalk → ℕ → Sketch
with_walks bounds points done left = record { bounds = bounds; points = points; stand = replicate (length points) true; walks = map (λ (w : PlainWalk). Some w) done ++ replicate left None }

module _ (bounds : Bounds) (points : List GridPoint) where
  -- all nodes stand
  pub walks_none : (segments n : ℕ) → n ≡ length points → with_nodes bounds points segments n ≡ with_walks bounds points [] segments
  walks_none segments n all =
      let none : length points - n ≡ 0 = omega (arith, all) in
      ap (λ (fs : List Bool). (let k : Sketch = record { bounds = bounds; points = points; stand = fs; walks = replicate segments None } in k))
      (ap₂ (λ i j. replicate i true ++ replicate j false) all none ∙ append-nil (replicate (length points) true))

  module _ (done : List PlainWalk) (left : ℕ) (some : 0 < left) where
    many : length (map (λ (w : PlainWalk). Some w) done) ≡ length done
    many = length-map done (λ (w : PlainWalk). Some w)

    pub walk_free : walk_in (with_walks bounds points done left) (record { 0 = length done }) ≡ None
    walk_free = ap (λ i. get_or (map (λ (w : PlainWalk). Some w) done ++ replicate left None) i None) (sym many) ∙ first_left (map (λ (w : PlainWalk). Some w) done) left None

    pub walk_below : length done < length (with_walks bounds points done left).walks
    walk_below = omega (arith, some, many, length-append (map (λ (w : PlainWalk). Some w) done) (replicate left (let o : Option PlainWalk = None in o)), length-replicate left (let o : Option PlainWalk = None in o))

    pub walk_built : (w : PlainWalk) → with_walk_of (with_walks bounds points done left) (record { 0 = length done }) (Some w) ≡ with_walks bounds points (done ++ w ∷ []) (left - 1)
    walk_built w =
        ap (λ (os : List (Option PlainWalk)). (let k : Sketch = record { bounds = bounds; points = points; stand = replicate (length points) true; walks = os } in k))
        (ap (λ i. set (map (λ (x : PlainWalk). Some x) done ++ replicate left None) i (Some w)) (sym many)
        ∙ set_left (map (λ (x : PlainWalk). Some x) done) left None (Some w) some
        ∙ ap (λ (os : List (Option PlainWalk)). os ++ replicate (left - 1) None) (sym (map-append (λ (x : PlainWalk). Some x) done (w ∷ []))))

  -- and all segments have walks
  pub walks_all : (walks : List PlainWalk) → with_walks bounds points walks 0 ≡ whole_sketch bounds points walks
  walks_all walks = ap (λ (os : List (Option PlainWalk)). (let k : Sketch = record { bounds = bounds; points = points; stand = replicate (length points) true; walks = os } in k)) (append-nil (map (λ (w : PlainWalk). Some w) walks))

-- ---- a search begins with a whole drawing on its board, and ends with one

-- an attempt that changes nothing
abbrev no_attempt : Attempt
no_attempt = record { nodes = []; dir = dir.N; count = 0; runs = [] }

no_attempt_fits : (graph : GraphParts) → IsFitting graph no_attempt
no_attempt_fits graph = record {
  runs = λ i d h. absurd (omega (arith, h));
  beside = tt;
  nodes = λ i d h. absurd (omega (arith, h));
  ends = λ i d h. absurd (omega (arith, h));
  all = λ i d h. absurd (omega (arith, h));
  even = refl;
}

all_true : (a n : ℕ) → map (λ (i : ℕ). true) (range_with_len a n) ≡ replicate n true
all_true a zero = refl
all_true a (suc n) = ap (λ (bs : List Bool). true ∷ bs) (all_true (a + 1) n)

walks_back : (ws : List PlainWalk) → filter_map (λ (o : Option PlainWalk). o) (map (λ (w : PlainWalk). Some w) ws) ≡ ws
walks_back [] = refl
walks_back (w ∷ ws) = ap (λ (vs : List PlainWalk). w ∷ vs) (walks_back ws)

module _ (graph : GraphParts) (fit : IsConsistent graph) (bounds : Bounds) (ws : List PlainWalk) (on_board : IsOnBoard graph bounds ws) where
  abbrev no_walk : PlainWalk
  no_walk = record { start = nowhere; steps = [] }

  walks_same : map (λ (w : PlainWalk). Some w) ws ≡ map (walk_beside ws []) (range_with_len 0 (length graph.ends))
  walks_same =
      fill_by_all (λ s. Some (get_or ws s no_walk)) (map (λ (w : PlainWalk). Some w) ws) (length graph.ends) None (length-map ws (λ (w : PlainWalk). Some w) ∙ on_board.drawn.each)
      (λ s h. get_or-map (λ (w : PlainWalk). Some w) ws s no_walk None (omega (arith, h, on_board.drawn.each)))

  stand_same : replicate (length (points_all graph ws)) true ≡ map (λ n. not (is_inner [] n)) (range_with_len 0 (length graph.kinds))
  stand_same = ap (λ n. replicate n true) (length-map-range_with_len (point_of graph ws) 0 (length graph.kinds)) ∙ sym (all_true 0 (length graph.kinds))

  whole_is : without_runs graph bounds ws no_attempt ≡ whole_sketch bounds (points_all graph ws) ws
  whole_is = λ i. record { bounds = bounds; points = points_all graph ws; stand = sym stand_same i; walks = sym walks_same i }

  pub whole_good : IsGood graph bounds (whole_sketch bounds (points_all graph ws) ws)
  whole_good =
      let kept = kept_sketch graph fit bounds ws on_board no_attempt (no_attempt_fits graph) (without_runs graph bounds ws no_attempt) refl in
      subst (IsGood graph bounds) whole_is (record { legal = kept.legal; complete = kept.complete; bounds_same = kept.bounds_same })

  pub whole_whole : IsWhole (whole_sketch bounds (points_all graph ws) ws)
  whole_whole = record {
    nodes = λ n below. whole_good.complete.nodes n (omega (arith, below, whole_good.legal.stand_each));
    walks = λ i below. whole_good.complete.walks i (omega (arith, below, whole_good.legal.walks_each));
  }

  pub walks_kept : walks_of (whole_sketch bounds (points_all graph ws) ws) ≡ ws
  walks_kept = walks_back ws

-- passes from a whole legal drawing
module _ (graph : GraphParts) (fit : IsConsistent graph) (scale : Scale) (k : Sketch) (legal : IsLegalSketch graph k) (whole : IsWhole k) where
  abbrev first : List PlainWalk
  first = walks_of k

  is_good : IsGood graph k.bounds k
  is_good = record {
    legal = legal;
    complete = record { nodes = λ n below. whole.nodes n (omega (arith, below, legal.stand_each)); walks = λ i below. whole.walks i (omega (arith, below, legal.walks_each)) };
    bounds_same = refl;
  }

  drawn : IsDrawn graph first
  drawn = (whole_legal graph fit k legal is_good.complete).drawn

  -- what a whole legal sketch on the board weighs
  kept_weighs : (j : Sketch) → IsGood graph k.bounds j → sketch_weight scale graph (points_all graph first) j ≡ weight_by scale graph first (walks_of j)
  kept_weighs j good =
      ap (sketch_weight scale graph (points_all graph first)) (sketch_by_walks graph fit j good.legal good.complete)
      ∙ same_weight graph fit j.bounds (walks_of j) (whole_legal graph fit j good.legal good.complete).drawn scale first

  -- all passes are left
  pub passes_begin : (groups : List Group) (at_once most before : ℕ) → before ≡ sketch_weight scale graph (points_all graph first) k → before ≤ 144115188075855872 → IsBetweenPasses scale graph first k.bounds groups at_once most before k before 0
  passes_begin groups at_once most before is small = record {
    settled = record { legal = legal; whole = whole; weight_is = is; small = small };
    good = is_good;
    passes = most;
    enough = (omega arith, refl);
    few = omega arith;
    no_heavier = omega arith;
  }

  -- or none
  search_ends : (attempts : List Attempt) (at_once most : ℕ) (j : Sketch) (weight made before : ℕ) (s : Searched) → IsGood graph k.bounds j → weight ≡ sketch_weight scale graph (points_all graph first) j → weight ≤ before
      → before ≡ sketch_weight scale graph (points_all graph first) k → (let f : Found = record { walks = walks_of j; made = made } in f) ≡ found_on graph scale k.bounds attempts at_once most first
      → s.drawing.walks ≡ walks_of j → s.made ≡ made → s.before ≡ before → s.after ≡ weight → IsSearchedOn graph scale k.bounds attempts at_once most first s
  search_ends attempts at_once most j weight made before s good weighs lighter first_weighs found drawing_is made_is before_is after_is = record {
    drawing = drawing_is ∙ ap (λ (f : Found). f.walks) found;
    made = made_is ∙ ap (λ (f : Found). f.made) found;
    before = before_is ∙ first_weighs ∙ kept_weighs k is_good;
    after = after_is ∙ weighs ∙ kept_weighs j good ∙ ap (weight_by scale graph first) (sym drawing_is);
    on_board = subst (IsOnBoard graph k.bounds) (sym drawing_is) (subst (λ (b : Bounds). IsOnBoard graph b (walks_of j)) good.bounds_same (whole_legal graph fit j good.legal good.complete));
    no_heavier = omega (arith, lighter, before_is, after_is);
  }

  pub outcome_is : {E : Type 0} (attempts : List Attempt) (at_once most : ℕ) (j : Sketch) (weight made before : ℕ) (r : Result Searched E) → IsGood graph k.bounds j → weight ≡ sketch_weight scale graph (points_all graph first) j → weight ≤ before
      → before ≡ sketch_weight scale graph (points_all graph first) k → (let f : Found = record { walks = walks_of j; made = made } in f) ≡ found_on graph scale k.bounds attempts at_once most first
      → IfOk r (λ (s : Searched). s.drawing.walks ≡ walks_of j) → IfOk r (λ (s : Searched). s.made ≡ made) → IfOk r (λ (s : Searched). s.before ≡ before) → IfOk r (λ (s : Searched). s.after ≡ weight) → IfOk r (IsSearchedOn graph scale k.bounds attempts at_once most first)
  outcome_is attempts at_once most j weight made before (Ok s) good weighs lighter first_weighs found drawing made_is before_is after = search_ends attempts at_once most j weight made before s good weighs lighter first_weighs found drawing made_is before_is after
  outcome_is attempts at_once most j weight made before (Err e) good weighs lighter first_weighs found drawing made_is before_is after = tt

-- what holds of all points of a list, by their places
from_places : (test : GridPoint → Bool) (ps : List GridPoint) → ((n : ℕ) → n < length ps → test (get_or ps n nowhere) ≡ true) → list_all test ps ≡ true
from_places test [] h = refl
from_places test (p ∷ ps) h = and_from (test p) (list_all test ps) (h 0 (omega arith)) (from_places test ps (λ n below. h (suc n) (omega (arith, below))))

-- what a drawing wants that is put on a board: the first points of its nodes lie there, and its walks
pub record CanBegin (graph : GraphParts) (first : List GridPoint) (bounds : Bounds) (walks : List PlainWalk) : Type 0 where
  pub bounds_fit : AreBounds bounds
  pub points : length first ≡ length graph.kinds
  pub each : length walks ≡ length graph.ends
  pub inside : list_all (contains bounds) first ≡ true
  pub even : list_all is_even first ≡ true
  pub within : list_all (λ (w : PlainWalk). list_all (contains bounds) (points_of w)) walks ≡ true
  pub near : All (λ (p : GridPoint). is_near 1920 p ≡ true) first

-- and what it is there
pub record HasBegun (graph : GraphParts) (ws : List PlainWalk) (k : Sketch) : Type 0 where
  pub legal : IsLegalSketch graph k
  pub whole : IsWhole k
  pub walks : walks_of k ≡ ws

-- the first drawing on its board
module _ (graph : GraphParts) (fit : IsConsistent graph) (ws : List PlainWalk) (drawn : IsDrawn graph ws) (near : are_near 1900 ws ≡ true) (margin : ℕ) (small : margin ≤ 20) where
  pub begins_on_board : IsOnBoard graph (bounds_past margin ws) ws
  begins_on_board = record { bounds_fit = past_bounds ws near margin small; drawn = drawn; within = first_within ws near margin small }

  good : IsGood graph (bounds_past margin ws) (whole_sketch (bounds_past margin ws) (points_all graph ws) ws)
  good = whole_good graph fit (bounds_past margin ws) ws begins_on_board

  pub points_many : length (points_all graph ws) ≡ length graph.kinds
  points_many = length-map-range_with_len (point_of graph ws) 0 (length graph.kinds)

  inside_at : (n : ℕ) → n < length (points_all graph ws) → contains (bounds_past margin ws) (get_or (points_all graph ws) n nowhere) ≡ true
  inside_at n below = good.legal.inside n (good.complete.nodes n (omega (arith, below, points_many)))

  pub first_inside : list_all (contains (bounds_past margin ws)) (points_all graph ws) ≡ true
  first_inside = from_places (contains (bounds_past margin ws)) (points_all graph ws) inside_at

  pub first_even : list_all is_even (points_all graph ws) ≡ true
  first_even = from_places is_even (points_all graph ws) (λ n below. good.legal.even n (good.complete.nodes n (omega (arith, below, points_many))))

  pub first_near : All (λ (p : GridPoint). is_near 1920 p ≡ true) (points_all graph ws)
  first_near = λ n d below.
      ap (is_near 1920) (get_or_default (points_all graph ws) n d nowhere below)
      ∙ near_more (1900 + margin) 1920 (omega (arith, small)) (get_or (points_all graph ws) n nowhere) (inside_near 1900 margin ws near (get_or (points_all graph ws) n nowhere) (inside_at n below))

  -- as it is read
  module _ (first : List GridPoint) (bounds : Bounds) (walks : List PlainWalk) (first_is : first ≡ points_all graph ws) (bounds_is : bounds ≡ bounds_past margin ws) (walks_is : walks ≡ ws) where
    pub can_begin : CanBegin graph first bounds walks
    can_begin = record {
      bounds_fit = subst AreBounds (sym bounds_is) begins_on_board.bounds_fit;
      points = ap length first_is ∙ points_many;
      each = ap length walks_is ∙ drawn.each;
      inside = ap₂ (λ (b : Bounds) (ps : List GridPoint). list_all (contains b) ps) bounds_is first_is ∙ first_inside;
      even = ap (list_all is_even) first_is ∙ first_even;
      within = ap₂ (λ (b : Bounds) (vs : List PlainWalk). list_all (λ (w : PlainWalk). list_all (contains b) (points_of w)) vs) bounds_is walks_is ∙ begins_on_board.within;
      near = subst (All (λ (p : GridPoint). is_near 1920 p ≡ true)) (sym first_is) first_near;
    }

    module _ (k : Sketch) (is : k ≡ whole_sketch bounds first walks) where
      whole_of : k ≡ whole_sketch (bounds_past margin ws) (points_all graph ws) ws
      whole_of = is ∙ ap₂ (λ (b : Bounds) (ps : List GridPoint). whole_sketch b ps walks) bounds_is first_is ∙ ap (whole_sketch (bounds_past margin ws) (points_all graph ws)) walks_is

      pub has_begun : HasBegun graph ws k
      has_begun = record {
        legal = subst (IsLegalSketch graph) (sym whole_of) good.legal;
        whole = subst IsWhole (sym whole_of) (whole_whole graph fit (bounds_past margin ws) ws begins_on_board);
        walks = ap walks_of whole_of ∙ walks_kept graph fit (bounds_past margin ws) ws begins_on_board;
      }

      -- and what comes of passes from it
      pub begun_searched : {E : Type 0} (scale : Scale) (attempts : List Attempt) (at_once most : ℕ) (r : Result Searched E) → IfOk r (IsSearchedOn graph scale k.bounds attempts at_once most (walks_of k)) → IfOk r (IsSearched graph scale margin attempts at_once most ws)
      begun_searched scale attempts at_once most r searched =
          subst (λ (vs : List PlainWalk). IfOk r (IsSearchedOn graph scale (bounds_past margin ws) attempts at_once most vs)) has_begun.walks
          (subst (λ (b : Bounds). IfOk r (IsSearchedOn graph scale b attempts at_once most (walks_of k))) (ap (λ (j : Sketch). j.bounds) whole_of) searched)
