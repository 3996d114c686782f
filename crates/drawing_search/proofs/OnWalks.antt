-- Attempts on whole drawings in the making are those on their walks.
use Rattle.std.proofs.Common.{◌≡◌, refl, sym, ◌∙◌, ap, ap₂, subst, ℕ, zero, suc, ◌+◌, ◌-◌, ◌*◌, ◌<◌, Bool, true, false, cond, not, ◌&&◌, nat_le, nat_lt, List, [], ◌∷◌, length, map, get_or, replicate, slice_get, Option, Some, None, inl, inr, arith}
use Rattle.std.proofs.lemmas.Option.{slice_get-get_or}
use Rattle.segment_router.specs.Routes.{ends_of}
use Rattle.drawing_weights.proofs.DrawnFacts.{leg_place, put_at, PutAt}
use Rattle.drawing_search.proofs.Common.{after, after_attempt, after_pass, after_tries, after_try, apart_in}
use Rattle.drawing_search.proofs.Common.{apart_weight_by, attempted_on, board_under, filter_map, found_with}
use Rattle.drawing_search.proofs.Common.{from_flat_map, get_or-map, get_or-map-range_with_len, get_or-replicate}
use Rattle.drawing_search.proofs.Common.{has_node, if_below, if_lighter, improving, is_inner, is_on_runs, is_standing}
use Rattle.drawing_search.proofs.Common.{kept_sketch, legs_of, length-map-range_with_len, node_weight_by}
use Rattle.drawing_search.proofs.Common.{node_weight_in, nowhere, pairs_at, point_in_attempt, point_of, point_of_node}
use Rattle.drawing_search.proofs.Common.{point_then, points_all, port_at_node, port_by, port_of, port_where, puts_by}
use Rattle.drawing_search.proofs.Common.{range_with_len, segment_weight, sketch_weight, stands_then, sum_by, tried}
use Rattle.drawing_search.proofs.Common.{turn_at, turn_in, turn_over, turns_in, turns_over, walk_beside, walk_in}
use Rattle.drawing_search.proofs.Common.{walk_left, walk_weight_by, walk_weight_if, walks_in, walks_of, weight_by}
use Rattle.drawing_search.proofs.Common.{whole_legal, whole_sketch, with_tried, without, without_runs, Attempt, Bounds}
use Rattle.drawing_search.proofs.Common.{Dir, Found, GraphParts, GridPoint, In, IsComplete, IsConsistent, IsDrawn}
use Rattle.drawing_search.proofs.Common.{IsFitting, IsLegalSketch, IsOnBoard, Leg, NodeId, PlainWalk, Put, Scale, SegId}
use Rattle.drawing_search.proofs.Common.{Sketch, Tried}
use Rattle.drawing_search.proofs.FieldFacts.{pair_below}
use Rattle.drawing_search.proofs.Growing.{in_range, same_sum, sum_map}

-- what two functions give at all numbers of a range
pub same_map : {X : Type 0} (f g : ℕ → X) (a n : ℕ) → ((i : ℕ) → i < a + n → f i ≡ g i) → map f (range_with_len a n) ≡ map g (range_with_len a n)
same_map f g a zero same = refl
same_map f g a (suc n) same = ap₂ (λ x xs. x ∷ xs) (same a (omega arith)) (same_map f g (a + 1) n (λ i h. same i (omega (arith, h))))

-- a list by its places
pub by_places : {X : Type 0} (d : X) (xs : List X) (n : ℕ) → length xs ≡ n → map (λ i. get_or xs (i - 0) d) (range_with_len 0 n) ≡ xs
by_places d xs n each = from_place d xs 0 n each
  where
    -- the places behind the first of a list
    next_places : {X : Type 0} (d x : X) (xs : List X) (a n : ℕ) → map (λ i. get_or (x ∷ xs) (i - a) d) (range_with_len (a + 1) n) ≡ map (λ i. get_or xs (i - (a + 1)) d) (range_with_len (a + 1) n)
    next_places d x xs a n = later (a + 1) n (omega arith)
      where
        later : (m n : ℕ) → a < m → map (λ i. get_or (x ∷ xs) (i - a) d) (range_with_len m n) ≡ map (λ i. get_or xs (i - (a + 1)) d) (range_with_len m n)
        later m zero h = refl
        later m (suc n) h = let one_less : m - a ≡ suc (m - (a + 1)) = omega arith in ap₂ (λ y ys. y ∷ ys) (ap (λ j. get_or (x ∷ xs) j d) one_less) (later (m + 1) n (omega arith))

    from_place : {X : Type 0} (d : X) (xs : List X) (a n : ℕ) → length xs ≡ n → map (λ i. get_or xs (i - a) d) (range_with_len a n) ≡ xs
    from_place d [] a zero each = refl
    from_place d [] a (suc n) each = absurd (omega (arith, each))
    from_place d (x ∷ xs) a zero each = absurd (omega (arith, each))
    from_place d (x ∷ xs) a (suc n) each =
        let none : a - a ≡ 0 = omega arith in ap₂ (λ y ys. y ∷ ys) (ap (λ j. get_or (x ∷ xs) j d) none) (next_places d x xs a n ∙ from_place d xs (a + 1) n (omega (arith, each)))

-- ---- the drawing of walks

module _ (graph : GraphParts) (fit : IsConsistent graph) (bounds : Bounds) (ws : List PlainWalk) (drawn : IsDrawn graph ws) where
  abbrev k : Sketch
  k = whole_sketch bounds (points_all graph ws) ws

  points_each : length (points_all graph ws) ≡ length graph.kinds
  points_each = length-map-range_with_len (point_of graph ws) 0 (length graph.kinds)

  pub whole_point : (n : ℕ) → n < length graph.kinds → point_of_node (whole_sketch bounds (points_all graph ws) ws) n ≡ point_of graph ws n
  whole_point n h = get_or-map-range_with_len (point_of graph ws) 0 (length graph.kinds) n n nowhere h (omega arith)

  pub whole_stands : (n : ℕ) → n < length graph.kinds → is_standing (whole_sketch bounds (points_all graph ws) ws) n ≡ true
  whole_stands n h = get_or-replicate (length (points_all graph ws)) n true false (omega (arith, h, points_each))

  pub whole_walk : (s : ℕ) (d : PlainWalk) → s < length graph.ends → get_or (map (λ (w : PlainWalk). Some w) ws) s None ≡ Some (get_or ws s d)
  whole_walk s d h = get_or-map (λ (w : PlainWalk). Some w) ws s d None (omega (arith, h, drawn.each))

  -- what an attempt takes away is the same
  pub without_is : (a : Attempt) → without graph (whole_sketch bounds (points_all graph ws) ws) a ≡ without_runs graph bounds ws a
  without_is a =
      λ i. record {
        bounds = bounds;
        points = same_map (point_then k a) (point_in_attempt graph ws a) 0 (length graph.kinds) (λ n h. point n (omega (arith, h))) i;
        stand = same_map (stands_then k a.runs) (λ n. not (is_inner a.runs n)) 0 (length graph.kinds) (λ n h. ap (λ b. b && not (is_inner a.runs n)) (whole_stands n (omega (arith, h)))) i;
        walks = same_map (walk_left k a.runs) (walk_beside ws a.runs) 0 (length graph.ends)
            (λ s h. ap (λ (o : Option PlainWalk). cond (is_on_runs a.runs s) None o) (whole_walk s (record { start = nowhere; steps = [] }) (omega (arith, h)))) i;
      }
    where
      point : (n : ℕ) → n < length graph.kinds → point_then k a n ≡ point_in_attempt graph ws a n
      point n h = ap (λ (p : GridPoint). cond (has_node a.nodes n) (after p (replicate a.count a.dir)) p) (whole_point n h)

  -- and it weighs the same
  leg : (s : SegId) → s.0 < length graph.ends → slice_get (legs_of graph.ends ws) s.0 ≡ Some (let l : Leg = (ends_of graph s, get_or ws s.0 (record { start = nowhere; steps = [] })) in l)
  leg s h =
      leg_place graph.ends ws s.0 (ends_of graph s) (get_or ws s.0 (record { start = nowhere; steps = [] })) (slice_get-get_or graph.ends s.0 (record { 0 = 0 }, record { 0 = 0 }) h)
      (slice_get-get_or ws s.0 (record { start = nowhere; steps = [] }) (omega (arith, h, drawn.each)))

  same_port : (n : ℕ) (s : SegId) → s.0 < length graph.ends → port_at_node graph (board_under k) n s ≡ port_of (legs_of graph.ends ws) n s
  same_port n s h = ap (port_by (ends_of graph s) n) (whole_walk s.0 (record { start = nowhere; steps = [] }) h) ∙ sym (ap (port_where n) (leg s h))

  same_turns : (n : ℕ) → n < length graph.kinds → turns_in graph k n ≡ turns_over graph ws n
  same_turns n h =
      same_sum (turn_in graph k n) (turn_at graph ws n) (pairs_at graph n)
      (λ pair i. let below = pair_below graph fit n h pair i in ap₂ (λ (p q : Option Dir). turn_over p q) (same_port n pair.0 below.0) (same_port n pair.1 below.1))

  same_node : (scale : Scale) (first : List PlainWalk) (n : ℕ) → n < length graph.kinds → node_weight_in scale graph (points_all graph first) k n ≡ node_weight_by scale graph first ws n
  same_node scale first n h =
      let turns = ap (λ m. scale.overs * m) (same_turns n h) in
      let apart : cond (is_standing k n) (apart_in scale (points_all graph first) k n) 0 ≡ apart_weight_by scale n (point_of graph first n) (point_of graph ws n) =
      ap (λ b. cond b (apart_in scale (points_all graph first) k n) 0) (whole_stands n h)
      ∙ ap (λ (p : GridPoint). apart_weight_by scale n p (point_of_node k n)) (get_or-map-range_with_len (point_of graph first) 0 (length graph.kinds) n n nowhere h (omega arith))
      ∙ ap (λ (p : GridPoint). apart_weight_by scale n (point_of graph first n) p) (whole_point n h) in
      omega (arith, turns, apart)

  pub same_weight : (scale : Scale) (first : List PlainWalk) → sketch_weight scale graph (points_all graph first) (whole_sketch bounds (points_all graph ws) ws) ≡ weight_by scale graph first ws
  same_weight scale first =
      let nodes = same_sum (node_weight_in scale graph (points_all graph first) k) (node_weight_by scale graph first ws) (range_with_len 0 (length graph.kinds)) (λ n i. same_node scale first n (omega (arith, in_range 0 (length graph.kinds) n i))) in
      let segments =
      same_sum (λ s. segment_weight scale k (record { 0 = s })) (λ s. walk_weight_by scale (get_or ws (s - 0) (record { start = nowhere; steps = [] }))) (range_with_len 0 (length graph.ends))
      (λ s i.
      let same : s ≡ s - 0 = omega arith in
      ap (walk_weight_if scale) (whole_walk s (record { start = nowhere; steps = [] }) (omega (arith, in_range 0 (length graph.ends) s i)) ∙ ap (λ j. Some (get_or ws j (let none : PlainWalk = record { start = nowhere; steps = [] } in none))) same)) in
      let walks = sym (sum_map (walk_weight_by scale) (λ s. get_or ws (s - 0) (record { start = nowhere; steps = [] })) (range_with_len 0 (length graph.ends))) ∙ ap (sum_by (walk_weight_by scale)) (by_places (record { start = nowhere; steps = [] }) ws (length graph.ends) drawn.each) in
      omega (arith, nodes, segments, walks)

-- ---- a whole legal drawing is that of its walks

all_there : (os : List (Option PlainWalk)) → ((i : ℕ) → i < length os → (w : PlainWalk) × (get_or os i None ≡ Some w)) → map (λ (w : PlainWalk). Some w) (filter_map (λ o. o) os) ≡ os
all_there [] h = refl
all_there (None ∷ os) h = let there = h 0 (omega arith) in cc
all_there (Some w ∷ os) h = ap (λ (vs : List (Option PlainWalk)). Some w ∷ vs) (all_there os (λ i below. h (suc i) (omega arith)))

all_raised : (bs : List Bool) (n : ℕ) → length bs ≡ n → ((i : ℕ) → i < n → get_or bs i false ≡ true) → bs ≡ replicate n true
all_raised [] zero each h = refl
all_raised [] (suc n) each h = absurd (omega (arith, each))
all_raised (b ∷ bs) zero each h = absurd (omega (arith, each))
all_raised (b ∷ bs) (suc n) each h = ap₂ (λ c cs. c ∷ cs) (h 0 (omega arith)) (all_raised bs n (omega (arith, each)) (λ i below. h (suc i) (omega arith)))

-- the place of a leg
record IsLegAt (es : List (NodeId × NodeId)) (ws : List PlainWalk) (l : Leg) : Type 0 where
  place : ℕ
  below : place < length ws
  ends : get_or es place (record { 0 = 0 }, record { 0 = 0 }) ≡ l.0
  walk : get_or ws place (record { start = nowhere; steps = [] }) ≡ l.1

leg_at : (es : List (NodeId × NodeId)) (ws : List PlainWalk) (l : Leg) → In l (legs_of es ws) → IsLegAt es ws l
leg_at [] ws l i = absurd i
leg_at (e ∷ es) [] l i = absurd i
leg_at (e ∷ es) (w ∷ ws) l (inl same) = record { place = 0; below = omega arith; ends = ap (λ (x : Leg). x.0) (sym same); walk = ap (λ (x : Leg). x.1) (sym same) }
leg_at (e ∷ es) (w ∷ ws) l (inr i) = let rest = leg_at es ws l i in record { place = suc rest.place; below = omega (arith, rest.below); ends = rest.ends; walk = rest.walk }

module _ (graph : GraphParts) (fit : IsConsistent graph) (k : Sketch) (h : IsLegalSketch graph k) (whole : IsComplete graph k) where
  abbrev kept : List PlainWalk
  kept = walks_of k

  drawn_of : IsDrawn graph kept
  drawn_of = (whole_legal graph fit k h whole).drawn

  walks_are : map (λ (w : PlainWalk). Some w) kept ≡ k.walks
  walks_are = all_there k.walks (λ i below. whole.walks i (omega (arith, below, h.walks_each)))

  walk_at : (s : SegId) → s.0 < length graph.ends → walk_in k s ≡ Some (get_or kept s.0 (record { start = nowhere; steps = [] }))
  walk_at s below =
      ap (λ (os : List (Option PlainWalk)). get_or os s.0 None) (sym walks_are) ∙ get_or-map (λ (w : PlainWalk). Some w) kept s.0 (record { start = nowhere; steps = [] }) None (omega (arith, below, drawn_of.each))

  point_is : (n : ℕ) → n < length graph.kinds → point_of graph kept n ≡ point_of_node k n
  point_is n below = let put = put_at graph fit kept drawn_of n below in by_leg put (from_flat_map puts_by (legs_of graph.ends kept) put.put put.there)
    where
      by_leg : (put : PutAt graph kept n) → (l : Leg) × In l (legs_of graph.ends kept) × In put.put (puts_by l) → point_of graph kept n ≡ point_of_node k n
      by_leg put (l, on, which) =
          let at = leg_at graph.ends kept l on in
          let s : SegId = record { 0 = at.place } in
          let walk : walk_in k s ≡ Some l.1 = walk_at s (omega (arith, at.below, drawn_of.each)) ∙ ap (λ (w : PlainWalk). Some w) at.walk in
          put.point ∙ by_end put l s at.ends walk which
        where
          by_end : (put : PutAt graph kept n) (l : Leg) (s : SegId) → ends_of graph s ≡ l.0 → walk_in k s ≡ Some l.1 → In put.put (puts_by l) → put.put.1 ≡ point_of_node k n
          by_end put l s ends walk (inl e) =
              ap (λ (q : Put). q.1) e ∙ h.starts s l.1 walk ∙ ap (point_of_node k) (ap (λ (p : NodeId × NodeId). p.0.0) ends ∙ sym (ap (λ (q : Put). q.0) e) ∙ put.node)
          by_end put l s ends walk (inr (inl e)) =
              ap (λ (q : Put). q.1) e ∙ h.ends s l.1 walk ∙ ap (point_of_node k) (ap (λ (p : NodeId × NodeId). p.1.0) ends ∙ sym (ap (λ (q : Put). q.0) e) ∙ put.node)
          by_end put l s ends walk (inr (inr i)) = absurd i

  points_are : k.points ≡ points_all graph kept
  points_are =
      sym (by_places nowhere k.points (length graph.kinds) h.points_each)
      ∙ same_map (λ n. get_or k.points (n - 0) nowhere) (point_of graph kept) 0 (length graph.kinds)
      (λ n below. let less : n - 0 ≡ n = omega arith in ap (λ m. get_or k.points m nowhere) less ∙ sym (point_is n (omega (arith, below))))

  stand_is : k.stand ≡ replicate (length (points_all graph kept)) true
  stand_is = all_raised k.stand (length (points_all graph kept)) (h.stand_each ∙ sym (length-map-range_with_len (point_of graph kept) 0 (length graph.kinds))) (λ n below. whole.nodes n (omega (arith, below, length-map-range_with_len (point_of graph kept) 0 (length graph.kinds))))

  pub sketch_by_walks : k ≡ whole_sketch k.bounds (points_all graph (walks_of k)) (walks_of k)
  sketch_by_walks =
      λ i. record { bounds = k.bounds; points = points_are i; stand = stand_is i; walks = sym walks_are i }

-- an attempt on a whole drawing gives the walks that it gives on the walks
pub tried_on_walks : (graph : GraphParts) → IsConsistent graph → (scale : Scale) (first : List PlainWalk) (bounds : Bounds) (ws : List PlainWalk) (a : Attempt) → IsOnBoard graph bounds ws → IsFitting graph a
    → walks_in (tried scale graph (points_all graph first) (whole_sketch bounds (points_all graph ws) ws) a) ≡ improving graph bounds (weight_by scale graph first) ws a
tried_on_walks graph fit scale first bounds ws a on_board fits =
    ap (λ (j : Sketch). walks_in (if_below (sketch_weight scale graph (points_all graph first)) (sketch_weight scale graph (points_all graph first) (whole_sketch bounds (points_all graph ws) ws)) (attempted_on graph j a))) (without_is graph fit bounds ws on_board.drawn a)
    ∙ by_new (attempted_on graph (without_runs graph bounds ws a) a) refl
  where
    weigh : Sketch → ℕ
    weigh j = sketch_weight scale graph (points_all graph first) j

    by_new : (o : Option Sketch) → attempted_on graph (without_runs graph bounds ws a) a ≡ o
        → walks_in (if_below weigh (weigh (whole_sketch bounds (points_all graph ws) ws)) o) ≡ if_lighter (weight_by scale graph first) ws (walks_in o)
    by_new None e = refl
    by_new (Some new) e =
        let kept = kept_sketch graph fit bounds ws on_board a fits new e in
        let there = whole_legal graph fit new kept.legal kept.complete in
        let old_weight = same_weight graph fit bounds ws on_board.drawn scale first in
        let new_weight : weigh new ≡ weight_by scale graph first (walks_of new) = ap weigh (sketch_by_walks graph fit new kept.legal kept.complete) ∙ same_weight graph fit new.bounds (walks_of new) there.drawn scale first in
        ap₂ (λ m n. walks_in (cond (nat_lt m n) (Some new) None)) new_weight old_weight ∙ by_test (nat_lt (weight_by scale graph first (walks_of new)) (weight_by scale graph first ws))
      where
        by_test : (t : Bool) → walks_in (cond t (Some new) None) ≡ cond t (Some (walks_of new)) None
        by_test true = refl
        by_test false = refl

-- a whole legal drawing on a board
pub record IsGood (graph : GraphParts) (bounds : Bounds) (k : Sketch) : Type 0 where
  pub legal : IsLegalSketch graph k
  pub complete : IsComplete graph k
  pub bounds_same : k.bounds ≡ bounds

pub below_some : (weigh : Sketch → ℕ) (weight : ℕ) (o : Option Sketch) (new : Sketch) → if_below weigh weight o ≡ Some new → o ≡ Some new
below_some weigh weight None new e = cc
below_some weigh weight (Some j) new e = by_test (nat_lt (weigh j) weight) e
  where
    by_test : (t : Bool) → cond t (Some j) None ≡ Some new → Some j ≡ Some new
    by_test true f = f
    by_test false f = cc

module _ (graph : GraphParts) (fit : IsConsistent graph) (scale : Scale) (first : List PlainWalk) (bounds : Bounds) where
  abbrev try : List PlainWalk → Attempt → Option (List PlainWalk)
  try ws a = improving graph bounds (weight_by scale graph first) ws a

  on_board : (k : Sketch) → IsGood graph bounds k → IsOnBoard graph bounds (walks_of k)
  on_board k good = subst (λ (b : Bounds). IsOnBoard graph b (walks_of k)) good.bounds_same (whole_legal graph fit k good.legal good.complete)

  as_whole : (k : Sketch) → IsGood graph bounds k → k ≡ whole_sketch bounds (points_all graph (walks_of k)) (walks_of k)
  as_whole k good = sketch_by_walks graph fit k good.legal good.complete ∙ ap (λ (b : Bounds). whole_sketch b (points_all graph (walks_of k)) (walks_of k)) good.bounds_same

  tried_good : (k new : Sketch) (a : Attempt) → IsGood graph bounds k → IsFitting graph a → tried scale graph (points_all graph first) k a ≡ Some new → IsGood graph bounds new
  tried_good k new a good fits e =
      let laid : attempted_on graph (without graph k a) a ≡ Some new = below_some (sketch_weight scale graph (points_all graph first)) (sketch_weight scale graph (points_all graph first) k) (attempted_on graph (without graph k a) a) new e in
      let same : without graph k a ≡ without_runs graph bounds (walks_of k) a = ap (λ (j : Sketch). without graph j a) (as_whole k good) ∙ without_is graph fit bounds (walks_of k) (on_board k good).drawn a in
      let kept = kept_sketch graph fit bounds (walks_of k) (on_board k good) a fits new (ap (λ (j : Sketch). attempted_on graph j a) (sym same) ∙ laid) in
      record { legal = kept.legal; complete = kept.complete; bounds_same = kept.bounds_same }

  tried_there : (k : Sketch) (a : Attempt) → IsGood graph bounds k → IsFitting graph a → walks_in (tried scale graph (points_all graph first) k a) ≡ try (walks_of k) a
  tried_there k a good fits =
      ap (λ (j : Sketch). walks_in (tried scale graph (points_all graph first) j a)) (as_whole k good) ∙ tried_on_walks graph fit scale first bounds (walks_of k) a (on_board k good) fits

  abbrev pub found_of : Tried → Found
  found_of f = record { walks = walks_of f.sketch; made = f.made }

  -- what comes of some attempts
  pub record IsThere (new : Tried) (found : Found) : Type 0 where
    pub good : IsGood graph bounds new.sketch
    pub is : found_of new ≡ found

  one_try : (most : ℕ) (f : Tried) (a : Attempt) → IsGood graph bounds f.sketch → IsFitting graph a → IsThere (after_try scale graph (points_all graph first) most f a) (after_attempt try most (found_of f) a)
  one_try most f a good fits = by_test (nat_le most f.made)
    where
      by_found : (o : Option Sketch) → tried scale graph (points_all graph first) f.sketch a ≡ o → IsThere (with_tried f o) (found_with (found_of f) (walks_in o))
      by_found None e = record { good = good; is = refl }
      by_found (Some new) e = record { good = tried_good f.sketch new a good fits e; is = refl }

      by_test : (t : Bool) → IsThere (cond t f (with_tried f (tried scale graph (points_all graph first) f.sketch a))) (cond t (found_of f) (found_with (found_of f) (try (walks_of f.sketch) a)))
      by_test true = record { good = good; is = refl }
      by_test false =
          subst (λ (o : Option (List PlainWalk)). IsThere (with_tried f (tried scale graph (points_all graph first) f.sketch a)) (found_with (found_of f) o)) (tried_there f.sketch a good fits)
          (by_found (tried scale graph (points_all graph first) f.sketch a) refl)

  pub tries_there : (most : ℕ) (attempts : List Attempt) (f : Tried) → IsGood graph bounds f.sketch → ((a : Attempt) → In a attempts → IsFitting graph a)
      → IsThere (after_tries scale graph (points_all graph first) most attempts f) (after_pass try attempts most (found_of f))
  tries_there most [] f good fits = record { good = good; is = refl }
  tries_there most (a ∷ rest) f good fits =
      let one = one_try most f a good (fits a (inl refl)) in
      subst (λ (g : Found). IsThere (after_tries scale graph (points_all graph first) most rest (after_try scale graph (points_all graph first) most f a)) (after_pass try rest most g)) one.is
      (tries_there most rest (after_try scale graph (points_all graph first) most f a) one.good (λ b i. fits b (inr i)))
