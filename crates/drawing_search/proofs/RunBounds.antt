-- The bounds of runs are bounds: a run that is laid adds no less, and its walk costs no more than the limit where it adds no
-- more than it may.
use Rattle.std.proofs.Common.{◌≡◌, refl, sym, ◌∙◌, ap, subst, ℕ, ◌+◌, ◌-◌, ◌*◌, ◌/◌, ◌<◌, ◌≤◌, Bool, true, false, cond, eqb, nat_lt, ◌||◌, min, List, [], ◌∷◌, length, filter, fold, map, Some, option_map, ◌⊎◌, inl, inr, arith}
use Rattle.std.proofs.lemmas.Nat.{le-div}
use Rattle.line_chains.specs.Chains.{ends_of}
use Rattle.walk_search.specs.Reaching.{reach_of}
use Rattle.walk_search.proofs.LeastReach.{reach_none}
use Rattle.drawing_weights.proofs.LeastWeights.{reach_turns}
use Rattle.drawing_search.proofs.Common.{allowed_dirs, allows, bit_at, board_under, cases_Bool, cases_lt, cost_of}
use Rattle.drawing_search.proofs.Common.{directions, end_after, end_of, end_point, end_port, eqb-true, first_leads}
use Rattle.drawing_search.proofs.Common.{first_seg_of, first_start_port, free_nodes, from_low, in_flat_map, inner_nodes}
use Rattle.drawing_search.proofs.Common.{last_of, last_seg, last_seg_of, least_beside, least_by, mul-le-mul_left}
use Rattle.drawing_search.proofs.Common.{nat_tests, never, number_of, pairs_at, point_of_node, port_at_node, port_by}
use Rattle.drawing_search.proofs.Common.{port_from, port_to, ports_for, reverse_of, run_gain, second_end_port}
use Rattle.drawing_search.proofs.Common.{slice_index, some_end, some_first, start_port, step_of, steps_gain}
use Rattle.drawing_search.proofs.Common.{straight_way, turn_price, turned_of, turns_at_least, turns_by, turns_of, twice}
use Rattle.drawing_search.proofs.Common.{with_pieces, AreSteps, Chain, ChainStep, Dir, GraphParts, GridPoint, In}
use Rattle.drawing_search.proofs.Common.{IsBoundOf, IsClearFor, IsConsistent, IsCut, IsLegalSketch, IsRun, LeastTurns}
use Rattle.drawing_search.proofs.Common.{NodeId, PlainWalk, Scale, SegId, Sketch}
use Rattle.drawing_search.proofs.Gained.{end_turns, from_turns}
use Rattle.drawing_search.proofs.PricedRuns.{have_pieces, leads_apart, priced_run, HavePieces, IsPrice}
use Rattle.drawing_search.proofs.StraightWays.{walk_turns, way_small, cost_parts, steps_cost}
use Rattle.drawing_search.proofs.Takable.{in_mapped}
use Rattle.octi_grid.specs.declared.dir.Dir.TheVariants as dir

share : (k less overs price by : ℕ) → 0 < price → by + less ≡ overs + price * (k + less) → k * price ≤ by
share k less overs price by some e = omega (arith, mul-le-mul_left less some)

-- where each turn has a price
pub priced_limit : (steps turns overs price by may gain : ℕ) → 0 < price → by ≤ overs + price * turns → steps + (overs + price * turns) ≤ gain → gain ≤ may → steps + turns ≤ may - by + by / price
priced_limit steps turns overs price by may gain some low adds within = by_order (cases_lt turns less)
  where
    less : ℕ
    less = overs + price * turns - by

    by_order : (turns < less) ⊎ (less ≤ turns) → steps + turns ≤ may - by + by / price
    by_order (inl few) = omega (arith, low, adds, within, few)
    by_order (inr enough) =
        let split : turns ≡ turns - less + less = omega (arith, enough) in
        let all : by + less ≡ overs + price * (turns - less + less) = omega (arith, low, ap (λ n. price * n) split) in
        let most : turns - less ≤ by / price = le-div (turns - less) by price some (share (turns - less) less overs price by some all) in
        omega (arith, low, adds, within, most)

-- where turns may lie at nodes at which they weigh nothing, at most so many of them
pub free_limit : (steps turns overs free by may gain : ℕ) → by ≤ overs → steps + overs + turns ≤ gain + free → gain ≤ may → steps + turns ≤ may - by + free
free_limit steps turns overs free by may gain low adds within = omega arith

-- ---- the bounds of runs are bounds: a run that is laid adds no less, and its walk costs no more than the limit
-- where it adds no more than it may

-- ---- the ports of a run that is laid are those of its walk

first_port_there : (graph : GraphParts) → IsConsistent graph → (k : Sketch) (n : NodeId) (ts : List ChainStep) (vs : List PlainWalk) (w : PlainWalk) → AreSteps graph n ts → IsCut w vs → HavePieces graph n ts vs k → 0 < length ts
    → port_at_node graph (board_under k) n.0 (first_seg_of ts) ≡ start_port w
first_port_there graph fit k n [] vs w steps cut have some = absurd (omega (arith, some))
first_port_there graph fit k n (t ∷ ts) [] w steps cut have some = absurd cut
first_port_there graph fit k n (t ∷ ts) (v ∷ vs) w steps cut have some =
    let on = first_leads graph n t ts steps in
    let apart = leads_apart graph fit n t on.0 on.1 in
    ap (port_by (ends_of graph t.seg) n.0) have.0 ∙ port_from graph t.seg n.0 t.to.0 v (from_low graph t.seg n v) (turned_of graph n t v on.1 apart) apart ∙ by_rest vs cut
  where
    by_rest : (us : List PlainWalk) → IsCut w (v ∷ us) → start_port v ≡ start_port w
    by_rest [] cut = ap start_port cut.0
    by_rest (u ∷ us) cut = first_start_port w v cut.0 cut.1

last_port_there : (graph : GraphParts) → IsConsistent graph → (k : Sketch) (s : SegId) (n : NodeId) (ts : List ChainStep) (vs : List PlainWalk) (w : PlainWalk) → AreSteps graph n ts → length vs ≡ length ts → IsCut w vs → HavePieces graph n ts vs k → 0 < length ts
    → port_at_node graph (board_under k) (end_after n ts).0 (last_seg s ts) ≡ end_port w
last_port_there graph fit k s n [] vs w steps each cut have some = absurd (omega (arith, some))
last_port_there graph fit k s n (t ∷ ts) [] w steps each cut have some = absurd cut
last_port_there graph fit k s n (t ∷ []) (v ∷ u ∷ us) w steps each cut have some = absurd (omega (arith, each))
last_port_there graph fit k s n (t ∷ u ∷ us) (v ∷ []) w steps each cut have some = absurd (omega (arith, each))
last_port_there graph fit k s n (t ∷ []) (v ∷ []) w steps each cut have some =
    let apart = leads_apart graph fit n t steps.0 steps.1 in
    ap (port_by (ends_of graph t.seg) t.to.0) have.0 ∙ port_to graph t.seg n.0 t.to.0 v (from_low graph t.seg n v) (turned_of graph n t v steps.1 apart) apart ∙ ap end_port cut.0
last_port_there graph fit k s n (t ∷ u ∷ us) (v ∷ x ∷ xs) w steps each cut have some =
    last_port_there graph fit k t.seg t.to (u ∷ us) (x ∷ xs) cut.0 steps.3 (omega (arith, each)) cut.2 have.1 (omega arith) ∙ second_end_port w v cut.0 cut.1

-- ---- the least over all allowed ports

pub fold_least : (low : ℕ) (xs : List ℕ) → fold min low xs ≤ low
fold_least low [] = omega arith
fold_least low (x ∷ xs) = omega (arith, fold_least (min low x) xs)

fold_each : (low : ℕ) (xs : List ℕ) (x : ℕ) → In x xs → fold min low xs ≤ x
fold_each low [] x i = absurd i
fold_each low (y ∷ ys) x (inl e) = omega (arith, e, fold_least (min low y) ys)
fold_each low (y ∷ ys) x (inr i) = fold_each (min low y) ys x i

kept_in : (test : Dir → Bool) (ds : List Dir) (d : Dir) → In d ds → test d ≡ true → In d (filter test ds)
kept_in test [] d i e = absurd i
kept_in test (f ∷ ds) d (inl same) e = subst (λ b. In d (cond b (f ∷ filter test ds) (filter test ds))) (sym (ap test (sym same) ∙ e)) (inl same)
kept_in test (f ∷ ds) d (inr i) e = by_test (kept_in test ds d i e) (test f)
  where
    by_test : In d (filter test ds) → (b : Bool) → In d (cond b (f ∷ filter test ds) (filter test ds))
    by_test rest true = inr rest
    by_test rest false = rest

every_direction : (d : Dir) → In d directions
every_direction dir.N = inl refl
every_direction dir.NE = inr (inl refl)
every_direction dir.E = inr (inr (inl refl))
every_direction dir.SE = inr (inr (inr (inl refl)))
every_direction dir.S = inr (inr (inr (inr (inl refl))))
every_direction dir.SW = inr (inr (inr (inr (inr (inl refl)))))
every_direction dir.W = inr (inr (inr (inr (inr (inr (inl refl))))))
every_direction dir.NW = inr (inr (inr (inr (inr (inr (inr (inl refl)))))))

pub least_allowed : (scale : Scale) (graph : GraphParts) (k : Sketch) (c : Chain) (way : ℕ) (d e : Dir) → allows (ports_for graph k c.from.0 (first_seg_of c.steps)) (Some d) ≡ true → allows (ports_for graph k (end_of c).0 (last_seg_of c)) (Some e) ≡ true
    → least_beside scale graph k c way ≤ least_by scale graph k c way d e
least_allowed scale graph k c way d e leaves arrives =
    fold_each never _ (least_by scale graph k c way d e)
    (in_flat_map (λ f. map (least_by scale graph k c way f) (allowed_dirs graph k (end_of c).0 (last_seg_of c))) (allowed_dirs graph k c.from.0 (first_seg_of c.steps)) d (least_by scale graph k c way d e)
    (kept_in (λ f. eqb (bit_at (ports_for graph k c.from.0 (first_seg_of c.steps)) (number_of f)) 1) directions d (every_direction d) leaves)
    (in_mapped (least_by scale graph k c way d) (allowed_dirs graph k (end_of c).0 (last_seg_of c)) e
    (kept_in (λ f. eqb (bit_at (ports_for graph k (end_of c).0 (last_seg_of c)) (number_of f)) 1) directions e (every_direction e) arrives)))

-- the price of a run's turns, and that no turn is free where there is one
pub record IsPriced (scale : Scale) (graph : GraphParts) (ts : List ChainStep) : Type 0 where
  pub price : IsPrice scale graph (turn_price scale graph ts) ts
  pub none_free : turn_price scale graph ts * free_nodes scale graph ts ≡ 0

pub is_priced : (scale : Scale) (graph : GraphParts) (ts : List ChainStep) → IsPriced scale graph ts
is_priced scale graph ts = by_length (cases_Bool (eqb (length ts) 1))
  where
    free : ℕ
    free = free_nodes scale graph ts

    rest : ℕ
    rest = cond (nat_lt 0 free) 0 (min scale.overs (1 + scale.turns))

    made : (p : ℕ) → turn_price scale graph ts ≡ p → IsPrice scale graph p ts → p * free ≡ 0 → IsPriced scale graph ts
    made p is price none = record { price = subst (λ q. IsPrice scale graph q ts) (sym is) price; none_free = ap (λ q. q * free) is ∙ none }

    alone : (us : List ChainStep) → eqb (length us) 1 ≡ true → (m : NodeId) → In m (inner_nodes us) → ⊥
    alone [] e m i = i
    alone (t ∷ []) e m i = i
    alone (t ∷ u ∷ us) e m i = absurd (omega (arith, eqb-true (length (t ∷ u ∷ us)) 1 e))

    none_alone : (us : List ChainStep) → eqb (length us) 1 ≡ true → free_nodes scale graph us ≡ 0
    none_alone [] e = refl
    none_alone (t ∷ []) e = refl
    none_alone (t ∷ u ∷ us) e = absurd (omega (arith, eqb-true (length (t ∷ u ∷ us)) 1 e))

    by_free : eqb (length ts) 1 ≡ false → (nat_lt 0 free ≡ true) ⊎ (nat_lt 0 free ≡ false) → IsPriced scale graph ts
    by_free e (inl some) = made 0 (ap (λ b. cond b (1 + scale.turns) rest) e ∙ ap (λ b. cond b 0 (min scale.overs (1 + scale.turns))) some) (omega arith, λ m i f. omega arith) (omega arith)
    by_free e (inr off) =
        let none : free ≡ 0 = grind (arith, nat_tests, off) in
        made (min scale.overs (1 + scale.turns)) (ap (λ b. cond b (1 + scale.turns) rest) e ∙ ap (λ b. cond b 0 (min scale.overs (1 + scale.turns))) off) (omega arith, λ m i f. omega arith)
        (ap (λ n. min scale.overs (1 + scale.turns) * n) none ∙ omega arith)

    by_length : (eqb (length ts) 1 ≡ true) ⊎ (eqb (length ts) 1 ≡ false) → IsPriced scale graph ts
    by_length (inl e) =
        made (1 + scale.turns) (ap (λ b. cond b (1 + scale.turns) rest) e) (omega arith, λ m i f. absurd (alone ts e m i)) (ap (λ n. (1 + scale.turns) * n) (none_alone ts e) ∙ omega arith)
    by_length (inr e) = by_free e (cases_Bool (nat_lt 0 free))

-- one is a price, too
one_price : (scale : Scale) (graph : GraphParts) (ts : List ChainStep) → IsPrice scale graph 1 ts
one_price scale graph ts = (omega arith, λ m i over. some (false_second (eqb (length (pairs_at graph m.0)) 0) (eqb scale.overs 0) over))
  where
    false_second : (a b : Bool) → (a || b) ≡ false → b ≡ false
    false_second true b e = cc
    false_second false b e = e

    some : eqb scale.overs 0 ≡ false → 1 ≤ scale.overs
    some e = grind (arith, nat_tests, e)

-- ---- a run that is laid along a walk

module _ (graph : GraphParts) (fit : IsConsistent graph) (k : Sketch) (h : IsLegalSketch graph k) (c : Chain) (run : IsRun graph c) (clear : IsClearFor k c) (pieces : List PlainWalk) (each : length pieces ≡ length c.steps)
    (there : point_of_node (with_pieces graph c.from c.steps pieces k) (end_of c).0 ≡ point_of_node k (end_of c).0) (scale : Scale) (first : List GridPoint) (w : PlainWalk) (cut : IsCut w pieces) (some : 0 < length w.steps)
    (starts : w.start ≡ point_of_node k c.from.0) (ends : end_point w ≡ point_of_node k (end_of c).0) (leaves : allows (ports_for graph k c.from.0 (first_seg_of c.steps)) (start_port w) ≡ true)
    (arrives : allows (ports_for graph k (end_of c).0 (last_seg_of c)) (end_port w) ≡ true) where
  abbrev new : Sketch
  new = with_pieces graph c.from c.steps pieces k

  have : HavePieces graph c.from c.steps pieces new
  have = have_pieces graph c.from c.steps pieces k each run.once (λ q i. omega (arith, (step_of graph c.from c.steps run.steps q i).segment, h.walks_each))

  abbrev d : Dir
  d = (some_first w.steps some).0

  abbrev e : Dir
  e = (some_end w.steps some).0

  leaving : start_port w ≡ Some d
  leaving = (some_first w.steps some).1

  coming : last_of w.steps ≡ Some e
  coming = (some_end w.steps some).1

  arriving : end_port w ≡ Some (reverse_of e)
  arriving = ap (option_map reverse_of) coming

  abbrev way : ℕ
  way = straight_way (point_of_node k c.from.0) (point_of_node k (end_of c).0)

  abbrev overs : ℕ
  overs = scale.overs * turns_by graph k c.from.0 (first_seg_of c.steps) d + scale.overs * turns_by graph k (end_of c).0 (last_seg_of c) (reverse_of e)

  gain_is : run_gain scale graph first new c ≡ overs + steps_gain scale graph first new c.steps
  gain_is =
      let from = from_turns graph fit k h c run clear pieces each there scale first d (first_port_there graph fit new c.from c.steps pieces w run.steps cut have run.some ∙ leaving) in
      let to = end_turns graph fit k h c run clear pieces each there scale first (reverse_of e) (last_port_there graph fit new (first_seg_of c.steps) c.from c.steps pieces w run.steps each cut have run.some ∙ arriving) in
      omega (arith, ap (λ n. scale.overs * n) from, ap (λ n. scale.overs * n) to)

  turned : turns_at_least d e way ≤ turns_of w.steps
  turned = subst (λ (q : GridPoint). turns_at_least d e (straight_way q (point_of_node k (end_of c).0)) ≤ turns_of w.steps) starts (subst (λ (q : GridPoint). turns_at_least d e (straight_way w.start q) ≤ turns_of w.steps) ends (walk_turns w.start w.steps d e leaving coming))

  module _ (l : LeastTurns) (bound : IsBoundOf scale graph k c l) where
    abbrev price : ℕ
    price = turn_price scale graph c.steps

    low : slice_index l.by way ≤ overs + price * turns_of w.steps
    low =
        let least = least_allowed scale graph k c way d (reverse_of e) (ap (allows (ports_for graph k c.from.0 (first_seg_of c.steps))) (sym leaving) ∙ leaves) (ap (allows (ports_for graph k (end_of c).0 (last_seg_of c))) (sym arriving) ∙ arrives) in
        let back : turns_at_least d (reverse_of (reverse_of e)) way ≡ turns_at_least d e way = ap (λ (f : Dir). turns_at_least d f way) (twice e) in
        omega (arith, bound.by way (way_small (point_of_node k c.from.0) (point_of_node k (end_of c).0)), least, ap (λ n. price * n) back, mul-le-mul_left price turned)

    priced : steps_cost w.steps + price * turns_of w.steps ≤ steps_gain scale graph first new c.steps
    priced =
        let facts = is_priced scale graph c.steps in
        omega (arith, priced_run graph fit new scale first price c.from c.steps pieces w run.steps each cut have facts.price, facts.none_free)

    -- a run adds no less than its bound
    pub run_no_less : reach_of (point_of_node k c.from.0) (point_of_node k (end_of c).0) + slice_index l.by (straight_way (point_of_node k c.from.0) (point_of_node k (end_of c).0)) ≤ run_gain scale graph first (with_pieces graph c.from c.steps pieces k) c
    run_no_less =
        let reach : reach_of (point_of_node k c.from.0) (point_of_node k (end_of c).0) ≤ steps_cost w.steps = subst (λ (q : GridPoint). reach_of q (point_of_node k (end_of c).0) ≤ steps_cost w.steps) starts (subst (λ (q : GridPoint). reach_of w.start q ≤ steps_cost w.steps) ends (omega (arith, reach_turns w.start w.start w.steps, reach_none w.start, cost_parts w.steps))) in
        omega (arith, reach, low, priced, gain_is)

    -- and where it adds no more than it may, its walk is within the limit
    pub run_within : (may : ℕ) → run_gain scale graph first (with_pieces graph c.from c.steps pieces k) c ≤ may
        → cost_of w
        ≤ cond (eqb l.per_turn 0) (may - slice_index l.by (straight_way (point_of_node k c.from.0) (point_of_node k (end_of c).0)) + l.free_turns)
        (may - slice_index l.by (straight_way (point_of_node k c.from.0) (point_of_node k (end_of c).0)) + slice_index l.by (straight_way (point_of_node k c.from.0) (point_of_node k (end_of c).0)) / l.per_turn)
    run_within may less = by_price (cases_Bool (eqb l.per_turn 0))
      where
        by : ℕ
        by = slice_index l.by way

        cost : cost_of w ≡ steps_cost w.steps + turns_of w.steps
        cost = cost_parts w.steps

        by_price : (eqb l.per_turn 0 ≡ true) ⊎ (eqb l.per_turn 0 ≡ false) → cost_of w ≤ cond (eqb l.per_turn 0) (may - by + l.free_turns) (may - by + by / l.per_turn)
        by_price (inl none) =
            let no : price ≡ 0 = sym bound.price ∙ eqb-true l.per_turn 0 none in
            let cheap : slice_index l.by way ≤ overs = omega (arith, low, ap (λ n. n * turns_of w.steps) no) in
            let one = priced_run graph fit new scale first 1 c.from c.steps pieces w run.steps each cut have (one_price scale graph c.steps) in
            subst (λ b. cost_of w ≤ cond b (may - by + l.free_turns) (may - by + by / l.per_turn)) (sym none)
            (omega (arith, cost, free_limit (steps_cost w.steps) (turns_of w.steps) overs l.free_turns by may (run_gain scale graph first new c) cheap (omega (arith, one, gain_is, bound.free)) less))
        by_price (inr over) =
            let paid : 0 < l.per_turn = grind (arith, nat_tests, over) in
            let dear : slice_index l.by way ≤ overs + l.per_turn * turns_of w.steps = omega (arith, low, ap (λ n. n * turns_of w.steps) bound.price) in
            subst (λ b. cost_of w ≤ cond b (may - by + l.free_turns) (may - by + by / l.per_turn)) (sym over)
            (omega (arith, cost, priced_limit (steps_cost w.steps) (turns_of w.steps) overs l.per_turn by may (run_gain scale graph first new c) paid dear (omega (arith, priced, gain_is, ap (λ n. n * turns_of w.steps) bound.price)) less))
