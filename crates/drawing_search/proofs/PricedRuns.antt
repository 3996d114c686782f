-- What the walk of a run weighs, cut into pieces: its steps, and a price for each turn of 45 degrees, but for turns at nodes
-- that no line goes over.
use Rattle.std.proofs.Common.{◌≡◌, refl, sym, ◌∙◌, ap, ap₂, ℕ, suc, ◌+◌, ◌*◌, ◌<◌, ◌≤◌, Bool, true, false, cond, eqb, ◌||◌, List, [], ◌∷◌, length, filter, Option, Some, None, option_map, slice_get, ◌⊎◌, inl, inr, arith, get_or-set_same, length-set}
use Rattle.line_chains.specs.Chains.{ends_of}
use Rattle.drawing_search.proofs.Common.{board_under, cases_Bool, end_below, end_port, eq-eqb, first_leads}
use Rattle.drawing_search.proofs.Common.{first_start_port, free_nodes, from_low, has_segment, inner_nodes, is_free_node}
use Rattle.drawing_search.proofs.Common.{last_of, leads_to, mul-le-mul_left, mul-le-mul_right, no_loop, once_first}
use Rattle.drawing_search.proofs.Common.{or_right, pairs_at, port_at_node, port_by, port_from, port_to, reverse_of}
use Rattle.drawing_search.proofs.Common.{reversed_walk, same_walk, segment_weight, start_port, steps_gain, sum_by}
use Rattle.drawing_search.proofs.Common.{sum_by-cons, turn_back, turn_between, turn_if, turn_in, turn_over, turn_small}
use Rattle.drawing_search.proofs.Common.{turned_of, turns_from, turns_of, twice, walk_in, walk_weight_by}
use Rattle.drawing_search.proofs.Common.{walk_weight_if, with_piece, with_pieces, AreOnce, AreSteps, ChainStep, Dir}
use Rattle.drawing_search.proofs.Common.{GraphParts, GridPoint, In, IsConsistent, IsCut, LeadsTo, MeetAlone, NodeId}
use Rattle.drawing_search.proofs.Common.{PlainWalk, Scale, SegId, Sketch}
use Rattle.drawing_search.proofs.FieldFacts.{pair_joined, IsJoined, of_two}
use Rattle.drawing_search.proofs.StraightWays.{cost_parts, steps_append, steps_back, steps_cost, turn_over_cut, turn_same_back, turns_append, turns_back}

-- each segment of steps has its piece
abbrev pub HavePieces : GraphParts → NodeId → List ChainStep → List PlainWalk → Sketch → Type 0
HavePieces graph n [] vs k = Unit {0}
HavePieces graph n (t ∷ ts) [] k = ⊥
HavePieces graph n (t ∷ ts) (v ∷ vs) k = (walk_in k t.seg ≡ Some (from_low graph t.seg n v)) × HavePieces graph t.to ts vs k

pub have_pieces : (graph : GraphParts) (n : NodeId) (ts : List ChainStep) (vs : List PlainWalk) (k : Sketch) → length vs ≡ length ts → AreOnce ts → ((q : ChainStep) → In q ts → q.seg.0 < length k.walks)
    → HavePieces graph n ts vs (with_pieces graph n ts vs k)
have_pieces graph n [] vs k each once below = tt
have_pieces graph n (t ∷ ts) [] k each once below = absurd (omega (arith, each))
have_pieces graph n (t ∷ ts) (v ∷ vs) k each once below = (
  same_walk graph t.to ts vs (with_piece graph n t v k) t.seg (once_first t ts once) ∙ get_or-set_same k.walks t.seg.0 (Some (from_low graph t.seg n v)) None (below t (inl refl)),
  have_pieces graph t.to ts vs (with_piece graph n t v k) (omega (arith, each)) once.1 (λ q i. omega (arith, below q (inr i), length-set k.walks t.seg.0 (Some (from_low graph t.seg n v)))),
)

-- a walk weighs the same from its end
weight_back : (scale : Scale) (w : PlainWalk) → walk_weight_by scale (reversed_walk w) ≡ walk_weight_by scale w
weight_back scale w =
    let cost = cost_parts (reversed_walk w).steps in
    let before = cost_parts w.steps in
    let turns = turns_back w.steps in
    omega (arith, cost, before, turns, steps_back w.steps, ap (λ n. scale.turns * n) turns)

weight_low : (scale : Scale) (graph : GraphParts) (s : SegId) (n : NodeId) (v : PlainWalk) → walk_weight_by scale (from_low graph s n v) ≡ walk_weight_by scale v
weight_low scale graph s n v = by_test (eqb (ends_of graph s).0.0 n.0)
  where
    by_test : (b : Bool) → walk_weight_by scale (cond b v (reversed_walk v)) ≡ walk_weight_by scale v
    by_test true = refl
    by_test false = weight_back scale v

-- with a price for each of its turns
priced : (scale : Scale) (p : ℕ) → p ≤ 1 + scale.turns → (w : PlainWalk) → steps_cost w.steps + p * turns_of w.steps ≤ walk_weight_by scale w
priced scale p low w = omega (arith, cost_parts w.steps, mul-le-mul_right (turns_of w.steps) low)

-- a price that no turn in pieces goes below, and none at a node between steps but at free ones
abbrev pub IsPrice : Scale → GraphParts → ℕ → List ChainStep → Type 0
IsPrice scale graph p ts = (p ≤ 1 + scale.turns) × ((m : NodeId) → In m (inner_nodes ts) → is_free_node scale graph m ≡ false → p ≤ scale.overs)

-- ---- turns at nodes between steps

pub false_first : (a b : Bool) → (a || b) ≡ false → a ≡ false
false_first true b e = cc
false_first false b e = refl

-- the ends of a segment are different nodes
pub leads_apart : (graph : GraphParts) → IsConsistent graph → (n : NodeId) (t : ChainStep) → t.seg.0 < length graph.ends → LeadsTo graph n t → n.0 ≡ t.to.0 → ⊥
leads_apart graph fit n t below leads same = no_loop graph fit n t below leads (sym same)

-- the first piece of a walk leaves as the walk does
first_of_cut : (w x : PlainWalk) (xs : List PlainWalk) → IsCut w (x ∷ xs) → slice_get x.steps 0 ≡ slice_get w.steps 0
first_of_cut w x [] cut = ap (λ (v : PlainWalk). slice_get v.steps 0) cut.0
first_of_cut w x (y ∷ ys) cut = first_start_port w x cut.0 cut.1

module _ (graph : GraphParts) (fit : IsConsistent graph) (k : Sketch) (scale : Scale) where
  -- two segments that meet alone, where they have pieces of a walk: lines turn as much as the walk does
  module _ (n : NodeId) (t u : ChainStep) (v x : PlainWalk) (leads : LeadsTo graph n t) (on : LeadsTo graph t.to u) (alone : MeetAlone graph t.seg t.to u.seg) (node : t.to.0 < length graph.kinds) (apart : n.0 ≡ t.to.0 → ⊥) (next : t.to.0 ≡ u.to.0 → ⊥)
      (first : walk_in k t.seg ≡ Some (from_low graph t.seg n v)) (second : walk_in k u.seg ≡ Some (from_low graph u.seg t.to x)) where
    port_before : port_at_node graph (board_under k) t.to.0 t.seg ≡ end_port v
    port_before = ap (port_by (ends_of graph t.seg) t.to.0) first ∙ port_to graph t.seg n.0 t.to.0 v (from_low graph t.seg n v) (turned_of graph n t v leads apart) apart

    port_after : port_at_node graph (board_under k) t.to.0 u.seg ≡ start_port x
    port_after = ap (port_by (ends_of graph u.seg) t.to.0) second ∙ port_from graph u.seg t.to.0 u.to.0 x (from_low graph u.seg t.to x) (turned_of graph t.to u x on next) next

    over : (o p : Option Dir) → turn_over (option_map reverse_of o) p ≡ turn_over_cut o p
    over None p = refl
    over (Some d) None = refl
    over (Some d) (Some e) = ap (λ (b : Dir). turn_between b e) (twice d)

    over_back : (o p : Option Dir) → turn_over p (option_map reverse_of o) ≡ turn_over_cut o p
    over_back None None = refl
    over_back None (Some e) = refl
    over_back (Some d) None = refl
    over_back (Some d) (Some e) = turn_same_back e d ∙ turn_back e d

    one_turn : (pair : SegId × SegId) → In pair (pairs_at graph t.to.0) → turn_if graph k t.to.0 t.seg pair ≡ turn_over_cut (last_of v.steps) (slice_get x.steps 0)
    one_turn pair i = by_first (of_two graph t.seg t.to u.seg alone pair.0 joined.lesser) (of_two graph t.seg t.to u.seg alone pair.1 joined.greater)
      where
        joined : IsJoined graph t.to.0 pair
        joined = pair_joined graph fit t.to.0 node pair i

        counted : has_segment t.seg pair ≡ true → turn_in graph k t.to.0 pair ≡ turn_over_cut (last_of v.steps) (slice_get x.steps 0) → turn_if graph k t.to.0 t.seg pair ≡ turn_over_cut (last_of v.steps) (slice_get x.steps 0)
        counted e turn = ap (λ b. cond b (turn_in graph k t.to.0 pair) 0) e ∙ turn

        by_first : (pair.0 ≡ t.seg) ⊎ (pair.0 ≡ u.seg) → (pair.1 ≡ t.seg) ⊎ (pair.1 ≡ u.seg) → turn_if graph k t.to.0 t.seg pair ≡ turn_over_cut (last_of v.steps) (slice_get x.steps 0)
        by_first (inl e) (inl f) = absurd (omega (arith, joined.order, ap (λ (s : SegId). s.0) e, ap (λ (s : SegId). s.0) f))
        by_first (inr e) (inr f) = absurd (omega (arith, joined.order, ap (λ (s : SegId). s.0) e, ap (λ (s : SegId). s.0) f))
        by_first (inl e) (inr f) =
            counted (ap (λ b. b || eqb pair.1.0 t.seg.0) (eq-eqb pair.0.0 t.seg.0 (ap (λ (s : SegId). s.0) e)))
            (ap₂ (λ (p q : Option Dir). turn_over p q) (ap (port_at_node graph (board_under k) t.to.0) e ∙ port_before) (ap (port_at_node graph (board_under k) t.to.0) f ∙ port_after) ∙ over (last_of v.steps) (slice_get x.steps 0))
        by_first (inr e) (inl f) =
            counted (or_right (eqb pair.0.0 t.seg.0) (eqb pair.1.0 t.seg.0) (eq-eqb pair.1.0 t.seg.0 (ap (λ (s : SegId). s.0) f)))
            (ap₂ (λ (p q : Option Dir). turn_over p q) (ap (port_at_node graph (board_under k) t.to.0) e ∙ port_after) (ap (port_at_node graph (board_under k) t.to.0) f ∙ port_before) ∙ over_back (last_of v.steps) (slice_get x.steps 0))

    -- where a line goes over it
    turns_there : is_free_node scale graph t.to ≡ false → turn_over_cut (last_of v.steps) (slice_get x.steps 0) ≤ turns_from graph k t.to.0 t.seg
    turns_there free = by_pairs (pairs_at graph t.to.0) (λ pair i. one_turn pair i) some
      where
        some : eqb (length (pairs_at graph t.to.0)) 0 ≡ false
        some = false_first (eqb (length (pairs_at graph t.to.0)) 0) (eqb scale.overs 0) free

        by_pairs : (ps : List (SegId × SegId)) → ((pair : SegId × SegId) → In pair ps → turn_if graph k t.to.0 t.seg pair ≡ turn_over_cut (last_of v.steps) (slice_get x.steps 0)) → eqb (length ps) 0 ≡ false
            → turn_over_cut (last_of v.steps) (slice_get x.steps 0) ≤ sum_by (turn_if graph k t.to.0 t.seg) ps
        by_pairs [] each none = cc
        by_pairs (p ∷ ps) each none = omega (arith, each p (inl refl), sum_by-cons (turn_if graph k t.to.0 t.seg) p ps)

  -- ---- all steps

  cut_small : (v x : PlainWalk) → turn_over_cut (last_of v.steps) (slice_get x.steps 0) ≤ 4
  cut_small v x = small (last_of v.steps) (slice_get x.steps 0)
    where
      small : (o p : Option Dir) → turn_over_cut o p ≤ 4
      small None p = omega arith
      small (Some d) None = omega arith
      small (Some d) (Some e) = turn_small d e

  pub priced_run : (first : List GridPoint) (p : ℕ) (n : NodeId) (ts : List ChainStep) (vs : List PlainWalk) (w : PlainWalk) → AreSteps graph n ts → length vs ≡ length ts → IsCut w vs → HavePieces graph n ts vs k → IsPrice scale graph p ts
      → steps_cost w.steps + p * turns_of w.steps ≤ steps_gain scale graph first k ts + 4 * p * free_nodes scale graph ts
  priced_run first p n [] [] w steps each cut have price = absurd cut
  priced_run first p n [] (v ∷ vs) w steps each cut have price = absurd (omega (arith, each))
  priced_run first p n (t ∷ ts) [] w steps each cut have price = absurd (omega (arith, each))
  priced_run first p n (t ∷ []) (v ∷ x ∷ xs) w steps each cut have price = absurd (omega (arith, each))
  priced_run first p n (t ∷ u ∷ us) (v ∷ []) w steps each cut have price = absurd (omega (arith, each))
  priced_run first p n (t ∷ []) (v ∷ []) w steps each cut have price =
      let weight : segment_weight scale k t.seg ≡ walk_weight_by scale v = ap (walk_weight_if scale) have.0 ∙ weight_low scale graph t.seg n v in
      let same : steps_cost w.steps + p * turns_of w.steps ≡ steps_cost v.steps + p * turns_of v.steps = ap (λ (y : PlainWalk). steps_cost y.steps + p * turns_of y.steps) (sym cut.0) in
      omega (arith, weight, same, priced scale p price.0 v)
  priced_run first p n (t ∷ u ∷ us) (v ∷ x ∷ xs) w steps each cut have price =
      let rest = priced_run first p t.to (u ∷ us) (x ∷ xs) cut.0 steps.3 (omega (arith, each)) cut.2 have.1 (price.0, λ m i f. price.1 m (inr i) f) in
      let weight : segment_weight scale k t.seg ≡ walk_weight_by scale v = ap (walk_weight_if scale) have.0 ∙ weight_low scale graph t.seg n v in
      let costs : steps_cost w.steps ≡ steps_cost v.steps + steps_cost cut.0.steps = ap steps_cost cut.1.steps ∙ steps_append v.steps cut.0.steps in
      let turns : turns_of w.steps ≡ turns_of v.steps + cut_turn + turns_of cut.0.steps = ap turns_of cut.1.steps ∙ turns_append v.steps cut.0.steps in
      omega (arith, rest, weight, costs, ap (λ m. p * m) turns, priced scale p price.0 v, at_node (cases_Bool (is_free_node scale graph t.to)))
    where
      cut_turn : ℕ
      cut_turn = turn_over_cut (last_of v.steps) (slice_get cut.0.steps 0)

      -- the turn at the node: its price, or it is free
      at_node : (is_free_node scale graph t.to ≡ true) ⊎ (is_free_node scale graph t.to ≡ false) → p * cut_turn + 4 * p * free_nodes scale graph (u ∷ us) ≤ scale.overs * turns_from graph k t.to.0 t.seg + 4 * p * free_nodes scale graph (t ∷ u ∷ us)
      at_node (inl free) =
          let one_more : free_nodes scale graph (t ∷ u ∷ us) ≡ suc (free_nodes scale graph (u ∷ us)) =
          ap (λ b. length (cond b (t.to ∷ filter (is_free_node scale graph) (inner_nodes (u ∷ us))) (filter (is_free_node scale graph) (inner_nodes (u ∷ us))))) free in
          omega (arith, ap (λ m. 4 * p * m) one_more, mul-le-mul_left p (cut_small v cut.0))
      at_node (inr over) =
          let no_more : free_nodes scale graph (t ∷ u ∷ us) ≡ free_nodes scale graph (u ∷ us) =
          ap (λ b. length (cond b (t.to ∷ filter (is_free_node scale graph) (inner_nodes (u ∷ us))) (filter (is_free_node scale graph) (inner_nodes (u ∷ us))))) over in
          let start = first_of_cut cut.0 x xs cut.2 in
          let on = first_leads graph t.to u us steps.3 in
          let turns : turn_over_cut (last_of v.steps) (slice_get x.steps 0) ≤ turns_from graph k t.to.0 t.seg =
          turns_there n t u v x steps.1 on.1 steps.2 (end_below graph fit t.seg t.to.0 steps.0 (leads_to graph n t steps.1)) (leads_apart graph fit n t steps.0 steps.1) (leads_apart graph fit t.to u on.0 on.1) have.0 have.1.0 over in
          let same : cut_turn ≡ turn_over_cut (last_of v.steps) (slice_get x.steps 0) = ap (turn_over_cut (last_of v.steps)) (sym start) in
          omega (arith, ap (λ m. 4 * p * m) no_more, ap (λ m. p * m) same, mul-le-mul_left p turns, mul-le-mul_right (turns_from graph k t.to.0 t.seg) (price.1 t.to (inl refl) over))
