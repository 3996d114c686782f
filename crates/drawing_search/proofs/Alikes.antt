-- Drawings in the making that differ at most in where nodes lie that don't stand: they have one board, weigh the same, and
-- the same runs can be laid on them.
use Rattle.std.proofs.Common.{◌≡◌, refl, sym, ◌∙◌, ap, ap₂, subst, ℕ, zero, suc, ◌+◌, ◌*◌, Bool, true, false, cond, not, nat_le, List, [], ◌∷◌, length, get_or, set, replicate, zip, Option, Some, None, ◌⊎◌, inl, inr, arith, length-set, get_or-set_other}
use Rattle.line_chains.specs.Chains.{ends_of}
use Rattle.drawing_search.proofs.Common.{allowed_mask, apart_in, apart_weight_by, are_clockwise, are_one, board_of}
use Rattle.drawing_search.proofs.Common.{board_under, cases_eq, contains, doubled, doubled_of, end_at, end_of}
use Rattle.drawing_search.proofs.Common.{end_point, even_steps, filter_map, first_point, first_seg_of, from_low}
use Rattle.drawing_search.proofs.Common.{has_doubled, is_among, is_even, is_standing, laid, laid_along, last_seg_of}
use Rattle.drawing_search.proofs.Common.{list_all, list_any, node_weight_in, nowhere, pairs_at, pieces_of}
use Rattle.drawing_search.proofs.Common.{point_of_node, points_of, port_at_node, port_by, range_with_len, route}
use Rattle.drawing_search.proofs.Common.{run_walk, sketch_weight, standing_point, standing_points, sum_by, turn_over}
use Rattle.drawing_search.proofs.Common.{walk_in, walk_weight_if, with_piece, with_pieces, AreAlike, AreBounds, Bounds}
use Rattle.drawing_search.proofs.Common.{Chain, ChainStep, Dir, GraphParts, GridPoint, IsEndOf, IsLegalSketch}
use Rattle.drawing_search.proofs.Common.{IsMeeting, NodeId, PlainWalk, Scale, SegId, Sketch}

pub alike_self : (k : Sketch) → AreAlike k k
alike_self k = record { bounds = refl; points_each = refl; stand = refl; walks = refl; points = λ n e. refl }

pub alike_on : (i j k : Sketch) → AreAlike i j → AreAlike j k → AreAlike i k
alike_on i j k a b = record {
  bounds = a.bounds ∙ b.bounds;
  points_each = a.points_each ∙ b.points_each;
  stand = a.stand ∙ b.stand;
  walks = a.walks ∙ b.walks;
  points = λ n e. a.points n (ap (λ fs. get_or fs n false) b.stand ∙ e) ∙ b.points n e;
}

-- ---- one board

same_points : (stand : List Bool) (ps qs : List GridPoint) → length ps ≡ length qs → ((n : ℕ) → get_or stand n false ≡ true → get_or ps n nowhere ≡ get_or qs n nowhere)
    → filter_map standing_point (zip stand ps) ≡ filter_map standing_point (zip stand qs)
same_points [] ps qs each same = refl
same_points (b ∷ bs) [] [] each same = refl
same_points (b ∷ bs) [] (q ∷ qs) each same = absurd (omega arith)
same_points (b ∷ bs) (p ∷ ps) [] each same = absurd (omega arith)
same_points (true ∷ bs) (p ∷ ps) (q ∷ qs) each same =
    ap (λ (x : GridPoint). x ∷ filter_map standing_point (zip bs ps)) (same 0 refl) ∙ ap (λ (xs : List GridPoint). q ∷ xs) (same_points bs ps qs (omega arith) (λ n e. same (suc n) e))
same_points (false ∷ bs) (p ∷ ps) (q ∷ qs) each same = same_points bs ps qs (omega arith) (λ n e. same (suc n) e)

module _ (j k : Sketch) (a : AreAlike j k) where
  same_standing : standing_points j ≡ standing_points k
  same_standing = ap (λ fs. filter_map standing_point (zip fs j.points)) a.stand ∙ same_points k.stand j.points k.points a.points_each a.points

  pub same_board : board_of j ≡ board_of k
  same_board = λ i. record { bounds = a.bounds i; is_node = λ p. list_any (λ q. are_one q p) (same_standing i); is_taken = λ d. list_any (has_doubled d) (a.walks i) }

  pub same_stands : (n : ℕ) → is_standing j n ≡ is_standing k n
  same_stands n = ap (λ fs. get_or fs n false) a.stand

  pub same_walk : (s : SegId) → walk_in j s ≡ walk_in k s
  same_walk s = ap (λ (ws : List (Option PlainWalk)). get_or ws s.0 None) a.walks

  pub same_port : (graph : GraphParts) (n : ℕ) (s : SegId) → port_at_node graph (board_under j) n s ≡ port_at_node graph (board_under k) n s
  same_port graph n s = ap (port_by (ends_of graph s) n) (same_walk s)

  same_ports : (graph : GraphParts) (n : ℕ) → port_at_node graph (board_under j) n ≡ port_at_node graph (board_under k) n
  same_ports graph n = λ i s. same_port graph n s i

  -- ---- one weight

  same_apart : (scale : Scale) (first : List GridPoint) (n : ℕ) → cond (is_standing j n) (apart_in scale first j n) 0 ≡ cond (is_standing k n) (apart_in scale first k n) 0
  same_apart scale first n = ap (λ b. cond b (apart_in scale first j n) 0) (same_stands n) ∙ by_test (is_standing k n) refl
    where
      by_test : (b : Bool) → is_standing k n ≡ b → cond b (apart_in scale first j n) 0 ≡ cond b (apart_in scale first k n) 0
      by_test true e = ap (λ (p : GridPoint). apart_weight_by scale n (first_point first n) p) (a.points n e)
      by_test false e = refl

  same_node : (scale : Scale) (graph : GraphParts) (first : List GridPoint) (n : ℕ) → node_weight_in scale graph first j n ≡ node_weight_in scale graph first k n
  same_node scale graph first n =
      λ i. scale.overs * sum_by (λ (pair : SegId × SegId). turn_over (same_port graph n pair.0 i) (same_port graph n pair.1 i)) (pairs_at graph n) + same_apart scale first n i

  pub same_weight : (scale : Scale) (graph : GraphParts) (first : List GridPoint) → sketch_weight scale graph first j ≡ sketch_weight scale graph first k
  same_weight scale graph first =
      λ i. sum_by (λ s. walk_weight_if scale (same_walk (record { 0 = s }) i)) (range_with_len 0 (length graph.ends))
      + sum_by (λ n. same_node scale graph first n i) (range_with_len 0 (length graph.kinds))

  -- ---- the same walk of a run

  same_end : (graph : GraphParts) (s : SegId) (n : ℕ) → is_standing k n ≡ true → end_at graph (board_under j) s n ≡ end_at graph (board_under k) s n
  same_end graph s n e =
      λ i. record {
        at = a.points n e i;
        is_free = not (get_or (replicate (a.points_each i) true) n false);
        ports = allowed_mask (get_or graph.rounds n []) (same_ports graph n i) s;
      }

  pub same_run_walk : (graph : GraphParts) (c : Chain) → is_standing k c.from.0 ≡ true → is_standing k (end_of c).0 ≡ true → run_walk graph (board_under j) c ≡ run_walk graph (board_under k) c
  same_run_walk graph c from to =
      λ i. route (same_board i) (same_end graph (first_seg_of c.steps) c.from.0 from i) (same_end graph (last_seg_of c) (end_of c).0 to i)

-- ---- and the same runs are laid

set_alike : (ps qs : List GridPoint) (i : ℕ) (p : GridPoint) → length ps ≡ length qs → get_or (set ps i p) i nowhere ≡ get_or (set qs i p) i nowhere
set_alike [] [] i p each = refl
set_alike [] (y ∷ qs) i p each = absurd (omega arith)
set_alike (x ∷ ps) [] i p each = absurd (omega arith)
set_alike (x ∷ ps) (y ∷ qs) zero p each = refl
set_alike (x ∷ ps) (y ∷ qs) (suc i) p each = set_alike ps qs i p (omega arith)

piece_alike : (graph : GraphParts) (n : NodeId) (t : ChainStep) (w : PlainWalk) (j k : Sketch) → AreAlike j k → AreAlike (with_piece graph n t w j) (with_piece graph n t w k)
piece_alike graph n t w j k a = record {
  bounds = a.bounds;
  points_each = length-set j.points t.to.0 (end_point w) ∙ a.points_each ∙ sym (length-set k.points t.to.0 (end_point w));
  stand = ap (λ (fs : List Bool). set fs t.to.0 true) a.stand;
  walks = ap (λ (ws : List (Option PlainWalk)). set ws t.seg.0 (Some (from_low graph t.seg n w))) a.walks;
  points = λ m e. by_node m e (cases_eq m t.to.0);
}
  where
    by_node : (m : ℕ) → get_or (set k.stand t.to.0 true) m false ≡ true → (m ≡ t.to.0) ⊎ (m ≡ t.to.0 → ⊥) → get_or (set j.points t.to.0 (end_point w)) m nowhere ≡ get_or (set k.points t.to.0 (end_point w)) m nowhere
    by_node m e (inl same) =
        subst (λ i. get_or (set j.points t.to.0 (end_point w)) i nowhere ≡ get_or (set k.points t.to.0 (end_point w)) i nowhere) (sym same) (set_alike j.points k.points t.to.0 (end_point w) a.points_each)
    by_node m e (inr other) =
        get_or-set_other j.points t.to.0 m (end_point w) nowhere other
        ∙ a.points m (sym (get_or-set_other k.stand t.to.0 m true false other) ∙ e)
        ∙ sym (get_or-set_other k.points t.to.0 m (end_point w) nowhere other)

pub pieces_alike : (graph : GraphParts) (n : NodeId) (ts : List ChainStep) (vs : List PlainWalk) (j k : Sketch) → AreAlike j k → AreAlike (with_pieces graph n ts vs j) (with_pieces graph n ts vs k)
pieces_alike graph n [] vs j k a = a
pieces_alike graph n (t ∷ ts) [] j k a = a
pieces_alike graph n (t ∷ ts) (v ∷ vs) j k a = pieces_alike graph t.to ts vs (with_piece graph n t v j) (with_piece graph n t v k) (piece_alike graph n t v j k a)

-- both are laid, and what comes of them is alike; or none
abbrev pub ComesAlike : Option Sketch → Option Sketch → Type 0
ComesAlike None None = Unit {0}
ComesAlike None (Some k) = ⊥
ComesAlike (Some j) None = ⊥
ComesAlike (Some j) (Some k) = AreAlike j k

along_alike : (graph : GraphParts) (c : Chain) (j k : Sketch) → AreAlike j k → (o : Option PlainWalk) → ComesAlike (laid_along graph c j o) (laid_along graph c k o)
along_alike graph c j k a None = tt
along_alike graph c j k a (Some w) = by_test (nat_le (length c.steps) (even_steps (points_of w)))
  where
    by_test : (t : Bool) → ComesAlike (cond t (Some (with_pieces graph c.from c.steps (pieces_of w (length c.steps)) j)) None) (cond t (Some (with_pieces graph c.from c.steps (pieces_of w (length c.steps)) k)) None)
    by_test true = pieces_alike graph c.from c.steps (pieces_of w (length c.steps)) j k a
    by_test false = tt

pub laid_alike : (graph : GraphParts) (c : Chain) (j k : Sketch) → AreAlike j k → is_standing k c.from.0 ≡ true → is_standing k (end_of c).0 ≡ true → ComesAlike (laid graph c j) (laid graph c k)
laid_alike graph c j k a from to =
    subst (λ (o : Option PlainWalk). ComesAlike (laid_along graph c j o) (laid graph c k)) (sym (same_run_walk j k a graph c from to)) (along_alike graph c j k a (run_walk graph (board_under k) c))

-- ---- and both are legal, or neither

pub legal_alike : (graph : GraphParts) (j k : Sketch) → AreAlike j k → IsLegalSketch graph k → IsLegalSketch graph j
legal_alike graph j k a h = record {
  bounds = subst AreBounds (sym a.bounds) h.bounds;
  points_each = a.points_each ∙ h.points_each;
  stand_each = ap length a.stand ∙ h.stand_each;
  walks_each = ap length a.walks ∙ h.walks_each;
  inside = λ n e. ap₂ (λ (b : Bounds) (p : GridPoint). contains b p) a.bounds (there n e) ∙ h.inside n (stands n e);
  even = λ n e. ap is_even (there n e) ∙ h.even n (stands n e);
  own = λ n m e f same. h.own n m (stands n e) (stands m f) (sym (there n e) ∙ same ∙ there m f);
  low = λ s w e. same_stands j k a (ends_of graph s).0.0 ∙ h.low s w (walk s w e);
  up = λ s w e. same_stands j k a (ends_of graph s).1.0 ∙ h.up s w (walk s w e);
  starts = λ s w e. h.starts s w (walk s w e) ∙ sym (a.points (ends_of graph s).0.0 (h.low s w (walk s w e)));
  ends = λ s w e. h.ends s w (walk s w e) ∙ sym (a.points (ends_of graph s).1.0 (h.up s w (walk s w e)));
  within = λ s w e. ap (λ (b : Bounds). list_all (contains b) (points_of w)) a.bounds ∙ h.within s w (walk s w e);
  once = λ s w e. h.once s w (walk s w e);
  apart = λ s t v w d differ e f i m. meeting s t v d e (h.apart s t v w d differ (walk s v e) (walk t w f) i m);
  clear = λ s w n e f i. h.clear s w n (walk s w e) (stands n f) (subst (λ (p : GridPoint). is_among (doubled_of w) (doubled p) ≡ true) (there n f) i);
  ports = λ n below. ap (λ (f : SegId → Option Dir). are_clockwise (filter_map f (get_or graph.rounds n []))) (λ i s. same_port j k a graph n s i) ∙ h.ports n below;
}
  where
    stands : (n : ℕ) → is_standing j n ≡ true → is_standing k n ≡ true
    stands n e = sym (same_stands j k a n) ∙ e

    there : (n : ℕ) → is_standing j n ≡ true → point_of_node j n ≡ point_of_node k n
    there n e = a.points n (stands n e)

    walk : (s : SegId) (w : PlainWalk) → walk_in j s ≡ Some w → walk_in k s ≡ Some w
    walk s w e = sym (same_walk j k a s) ∙ e

    meeting : (s t : SegId) (v : PlainWalk) (d : GridPoint) → walk_in j s ≡ Some v → IsMeeting graph k s t d → IsMeeting graph j s t d
    meeting s t v d e m = record { node = m.node; of_one = m.of_one; of_other = m.of_other; there = ap doubled (by_end m.of_one) ∙ m.there }
      where
        by_end : IsEndOf graph s m.node → point_of_node j m.node ≡ point_of_node k m.node
        by_end (inl f) = a.points m.node (ap (is_standing k) (sym f) ∙ h.low s v (walk s v e))
        by_end (inr f) = a.points m.node (ap (is_standing k) (sym f) ∙ h.up s v (walk s v e))
