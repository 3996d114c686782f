-- A legal sketch stays legal where one more node stands at a point that nothing has.
use Rattle.std.proofs.Common.{◌≡◌, sym, ◌∙◌, ap, ℕ, ◌<◌, Bool, true, false, length, Some, ◌⊎◌, inl, inr, arith, length-set, get_or-set_same, get_or-set_other}
use Rattle.std.proofs.lemmas.Bool.{cases_eq, true≢false}
use Rattle.map_base.specs.declared.ids.NodeId.{NodeId}
use Rattle.map_base.specs.declared.ids.SegId.{SegId}
use Rattle.graph_core.specs.declared.parts.GraphParts.{GraphParts}
use Rattle.line_chains.specs.Chains.{ends_of}
use Rattle.octi_grid.specs.declared.point.GridPoint.{GridPoint}
use Rattle.octi_grid.specs.Ways.{doubled}
use Rattle.octi_grid.specs.Walks.{doubled_of, PlainWalk}
use Rattle.octi_grid.specs.Legal.{is_among, is_even}
use Rattle.grid_board.specs.Boards.{contains}
use Rattle.segment_router.proofs.SettledLemmas.{nowhere}
use Rattle.run_laying.specs.Laying.{Sketch}
use Rattle.run_laying.specs.Sketches.{is_standing, point_of_node, stood, walk_in, IsEndOf, IsLegalSketch, IsMeeting}

-- a point that a node may have which doesn't stand
pub record IsOpen (graph : GraphParts) (k : Sketch) (n : NodeId) (p : GridPoint) : Type 0 where
  pub node : n.0 < length graph.kinds
  pub lifted : is_standing k n.0 ≡ false
  pub inside : contains k.bounds p ≡ true
  pub even : is_even p ≡ true
  pub away : (m : ℕ) → is_standing k m ≡ true → point_of_node k m ≡ p → ⊥
  pub off : (s : SegId) (w : PlainWalk) → walk_in k s ≡ Some w → is_among (doubled_of w) (doubled p) ≡ false

-- an end of a segment that has a walk stands
pub end_stands : (graph : GraphParts) (k : Sketch) → IsLegalSketch graph k → (s : SegId) (w : PlainWalk) → walk_in k s ≡ Some w → (n : ℕ) → IsEndOf graph s n → is_standing k n ≡ true
end_stands graph k h s w e n (inl i) = ap (is_standing k) (sym i) ∙ h.low s w e
end_stands graph k h s w e n (inr i) = ap (is_standing k) (sym i) ∙ h.up s w e

-- the nodes afterwards
pub stands_new : (graph : GraphParts) (k : Sketch) (n : NodeId) (p : GridPoint) → IsLegalSketch graph k → n.0 < length graph.kinds → is_standing (stood k n p) n.0 ≡ true
stands_new graph k n p h node = get_or-set_same k.stand n.0 true false (omega (arith, node, h.stand_each))

pub point_new : (graph : GraphParts) (k : Sketch) (n : NodeId) (p : GridPoint) → IsLegalSketch graph k → n.0 < length graph.kinds → point_of_node (stood k n p) n.0 ≡ p
point_new graph k n p h node = get_or-set_same k.points n.0 p nowhere (omega (arith, node, h.points_each))

pub stands_other : (k : Sketch) (n : NodeId) (p : GridPoint) (m : ℕ) → (m ≡ n.0 → ⊥) → is_standing (stood k n p) m ≡ is_standing k m
stands_other k n p m f = get_or-set_other k.stand n.0 m true false f

pub point_other : (k : Sketch) (n : NodeId) (p : GridPoint) (m : ℕ) → (m ≡ n.0 → ⊥) → point_of_node (stood k n p) m ≡ point_of_node k m
point_other k n p m f = get_or-set_other k.points n.0 m p nowhere f

module _ (graph : GraphParts) (k : Sketch) (n : NodeId) (p : GridPoint) (h : IsLegalSketch graph k) (open_at : IsOpen graph k n p) where
  not_new : (m : ℕ) → is_standing k m ≡ true → m ≡ n.0 → ⊥
  not_new m stands e = true≢false (sym stands ∙ ap (is_standing k) e ∙ open_at.lifted)

  -- a node that stood still stands, where it did
  pub still_stands : (m : ℕ) → is_standing k m ≡ true → is_standing (stood k n p) m ≡ true
  still_stands m stands = stands_other k n p m (not_new m stands) ∙ stands

  pub still_there : (m : ℕ) → is_standing k m ≡ true → point_of_node (stood k n p) m ≡ point_of_node k m
  still_there m stands = point_other k n p m (not_new m stands)

  -- one that stands afterwards is the new one, or stood before
  pub which_stands : (m : ℕ) → is_standing (stood k n p) m ≡ true → (m ≡ n.0) ⊎ (is_standing k m ≡ true)
  which_stands m stands = elim (cases_eq m n.0) [ inl e ↦ inl e | inr f ↦ inr (sym (stands_other k n p m f) ∙ stands) ]

  -- a fact of the new point, and of the points of nodes that stood, is one of all points
  holds_of : (test : GridPoint → Bool) → test p ≡ true → ((m : ℕ) → is_standing k m ≡ true → test (point_of_node k m) ≡ true) → (m : ℕ) → is_standing (stood k n p) m ≡ true → test (point_of_node (stood k n p) m) ≡ true
  holds_of test here others m stands = elim (which_stands m stands) [
    | inl e ↦ ap (λ i. test (point_of_node (stood k n p) i)) e ∙ ap test (point_new graph k n p h open_at.node) ∙ here
    | inr before ↦ ap test (still_there m before) ∙ others m before
  ]

  own_then : (m q : ℕ) → is_standing (stood k n p) m ≡ true → is_standing (stood k n p) q ≡ true → point_of_node (stood k n p) m ≡ point_of_node (stood k n p) q → m ≡ q
  own_then m q stands stands_too same = by_nodes (which_stands m stands) (which_stands q stands_too)
    where
      at : (i : ℕ) → i ≡ n.0 → point_of_node (stood k n p) i ≡ p
      at i e = ap (point_of_node (stood k n p)) e ∙ point_new graph k n p h open_at.node

      by_nodes : (m ≡ n.0) ⊎ (is_standing k m ≡ true) → (q ≡ n.0) ⊎ (is_standing k q ≡ true) → m ≡ q
      by_nodes (inl e) (inl f) = e ∙ sym f
      by_nodes (inl e) (inr f) = absurd (open_at.away q f (sym (still_there q f) ∙ sym same ∙ at m e))
      by_nodes (inr e) (inl f) = absurd (open_at.away m e (sym (still_there m e) ∙ same ∙ at q f))
      by_nodes (inr e) (inr f) = h.own m q e f (sym (still_there m e) ∙ same ∙ still_there q f)

  meeting_then : (s t : SegId) (w : PlainWalk) (d : GridPoint) → walk_in k s ≡ Some w → IsMeeting graph k s t d → IsMeeting graph (stood k n p) s t d
  meeting_then s t w d e m = record {
    node = m.node;
    of_one = m.of_one;
    of_other = m.of_other;
    there = ap doubled (still_there m.node (end_stands graph k h s w e m.node m.of_one)) ∙ m.there;
  }

  clear_then : (s : SegId) (w : PlainWalk) (m : ℕ) → walk_in k s ≡ Some w → is_standing (stood k n p) m ≡ true → is_among (doubled_of w) (doubled (point_of_node (stood k n p) m)) ≡ true → IsEndOf graph s m
  clear_then s w m e stands met = elim (which_stands m stands) [
    | inl i ↦ absurd (true≢false (sym met ∙ ap (λ (q : GridPoint). is_among (doubled_of w) (doubled q)) (ap (point_of_node (stood k n p)) i ∙ point_new graph k n p h open_at.node) ∙ open_at.off s w e))
    | inr before ↦ h.clear s w m e before (ap (λ (q : GridPoint). is_among (doubled_of w) (doubled q)) (sym (still_there m before)) ∙ met)
  ]

  pub stood_legal : IsLegalSketch graph (stood k n p)
  stood_legal = record {
    bounds = h.bounds;
    points_each = length-set k.points n.0 p ∙ h.points_each;
    stand_each = length-set k.stand n.0 true ∙ h.stand_each;
    walks_each = h.walks_each;
    inside = holds_of (contains k.bounds) open_at.inside h.inside;
    even = holds_of is_even open_at.even h.even;
    own = own_then;
    low = λ s w e. still_stands (ends_of graph s).0.0 (h.low s w e);
    up = λ s w e. still_stands (ends_of graph s).1.0 (h.up s w e);
    starts = λ s w e. h.starts s w e ∙ sym (still_there (ends_of graph s).0.0 (h.low s w e));
    ends = λ s w e. h.ends s w e ∙ sym (still_there (ends_of graph s).1.0 (h.up s w e));
    within = h.within;
    once = h.once;
    apart = λ s t v w d f e g i j. meeting_then s t v d e (h.apart s t v w d f e g i j);
    clear = clear_then;
    ports = h.ports;
  }
