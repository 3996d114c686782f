-- What an attempt knows of nodes, runs and bounds, as it reads them.
use Rattle.std.proofs.Common.{◌≡◌, ◌∙◌, sym, ap, subst, ℕ, ◌+◌, ◌<◌, ◌≤◌, true, false, min, List, length, fold, map, Option, Some, None, arith, get_or}
use Rattle.run_laying.specs.Sketches.{lifted as lifted_off, point_of_node}
use Rattle.drawing_search.specs.Changes.{point_after}
use Rattle.drawing_search.specs.Lifting.{IsOff}
use Rattle.drawing_search.proofs.Common.{all_at, all_in, all_moved, and_parts, apart_weight_by, board_of, contains}
use Rattle.drawing_search.proofs.Common.{doubled, end_of, first_point, gains_at_least, has_room, in_at, is_near}
use Rattle.drawing_search.proofs.Common.{is_open, length-map, moved_by, not, scale_of, sketch_weight, stood_at, sum_by}
use Rattle.drawing_search.proofs.Common.{◌&&◌, All, AreAllLaid, AreLayable, AreLiftable, Bounds, CanStandEach, Chain}
use Rattle.drawing_search.proofs.Common.{GraphParts, GridPoint, Group, HaveBounds, In, IsAttempted, IsField}
use Rattle.drawing_search.proofs.Common.{IsSmallLeast, LeastTurns, Lifted, NodeId, Scale, Sketch, Vector}
use Rattle.drawing_search.proofs.AttemptCases.{can_move, case_failed, case_heavy, case_made, case_no_room, layable_moved, least_moved, moved_may_lift, ready_moved, weight_moved}
use Rattle.drawing_search.proofs.FewSteps.{apart_few}
use Rattle.drawing_search.proofs.LayingAll.{least_of}
use Rattle.drawing_search.proofs.RunReads.{run_from, run_to}
use Rattle.drawing_search.proofs.Takable.{from_map, on_board_near, stands_near}
use Rattle.drawing_search.specs.declared.gains.Field.{Field}

all_mapped : {X Y : Type 0} (P : Y → Type 0) (f : X → Y) (xs : List X) → ((x : X) → In x xs → P (f x)) → All P (map f xs)
all_mapped P f xs h = λ i d below. let found = from_map f xs (get_or (map f xs) i d) (in_at (map f xs) i d below) in subst P (sym found.2) (h found.0 found.1)

-- what nodes that move, runs and their bounds are before anything is put on the board
pub record CanWeigh (graph : GraphParts) (k : Sketch) (ms : List (NodeId × GridPoint)) (cs : List Chain) (ls : List LeastTurns) : Type 0 where
  pub near : All (λ (m : NodeId × GridPoint). is_near 2000 m.1 ≡ true) ms
  pub nodes : All (λ (m : NodeId × GridPoint). m.0.0 < length graph.kinds) ms
  pub few : length ms ≤ 20000
  pub from : All (λ (c : Chain). c.from.0 < length k.points) cs
  pub to : All (λ (c : Chain). (end_of c).0 < length k.points) cs
  pub each : length ls ≡ length cs
  pub small : All IsSmallLeast ls

-- and where runs are laid on a drawing that weighs so much, and add so much at least
pub record CanLay (scale : Scale) (graph : GraphParts) (first : List GridPoint) (k : Sketch) (cs : List Chain) (ls : List LeastTurns) (rest gain limit : ℕ) : Type 0 where
  pub layable : AreLayable graph k cs
  pub weight : rest ≡ sketch_weight scale graph first k
  pub bounds : HaveBounds scale graph k cs ls
  pub ahead : gain ≡ gains_at_least (λ (n : NodeId). point_of_node k n.0) cs ls
  pub less : rest + gain < limit

module _ (f : Field) (field : IsField f) (g : Group) (l : Lifted) (v : Vector) (old : Sketch) (weight : ℕ) (off : IsOff (scale_of f.by) f.graph.now f.first.now g l v old weight)
    (ms : List (NodeId × GridPoint)) (cs : List Chain) (ls : List LeastTurns) (moved_is : ms ≡ l.moved.items) (runs_is : cs ≡ g.runs) (least_is : ls ≡ l.least.items) where
  below : (n : NodeId) → In n g.nodes → n.0 < length f.graph.now.kinds
  below n i = all_in (λ (m : NodeId). m.0 < length f.graph.now.kinds) g.nodes n off.fitting.nodes i

  moved_all : (P : NodeId × GridPoint → Type 0) → ((n : NodeId) → In n g.nodes → P (n, point_of_node off.whole n.0)) → All P ms
  moved_all P h = subst (All P) (sym (moved_is ∙ off.lifted.moved)) (all_mapped P (λ (n : NodeId). (n, point_of_node off.whole n.0)) g.nodes h)

  pub can_weigh : CanWeigh f.graph.now old ms cs ls
  can_weigh = record {
    near = moved_all (λ (m : NodeId × GridPoint). is_near 2000 m.1 ≡ true)
        (λ n i. stands_near f.graph.now off.whole off.settled.legal n.0 (off.settled.whole.nodes n.0 (omega (arith, below n i, off.settled.legal.stand_each))));
    nodes = moved_all (λ (m : NodeId × GridPoint). m.0.0 < length f.graph.now.kinds) below;
    few = let few = apart_few (length f.graph.now.kinds) g.nodes off.apart below in
        omega (arith, few, field.graph.few_nodes, ap length (moved_is ∙ off.lifted.moved), length-map {B = NodeId × GridPoint} g.nodes (λ (n : NodeId). (n, point_of_node off.whole n.0)));
    from = subst (All (λ (c : Chain). c.from.0 < length old.points)) (sym runs_is)
        (λ i d h. omega (arith, run_from f.graph.now field.graph (get_or g.runs i d) (off.fitting.runs i d h), off.lifted.off.points_each, off.settled.legal.points_each));
    to = subst (All (λ (c : Chain). (end_of c).0 < length old.points)) (sym runs_is)
        (λ i d h. omega (arith, run_to f.graph.now field.graph (get_or g.runs i d) (off.fitting.runs i d h), off.lifted.off.points_each, off.settled.legal.points_each));
    each = ap length least_is ∙ off.lifted.each ∙ ap length (sym runs_is);
    small = subst (All IsSmallLeast) (sym least_is) off.lifted.small;
  }

  pub read_no_room : has_room old v ms ≡ false → IsAttempted (scale_of f.by) f.graph.now f.first.now g l v old weight old None
  read_no_room none = λ whole s fits lifted. case_no_room f.graph.now field.graph (scale_of f.by) f.first.now g v whole old weight l off.apart s fits lifted (ap (has_room old v) (sym moved_is) ∙ none)

  module _ (room : has_room old v ms ≡ true) where
    room_is : has_room old v l.moved.items ≡ true
    room_is = ap (has_room old v) (sym moved_is) ∙ room

    pub read_there : All (λ (m : NodeId × GridPoint). is_near 2000 (moved_by v m.1) ≡ true) ms
    read_there = λ i d h.
        let p = moved_by v (get_or ms i d).1 in
        let open_there : is_open old p ≡ true = all_at (λ (m : NodeId × GridPoint). is_open old (moved_by v m.1)) ms (get_or ms i d) room (in_at ms i d h) in
        on_board_near off.whole.bounds off.settled.legal.bounds p
        (ap (λ (b : Bounds). contains b p) (sym off.lifted.off.bounds) ∙ (and_parts (contains old.bounds p) (not ((board_of old).is_node p) && not ((board_of old).is_taken (doubled p))) open_there).0)

    pub read_can : CanStandEach old (all_moved v ms)
    read_can = subst (λ (xs : List (NodeId × GridPoint)). CanStandEach old (all_moved v xs)) (sym moved_is) (can_move f.graph.now field.graph (scale_of f.by) f.first.now g v off.whole old weight l off.apart off.settled off.fitting off.lifted room_is)

    -- what there is once the nodes have moved
    module _ (mid : Sketch) (mid_is : mid ≡ fold stood_at old (all_moved v ms)) where
      mid_there : mid ≡ fold stood_at old (all_moved v l.moved.items)
      mid_there = mid_is ∙ ap (λ (xs : List (NodeId × GridPoint)). fold stood_at old (all_moved v xs)) moved_is

      laid_there : (new : Sketch) (o : Option ℕ) → AreAllLaid (scale_of f.by) f.graph.now f.first.now weight cs mid new o → AreAllLaid (scale_of f.by) f.graph.now f.first.now weight g.runs (fold stood_at old (all_moved v l.moved.items)) new o
      laid_there new o laid = subst (λ (j : Sketch). AreAllLaid (scale_of f.by) f.graph.now f.first.now weight g.runs j new o) mid_there (subst (λ (xs : List Chain). AreAllLaid (scale_of f.by) f.graph.now f.first.now weight xs mid new o) runs_is laid)

      pub read_made : (new : Sketch) (less : ℕ) → AreAllLaid (scale_of f.by) f.graph.now f.first.now weight cs mid new (Some less) → IsAttempted (scale_of f.by) f.graph.now f.first.now g l v old weight new (Some less)
      read_made new less laid = λ whole s fits lifted. case_made f.graph.now field.graph (scale_of f.by) f.first.now g v whole old weight l off.apart s fits lifted room_is new less (laid_there new (Some less) laid)

      pub read_liftable : (new : Sketch) → AreAllLaid (scale_of f.by) f.graph.now f.first.now weight cs mid new None → AreLiftable f.graph.now new (map (λ (m : NodeId × GridPoint). m.0) ms)
      read_liftable new laid =
          subst (λ (xs : List (NodeId × GridPoint)). AreLiftable f.graph.now new (map (λ (m : NodeId × GridPoint). m.0) xs)) (sym moved_is) (moved_may_lift f.graph.now field.graph (scale_of f.by) f.first.now g v off.whole old weight l off.apart off.settled off.fitting off.lifted room_is new (laid_there new None laid))

      pub read_failed : (new : Sketch) → AreAllLaid (scale_of f.by) f.graph.now f.first.now weight cs mid new None → (fin : Sketch) → fin ≡ fold lifted_off new (map (λ (m : NodeId × GridPoint). m.0) ms) → IsAttempted (scale_of f.by) f.graph.now f.first.now g l v old weight fin None
      read_failed new laid fin is = λ whole s fits lifted.
          case_failed f.graph.now field.graph (scale_of f.by) f.first.now g v whole old weight l off.apart s fits lifted room_is new (laid_there new None laid) fin (is ∙ ap (λ (xs : List (NodeId × GridPoint)). fold lifted_off new (map (λ (m : NodeId × GridPoint). m.0) xs)) moved_is)

    -- what the rest weighs then, and what the runs add at least
    module _ (base ahead : ℕ) (base_is : base ≡ l.rest + sum_by (λ (m : NodeId × GridPoint). apart_weight_by (scale_of f.by) m.0.0 (first_point f.first.now m.0.0) m.1) (all_moved v ms))
        (ahead_is : ahead ≡ min 18446744073709551615 (gains_at_least (point_after old v ms) cs ls)) where
      base_there : base ≡ sketch_weight (scale_of f.by) f.graph.now f.first.now (fold stood_at old (all_moved v l.moved.items))
      base_there =
          base_is
          ∙ ap (λ (xs : List (NodeId × GridPoint)). l.rest + sum_by (λ (m : NodeId × GridPoint). apart_weight_by (scale_of f.by) m.0.0 (first_point f.first.now m.0.0) m.1) (all_moved v xs)) moved_is
          ∙ sym (weight_moved f.graph.now field.graph (scale_of f.by) f.first.now g v off.whole old weight l off.apart off.settled off.fitting off.lifted room_is)

      ahead_there : ahead ≡ min 18446744073709551615 (least_of (fold stood_at old (all_moved v l.moved.items)) g.runs l.least.items)
      ahead_there =
          let read : gains_at_least (point_after old v ms) cs ls ≡ gains_at_least (point_after old v l.moved.items) g.runs l.least.items =
          λ i. gains_at_least (point_after old v (moved_is i)) (runs_is i) (least_is i) in
          ahead_is ∙ ap (min 18446744073709551615) (read ∙ least_moved f.graph.now field.graph (scale_of f.by) f.first.now g v off.whole old weight l off.apart off.settled off.fitting off.lifted room_is)

      pub read_heavy : weight ≤ min 18446744073709551615 (base + ahead) → IsAttempted (scale_of f.by) f.graph.now f.first.now g l v old weight old None
      read_heavy heavy =
          let few = off.settled.small in
          let same = base_there in
          let there = ahead_there in
          λ whole s fits lifted. case_heavy f.graph.now field.graph (scale_of f.by) f.first.now g v whole old weight l off.apart s fits lifted room_is (omega (arith, heavy, few, same, there))

      pub read_laying : (mid : Sketch) → mid ≡ fold stood_at old (all_moved v ms) → min 18446744073709551615 (base + ahead) < weight → CanLay (scale_of f.by) f.graph.now f.first.now mid cs ls base ahead weight
      read_laying mid mid_is less =
          let few = off.settled.small in
          subst (λ (j : Sketch). CanLay (scale_of f.by) f.graph.now f.first.now j cs ls base ahead weight) (sym (mid_there mid mid_is))
          (subst (λ (rs : List Chain). CanLay (scale_of f.by) f.graph.now f.first.now (fold stood_at old (all_moved v l.moved.items)) rs ls base ahead weight) (sym runs_is)
          (subst (λ (bs : List LeastTurns). CanLay (scale_of f.by) f.graph.now f.first.now (fold stood_at old (all_moved v l.moved.items)) g.runs bs base ahead weight) (sym least_is)
          (record {
            layable = layable_moved f.graph.now field.graph (scale_of f.by) f.first.now g v off.whole old weight l off.apart off.settled off.fitting off.lifted room_is;
            weight = base_there;
            bounds = (ready_moved f.graph.now field.graph (scale_of f.by) f.first.now g v off.whole old weight l off.apart off.settled off.fitting off.lifted room_is).have;
            ahead = omega (arith, less, few, ahead_there);
            less = omega (arith, less, few);
          })))
