-- The live tree of a prefix, node by node.
use Rattle.std.proofs.Common.{◌≡◌, ℕ, zero, suc, ◌<◌, ◌≤◌, nat_lt, Bool, true, false, cond, List, [], ◌∷◌, length, refl, sym, ◌∙◌, ap, arith, Some, None, Option}
use Rattle.std.specs.List.{All}
use Rattle.std.proofs.lemmas.Bool.{lt-ltb, ltb-true}
use Rattle.std.proofs.lemmas.List.{length-set}
use Rattle.map_base.specs.declared.ids.SegId.{SegId}
use Rattle.map_base.specs.declared.ids.LineId.{LineId}
use Rattle.order_model.specs.Problems.{lines_on}
use Rattle.order_model.specs.Prefixes.{with_line}
use Rattle.order_model.specs.Completions.{placed_more}
use Rattle.order_bound.proofs.Sound.{all_in}
use Rattle.order_search.specs.Left.{is_open, first_open, room_of}
use Rattle.order_search.specs.LiveTrees.{BoundedPart, Best, better, next_lines, GrownTree, GrownCases, with_case, grow_cases, split_with, closed_with, live_node, live_within, live_at}
use Rattle.order_search.proofs.Rooms.{found_in, room_falls, no_room}

-- Cases that grow by two rules that agree on each of them.

abbrev Grow : Type 0
Grow = List (List LineId) → Best → GrownTree

same_cases : (next other : Grow) (q : BoundedPart) (placed : List (List LineId)) (s : SegId) (lines : List LineId) (best : Best)
    → ((a : LineId) (b : Best) → next (placed_more q.segs placed s a) b ≡ other (placed_more q.segs placed s a) b)
    → grow_cases next q placed s lines best ≡ grow_cases other q placed s lines best
same_cases next other q placed s [] best same = refl
same_cases next other q placed s (a ∷ lines) best same =
    let first : GrownTree = other (placed_more q.segs placed s a) best in
    let then_rest : GrownTree → GrownCases = λ f. with_case a f (grow_cases next q placed s lines f.best) in
    ap then_rest (same a best) ∙ ap (with_case a first) (same_cases next other q placed s lines first.best same)

same_node : (next other : Grow) (q : BoundedPart) (placed : List (List LineId)) (s : SegId) (best : Best)
    → ((a : LineId) (b : Best) → next (placed_more q.segs placed s a) b ≡ other (placed_more q.segs placed s a) b)
    → live_node next q placed (Some s) best ≡ live_node other q placed (Some s) best
same_node next other q placed s best same =
    let by : GrownCases → GrownTree = λ grown. cond (nat_lt (q.bound placed) best.cost) (split_with s grown) (closed_with q placed best) in
    ap by (same_cases next other q placed s (next_lines q placed s) best same)

-- More levels than lines that are left change nothing.

module _ (q : BoundedPart) (known : All (λ (s : SegId). s.0 < length q.segs) q.part) where
  pub each_more : (placed : List (List LineId)) (s : SegId) (a : LineId) → length placed ≡ length q.segs → length (placed_more q.segs placed s a) ≡ length q.segs
  each_more placed s a each = length-set placed s.0 (with_line (lines_on q.segs s) (lines_on placed s) a) ∙ each

  pub fewer_left : (placed : List (List LineId)) (s : SegId) (a : LineId) → length placed ≡ length q.segs → first_open q.segs q.part placed ≡ Some s
      → room_of q.segs q.part (placed_more q.segs placed s a) < room_of q.segs q.part placed
  fewer_left placed s a each e =
      let here = found_in (is_open q.segs placed) q.part s e in
      let s_known : s.0 < length placed = omega (arith, each, all_in (λ (s : SegId). s.0 < length q.segs) q.part s known here.1) in
      room_falls q.segs q.part placed s a s_known here.1 here.0

  stable : (n m : ℕ) (placed : List (List LineId)) (best : Best) → length placed ≡ length q.segs → room_of q.segs q.part placed ≤ n → room_of q.segs q.part placed ≤ m
      → live_within n q placed best ≡ live_within m q placed best
  stable zero zero placed best each r l = refl
  stable zero (suc m) placed best each r l = sym (ap (λ f. live_node (live_within m q) q placed f best) (no_room q.segs q.part placed (omega (arith, r))))
  stable (suc n) zero placed best each r l = ap (λ f. live_node (live_within n q) q placed f best) (no_room q.segs q.part placed (omega (arith, l)))
  stable (suc n) (suc m) placed best each r l = by_open (first_open q.segs q.part placed) refl (λ more b. stable n m more b)
    where
      by_open : (f : Option SegId) → first_open q.segs q.part placed ≡ f
          → ((more : List (List LineId)) (b : Best) → length more ≡ length q.segs → room_of q.segs q.part more ≤ n → room_of q.segs q.part more ≤ m
          → live_within n q more b ≡ live_within m q more b)
          → live_node (live_within n q) q placed f best ≡ live_node (live_within m q) q placed f best
      by_open None e again = refl
      by_open (Some s) e again = same_node (live_within n q) (live_within m q) q placed s best (λ a b.
          let falls = fewer_left placed s a each e in
          again (placed_more q.segs placed s a) b (each_more placed s a each) (omega (arith, falls, r)) (omega (arith, falls, l)))

  -- the node of a prefix
  pub node_is : (placed : List (List LineId)) (best : Best) → length placed ≡ length q.segs
      → live_at q placed best ≡ live_node (live_at q) q placed (first_open q.segs q.part placed) best
  node_is placed best each = by_room (room_of q.segs q.part placed) refl
    where
      by_open : (n : ℕ) → room_of q.segs q.part placed ≡ suc n → (f : Option SegId) → first_open q.segs q.part placed ≡ f
          → live_node (live_within n q) q placed f best ≡ live_node (live_at q) q placed f best
      by_open n e None o = refl
      by_open n e (Some s) o = same_node (live_within n q) (live_at q) q placed s best (λ a b.
          let falls = fewer_left placed s a each o in
          stable n (room_of q.segs q.part (placed_more q.segs placed s a)) (placed_more q.segs placed s a) b (each_more placed s a each)
          (omega (arith, falls, e)) (omega arith))

      by_room : (n : ℕ) → room_of q.segs q.part placed ≡ n → live_within n q placed best ≡ live_node (live_at q) q placed (first_open q.segs q.part placed) best
      by_room zero e = sym (ap (λ f. live_node (live_at q) q placed f best) (no_room q.segs q.part placed e))
      by_room (suc n) e = by_open n e (first_open q.segs q.part placed) refl

  pub complete_is : (placed : List (List LineId)) (best : Best) → length placed ≡ length q.segs → first_open q.segs q.part placed ≡ None
      → live_at q placed best ≡ closed_with q placed (better q placed best)
  complete_is placed best each e = node_is placed best each ∙ ap (λ f. live_node (live_at q) q placed f best) e

  pub split_is : (placed : List (List LineId)) (best : Best) (s : SegId) → length placed ≡ length q.segs → first_open q.segs q.part placed ≡ Some s
      → q.bound placed < best.cost → live_at q placed best ≡ split_with s (grow_cases (live_at q) q placed s (next_lines q placed s) best)
  split_is placed best s each e below =
      node_is placed best each ∙ ap (λ f. live_node (live_at q) q placed f best) e
      ∙ ap (λ b. cond b (split_with s (grow_cases (live_at q) q placed s (next_lines q placed s) best)) (closed_with q placed best))
      (lt-ltb (q.bound placed) best.cost below)

  pub closed_is : (placed : List (List LineId)) (best : Best) (s : SegId) → length placed ≡ length q.segs → first_open q.segs q.part placed ≡ Some s
      → best.cost ≤ q.bound placed → live_at q placed best ≡ closed_with q placed best
  closed_is placed best s each e above =
      node_is placed best each ∙ ap (λ f. live_node (live_at q) q placed f best) e ∙ by_test (nat_lt (q.bound placed) best.cost) refl
    where
      by_test : (b : Bool) → nat_lt (q.bound placed) best.cost ≡ b
          → cond b (split_with s (grow_cases (live_at q) q placed s (next_lines q placed s) best)) (closed_with q placed best) ≡ closed_with q placed best
      by_test true t = absurd (omega (arith, above, ltb-true (q.bound placed) best.cost t))
      by_test false t = refl
