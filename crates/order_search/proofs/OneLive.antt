-- Each prefix has exactly one live tree: the one that is grown.
use Rattle.std.proofs.Common.{◌≡◌, ℕ, zero, suc, ◌<◌, ◌≤◌, nat_lt, Bool, true, false, List, [], ◌∷◌, length, refl, sym, ◌∙◌, ap, subst, arith, Some, None, Option}
use Rattle.std.proofs.Common.{ℤ}
use Rattle.std.specs.List.{All}
use Rattle.std.proofs.lemmas.Bool.{ltb-true, ltb-false}
use Rattle.map_base.specs.declared.ids.SegId.{SegId}
use Rattle.map_base.specs.declared.ids.LineId.{LineId}
use Rattle.order_proof.specs.Plain.{PlainTree, split, close, Cases, no_case, case_of, cases_of}
use Rattle.order_proof.specs.Trees.{lines_of}
use Rattle.order_model.specs.Completions.{placed_more}
use Rattle.order_search.specs.Left.{first_open, room_of}
use Rattle.order_search.specs.LiveTrees.{BoundedPart, Best, better, next_lines, GrownTree, GrownCases, grow_cases, split_with, closed_with, live_at}
use Rattle.order_search.specs.Living.{best_after_leaf, best_after, best_after_cases, IsSplitDue, IsCloseDue, IsLiveAt, AreLiveAt}
use Rattle.order_search.proofs.Rooms.{none_is_some}
use Rattle.order_search.proofs.Nodes.{each_more, fewer_left, complete_is, split_is, closed_is}

-- the lines of cases that are grown are those that they are grown for
pub lines_grown : (next : List (List LineId) → Best → GrownTree) (q : BoundedPart) (placed : List (List LineId)) (s : SegId) (lines : List LineId) (best : Best)
    → lines_of (cases_of (grow_cases next q placed s lines best).cases) ≡ lines
lines_grown next q placed s [] best = refl
lines_grown next q placed s (a ∷ lines) best = ap (λ l. a ∷ l) (lines_grown next q placed s lines (next (placed_more q.segs placed s a) best).best)

module _ (q : BoundedPart) (known : All (λ (s : SegId). s.0 < length q.segs) q.part) where
  abbrev grown : List (List LineId) → SegId → List LineId → Best → GrownCases
  grown placed s lines best = grow_cases (live_at q) q placed s lines best

  -- Two live trees are one.

  abbrev IsGrown : List (List LineId) → Best → PlainTree → Type 0
  IsGrown placed best tree = (tree ≡ (live_at q placed best).tree) × (best_after q placed tree best ≡ (live_at q placed best).best)

  abbrev AreGrown : List (List LineId) → SegId → Best → Cases → Type 0
  AreGrown placed s best cases =
      (cases ≡ cases_of (grown placed s (lines_of cases) best).cases) × (best_after_cases q placed s cases best ≡ (grown placed s (lines_of cases) best).best)

  leaf_grown : (placed : List (List LineId)) (best : Best) (prices : List (ℕ × ℤ)) → length placed ≡ length q.segs → IsCloseDue q placed best prices
      → IsGrown placed best (close prices)
  leaf_grown placed best prices each due = by_open (first_open q.segs q.part placed) refl
    where
      by_open : (f : Option SegId) → first_open q.segs q.part placed ≡ f → IsGrown placed best (close prices)
      by_open None e =
          let is = complete_is q known placed best each e in (
            ap close due.canonical ∙ ap (λ (g : GrownTree). g.tree) (sym is),
            ap (λ f. best_after_leaf q placed f best) e ∙ ap (λ (g : GrownTree). g.best) (sym is),
          )
      by_open (Some s) e =
          let is = closed_is q known placed best s each e (due.closed s e) in (
            ap close due.canonical ∙ ap (λ (g : GrownTree). g.tree) (sym is),
            ap (λ f. best_after_leaf q placed f best) e ∙ ap (λ (g : GrownTree). g.best) (sym is),
          )

  split_grown : (placed : List (List LineId)) (best : Best) (s : SegId) (cases : Cases) → length placed ≡ length q.segs → IsSplitDue q placed best s (lines_of cases)
      → AreGrown placed s best cases → IsGrown placed best (split s cases)
  split_grown placed best s cases each due are =
      let is = split_is q known placed best s each due.first due.below in (
        ap (split s) (are.0 ∙ ap (λ l. cases_of (grown placed s l best).cases) due.next) ∙ ap (λ (g : GrownTree). g.tree) (sym is),
        are.1 ∙ ap (λ l. (grown placed s l best).best) due.next ∙ ap (λ (g : GrownTree). g.best) (sym is),
      )

  case_grown : (placed : List (List LineId)) (s : SegId) (best : Best) (a : LineId) (tree : PlainTree) (rest : Cases) → IsGrown (placed_more q.segs placed s a) best tree
      → AreGrown placed s (best_after q (placed_more q.segs placed s a) tree best) rest → AreGrown placed s best (case_of a tree rest)
  case_grown placed s best a tree rest is are =
      let first : GrownTree = live_at q (placed_more q.segs placed s a) best in (
        ap (λ t. case_of a t rest) is.0 ∙ ap (case_of a first.tree) (are.0 ∙ ap (λ b. cases_of (grown placed s (lines_of rest) b).cases) is.1),
        are.1 ∙ ap (λ b. (grown placed s (lines_of rest) b).best) is.1,
      )

  mutual
    pub only : (tree : PlainTree) (placed : List (List LineId)) (best : Best) → length placed ≡ length q.segs → IsLiveAt q placed best tree → IsGrown placed best tree
    only (split s cases) placed best each live = split_grown placed best s cases each live.0 (only_cases cases placed best s each live.1)
    only (close prices) placed best each live = leaf_grown placed best prices each live

    only_cases : (cases : Cases) (placed : List (List LineId)) (best : Best) (s : SegId) → length placed ≡ length q.segs → AreLiveAt q placed best s cases → AreGrown placed s best cases
    only_cases no_case placed best s each live = (refl, refl)
    only_cases (case_of a tree rest) placed best s each live =
        case_grown placed s best a tree rest (only tree (placed_more q.segs placed s a) best (each_more q known placed s a each) live.0)
        (only_cases rest placed (best_after q (placed_more q.segs placed s a) tree best) s each live.1)

  -- The tree that is grown is live.

  abbrev LivesAs : List (List LineId) → Best → GrownTree → Type 0
  LivesAs placed best g = IsLiveAt q placed best g.tree × (best_after q placed g.tree best ≡ g.best)

  abbrev LiveAt : ℕ → Type 0
  LiveAt n = (placed : List (List LineId)) (best : Best) → length placed ≡ length q.segs → room_of q.segs q.part placed < n → LivesAs placed best (live_at q placed best)

  abbrev CasesLive : List (List LineId) → SegId → Best → GrownCases → Type 0
  CasesLive placed s best g = AreLiveAt q placed best s (cases_of g.cases) × (best_after_cases q placed s (cases_of g.cases) best ≡ g.best)

  live_cases : (placed : List (List LineId)) (s : SegId) (lines : List LineId) (best : Best)
      → ((a : LineId) (b : Best) → LivesAs (placed_more q.segs placed s a) b (live_at q (placed_more q.segs placed s a) b)) → CasesLive placed s best (grown placed s lines best)
  live_cases placed s [] best each = (tt, refl)
  live_cases placed s (a ∷ lines) best each =
      let more : List (List LineId) = placed_more q.segs placed s a in
      let first : GrownTree = live_at q more best in
      let here = each a best in
      let rest = live_cases placed s lines first.best each in
      let P : Best → Type 0 = λ b. AreLiveAt q placed b s (cases_of (grown placed s lines first.best).cases) in
      ((here.0, subst P (sym here.1) rest.0), ap (best_after_cases q placed s (cases_of (grown placed s lines first.best).cases)) here.1 ∙ rest.1)

  live_node_at : (n : ℕ) → LiveAt n → (placed : List (List LineId)) (best : Best) → length placed ≡ length q.segs → room_of q.segs q.part placed < suc n
      → (f : Option SegId) → first_open q.segs q.part placed ≡ f → LivesAs placed best (live_at q placed best)
  live_node_at n again placed best each room None e =
      let whole : LivesAs placed best (closed_with q placed (better q placed best)) =
      (record { closed = λ s h. absurd (none_is_some s (sym e ∙ h)); canonical = refl }, ap (λ f. best_after_leaf q placed f best) e) in
      subst (LivesAs placed best) (sym (complete_is q known placed best each e)) whole
  live_node_at n again placed best each room (Some s) e = by_test (nat_lt (q.bound placed) best.cost) refl
    where
      some_seg : (t : SegId) → Some s ≡ Some t → s ≡ t
      some_seg t h = cc

      by_test : (b : Bool) → nat_lt (q.bound placed) best.cost ≡ b → LivesAs placed best (live_at q placed best)
      by_test true t =
          let below : q.bound placed < best.cost = ltb-true (q.bound placed) best.cost t in
          let cases = live_cases placed s (next_lines q placed s) best (λ a b.
          again (placed_more q.segs placed s a) b (each_more q known placed s a each) (omega (arith, fewer_left q known placed s a each e, room))) in
          let due : IsSplitDue q placed best s (lines_of (cases_of (grown placed s (next_lines q placed s) best).cases)) =
          record { first = e; below = below; next = lines_grown (live_at q) q placed s (next_lines q placed s) best } in
          let whole : LivesAs placed best (split_with s (grown placed s (next_lines q placed s) best)) = ((due, cases.0), cases.1) in
          subst (LivesAs placed best) (sym (split_is q known placed best s each e below)) whole
      by_test false t =
          let above : best.cost ≤ q.bound placed = ltb-false (q.bound placed) best.cost t in
          let whole : LivesAs placed best (closed_with q placed best) =
          (record { closed = λ u h. above; canonical = refl }, ap (λ f. best_after_leaf q placed f best) e) in
          subst (LivesAs placed best) (sym (closed_is q known placed best s each e above)) whole

  live_below : (n : ℕ) → LiveAt n
  live_below zero placed best each room = absurd (omega (arith, room))
  live_below (suc n) placed best each room = live_node_at n (live_below n) placed best each room (first_open q.segs q.part placed) refl

  pub lives : (placed : List (List LineId)) (best : Best) → length placed ≡ length q.segs → LivesAs placed best (live_at q placed best)
  lives placed best each = live_below (suc (room_of q.segs q.part placed)) placed best each (omega arith)
