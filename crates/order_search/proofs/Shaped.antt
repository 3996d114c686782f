-- The live tree of a part is one that a proof may have.
use Rattle.std.proofs.Common.{◌≡◌, ◌≢◌, ℕ, zero, suc, ◌+◌, ◌-◌, ◌<◌, ◌≤◌, nat_lt, max, Bool, true, false, cond, List, [], ◌∷◌, length, set, get_or, refl, sym, ◌∙◌, ap, subst, arith, inl, inr, Some, None, Option}
use Rattle.std.specs.List.{All, Contains, sum_by}
use Rattle.std.proofs.lemmas.Bool.{ltb-true}
use Rattle.std.proofs.lemmas.List.{get_or-set_same, get_or-set_other}
use Rattle.std.proofs.lemmas.List.Elements.{All-head, All-tail}
use Rattle.map_base.specs.declared.ids.SegId.{SegId}
use Rattle.map_base.specs.declared.ids.LineId.{LineId}
use Rattle.graph_core.specs.Consistent.{AreRising}
use Rattle.order_values.specs.PriceLists.{AreRisingPrices}
use Rattle.order_model.specs.Problems.{lines_on, choices}
use Rattle.order_model.specs.Prefixes.{is_placed, with_line}
use Rattle.order_proof.specs.Plain.{cases_of}
use Rattle.order_proof.specs.Trees.{depth_of, depth_of_cases, count_of, AreDistinct, AreNotZero, IsTree, AreTrees, IsProofTree}
use Rattle.order_model.specs.PartTerms.{is_in}
use Rattle.order_model.specs.Completions.{placed_more}
use Rattle.order_bound.proofs.Sound.{same_or_other, all_in}
use Rattle.part_bounds.specs.PartStates.{IsWell}
use Rattle.order_search.specs.Left.{is_open, first_open, room_of, AreNext}
use Rattle.order_search.specs.LiveTrees.{BoundedPart, Best, next_lines, GrownTree, grow_cases, split_with, closed_with, live_node, live_within, live_at}
use Rattle.order_search.specs.Finding.{places_of, most_places}
use Rattle.order_search.proofs.Rooms.{found_in, sum_least, sum_falls}
use Rattle.part_bounds.proofs.Restored.{longer}
use Rattle.order_search.proofs.OneLive.{lines_grown}
use Rattle.order_search.proofs.NextLines.{are_next, some_next, distinct_next}
use Rattle.order_search.proofs.Accepted.{well_more, seg_known, less_placed}

count_grown : (next : List (List LineId) → Best → GrownTree) (q : BoundedPart) (placed : List (List LineId)) (s : SegId) (lines : List LineId) (b : Best)
    → count_of (cases_of (grow_cases next q placed s lines b).cases) ≡ length lines
count_grown next q placed s [] b = refl
count_grown next q placed s (a ∷ lines) b = ap suc (count_grown next q placed s lines (next (placed_more q.segs placed s a) b).best)

pub greater_of : (a b m : ℕ) → a ≤ m → b ≤ m → max a b ≤ m
greater_of a b m h g = omega (arith, h, g)

-- the prices of prefixes may stand in a proof
abbrev pub ArePricesOfProofs : BoundedPart → Type 0
ArePricesOfProofs q = (placed : List (List LineId)) → IsWell q.segs placed → AreRisingPrices (q.prices placed) × AreNotZero (q.prices placed)

-- The choices that a prefix leaves.

abbrev choices_left : List (List LineId) → List (List LineId) → SegId → ℕ
choices_left segs placed s = length (lines_on segs s) - length (lines_on placed s) - 1

abbrev pub levels : List (List LineId) → List SegId → List (List LineId) → ℕ
levels segs part placed = sum_by (choices_left segs placed) part

pub levels_few : (segs : List (List LineId)) (part : List SegId) (placed : List (List LineId)) → levels segs part placed ≤ places_of segs part
levels_few segs part placed = sum_least (λ s. choices (lines_on segs s)) (choices_left segs placed) part (λ u. omega arith)

module _ (q : BoundedPart) (rising : All AreRising q.segs) (known : All (λ (s : SegId). s.0 < length q.segs) q.part) where
  -- a line placed on another segment takes no choice
  choice_kept : (placed : List (List LineId)) (s : SegId) (a : LineId) (u : SegId) → s.0 < length placed → choices_left q.segs (placed_more q.segs placed s a) u ≤ choices_left q.segs placed u
  choice_kept placed s a u s_known = elim (same_or_other u.0 s.0) [
    | inl e ↦ (let here : lines_on (placed_more q.segs placed s a) u ≡ with_line (lines_on q.segs s) (lines_on placed s) a =
        ap (λ n. get_or (set placed s.0 (with_line (lines_on q.segs s) (lines_on placed s) a)) n []) e ∙ get_or-set_same placed s.0 (with_line (lines_on q.segs s) (lines_on placed s) a) [] s_known in
        let was : lines_on placed u ≡ lines_on placed s = ap (λ n. get_or placed n []) e in
        omega (arith, ap length here, ap length was, longer (lines_on q.segs s) (lines_on placed s) a))
    | inr n ↦ (let other : lines_on (placed_more q.segs placed s a) u ≡ lines_on placed u = get_or-set_other placed s.0 u.0 (with_line (lines_on q.segs s) (lines_on placed s) a) [] n in
        omega (arith, ap length other))
  ]

  choice_taken : (placed : List (List LineId)) (s : SegId) (a : LineId) → s.0 < length placed → s.0 < length q.segs → IsWell q.segs placed → is_in q.part s ≡ true → is_open q.segs placed s ≡ true
      → choices_left q.segs (placed_more q.segs placed s a) s < choices_left q.segs placed s
  choice_taken placed s a s_known s_in ok in_part open_here =
      let here : lines_on (placed_more q.segs placed s a) s ≡ with_line (lines_on q.segs s) (lines_on placed s) a =
      get_or-set_same placed s.0 (with_line (lines_on q.segs s) (lines_on placed s) a) [] s_known in
      let more = ltb-true (length (lines_on placed s)) (length (lines_on q.segs s)) open_here in
      let alone : length (lines_on placed s) + 1 ≢ length (lines_on q.segs s) = (ok.lines s.0 s_in).none_alone in
      two_at_least (length (lines_on q.segs s)) (length (lines_on placed s)) (length (lines_on (placed_more q.segs placed s a) s)) more alone
      (omega (arith, ap length here, longer (lines_on q.segs s) (lines_on placed s) a))
    where
      two_at_least : (n p q : ℕ) → p < n → p + 1 ≢ n → p < q → n - q - 1 < n - p - 1
      two_at_least n p q h e g = elim (same_or_other (p + 1) n) [ inl is ↦ absurd (e is) | inr other ↦ omega (arith, h, g, e) ]

  pub levels_fall : (placed : List (List LineId)) (s : SegId) (a : LineId) → IsWell q.segs placed → is_in q.part s ≡ true → is_open q.segs placed s ≡ true
      → levels q.segs q.part (placed_more q.segs placed s a) < levels q.segs q.part placed
  levels_fall placed s a ok in_part open_here =
      let s_in : s.0 < length q.segs = all_in (λ (s : SegId). s.0 < length q.segs) q.part s known in_part in
      sum_falls (choices_left q.segs placed) (choices_left q.segs (placed_more q.segs placed s a)) q.part s (λ u. choice_kept placed s a u (omega (arith, ok.each, s_in))) in_part
      (choice_taken placed s a (omega (arith, ok.each, s_in)) s_in ok in_part open_here)

  abbrev DepthAt : ℕ → Type 0
  DepthAt n = (placed : List (List LineId)) (b : Best) → IsWell q.segs placed → depth_of (live_within n q placed b).tree ≤ levels q.segs q.part placed

  deep_cases : (n : ℕ) → DepthAt n → (placed : List (List LineId)) (b : Best) → IsWell q.segs placed → (s : SegId) → first_open q.segs q.part placed ≡ Some s
      → (lines : List LineId) → AreNext q.segs placed s lines → depth_of_cases (cases_of (grow_cases (live_within n q) q placed s lines b).cases) + 1 ≤ levels q.segs q.part placed
  deep_cases n again placed b ok s e [] next =
      let here = found_in (is_open q.segs placed) q.part s e in
      let d : LineId = record { 0 = 0 } in
      omega (arith, levels_fall placed s d ok here.1 here.0)
  deep_cases n again placed b ok s e (a ∷ lines) next =
      let P : LineId → Type 0 = λ (a : LineId). Contains (lines_on q.segs s) a × (is_placed (lines_on placed s) a ≡ false) in
      let here = found_in (is_open q.segs placed) q.part s e in
      let more : List (List LineId) = placed_more q.segs placed s a in
      let fits = All-head P a lines next in
      let first : GrownTree = live_within n q more b in
      let one = again more b (well_more q rising known placed s a ok (seg_known q rising known placed s e) fits.0 fits.1) in
      let rest = deep_cases n again placed first.best ok s e lines (All-tail P a lines next) in
      let most : ℕ = levels q.segs q.part placed - 1 in
      let fall = levels_fall placed s a ok here.1 here.0 in
      let both = greater_of (depth_of first.tree) (depth_of_cases (cases_of (grow_cases (live_within n q) q placed s lines first.best).cases)) most
      (omega (arith, one, fall)) (omega (arith, rest)) in
      omega (arith, both, fall)

  deep_node : (n : ℕ) → DepthAt n → (placed : List (List LineId)) (b : Best) → IsWell q.segs placed
      → (f : Option SegId) → first_open q.segs q.part placed ≡ f → depth_of (live_node (live_within n q) q placed f b).tree ≤ levels q.segs q.part placed
  deep_node n again placed b ok None e = omega arith
  deep_node n again placed b ok (Some s) e = by_test (nat_lt (q.bound placed) b.cost)
    where
      by_test : (t : Bool) → depth_of (cond t (split_with s (grow_cases (live_within n q) q placed s (next_lines q placed s) b)) (closed_with q placed b)).tree ≤ levels q.segs q.part placed
      by_test true = omega (arith, deep_cases n again placed b ok s e (next_lines q placed s) (are_next q placed s))
      by_test false = omega arith

  deep : (n : ℕ) → DepthAt n
  deep zero placed b ok = omega arith
  deep (suc n) placed b ok = deep_node n (deep n) placed b ok (first_open q.segs q.part placed) refl

  abbrev ShapedAt : ℕ → Type 0
  ShapedAt n = (placed : List (List LineId)) (b : Best) → IsWell q.segs placed → IsTree (live_within n q placed b).tree

  shaped_cases : (n : ℕ) → ShapedAt n → (placed : List (List LineId)) (b : Best) → IsWell q.segs placed → (s : SegId) → first_open q.segs q.part placed ≡ Some s
      → (lines : List LineId) → AreNext q.segs placed s lines → AreTrees (cases_of (grow_cases (live_within n q) q placed s lines b).cases)
  shaped_cases n again placed b ok s e [] next = tt
  shaped_cases n again placed b ok s e (a ∷ lines) next =
      let P : LineId → Type 0 = λ (a : LineId). Contains (lines_on q.segs s) a × (is_placed (lines_on placed s) a ≡ false) in
      let more : List (List LineId) = placed_more q.segs placed s a in
      let fits = All-head P a lines next in (
        again more b (well_more q rising known placed s a ok (seg_known q rising known placed s e) fits.0 fits.1),
        shaped_cases n again placed (live_within n q more b).best ok s e lines (All-tail P a lines next),
      )

  shaped_node : ArePricesOfProofs q → (n : ℕ) → ShapedAt n → (placed : List (List LineId)) (b : Best) → IsWell q.segs placed
      → (f : Option SegId) → first_open q.segs q.part placed ≡ f → IsTree (live_node (live_within n q) q placed f b).tree
  shaped_node priced n again placed b ok None e = priced placed ok
  shaped_node priced n again placed b ok (Some s) e = by_test (nat_lt (q.bound placed) b.cost)
    where
      by_test : (t : Bool) → IsTree (cond t (split_with s (grow_cases (live_within n q) q placed s (next_lines q placed s) b)) (closed_with q placed b)).tree
      by_test true = (
        omega (arith, some_next q placed s rising (less_placed q rising known placed s e), count_grown (live_within n q) q placed s (next_lines q placed s) b),
        subst AreDistinct (sym (lines_grown (live_within n q) q placed s (next_lines q placed s) b)) (distinct_next q placed s rising),
        shaped_cases n again placed b ok s e (next_lines q placed s) (are_next q placed s),
      )
      by_test false = priced placed ok

  shaped : ArePricesOfProofs q → (n : ℕ) → ShapedAt n
  shaped priced zero placed b ok = priced placed ok
  shaped priced (suc n) placed b ok = shaped_node priced n (shaped priced n) placed b ok (first_open q.segs q.part placed) refl

  pub is_proof_tree : ArePricesOfProofs q → places_of q.segs q.part ≤ most_places → (placed : List (List LineId)) (b : Best) → IsWell q.segs placed → IsProofTree (live_at q placed b).tree
  is_proof_tree priced few placed b ok = record {
    is_tree = shaped priced (room_of q.segs q.part placed) placed b ok;
    depth = omega (arith, deep (room_of q.segs q.part placed) placed b ok, levels_few q.segs q.part placed, few);
  }
