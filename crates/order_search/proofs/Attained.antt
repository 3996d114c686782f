-- What is found is the cost of orders.
use Rattle.std.proofs.Common.{◌≡◌, ℕ, zero, suc, ◌<◌, ◌≤◌, ◌==◌, ◌||◌, nat_lt, Bool, true, false, cond, List, [], ◌∷◌, length, map, set, get_or, refl, sym, ◌∙◌, ap, subst, arith, inl, inr, true≢false, eqb-true, Some, None, Option}
use Rattle.std.specs.Prelude.{IsPermutation}
use Rattle.std.specs.List.{All, Contains}
use Rattle.std.proofs.lemmas.Bool.{eqb-false, ltb-false}
use Rattle.std.proofs.lemmas.List.{length-set, length-map, get_or-set_same, get_or-set_other}
use Rattle.std.proofs.lemmas.List.Elements.{All-head, All-tail}
use Rattle.std.proofs.lemmas.List.Sorted.{IsPermutation-refl}
use Rattle.map_base.specs.declared.ids.SegId.{SegId}
use Rattle.map_base.specs.declared.ids.LineId.{LineId}
use Rattle.graph_core.specs.Consistent.{AreRising}
use Rattle.order_model.specs.Problems.{lines_on}
use Rattle.order_model.specs.Costs.{AreOrders}
use Rattle.order_model.specs.Prefixes.{is_placed}
use Rattle.order_model.specs.PartTerms.{is_in}
use Rattle.order_model.specs.Completions.{placed_more}
use Rattle.order_model.proofs.Lines.{either_true}
use Rattle.order_bound.proofs.Sound.{same_or_other, all_in}
use Rattle.part_bounds.specs.PartStates.{IsWell}
use Rattle.order_search.specs.Left.{is_open, first_open, room_of, AreNext}
use Rattle.order_search.specs.LiveTrees.{BoundedPart, Best, best_at, better, number_order, next_lines, grow_cases, split_with, closed_with, live_node, live_within, live_at}
use Rattle.order_search.specs.Finding.{with_lists, AreAttained}
use Rattle.order_search.proofs.Rooms.{none_in, no_room_shut}
use Rattle.order_search.proofs.Nodes.{fewer_left}
use Rattle.order_search.proofs.NextLines.{are_next}
use Rattle.order_search.proofs.Accepted.{well_more, seg_known}
use Rattle.order_model.proofs.PrefixLemmas.{few_apart}
use Rattle.order_search.proofs.Permuted.{apart_order}

-- Lists put at the segments of a part.

abbrev put : List SegId → List (List LineId) → List (List LineId) → List (List LineId)
put part xs segs = with_lists part (map (λ s. lines_on xs s) part) segs

put_length : (part : List SegId) (xs segs : List (List LineId)) → length (put part xs segs) ≡ length segs
put_length [] xs segs = refl
put_length (s ∷ part) xs segs = length-set (put part xs segs) s.0 (lines_on xs s) ∙ put_length part xs segs

put_in : (part : List SegId) (xs segs : List (List LineId)) (u : SegId) → All (λ (s : SegId). s.0 < length segs) part → is_in part u ≡ true
    → lines_on (put part xs segs) u ≡ lines_on xs u
put_in [] xs segs u known h = absurd (true≢false (sym h))
put_in (s ∷ part) xs segs u known h = elim (same_or_other u.0 s.0) [
  | inl e ↦ ap (λ n. get_or (set (put part xs segs) s.0 (lines_on xs s)) n []) e
      ∙ get_or-set_same (put part xs segs) s.0 (lines_on xs s) [] (omega (arith, All-head (λ (s : SegId). s.0 < length segs) s part known, put_length part xs segs))
      ∙ ap (λ n. get_or xs n []) (sym e)
  | inr n ↦ get_or-set_other (put part xs segs) s.0 u.0 (lines_on xs s) [] n
      ∙ put_in part xs segs u (All-tail (λ (s : SegId). s.0 < length segs) s part known) (elim (either_true (s.0 == u.0) (is_in part u) h) [
        | inl here ↦ absurd (n (sym (eqb-true s.0 u.0 here)))
        | inr later ↦ later
      ])
]

put_out : (part : List SegId) (xs segs : List (List LineId)) (u : SegId) → is_in part u ≡ false → lines_on (put part xs segs) u ≡ lines_on segs u
put_out [] xs segs u h = refl
put_out (s ∷ part) xs segs u h = by_first (s.0 == u.0) refl h (put_out part xs segs u)
  where
    by_first : (b : Bool) → (s.0 == u.0) ≡ b → (b || is_in part u) ≡ false
        → (is_in part u ≡ false → lines_on (put part xs segs) u ≡ lines_on segs u) → get_or (set (put part xs segs) s.0 (lines_on xs s)) u.0 [] ≡ lines_on segs u
    by_first true e g rest = absurd (true≢false g)
    by_first false e g rest = get_or-set_other (put part xs segs) s.0 u.0 (lines_on xs s) [] (λ same. eqb-false s.0 u.0 e (sym same)) ∙ rest g

put_at : (part : List SegId) (xs segs : List (List LineId)) → All (λ (s : SegId). s.0 < length segs) part
    → ((s : SegId) → is_in part s ≡ true → IsPermutation (lines_on segs s) (lines_on xs s)) → (n : ℕ) → IsPermutation (get_or segs n []) (get_or (put part xs segs) n [])
put_at part xs segs known perms n = by_test (is_in part (record { 0 = n })) refl
  where
    by_test : (b : Bool) → is_in part (record { 0 = n }) ≡ b → IsPermutation (get_or segs n []) (get_or (put part xs segs) n [])
    by_test true e = rw (put_in part xs segs (record { 0 = n }) known e) (perms (record { 0 = n }) e)
    by_test false e = rw (put_out part xs segs (record { 0 = n }) e) (IsPermutation-refl (get_or segs n []))

orders_where : (segs orders : List (List LineId)) → length orders ≡ length segs → ((n : ℕ) → IsPermutation (get_or segs n []) (get_or orders n [])) → AreOrders segs orders
orders_where [] [] e each = tt
orders_where (l ∷ segs) (o ∷ orders) e each = (each 0, orders_where segs orders (omega (arith, e)) (λ n. each (suc n)))
orders_where [] (o ∷ orders) e each = absurd (omega (arith, e))
orders_where (l ∷ segs) [] e each = absurd (omega (arith, e))

-- The best is that of orders.

-- what orders cost on the part is told by their lists there
abbrev pub IsCostOnPart : BoundedPart → Type 0
IsCostOnPart q = (xs ys : List (List LineId)) → ((s : SegId) → is_in q.part s ≡ true → lines_on xs s ≡ lines_on ys s) → q.cost xs ≡ q.cost ys

module _ (q : BoundedPart) (rising : All AreRising q.segs) (known : All (λ (s : SegId). s.0 < length q.segs) q.part) (told : IsCostOnPart q) where
  abbrev pub ArePermuted : List (List LineId) → Type 0
  ArePermuted xs = (s : SegId) → is_in q.part s ≡ true → IsPermutation (lines_on q.segs s) (lines_on xs s)

  abbrev pub IsOfOrders : Best → Type 0
  IsOfOrders b = (xs : List (List LineId)) × ArePermuted xs × (b ≡ best_at q xs)

  pub of_orders : (b : Best) → IsOfOrders b → AreAttained q b.lists b.cost
  of_orders b h =
      let P : Best → Type 0 = λ c. AreAttained q c.lists c.cost in
      let whole : P (best_at q h.0) = record {
        each = length-map q.part (λ s. lines_on h.0 s);
        orders = orders_where q.segs (put q.part h.0 q.segs) (put_length q.part h.0 q.segs) (put_at q.part h.0 q.segs known h.1);
        costs = told (put q.part h.0 q.segs) h.0 (λ s g. put_in q.part h.0 q.segs s known g);
      } in subst P (sym h.2) whole

  pub permuted : (placed : List (List LineId)) → IsWell q.segs placed → first_open q.segs q.part placed ≡ None → ArePermuted placed
  permuted placed ok shut s h =
      let s_known : s.0 < length q.segs = all_in (λ (s : SegId). s.0 < length q.segs) q.part s known h in
      let lines = ok.lines s.0 s_known in
      let few = few_apart (lines_on placed s) (lines_on q.segs s) lines.apart lines.known in
      let open_not = ltb-false (length (lines_on placed s)) (length (lines_on q.segs s)) (none_in (is_open q.segs placed) q.part s shut h) in
      apart_order (lines_on placed s) (lines_on q.segs s) lines.apart lines.known (omega (arith, few, open_not))

  at_leaf : (placed : List (List LineId)) (b : Best) → IsWell q.segs placed → first_open q.segs q.part placed ≡ None → IsOfOrders b → IsOfOrders (better q placed b)
  at_leaf placed b ok shut h = by_test (nat_lt (q.cost placed) b.cost)
    where
      by_test : (t : Bool) → IsOfOrders (cond t (best_at q placed) b)
      by_test true = (placed, permuted placed ok shut, refl)
      by_test false = h

  abbrev FoundAt : ℕ → Type 0
  FoundAt n = (placed : List (List LineId)) (b : Best) → IsWell q.segs placed → room_of q.segs q.part placed ≤ n → IsOfOrders b → IsOfOrders (live_within n q placed b).best

  found_cases : (n : ℕ) → FoundAt n → (placed : List (List LineId)) (b : Best) → IsWell q.segs placed → room_of q.segs q.part placed ≤ suc n
      → (s : SegId) → first_open q.segs q.part placed ≡ Some s → (lines : List LineId) → AreNext q.segs placed s lines
      → IsOfOrders b → IsOfOrders (grow_cases (live_within n q) q placed s lines b).best
  found_cases n again placed b ok room s e [] next h = h
  found_cases n again placed b ok room s e (a ∷ lines) next h =
      let P : LineId → Type 0 = λ (a : LineId). Contains (lines_on q.segs s) a × (is_placed (lines_on placed s) a ≡ false) in
      let more : List (List LineId) = placed_more q.segs placed s a in
      let here = All-head P a lines next in
      let falls = fewer_left q known placed s a ok.each e in
      found_cases n again placed (live_within n q more b).best ok room s e lines (All-tail P a lines next)
      (again more b (well_more q rising known placed s a ok (seg_known q rising known placed s e) here.0 here.1) (omega (arith, falls, room)) h)

  found_node : (n : ℕ) → FoundAt n → (placed : List (List LineId)) (b : Best) → IsWell q.segs placed → room_of q.segs q.part placed ≤ suc n
      → (f : Option SegId) → first_open q.segs q.part placed ≡ f → IsOfOrders b → IsOfOrders (live_node (live_within n q) q placed f b).best
  found_node n again placed b ok room None e h = at_leaf placed b ok e h
  found_node n again placed b ok room (Some s) e h = by_test (nat_lt (q.bound placed) b.cost)
    where
      by_test : (t : Bool) → IsOfOrders (cond t (split_with s (grow_cases (live_within n q) q placed s (next_lines q placed s) b)) (closed_with q placed b)).best
      by_test true = found_cases n again placed b ok room s e (next_lines q placed s) (are_next q placed s) h
      by_test false = h

  found_at : (n : ℕ) → FoundAt n
  found_at zero placed b ok room h = at_leaf placed b ok (no_room_shut q.segs q.part placed room) h
  found_at (suc n) placed b ok room h = found_node n (found_at n) placed b ok room (first_open q.segs q.part placed) refl h

  -- from the number order on
  pub live_attained : (placed : List (List LineId)) → IsWell q.segs placed
      → AreAttained q (live_at q placed (number_order q)).best.lists (live_at q placed (number_order q)).best.cost
  live_attained placed ok =
      of_orders (live_at q placed (number_order q)).best
      (found_at (room_of q.segs q.part placed) placed (number_order q) ok (omega arith) (q.segs, λ s h. IsPermutation-refl (lines_on q.segs s), refl))
