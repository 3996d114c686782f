-- Turns of the local search.
use Rattle.std.proofs.Common.{◌≡◌, ℕ, zero, suc, ◌+◌, ◌<◌, ◌≤◌, Bool, true, false, cond, List, length, take, refl, sym, ◌∙◌, ap, subst, arith, true≢false}
use Rattle.std.specs.Prelude.{nat_lt}
use Rattle.std.specs.List.{fold}
use Rattle.std.proofs.lemmas.Bool.Decides.{nat_tests}
use Rattle.std.proofs.lemmas.List.{take_all}
use Rattle.std.proofs.lemmas.List.Sums.{fold_more}
use Rattle.map_base.specs.declared.ids.LineId.{LineId}
use Rattle.order_model.specs.declared.problem.ProblemParts.{ProblemParts}
use Rattle.order_model.specs.Costs.{cost_of}
use Rattle.dual_ascent.specs.OwnNumbers.{all_segments}
use Rattle.dual_ascent.specs.LocalSearch.{improved_on, after_turn, after_turns, local_minimum}
use Rattle.dual_ascent.proofs.OwnParts.{seg_number}
use Rattle.dual_rounds.proofs.SegmentLists.{length_segments}
use Rattle.dual_orders.proofs.OwnTables.{segment_at}

module _ (p : ProblemParts) where
  -- one segment more in a turn
  pub turn_more : (start orders next : List (List LineId)) (i : ℕ) → i < length p.segs → orders ≡ fold (improved_on p) start (take i (all_segments p)) → next ≡ improved_on p orders (seg_number i)
      → next ≡ fold (improved_on p) start (take (i + 1) (all_segments p))
  turn_more start orders next i h is step =
      let within : i < length (all_segments p) = (let each = length_segments 0 p.segs in omega (arith, h, each)) in
      step
      ∙ (ap (λ o. improved_on p o (seg_number i)) is
      ∙ (ap (improved_on p (fold (improved_on p) start (take i (all_segments p)))) (sym (segment_at p.segs i (seg_number i) h))
      ∙ sym (fold_more (improved_on p) start (all_segments p) i (seg_number i) within)))

  pub turn_whole : (start : List (List LineId)) (i : ℕ) → length p.segs ≤ i → fold (improved_on p) start (take i (all_segments p)) ≡ after_turn p start
  turn_whole start i h = ap (fold (improved_on p) start) (take_all i (all_segments p) (let each = length_segments 0 p.segs in omega (arith, h, each)))

  -- more turns than the orders cost change nothing
  pub turns_enough : (n m : ℕ) (orders : List (List LineId)) → cost_of p.terms orders ≤ n → cost_of p.terms orders ≤ m → after_turns p n orders ≡ after_turns p m orders
  turns_enough zero zero orders h k = refl
  turns_enough zero (suc m) orders h k = sym (none (suc m) orders h)
    where
      none : (m : ℕ) (orders : List (List LineId)) → cost_of p.terms orders ≤ 0 → after_turns p m orders ≡ orders
      none zero orders h = refl
      none (suc m) orders h = ap (λ b. cond b (after_turns p m (after_turn p orders)) orders) (not_below (cost_of p.terms (after_turn p orders)) (cost_of p.terms orders) h)
        where
          not_below : (a b : ℕ) → b ≤ 0 → nat_lt a b ≡ false
          not_below a b h = grind (arith, nat_tests)
  turns_enough (suc n) zero orders h k = ap (λ b. cond b (after_turns p n (after_turn p orders)) orders) (not_below (cost_of p.terms (after_turn p orders)) (cost_of p.terms orders) k)
    where
      not_below : (a b : ℕ) → b ≤ 0 → nat_lt a b ≡ false
      not_below a b h = grind (arith, nat_tests)
  turns_enough (suc n) (suc m) orders h k = by_test
      (nat_lt (cost_of p.terms (after_turn p orders)) (cost_of p.terms orders)) refl
      (λ one two. turns_enough n m (after_turn p orders) one two)
    where
      below : (a b n : ℕ) → nat_lt a b ≡ true → b ≤ suc n → a ≤ n
      below a b n e h = grind (arith, nat_tests)

      by_test : (b : Bool) → nat_lt (cost_of p.terms (after_turn p orders)) (cost_of p.terms orders) ≡ b
          → (cost_of p.terms (after_turn p orders) ≤ n → cost_of p.terms (after_turn p orders) ≤ m
          → after_turns p n (after_turn p orders) ≡ after_turns p m (after_turn p orders))
          → cond b (after_turns p n (after_turn p orders)) orders ≡ cond b (after_turns p m (after_turn p orders)) orders
      by_test false e rest = refl
      by_test true e rest = rest (below (cost_of p.terms (after_turn p orders)) (cost_of p.terms orders) n e h)
          (below (cost_of p.terms (after_turn p orders)) (cost_of p.terms orders) m e k)

  -- a turn that changed something
  pub minimum_goes_on : (orders next : List (List LineId)) → next ≡ after_turn p orders → cost_of p.terms next < cost_of p.terms orders → local_minimum p next ≡ local_minimum p orders
  minimum_goes_on orders next is less = by_cost (cost_of p.terms orders) refl
    where
      is_less : (m n : ℕ) → m < n → nat_lt m n ≡ true
      is_less m n h = grind (arith, nat_tests)

      by_cost : (n : ℕ) → cost_of p.terms orders ≡ n → after_turns p (cost_of p.terms next) next ≡ after_turns p n orders
      by_cost zero e = absurd (omega (arith, less, e))
      by_cost (suc n) e =
          turns_enough (cost_of p.terms next) n next (omega arith) (omega (arith, less, e))
          ∙ (ap (after_turns p n) is
          ∙ sym (ap (λ b. cond b (after_turns p n (after_turn p orders)) orders) (is_less (cost_of p.terms (after_turn p orders)) (cost_of p.terms orders) (subst (λ o. cost_of p.terms o < cost_of p.terms orders) is less))))

  -- a turn that changed nothing
  pub minimum_ends : (orders next : List (List LineId)) → next ≡ after_turn p orders → next ≡ orders → next ≡ local_minimum p orders
  minimum_ends orders next is same = by_cost (cost_of p.terms orders)
    where
      not_less : (m n : ℕ) → m ≡ n → nat_lt m n ≡ false
      not_less m n h = grind (arith, nat_tests)

      by_cost : (n : ℕ) → next ≡ after_turns p n orders
      by_cost zero = same
      by_cost (suc n) = same ∙ sym (ap (λ b. cond b (after_turns p n (after_turn p orders)) orders) (not_less (cost_of p.terms (after_turn p orders)) (cost_of p.terms orders) (ap (cost_of p.terms) (sym is ∙ same))))

-- orders of a turn cost less where any segment has changed them
pub turn_costs : (p : ProblemParts) (start orders next : List (List LineId)) (changed so after : Bool)
    → (changed ≡ true → cost_of p.terms orders < cost_of p.terms start) → (changed ≡ false → orders ≡ start)
    → (so ≡ true → cost_of p.terms next < cost_of p.terms orders) → (so ≡ false → next ≡ orders)
    → after ≡ cond so true changed
    → (after ≡ true → cost_of p.terms next < cost_of p.terms start) × (after ≡ false → next ≡ start)
turn_costs p start orders next true true after less same cheaper still is = (
  λ e. (let one = less refl in let two = cheaper refl in omega (arith, one, two)),
  λ e. absurd (true≢false (sym is ∙ e)),
)
turn_costs p start orders next false true after less same cheaper still is = (
  λ e. subst (λ (o : List (List LineId)). cost_of p.terms next < cost_of p.terms o) (same refl) (cheaper refl),
  λ e. absurd (true≢false (sym is ∙ e)),
)
turn_costs p start orders next true false after less same cheaper still is = (
  λ e. subst (λ (o : List (List LineId)). cost_of p.terms o < cost_of p.terms start) (sym (still refl)) (less refl),
  λ e. absurd (true≢false (sym is ∙ e)),
)
turn_costs p start orders next false false after less same cheaper still is =
    (λ e. absurd (true≢false (sym e ∙ is)), λ e. still refl ∙ same refl)
