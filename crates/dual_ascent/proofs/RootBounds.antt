-- The lower bound of the root is never negative: the rounds begin without prices.
use Rattle.std.proofs.Common.{◌≡◌, ℕ, zero, suc, ◌+◌, ◌*◌, ◌≤◌, ◌==◌, ◌||◌, Bool, true, false, cond, List, [], ◌∷◌, map, get_or, refl, sym, subst, arith, ◌⊎◌, inl, inr}
use Rattle.std.specs.Prelude.{ℤ, pos, ◌-ℤ◌, ◌≤ℤ◌, nat_lt, int_lt}
use Rattle.std.proofs.lemmas.Bool.Decides.{nat_tests}
use Rattle.std.proofs.lemmas.Int.{ints}
use Rattle.map_base.specs.declared.ids.SegId.{SegId}
use Rattle.map_base.specs.declared.ids.LineId.{LineId}
use Rattle.order_model.specs.declared.term.Term.{Term}
use Rattle.order_model.specs.declared.term.Term.TheVariants.{Side, Link, Apart}
use Rattle.order_model.specs.declared.problem.ProblemParts.{ProblemParts}
use Rattle.order_model.specs.Problems.{lines_on}
use Rattle.order_model.specs.Costs.{comes_before, are_neighbours}
use Rattle.whole_sums.specs.Sums.{int_sum}
use Rattle.dual_bound.specs.declared.settled.SettledPair.{SettledPair}
use Rattle.dual_bound.specs.Shares.{thousand, where_so, x_of, z_of, term_share}
use Rattle.dual_bound.specs.Accepting.{load_of}
use Rattle.dual_ascent.specs.OwnNumbers.{all_segments, all_terms, zeros, number_of}
use Rattle.dual_ascent.specs.LocalSearch.{Incumbent}
use Rattle.dual_ascent.specs.DualSteps.{answers, share_under, value_with}
use Rattle.dual_ascent.specs.Rounds.{Search, Ascent, going, spent, onward, with_value, answered, one_round, rounds, first_ascent, ascended}
use Rattle.dual_ascent.proofs.Stages.{StageHas, closed_has, answers_have, Keeps, with_averages, rounds_have}

no_price : (terms : List Term) (k : ℕ) → get_or (map (λ (t : Term). pos 0) terms) k (pos 0) ≡ pos 0
no_price [] k = refl
no_price (t ∷ terms) zero = refl
no_price (t ∷ terms) (suc k) = no_price terms k

sum_from_none : {A : Type 0} (f : A → ℤ) → ((x : A) → pos 0 ≤ℤ f x) → (xs : List A) → pos 0 ≤ℤ int_sum f xs
sum_from_none f h [] = omega (arith, ints)
sum_from_none f h (x ∷ xs) = let here = h x in let rest = sum_from_none f h xs in omega (arith, ints, here, rest)

free_share : (s : SegId) (order : List LineId) (t : Term) → pos 0 ≤ℤ term_share (pos 0) s order t
free_share s order (Side seg first second w) = by_tests (seg.0 == s.0) (comes_before order second first)
  where
    by_tests : (a b : Bool) → pos 0 ≤ℤ (cond a (where_so b (pos (thousand * w))) (pos 0))
    by_tests true true = omega (arith, ints)
    by_tests true false = omega (arith, ints)
    by_tests false b = omega (arith, ints)
free_share s order (Link seg other flip a b w) = by_tests (other.0 == s.0) (seg.0 == s.0) (z_of order flip a b) (x_of order a b)
  where
    by_tests : (c d z x : Bool) → pos 0 ≤ℤ (cond c (where_so z (pos 0)) (pos 0) -ℤ cond d (where_so x (pos 0)) (pos 0))
    by_tests true true true true = omega (arith, ints)
    by_tests true true true false = omega (arith, ints)
    by_tests true true false true = omega (arith, ints)
    by_tests true true false false = omega (arith, ints)
    by_tests true false true x = omega (arith, ints)
    by_tests true false false x = omega (arith, ints)
    by_tests false true z true = omega (arith, ints)
    by_tests false true z false = omega (arith, ints)
    by_tests false false z x = omega (arith, ints)
free_share s order (Apart seg other a b w) = by_tests (other.0 == s.0) (seg.0 == s.0) (are_neighbours order a b)
  where
    by_tests : (c d x : Bool) → pos 0 ≤ℤ (cond c (where_so x (pos 0)) (pos 0) -ℤ cond d (where_so x (pos 0)) (pos 0))
    by_tests true true true = omega (arith, ints)
    by_tests true true false = omega (arith, ints)
    by_tests true false true = omega (arith, ints)
    by_tests true false false = omega (arith, ints)
    by_tests false true true = omega (arith, ints)
    by_tests false true false = omega (arith, ints)
    by_tests false false x = omega (arith, ints)

-- without prices no value is negative
pub free_value : (p : ProblemParts) (orders : List (List LineId)) → pos 0 ≤ℤ value_with p (zeros p) orders
free_value p orders =
    sum_from_none (λ (s : SegId). share_under p (zeros p) s (lines_on orders s))
    (λ s. sum_from_none (λ (t : ℕ × Term). term_share (number_of (zeros p) t.0) s (lines_on orders s) t.1)
    (λ t. subst (λ v. pos 0 ≤ℤ term_share v s (lines_on orders s) t.1) (sym (no_price p.terms t.0)) (free_share s (lines_on orders s) t.1)) (all_terms p)) (all_segments p)

module _ (p : ProblemParts) (settled : List SettledPair) (budget : ℕ) where
  abbrev search : Search
  search = record { problem = p; budget = budget }

  -- before a round: the first begins without prices
  abbrev IsReady : Ascent → Type 0
  IsReady a = (pos 0 ≤ℤ a.bound.value) × (((a.round ≡ 0) × (a.prices ≡ zeros p)) ⊎ (1 ≤ a.round))

  abbrev IsGood : Ascent → Type 0
  IsGood a = (pos 0 ≤ℤ a.bound.value) × (1 ≤ a.round)

  abbrev pub IsFree : Ascent → Type 0
  IsFree a = pos 0 ≤ℤ a.bound.value

  keeps_good : (orders : List (List LineId)) → Keeps search settled IsGood orders
  keeps_good orders = record {
    directions = λ a h. h;
    offer = λ a h. h;
    averaged = λ a h. h;
    step = λ a h. h;
    prices = λ value a h. h;
  }

  looked_good : (a : Ascent) (orders : List (List LineId)) (value : ℤ) → pos 0 ≤ℤ a.bound.value → 1 ≤ a.round → ((a.round ≡ 1) → pos 0 ≤ℤ value) → IsGood (with_value value (with_averages search orders a))
  looked_good a orders value old some new = by_tests (a.round == 1) refl (int_lt a.bound.value value) refl
    where
      one : (n : ℕ) → (n == 1) ≡ true → n ≡ 1
      one n e = grind (arith, nat_tests)

      above : (x y : ℤ) → int_lt x y ≡ true → pos 0 ≤ℤ x → pos 0 ≤ℤ y
      above x y e h = grind (arith, ints)

      by_tests : (t : Bool) → (a.round == 1) ≡ t → (u : Bool) → int_lt a.bound.value value ≡ u
          → IsGood (cond (t || u) (record (with_averages search orders a) { bound = record { value = value; prices = a.prices }; stale = 0 }) (record (with_averages search orders a) { stale = a.stale + 1 }))
      by_tests true e u f = (new (one a.round e), some)
      by_tests false e true f = (above a.bound.value value f old, some)
      by_tests false e false f = (old, some)

  round_good : (a : Ascent) → IsReady a → StageHas IsGood IsFree (one_round search settled a)
  round_good a h = by_test (nat_lt budget (a.branches + load_of p.segs (all_segments p)))
    where
      first : ((a.round ≡ 0) × (a.prices ≡ zeros p)) ⊎ (1 ≤ a.round) → (a.round + 1 ≡ 1) → pos 0 ≤ℤ value_with p a.prices (answers p settled a.prices)
      first (inl start) e = subst (λ prices. pos 0 ≤ℤ value_with p prices (answers p settled a.prices)) (sym start.1) (free_value p (answers p settled a.prices))
      first (inr some) e = absurd (omega (arith, some, e))

      by_test : (t : Bool) → StageHas IsGood IsFree
          (onward (cond t (spent a) (going (record a { round = a.round + 1; branches = a.branches + load_of p.segs (all_segments p) }))) (answered search settled))
      by_test true = h.0
      by_test false =
          answers_have search settled IsGood IsFree (answers p settled a.prices) (value_with p a.prices (answers p settled a.prices)) (keeps_good (answers p settled a.prices))
          (record a { round = a.round + 1; branches = a.branches + load_of p.segs (all_segments p) })
          (looked_good (record a { round = a.round + 1; branches = a.branches + load_of p.segs (all_segments p) }) (answers p settled a.prices) (value_with p a.prices (answers p settled a.prices)) h.0 (omega (arith)) (first h.1))

  pub ascent_free : (most : ℕ) (best : Incumbent) (branches : ℕ) → StageHas IsGood IsFree (ascended search settled (suc most) (zeros p) best branches)
  ascent_free most best branches =
      closed_has search settled IsGood IsFree (λ a h. h) (rounds search settled (suc most) (first_ascent search (zeros p) best branches))
      (rounds_have search settled IsReady IsGood IsFree round_good (λ a h. (h.0, inr h.1)) most (first_ascent search (zeros p) best branches) (omega (arith, ints), inl (refl, refl)))
