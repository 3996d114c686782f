-- The value of prices, summed from the last segment of a part to the first.
use Rattle.std.proofs.Common.{◌≡◌, ℕ, ℤ, zero, suc, ◌+◌, ◌-◌, ◌*◌, ◌<◌, ◌≤◌, List, [], ◌∷◌, length, drop, get_or, refl, sym, ◌∙◌, ap, arith, Option, Some, None}
use Rattle.std.specs.Prelude.{pos, ◌+ℤ◌, ◌-ℤ◌, ◌≤ℤ◌}
use Rattle.std.proofs.lemmas.Int.{ints}
use Rattle.std.proofs.lemmas.List.{drop_all}
use Rattle.map_base.specs.declared.ids.SegId.{SegId}
use Rattle.map_base.specs.declared.ids.LineId.{LineId}
use Rattle.order_model.specs.declared.term.Term.{Term}
use Rattle.dual_bound.specs.declared.settled.SettledPair.{SettledPair}
use Rattle.dual_bound.specs.Values.{least_share, plus, value_of}

module _ (segs : List (List LineId)) (terms : List (ℕ × Term)) (price : ℕ → ℤ) (settled : List SettledPair) where
  pub value_at_end : (part : List SegId) (k : ℕ) → length part ≤ k → Some (pos 0) ≡ value_of segs terms price settled (drop k part)
  value_at_end part k over = sym (ap (value_of segs terms price settled) (drop_all k part over))

  step : (part : List SegId) (k : ℕ) (d : SegId) → k < length part
      → value_of segs terms price settled (drop k part) ≡ plus (least_share segs terms price settled (get_or part k d)) (value_of segs terms price settled (drop (k + 1) part))
  step [] k d below = absurd (omega (arith, below))
  step (s ∷ part) zero d below = refl
  step (s ∷ part) (suc k) d below =
      let next : suc (k + 1) ≡ suc k + 1 = omega arith in
      step part k d (omega (arith, below)) ∙ ap (λ j. plus (least_share segs terms price settled (get_or part k d)) (value_of segs terms price settled (drop j (s ∷ part)))) next

  -- with one segment more before those that are summed
  pub value_more : (part : List SegId) (k : ℕ) (d : SegId) (share total : ℤ) → k < length part → Some share ≡ least_share segs terms price settled (get_or part k d)
      → Some total ≡ value_of segs terms price settled (drop (k + 1) part) → Some (total +ℤ share) ≡ value_of segs terms price settled (drop k part)
  value_more part k d share total below is rest =
      sym (step part k d below ∙ (ap (λ v. plus v (value_of segs terms price settled (drop (k + 1) part))) (sym is) ∙ (ap (λ w. plus (Some share) w) (sym rest) ∙ ap Some (turned share total))))
    where
      turned : (a b : ℤ) → a +ℤ b ≡ b +ℤ a
      turned a b = omega (arith, ints)

  no_sum : (v : Option ℤ) → plus v None ≡ None
  no_sum None = refl
  no_sum (Some v) = refl

  none_before : (part : List SegId) (k : ℕ) → value_of segs terms price settled (drop k part) ≡ None → value_of segs terms price settled part ≡ None
  none_before part zero h = h
  none_before [] (suc k) h = h
  none_before (s ∷ part) (suc k) h = ap (λ w. plus (least_share segs terms price settled s) w) (none_before part k h) ∙ no_sum (least_share segs terms price settled s)

  -- where one segment has no order, there is no value
  pub value_none : (part : List SegId) (k : ℕ) (d : SegId) → k < length part → None ≡ least_share segs terms price settled (get_or part k d) → None ≡ value_of segs terms price settled part
  value_none part k d below is = sym (none_before part k (step part k d below ∙ ap (λ v. plus v (value_of segs terms price settled (drop (k + 1) part))) (sym is)))

  -- as the code counts down
  pub value_next : (part : List SegId) (k p : ℕ) (d : SegId) (share total : ℤ) → k ≡ p + 1 → p < length part → Some share ≡ least_share segs terms price settled (get_or part p d)
      → Some total ≡ value_of segs terms price settled (drop k part) → Some (total +ℤ share) ≡ value_of segs terms price settled (drop p part)
  value_next part k p d share total next below is rest = value_more part p d share total below is (rest ∙ ap (λ j. value_of segs terms price settled (drop j part)) next)

-- How great a sum of shares is.

pub sum_low : (n k p : ℕ) (total sum : ℤ) → k ≡ p + 1 → k ≤ n → (total -ℤ pos 9223372036854775808) ≤ℤ sum → (pos 0 -ℤ pos (9223372036854775808 * (n - k))) ≤ℤ total
    → (pos 0 -ℤ pos (9223372036854775808 * (n - p))) ≤ℤ sum
sum_low n k p total sum next within step low =
    let more : 9223372036854775808 * (n - p) ≡ 9223372036854775808 * (n - k) + 9223372036854775808 = omega (arith, next, within) in
    omega (arith, ints, step, low, more)

pub sum_high : (n k p : ℕ) (total sum : ℤ) → k ≡ p + 1 → k ≤ n → sum ≤ℤ (total +ℤ pos 9223372036854775808) → total ≤ℤ pos (9223372036854775808 * (n - k))
    → sum ≤ℤ pos (9223372036854775808 * (n - p))
sum_high n k p total sum next within step high =
    let more : 9223372036854775808 * (n - p) ≡ 9223372036854775808 * (n - k) + 9223372036854775808 = omega (arith, next, within) in
    omega (arith, ints, step, high, more)
