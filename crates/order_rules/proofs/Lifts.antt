-- Orders lifted rule by rule, the last rule first.
use Rattle.std.proofs.Common.{◌≡◌, ℕ, zero, suc, ◌+◌, ◌-◌, ◌<◌, List, [], ◌∷◌, length, get_or, drop, refl, sym, ap, ◌∙◌, arith}
use Rattle.map_base.specs.declared.ids.LineId.{LineId}
use Rattle.order_values.specs.declared.rule.Rule.{Rule}
use Rattle.order_rules.specs.Lifting.{lifted, lifted_all}

drop_at : (rules : List Rule) (k : ℕ) (r : Rule) → k < length rules → drop k rules ≡ get_or rules k r ∷ drop (suc k) rules
drop_at [] k r h = absurd (omega (arith, h))
drop_at (s ∷ rules) zero r h = refl
drop_at (s ∷ rules) (suc k) r h = drop_at rules k r (omega (arith, h))

-- one rule more is done
pub lifted_more : (rules : List Rule) (first before after : List (List LineId)) (done : ℕ) (r : Rule) → done < length rules
    → before ≡ lifted_all (drop (length rules - done) rules) first → r ≡ get_or rules (length rules - 1 - done) r → after ≡ lifted r before
    → after ≡ lifted_all (drop (length rules - (done + 1)) rules) first
lifted_more rules first before after done r within was is now =
    let at : length rules - (done + 1) ≡ length rules - 1 - done = omega arith in
    let next : suc (length rules - 1 - done) ≡ length rules - done = omega (arith, within) in
    let split : drop (length rules - 1 - done) rules ≡ r ∷ drop (length rules - done) rules =
    drop_at rules (length rules - 1 - done) r (omega (arith, within))
    ∙ (ap (λ (s : Rule). s ∷ drop (suc (length rules - 1 - done)) rules) (sym is) ∙ ap (λ (n : ℕ). r ∷ drop n rules) next) in
    now ∙ (ap (lifted r) was ∙ sym (ap (λ (n : ℕ). lifted_all (drop n rules) first) at ∙ ap (λ (s : List Rule). lifted_all s first) split))

pub lifted_none : (rules : List Rule) (first : List (List LineId)) → first ≡ lifted_all (drop (length rules - 0) rules) first
lifted_none rules first =
    let all : length rules - 0 ≡ length rules = omega arith in
    sym (ap (λ (n : ℕ). lifted_all (drop n rules) first) all ∙ ap (λ (s : List Rule). lifted_all s first) (none_left rules))
  where
    none_left : (xs : List Rule) → drop (length xs) xs ≡ []
    none_left [] = refl
    none_left (x ∷ xs) = none_left xs
