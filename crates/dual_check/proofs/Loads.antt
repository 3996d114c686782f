-- Counts of steps and stops that end at a most.
use Rattle.std.proofs.Common.{◌≡◌, ℕ, zero, suc, ◌+◌, ◌*◌, ◌/◌, ◌^◌, ◌<◌, ◌≤◌, sym, ◌∙◌, ap, arith, ◌⊎◌, inl, inr, min, lit≤}
use Rattle.std.specs.Prelude.{nat_le}
use Rattle.std.proofs.Math.Nat.{mul-le-mul_left, mul-le-mul_right, pow-le-pow_right}
use Rattle.std.proofs.lemmas.Bool.{cases_lt}
use Rattle.std.proofs.lemmas.Bool.Decides.{nat_tests}

-- from 31 lines on there are at least so many steps
pub many_steps : (n : ℕ) → 30 < n → 1000000000000 ≤ n * n * 2 ^ n
many_steps n over =
    let one = mul-le-mul_left {m = 31} {n = n} 31 (omega (arith, over)) in
    let two = mul-le-mul_right {m = 31} {n = n} n (omega (arith, over)) in
    let powers = pow-le-pow_right {n = 2} (lit≤ tt) {i = 31} {j = n} (omega (arith, over)) in
    let three = mul-le-mul_right {m = 961} {n = n * n} (2 ^ 31) (omega (arith, one, two)) in
    let four = mul-le-mul_left {m = 2 ^ 31} {n = 2 ^ n} (n * n) powers in
    omega (arith, three, four)

pub few_steps : (n : ℕ) → n ≤ 30 → (n * n ≤ 900) × (2 ^ n ≤ 1073741824) × (n * n * 2 ^ n ≤ 966367641600)
few_steps n under =
    let one = mul-le-mul_left {m = n} {n = 30} n (omega (arith, under)) in
    let two = mul-le-mul_right {m = n} {n = 30} 30 (omega (arith, under)) in
    let squares : n * n ≤ 900 = omega (arith, one, two) in
    let powers = pow-le-pow_right {n = 2} (lit≤ tt) {i = n} {j = 30} (omega (arith, under)) in
    let three = mul-le-mul_right {m = n * n} {n = 900} (2 ^ n) squares in
    let four = mul-le-mul_left {m = 2 ^ n} {n = 2 ^ 30} 900 powers in
    (squares, omega (arith, powers), omega (arith, three, four))

-- one more count
pub capped_sum : (a b most : ℕ) → min (min a most + min b most) most ≡ min (a + b) most
capped_sum a b most = omega arith

-- the test of a load by capped counts
pub capped_test : (steps stops : ℕ) → 1 ≤ stops
    → nat_le (min stops 1000000 * ((min steps 1000000000000 + 999999) / 1000000)) 100000 ≡ nat_le (stops * ((steps + 999999) / 1000000)) 100000
capped_test steps stops some = by_steps (cases_lt 1000000000000 steps) (cases_lt 1000000 stops)
  where
    great : (s l : ℕ) → 1000000 ≤ s → 1 ≤ l → 1000000 ≤ s * l
    great s l h k = let more = mul-le-mul_left {m = 1} {n = l} s k in omega (arith, h, more)

    great_load : (s l : ℕ) → 1 ≤ s → 1000000 ≤ l → 1000000 ≤ s * l
    great_load s l h k = let more = mul-le-mul_right {m = 1} {n = s} l h in omega (arith, k, more)

    over : (x y : ℕ) → 1000000 ≤ x → 1000000 ≤ y → nat_le x 100000 ≡ nat_le y 100000
    over x y h k = grind (arith, nat_tests)

    none : (s : ℕ) → s * 0 ≡ 0
    none s = omega arith

    by_load : (l : ℕ) → 1000000 < stops → nat_le (min stops 1000000 * l) 100000 ≡ nat_le (stops * l) 100000
    by_load zero many = ap (λ x. nat_le x 100000) (none (min stops 1000000) ∙ sym (none stops))
    by_load (suc l) many = over (min stops 1000000 * suc l) (stops * suc l) (great (min stops 1000000) (suc l) (omega (arith, many)) (omega arith)) (great stops (suc l) (omega (arith, many)) (omega arith))

    by_steps : (1000000000000 < steps) ⊎ (steps ≤ 1000000000000) → (1000000 < stops) ⊎ (stops ≤ 1000000)
        → nat_le (min stops 1000000 * ((min steps 1000000000000 + 999999) / 1000000)) 100000 ≡ nat_le (stops * ((steps + 999999) / 1000000)) 100000
    by_steps (inl more) t =
        over (min stops 1000000 * ((min steps 1000000000000 + 999999) / 1000000)) (stops * ((steps + 999999) / 1000000))
        (great_load (min stops 1000000) ((min steps 1000000000000 + 999999) / 1000000) (omega (arith, some)) (omega (arith, more)))
        (great_load stops ((steps + 999999) / 1000000) some (omega (arith, more)))
    by_steps (inr few) (inr less) =
        ap (λ m. nat_le (m * ((min steps 1000000000000 + 999999) / 1000000)) 100000) (omega (arith, less))
        ∙ ap (λ m. nat_le (stops * ((m + 999999) / 1000000)) 100000) (omega (arith, few))
    by_steps (inr few) (inl many) =
        ap (λ m. nat_le (min stops 1000000 * ((m + 999999) / 1000000)) 100000) (omega (arith, few)) ∙ by_load ((steps + 999999) / 1000000) many
