-- How great products, quotients and steps are.
use Rattle.std.proofs.Common.{◌≡◌, ℕ, zero, suc, ◌*◌, ◌/◌, ◌≤◌, mul-le-mul, div-le_self, refl, sym, subst, arith}
use Rattle.std.specs.Prelude.{ℤ, pos, negsuc, neg_ℤ, ◌+ℤ◌, ◌-ℤ◌, ◌*ℤ◌, int_div, unsigned_abs}
use Rattle.std.proofs.lemmas.Int.{ints, unsigned_abs-mul}
use Rattle.dual_bound.specs.Shares.{thousand}

pub product_within : (a b : ℤ) (m n : ℕ) → unsigned_abs a ≤ m → unsigned_abs b ≤ n → unsigned_abs (a *ℤ b) ≤ m * n
product_within a b m n h g =
    let most = mul-le-mul h g in
    let same = unsigned_abs-mul a b in
    omega (arith, most, same)

-- 1000 times one less than a target, and one more
pub bar_is : (target : ℕ) → pos (1000 * target) -ℤ pos 999 ≡ pos thousand *ℤ (pos target -ℤ pos 1) +ℤ pos 1
bar_is zero = refl
bar_is (suc n) = omega (arith, ints)

abs_neg : (n : ℕ) → unsigned_abs (neg_ℤ (pos n)) ≡ n
abs_neg zero = refl
abs_neg (suc n) = refl

-- a quotient is no greater
pub quotient_within : (a : ℤ) (d m : ℕ) → unsigned_abs a ≤ m → unsigned_abs (int_div a (pos d)) ≤ m
quotient_within (pos a) d m h = let less = div-le_self a d in omega (arith, less, h)
quotient_within (negsuc a) d m h =
    let less = div-le_self (suc a) d in
    subst (λ n. n ≤ m) (sym (abs_neg (suc a / d))) (omega (arith, less, h))
