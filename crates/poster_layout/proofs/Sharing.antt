-- Shares of all names, and pairs in order.
use Rattle.std.proofs.Common.{◌≡◌, ℕ, ◌*◌, ◌/◌, ◌<◌, ◌≤◌, ◌==◌, Bool, true, false, ◌&&◌, ◌||◌, refl, ap, sym, ◌∙◌, arith}
use Rattle.std.specs.Prelude.{nat_le, nat_lt}
use Rattle.std.proofs.lemmas.Bool.{eq-eqb, ne_eqb}
use Rattle.std.proofs.lemmas.Bool.Decides.{nat_tests}
use Rattle.std.proofs.lemmas.Nat.{le-div}
use Rattle.std.proofs.Math.Nat.{mul-div-le, mul-le-mul_left, mul_comm}
use Rattle.poster_table.proofs.Finding.{same_tests}

le_true : (m n : ℕ) → m ≤ n → nat_le m n ≡ true
le_true m n h = grind (arith, nat_tests)

le_from : (m n : ℕ) → nat_le m n ≡ true → m ≤ n
le_from m n e = grind (arith, nat_tests)

pub lt_from : (m n : ℕ) → nat_lt m n ≡ true → m < n
lt_from m n e = grind (arith, nat_tests)

pub not_lt_from : (m n : ℕ) → nat_lt m n ≡ false → n ≤ m
not_lt_from m n e = grind (arith, nat_tests)

lt_false : (m n : ℕ) → n ≤ m → nat_lt m n ≡ false
lt_false m n h = grind (arith, nat_tests)

-- at most one of so many parts
pub share_is : (few all parts : ℕ) → 0 < parts → nat_le few (all / parts) ≡ nat_le (parts * few) all
share_is few all parts some =
    same_tests (nat_le few (all / parts)) (nat_le (parts * few) all)
    (λ e. let h : few ≤ all / parts = le_from few (all / parts) e in le_true (parts * few) all (omega (arith, mul-le-mul_left parts h, mul-div-le all parts)))
    (λ e. let h : parts * few ≤ all = le_from (parts * few) all e in le_true few (all / parts) (le-div few all parts some (omega (arith, h, mul_comm few parts))))

-- the first numbers of two pairs are one
pub before_same : (s t : ℕ) (x : Bool) → s ≡ t → x ≡ (nat_lt s t || (s == t) && x)
before_same s t x one = sym (ap (λ (b : Bool). b || (s == t) && x) (lt_false s t (omega (arith, one))) ∙ ap (λ (b : Bool). b && x) (eq-eqb s t one))

pub before_other : (s t : ℕ) (x : Bool) → (s ≡ t → ⊥) → nat_lt s t ≡ (nat_lt s t || (s == t) && x)
before_other s t x other = sym (ap (λ (b : Bool). nat_lt s t || b && x) (ne_eqb s t other) ∙ or_false (nat_lt s t))
  where
    or_false : (b : Bool) → (b || false) ≡ b
    or_false true = refl
    or_false false = refl
