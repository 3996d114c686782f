-- How many rows a column has.
use Rattle.std.proofs.Common.{◌≡◌, ℕ, suc, ◌+◌, ◌-◌, ◌*◌, ◌<◌, ◌≤◌, Bool, true, false, cond, Option, Some, unwrap_or, ap, sym, ◌∙◌, arith}
use Rattle.std.specs.Prelude.{nat_le}
use Rattle.std.specs.List.{find, range_with_len}
use Rattle.std.proofs.lemmas.Bool.Decides.{nat_tests}
use Rattle.std.proofs.Math.Nat.{mul-le-mul_left}
use Rattle.poster_plan.specs.Legends.{rows_for}

pub square_small : (n : ℕ) → n ≤ 64 → n * n ≤ 4096
square_small n low = let left : n * n ≤ n * 64 = mul-le-mul_left n low in omega (arith, left, low)

le_true : (m n : ℕ) → m ≤ n → nat_le m n ≡ true
le_true m n h = grind (arith, nat_tests)

le_false : (m n : ℕ) → n < m → nat_le m n ≡ false
le_false m n h = grind (arith, nat_tests)

pub le_from : (m n : ℕ) → nat_le m n ≡ true → m ≤ n
le_from m n e = grind (arith, nat_tests)

pub lt_from : (m n : ℕ) → nat_le m n ≡ false → n < m
lt_from m n e = grind (arith, nat_tests)

-- so many rows are enough for so many lines
abbrev pub enough : ℕ → ℕ → Bool
enough lines r = nat_le (4 * lines) (r * r)

-- as many rows as are looked at from a number on
abbrev pub left_from : ℕ → ℕ → ℕ
left_from lines rows = (2 * lines + 13) - rows

-- one that is not enough is small
pub rows_small : (lines rows : ℕ) → 12 ≤ rows → rows * rows < 4 * lines → rows + 1 < 2 * lines + 13
rows_small lines rows low few = let least : rows * 12 ≤ rows * rows = mul-le-mul_left rows low in omega (arith, least, few)

-- one number of rows that is not enough
pub rows_more : (lines rows : ℕ) → rows < 64 → rows < 2 * lines + 13 → rows * rows < 4 * lines → find (enough lines) (range_with_len (rows + 1) (left_from lines (rows + 1))) ≡ find (enough lines) (range_with_len rows (left_from lines rows))
rows_more lines rows low some few =
    let more : left_from lines rows ≡ suc (left_from lines (rows + 1)) = omega (arith, some) in
    sym (ap (λ (n : ℕ). find (enough lines) (range_with_len rows n)) more ∙ ap (λ (b : Bool). cond b (Some rows) (find (enough lines) (range_with_len (rows + 1) (left_from lines (rows + 1))))) (le_false (4 * lines) (rows * rows) few))

-- one that is enough
pub rows_here : (lines rows : ℕ) → rows < 2 * lines + 13 → 4 * lines ≤ rows * rows → find (enough lines) (range_with_len rows (left_from lines rows)) ≡ find (enough lines) (range_with_len 12 (2 * lines + 1)) → rows ≡ rows_for lines
rows_here lines rows some many all =
    let more : left_from lines rows ≡ suc (left_from lines (rows + 1)) = omega (arith, some) in
    ap (λ (o : Option ℕ). unwrap_or o 12)
    (sym (ap (λ (n : ℕ). find (enough lines) (range_with_len rows n)) more ∙ ap (λ (b : Bool). cond b (Some rows) (find (enough lines) (range_with_len (rows + 1) (left_from lines (rows + 1))))) (le_true (4 * lines) (rows * rows) many)) ∙ all)
