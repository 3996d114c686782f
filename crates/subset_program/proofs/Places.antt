-- Where entries of the table stand, and when no line is left.
use Rattle.std.proofs.Common.{◌≡◌, ◌≢◌, ℕ, zero, suc, ◌+◌, ◌-◌, ◌*◌, ◌^◌, ◌<◌, ◌≤◌, Bool, true, false, cond, [], ◌∷◌, length, refl, sym, ◌∙◌, ap, arith, ◌⊎◌, inl, inr, true≢false}
use Rattle.std.specs.Prelude.{bit_and}
use Rattle.std.specs.Int.Bits.{or_add_and}
use Rattle.std.proofs.Math.Nat.{mul-le-mul_right, suc-mul}
use Rattle.std.proofs.Math.Pow.{pow-lt}
use Rattle.std.proofs.lemmas.Nat.{or_lt, pow_pos}
use Rattle.std.proofs.lemmas.Bool.{cases_eq}
use Rattle.std.proofs.lemmas.Nat.Bits.{and_pow}
use Rattle.least_orders.specs.Rows.{line_at}
use Rattle.least_orders.specs.Subsets.{has_place, with_place, left_from}
use Rattle.least_orders.proofs.Sets.{not_raised, with_same, with_other}
use Rattle.subset_program.specs.Tables.{IsFirstFree}

-- Entries.

row_after : (m n : ℕ) → (m + 1) * n ≡ m * n + n
row_after m n = ap (λ k. k * n) (omega arith) ∙ suc-mul m n

pub index_within : (m p k n len : ℕ) → m < p → k < n → p * n ≤ len → m * n + k < len
index_within m p k n len below within room =
    let rows = mul-le-mul_right {m = m + 1} {n = p} n (omega (arith, below)) in
    let next = row_after m n in
    omega (arith, within, room, rows, next)

-- an entry of a greater set stands elsewhere
pub apart_rows : (set more n i j : ℕ) → set < more → i < n → j < n → (more * n + j) ≢ (set * n + i)
apart_rows set more n i j above first second e =
    let rows = mul-le-mul_right {m = set + 1} {n = more} n (omega (arith, above)) in
    let next = row_after set n in
    omega (arith, first, second, rows, next, e)

-- Sets.

nothing : (m : ℕ) → 0 * m ≡ 0
nothing m = omega arith

-- one place more makes a set greater
pub more_than : (set k : ℕ) → has_place set k ≡ false → set < with_place set k
more_than set k free =
    let off = not_raised set k free in
    let sum = or_add_and set (2 ^ k) in
    let both : bit_and set (2 ^ k) ≡ 0 = and_pow set k ∙ (ap (λ b. b * 2 ^ k) off ∙ nothing (2 ^ k)) in
    let some = pow_pos k in
    omega (arith, sum, both, some)

pub still_within : (set k n : ℕ) → set < 2 ^ n → k < n → with_place set k < 2 ^ n
still_within set k n within below = or_lt n set (2 ^ k) within (pow-lt below)

-- one place more changes nothing behind it
same_behind : (set k c j : ℕ) → k < c → left_from (with_place set k) c j ≡ left_from set c j
same_behind set k c zero over = refl
same_behind set k c (suc j) over =
    ap (λ t. cond t (left_from (with_place set k) (c + 1) j) (line_at c ∷ left_from (with_place set k) (c + 1) j)) (with_other set k c (omega (arith, over)))
    ∙ ap (λ l. cond (has_place set c) l (line_at c ∷ l)) (same_behind set k (c + 1) j (omega (arith, over)))

-- one place more leaves one line less
pub one_less : (set k n : ℕ) → has_place set k ≡ false → (b m : ℕ) → b ≤ k → k < b + m → length (left_from (with_place set k) b m) + 1 ≡ length (left_from set b m)
one_less set k n free b zero above below = absurd (omega (arith, above, below))
one_less set k n free b (suc m) above below = by_place (cases_eq b k) (λ over. one_less set k n free (b + 1) m over (omega (arith, below)))
  where
    by_place : (b ≡ k) ⊎ (b ≢ k) → (b + 1 ≤ k → length (left_from (with_place set k) (b + 1) m) + 1 ≡ length (left_from set (b + 1) m))
        → length (left_from (with_place set k) b (suc m)) + 1 ≡ length (left_from set b (suc m))
    by_place (inl is) rest =
        let taken : has_place (with_place set k) b ≡ true = ap (λ j. has_place (with_place set k) j) is ∙ with_same set k in
        let open_here : has_place set b ≡ false = ap (λ j. has_place set j) is ∙ free in
        let one : length (left_from (with_place set k) b (suc m)) ≡ length (left_from (with_place set k) (b + 1) m) =
        ap (λ t. length (cond t (left_from (with_place set k) (b + 1) m) (line_at b ∷ left_from (with_place set k) (b + 1) m))) taken in
        let two : length (left_from set b (suc m)) ≡ suc (length (left_from set (b + 1) m)) =
        ap (λ t. length (cond t (left_from set (b + 1) m) (line_at b ∷ left_from set (b + 1) m))) open_here in
        let same : length (left_from (with_place set k) (b + 1) m) ≡ length (left_from set (b + 1) m) = ap length (same_behind set k (b + 1) m (omega (arith, is))) in
        omega (arith, one, two, same)
    by_place (inr apart) rest = by_test (has_place set b) refl (rest (omega (arith, above, apart)))
      where
        by_test : (t : Bool) → has_place set b ≡ t → length (left_from (with_place set k) (b + 1) m) + 1 ≡ length (left_from set (b + 1) m)
            → length (left_from (with_place set k) b (suc m)) + 1 ≡ length (cond t (left_from set (b + 1) m) (line_at b ∷ left_from set (b + 1) m))
        by_test true e h = ap (λ t. length (cond t (left_from (with_place set k) (b + 1) m) (line_at b ∷ left_from (with_place set k) (b + 1) m)) + 1) (with_other set k b apart ∙ e) ∙ h
        by_test false e h =
            ap (λ t. length (cond t (left_from (with_place set k) (b + 1) m) (line_at b ∷ left_from (with_place set k) (b + 1) m)) + 1) (with_other set k b apart ∙ e) ∙ omega (arith, h)

-- The first place that a set has not.

-- places that the set has are passed over
passed : (set d k m t free : ℕ) → t ≡ d + m → free ≡ k + d → ((j : ℕ) → j < free → has_place set j ≡ true) → left_from set k t ≡ left_from set free m
passed set zero k m t free e f all =
    let many : t ≡ m = omega (arith, e) in
    let here : k ≡ free = omega (arith, f) in
    ap (λ i. left_from set k i) many ∙ ap (λ i. left_from set i m) here
passed set (suc d) k m zero free e f all = absurd (omega (arith, e))
passed set (suc d) k m (suc t) free e f all =
    ap (λ b. cond b (left_from set (k + 1) t) (line_at k ∷ left_from set (k + 1) t)) (all k (omega (arith, f)))
    ∙ passed set d (k + 1) m t free (omega (arith, e)) (omega (arith, f)) all

pub none_free : (set n free : ℕ) → IsFirstFree set n free → free ≡ n → left_from set 0 n ≡ []
none_free set n free is e = passed set n 0 zero n free (omega arith) (omega (arith, e)) is.below

pub first_left : (set n free : ℕ) → IsFirstFree set n free → free < n → left_from set 0 n ≡ line_at free ∷ left_from (with_place set free) 0 n
first_left set n free is below =
    passed set free 0 (suc (n - (free + 1))) n free (omega (arith, below)) (omega arith) is.below
    ∙ (ap (λ b. cond b (left_from set (free + 1) (n - (free + 1))) (line_at free ∷ left_from set (free + 1) (n - (free + 1)))) (is.here below)
    ∙ ap (λ l. line_at free ∷ l)
    (sym (passed (with_place set free) (suc free) 0 (n - (free + 1)) n (free + 1) (omega (arith, below)) (omega arith) taken ∙ same_behind set free (free + 1) (n - (free + 1)) (omega arith))))
  where
    taken : (j : ℕ) → j < free + 1 → has_place (with_place set free) j ≡ true
    taken j less = by_place (cases_eq j free)
      where
        by_place : (j ≡ free) ⊎ (j ≢ free) → has_place (with_place set free) j ≡ true
        by_place (inl here) = ap (λ i. has_place (with_place set free) i) here ∙ with_same set free
        by_place (inr apart) = with_other set free j apart ∙ is.below j (omega (arith, less, apart))

-- the set with it has all places that the set has
pub still_there : (set n free k : ℕ) → IsFirstFree set n free → free < n → has_place set k ≡ true → has_place (with_place set free) k ≡ true
still_there set n free k is below has = with_other set free k (λ e. true≢false (sym has ∙ (ap (λ i. has_place set i) e ∙ is.here below))) ∙ has
