-- Signs of products, and squares.
use Rattle.std.proofs.Common.{◌≡◌, refl, sym, ◌∙◌, ap, zero, suc, ◌*◌, ℤ, pos, negsuc, ◌*ℤ◌, ◌≤ℤ◌, ◌<ℤ◌, neg_ℤ, unsigned_abs, Less, Greater, arith}
use Rattle.std.proofs.Math.IntN.{zero-*ℤ}
use Rattle.std.proofs.lemmas.Int.{ints}
use Rattle.std.specs.Ordering.{int_cmp, ordering_reverse}
use Rattle.whole_algebra.proofs.Products.{neg_ℤ-*ℤ}

-- a product of two numbers above 0 is above 0
pub *ℤ-positive : (a b : ℤ) → pos 0 <ℤ a → pos 0 <ℤ b → pos 0 <ℤ (a *ℤ b)
*ℤ-positive (pos zero) b h k = absurd (omega (arith, ints))
*ℤ-positive (pos (suc m)) (pos zero) h k = absurd (omega (arith, ints))
*ℤ-positive (pos (suc m)) (pos (suc n)) h k = omega (arith, ints)
*ℤ-positive (pos (suc m)) (negsuc n) h k = absurd (omega (arith, ints))
*ℤ-positive (negsuc m) b h k = absurd (omega (arith, ints))

-- a product of two numbers that are not below 0 is not below 0
pub *ℤ-not_negative : (a b : ℤ) → pos 0 ≤ℤ a → pos 0 ≤ℤ b → pos 0 ≤ℤ (a *ℤ b)
*ℤ-not_negative a b h k = grind (arith, ints)

-- a square is not below 0
pub square-not_negative : (a : ℤ) → pos 0 ≤ℤ (a *ℤ a)
square-not_negative a = grind (arith, ints)

-- the answers of a comparison with 0
pub int_cmp-positive : (a : ℤ) → pos 0 <ℤ a → int_cmp a (pos 0) ≡ Greater
int_cmp-positive a h = grind (arith, ints)

pub int_cmp-negative : (a : ℤ) → a <ℤ pos 0 → int_cmp a (pos 0) ≡ Less
int_cmp-negative a h = grind (arith, ints)

-- a number compares with 0 as its opposite does the other way round
pub int_cmp-neg_ℤ : (a : ℤ) → int_cmp a (pos 0) ≡ ordering_reverse (int_cmp (neg_ℤ a) (pos 0))
int_cmp-neg_ℤ (pos zero) = refl
int_cmp-neg_ℤ (pos (suc n)) = int_cmp-positive (pos (suc n)) (omega (arith, ints))
int_cmp-neg_ℤ (negsuc n) = sym (ap ordering_reverse (int_cmp-positive (pos (suc n)) (omega (arith, ints))))

-- a product of a number below 0 and one above 0 is below 0
pub *ℤ-negative : (a b : ℤ) → a <ℤ pos 0 → pos 0 <ℤ b → (a *ℤ b) <ℤ pos 0
*ℤ-negative a b h k =
    below_zero (a *ℤ b) (neg_ℤ a *ℤ b) (neg_ℤ-*ℤ a b) (*ℤ-positive (neg_ℤ a) b (omega (arith, ints)) k)
  where
    below_zero : (x y : ℤ) → y ≡ neg_ℤ x → pos 0 <ℤ y → x <ℤ pos 0
    below_zero x y e h = omega (arith, ints)

-- a product of a number not above 0 and one not below 0 is not above 0
pub *ℤ-not_positive : (a b : ℤ) → a ≤ℤ pos 0 → pos 0 ≤ℤ b → (a *ℤ b) ≤ℤ pos 0
*ℤ-not_positive a b h k =
    not_above (a *ℤ b) (neg_ℤ a *ℤ b) (neg_ℤ-*ℤ a b) (*ℤ-not_negative (neg_ℤ a) b (omega (arith, ints)) k)
  where
    not_above : (x y : ℤ) → y ≡ neg_ℤ x → pos 0 ≤ℤ y → x ≤ℤ pos 0
    not_above x y e h = omega (arith, ints)

-- a product has the sign of its first factor where its second is above 0
pub int_cmp-*ℤ : (a b : ℤ) → pos 0 <ℤ b → int_cmp (a *ℤ b) (pos 0) ≡ int_cmp a (pos 0)
int_cmp-*ℤ (pos zero) b k = ap (λ z. int_cmp z (pos 0)) (zero-*ℤ b)
int_cmp-*ℤ (pos (suc m)) b k =
    int_cmp-positive (pos (suc m) *ℤ b) (*ℤ-positive (pos (suc m)) b (omega (arith, ints)) k) ∙ sym (int_cmp-positive (pos (suc m)) (omega (arith, ints)))
int_cmp-*ℤ (negsuc m) b k = int_cmp-negative (negsuc m *ℤ b) (*ℤ-negative (negsuc m) b (omega (arith, ints)) k)

-- a factor of a product that is below 0, beside one above 0, is below 0
pub *ℤ-negative_factor : (a b : ℤ) → pos 0 <ℤ b → (a *ℤ b) <ℤ pos 0 → a <ℤ pos 0
*ℤ-negative_factor (pos n) b k h =
    let not_below : pos 0 ≤ℤ (pos n *ℤ b) = *ℤ-not_negative (pos n) b (omega (arith, ints)) (omega (arith, ints)) in
    absurd (both (pos n *ℤ b) not_below h)
  where
    both : (x : ℤ) → pos 0 ≤ℤ x → x <ℤ pos 0 → ⊥
    both x h k = omega (arith, ints)
*ℤ-negative_factor (negsuc n) b k h = omega (arith, ints)

-- a factor of a product that is 0, beside one above 0, is 0
pub *ℤ-eq_zero : (a b : ℤ) → pos 0 <ℤ b → a *ℤ b ≡ pos 0 → a ≡ pos 0
*ℤ-eq_zero (pos zero) b k e = refl
*ℤ-eq_zero (pos (suc m)) b k e =
    let above : pos 0 <ℤ (pos (suc m) *ℤ b) = *ℤ-positive (pos (suc m)) b (omega (arith, ints)) k in absurd (not_zero (pos (suc m) *ℤ b) above e)
  where
    not_zero : (x : ℤ) → pos 0 <ℤ x → x ≡ pos 0 → ⊥
    not_zero x h e = omega (arith, ints)
*ℤ-eq_zero (negsuc m) b k e =
    let below : (negsuc m *ℤ b) <ℤ pos 0 = *ℤ-negative (negsuc m) b (omega (arith, ints)) k in absurd (not_zero (negsuc m *ℤ b) below e)
  where
    not_zero : (x : ℤ) → x <ℤ pos 0 → x ≡ pos 0 → ⊥
    not_zero x h e = omega (arith, ints)

-- the square of a number is that of its size
pub square-unsigned_abs : (a : ℤ) → pos (unsigned_abs a * unsigned_abs a) ≡ a *ℤ a
square-unsigned_abs (pos n) = refl
square-unsigned_abs (negsuc n) = refl
