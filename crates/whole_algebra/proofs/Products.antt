-- The laws of products of whole numbers.
use Rattle.std.proofs.Common.{◌≡◌, sym, ◌∙◌, ap, zero, suc, ℤ, pos, negsuc, ◌+ℤ◌, ◌-ℤ◌, ◌*ℤ◌, neg_ℤ, arith}
use Rattle.std.proofs.Math.IntN.{zero-*ℤ, suc_ℤ, pred_ℤ, suc_ℤ-*ℤ, pred_ℤ-*ℤ, suc_ℤ-+ℤ, pred_ℤ-+ℤ, *ℤ_comm, +ℤ_idl}
use Rattle.std.proofs.lemmas.Int.{ints}

move_last : (x y z : ℤ) → (x +ℤ y) +ℤ z ≡ (x +ℤ z) +ℤ y
move_last x y z = omega (arith, ints)

move_last_minus : (x y z : ℤ) → (x +ℤ y) -ℤ z ≡ (x -ℤ z) +ℤ y
move_last_minus x y z = omega (arith, ints)

-- where the law holds at a, it holds at a + 1 and at a - 1
more : (a b k : ℤ) → (a +ℤ b) *ℤ k ≡ a *ℤ k +ℤ b *ℤ k → (suc_ℤ a +ℤ b) *ℤ k ≡ suc_ℤ a *ℤ k +ℤ b *ℤ k
more a b k here =
    ap (λ s. s *ℤ k) (suc_ℤ-+ℤ a b) ∙ suc_ℤ-*ℤ (a +ℤ b) k ∙ ap (λ s. s +ℤ k) here ∙ move_last (a *ℤ k) (b *ℤ k) k
    ∙ ap (λ s. s +ℤ b *ℤ k) (sym (suc_ℤ-*ℤ a k))

less : (a b k : ℤ) → (a +ℤ b) *ℤ k ≡ a *ℤ k +ℤ b *ℤ k → (pred_ℤ a +ℤ b) *ℤ k ≡ pred_ℤ a *ℤ k +ℤ b *ℤ k
less a b k here =
    ap (λ s. s *ℤ k) (pred_ℤ-+ℤ a b) ∙ pred_ℤ-*ℤ (a +ℤ b) k ∙ ap (λ s. s -ℤ k) here ∙ move_last_minus (a *ℤ k) (b *ℤ k) k
    ∙ ap (λ s. s +ℤ b *ℤ k) (sym (pred_ℤ-*ℤ a k))

none : (b k : ℤ) → (pos 0 +ℤ b) *ℤ k ≡ pos 0 *ℤ k +ℤ b *ℤ k
none b k = ap (λ s. s *ℤ k) (+ℤ_idl b) ∙ sym (ap (λ s. s +ℤ b *ℤ k) (zero-*ℤ k) ∙ +ℤ_idl (b *ℤ k))

-- (a + b) * k = a * k + b * k
pub +ℤ-*ℤ : (a b k : ℤ) → (a +ℤ b) *ℤ k ≡ a *ℤ k +ℤ b *ℤ k
+ℤ-*ℤ (pos zero) b k = none b k
+ℤ-*ℤ (pos (suc n)) b k = more (pos n) b k (+ℤ-*ℤ (pos n) b k)
+ℤ-*ℤ (negsuc zero) b k = less (pos zero) b k (none b k)
+ℤ-*ℤ (negsuc (suc n)) b k = less (negsuc n) b k (+ℤ-*ℤ (negsuc n) b k)

-- k * (a + b) = k * a + k * b
pub *ℤ-+ℤ : (k a b : ℤ) → k *ℤ (a +ℤ b) ≡ k *ℤ a +ℤ k *ℤ b
*ℤ-+ℤ k a b =
    *ℤ_comm k (a +ℤ b) ∙ +ℤ-*ℤ a b k ∙ ap (λ s. s +ℤ b *ℤ k) (*ℤ_comm a k) ∙ ap (λ s. k *ℤ a +ℤ s) (*ℤ_comm b k)

-- (- a) * k = - (a * k)
pub neg_ℤ-*ℤ : (a k : ℤ) → neg_ℤ a *ℤ k ≡ neg_ℤ (a *ℤ k)
neg_ℤ-*ℤ a k =
    let sum : (a +ℤ neg_ℤ a) *ℤ k ≡ a *ℤ k +ℤ neg_ℤ a *ℤ k = +ℤ-*ℤ a (neg_ℤ a) k in
    let nought : a +ℤ neg_ℤ a ≡ pos 0 = omega (arith, ints) in
    let left : pos 0 ≡ a *ℤ k +ℤ neg_ℤ a *ℤ k = sym (ap (λ s. s *ℤ k) nought ∙ zero-*ℤ k) ∙ sum in
    opposite (a *ℤ k) (neg_ℤ a *ℤ k) left
  where
    opposite : (x y : ℤ) → pos 0 ≡ x +ℤ y → y ≡ neg_ℤ x
    opposite x y e = omega (arith, ints)

-- (a - b) * k = a * k - b * k
pub minus-*ℤ : (a b k : ℤ) → (a -ℤ b) *ℤ k ≡ a *ℤ k -ℤ b *ℤ k
minus-*ℤ a b k = +ℤ-*ℤ a (neg_ℤ b) k ∙ ap (λ s. a *ℤ k +ℤ s) (neg_ℤ-*ℤ b k)

-- k * (a - b) = k * a - k * b
pub *ℤ-minus : (k a b : ℤ) → k *ℤ (a -ℤ b) ≡ k *ℤ a -ℤ k *ℤ b
*ℤ-minus k a b =
    *ℤ_comm k (a -ℤ b) ∙ minus-*ℤ a b k ∙ ap (λ s. s -ℤ b *ℤ k) (*ℤ_comm a k) ∙ ap (λ s. k *ℤ a -ℤ s) (*ℤ_comm b k)

assoc_none : (b c : ℤ) → (pos 0 *ℤ b) *ℤ c ≡ pos 0 *ℤ (b *ℤ c)
assoc_none b c = ap (λ s. s *ℤ c) (zero-*ℤ b) ∙ zero-*ℤ c ∙ sym (zero-*ℤ (b *ℤ c))

-- (a * b) * c = a * (b * c)
pub *ℤ_assoc : (a b c : ℤ) → (a *ℤ b) *ℤ c ≡ a *ℤ (b *ℤ c)
*ℤ_assoc (pos zero) b c = assoc_none b c
*ℤ_assoc (pos (suc n)) b c =
    ap (λ s. s *ℤ c) (suc_ℤ-*ℤ (pos n) b) ∙ +ℤ-*ℤ (pos n *ℤ b) b c ∙ ap (λ s. s +ℤ b *ℤ c) (*ℤ_assoc (pos n) b c)
    ∙ sym (suc_ℤ-*ℤ (pos n) (b *ℤ c))
*ℤ_assoc (negsuc zero) b c =
    ap (λ s. s *ℤ c) (pred_ℤ-*ℤ (pos 0) b) ∙ minus-*ℤ (pos 0 *ℤ b) b c ∙ ap (λ s. s -ℤ b *ℤ c) (assoc_none b c)
    ∙ sym (pred_ℤ-*ℤ (pos 0) (b *ℤ c))
*ℤ_assoc (negsuc (suc n)) b c =
    ap (λ s. s *ℤ c) (pred_ℤ-*ℤ (negsuc n) b) ∙ minus-*ℤ (negsuc n *ℤ b) b c ∙ ap (λ s. s -ℤ b *ℤ c) (*ℤ_assoc (negsuc n) b c)
    ∙ sym (pred_ℤ-*ℤ (negsuc n) (b *ℤ c))

-- a * (b * c) = b * (a * c)
pub *ℤ_left_comm : (a b c : ℤ) → a *ℤ (b *ℤ c) ≡ b *ℤ (a *ℤ c)
*ℤ_left_comm a b c = sym (*ℤ_assoc a b c) ∙ ap (λ s. s *ℤ c) (*ℤ_comm a b) ∙ *ℤ_assoc b a c
