-- Identities of sums, differences and products: a term becomes a sum of monomials, and where the sum of the
-- difference of two terms has only zeros, the two have one value whatever their variables are.
use Rattle.std.proofs.Common.{◌≡◌, refl, sym, ◌∙◌, ap, ℕ, zero, suc, ℤ, pos, negsuc, ◌+ℤ◌, ◌-ℤ◌, ◌*ℤ◌, neg_ℤ, Bool, true, false, nat_eq, nat_le, List, [], ◌∷◌, arith}
use Rattle.std.proofs.Math.IntN.{zero-*ℤ, *ℤ-zero, +ℤ_idl, +ℤ_assoc}
use Rattle.std.proofs.lemmas.Int.{ints}
use Rattle.std.proofs.lemmas.Bool.{eqb-true}
use Rattle.whole_algebra.proofs.Products.{+ℤ-*ℤ, *ℤ-+ℤ, neg_ℤ-*ℤ, *ℤ_assoc, *ℤ_left_comm}

infixl 6 ◌⊕◌
infixl 6 ◌⊖◌
infixl 7 ◌⊛◌
-- a term over numbered variables
pub data Term : Type 0 where
  var : ℕ → Term
  num : ℤ → Term
  minus : Term → Term
  ◌⊕◌ : Term → Term → Term
  ◌⊖◌ : Term → Term → Term
  ◌⊛◌ : Term → Term → Term

-- the value of a variable: its number counts from 0 in the list of values
abbrev pub value_at : List ℤ → ℕ → ℤ
value_at [] n = pos 0
value_at (x ∷ xs) zero = x
value_at (x ∷ xs) (suc n) = value_at xs n

-- the value of a term
abbrev pub value : List ℤ → Term → ℤ
value xs (var n) = value_at xs n
value xs (num z) = z
value xs (minus t) = neg_ℤ (value xs t)
value xs (s ⊕ t) = value xs s +ℤ value xs t
value xs (s ⊖ t) = value xs s -ℤ value xs t
value xs (s ⊛ t) = value xs s *ℤ value xs t

-- a monomial: a coefficient, and its variables by rising number
pub record Monomial : Type 0 where
  pub coefficient : ℤ
  pub variables : List ℕ

abbrev pub product_of : List ℤ → List ℕ → ℤ
product_of xs [] = pos 1
product_of xs (v ∷ vs) = value_at xs v *ℤ product_of xs vs

abbrev pub sum_of : List ℤ → List Monomial → ℤ
sum_of xs [] = pos 0
sum_of xs (m ∷ ms) = m.coefficient *ℤ product_of xs m.variables +ℤ sum_of xs ms

-- ---- products of variables

abbrev pub insert_variable : ℕ → List ℕ → List ℕ
insert_variable v [] = v ∷ []
insert_variable v (w ∷ ws) = elim (nat_le v w) [ true ↦ v ∷ w ∷ ws | false ↦ w ∷ insert_variable v ws ]

product_of-insert_variable : (xs : List ℤ) (v : ℕ) (ws : List ℕ) → product_of xs (insert_variable v ws) ≡ value_at xs v *ℤ product_of xs ws
product_of-insert_variable xs v [] = refl
product_of-insert_variable xs v (w ∷ ws) =
    elim (nat_le v w) as (λ b. product_of xs (elim b [ true ↦ v ∷ w ∷ ws | false ↦ w ∷ insert_variable v ws ]) ≡ value_at xs v *ℤ product_of xs (w ∷ ws)) [
      | true ↦ refl
      | false ↦ ap (λ s. value_at xs w *ℤ s) (product_of-insert_variable xs v ws) ∙ *ℤ_left_comm (value_at xs w) (value_at xs v) (product_of xs ws)
    ]

abbrev pub merged : List ℕ → List ℕ → List ℕ
merged [] ws = ws
merged (v ∷ vs) ws = insert_variable v (merged vs ws)

one-*ℤ : (z : ℤ) → pos 1 *ℤ z ≡ z
one-*ℤ z = omega (arith, ints)

product_of-merged : (xs : List ℤ) (vs ws : List ℕ) → product_of xs (merged vs ws) ≡ product_of xs vs *ℤ product_of xs ws
product_of-merged xs [] ws = sym (one-*ℤ (product_of xs ws))
product_of-merged xs (v ∷ vs) ws =
    product_of-insert_variable xs v (merged vs ws) ∙ ap (λ s. value_at xs v *ℤ s) (product_of-merged xs vs ws)
    ∙ sym (*ℤ_assoc (value_at xs v) (product_of xs vs) (product_of xs ws))

-- ---- sums of monomials

abbrev pub same : List ℕ → List ℕ → Bool
same [] [] = true
same [] (w ∷ ws) = false
same (v ∷ vs) [] = false
same (v ∷ vs) (w ∷ ws) = elim (nat_eq v w) [ true ↦ same vs ws | false ↦ false ]

same-true : (vs ws : List ℕ) → same vs ws ≡ true → vs ≡ ws
same-true [] [] e = refl
same-true [] (w ∷ ws) e = cc
same-true (v ∷ vs) [] e = cc
same-true (v ∷ vs) (w ∷ ws) e =
    (elim (nat_eq v w) as (λ b. nat_eq v w ≡ b → elim b [ true ↦ same vs ws | false ↦ false ] ≡ true → v ∷ vs ≡ w ∷ ws) [
      | true ↦ λ heads tails. let first : v ≡ w = eqb-true v w heads in let rest = same-true vs ws tails in cc
      | false ↦ λ heads tails. cc
    ]) refl e

abbrev pub add_monomial : Monomial → List Monomial → List Monomial
add_monomial m [] = m ∷ []
add_monomial m (n ∷ ns) =
    elim (same m.variables n.variables)
    [ true ↦ record { coefficient = m.coefficient +ℤ n.coefficient; variables = n.variables } ∷ ns | false ↦ n ∷ add_monomial m ns ]

gathered : (c d p q r : ℤ) → p ≡ q → (c +ℤ d) *ℤ q +ℤ r ≡ c *ℤ p +ℤ (d *ℤ q +ℤ r)
gathered c d p q r e = ap (λ s. s +ℤ r) (+ℤ-*ℤ c d q) ∙ +ℤ_assoc (c *ℤ q) (d *ℤ q) r ∙ ap (λ s. c *ℤ s +ℤ (d *ℤ q +ℤ r)) (sym e)

passed : (x y z : ℤ) → x +ℤ (y +ℤ z) ≡ y +ℤ (x +ℤ z)
passed x y z = omega (arith, ints)

sum_of-add_monomial : (xs : List ℤ) (m : Monomial) (ns : List Monomial) → sum_of xs (add_monomial m ns) ≡ m.coefficient *ℤ product_of xs m.variables +ℤ sum_of xs ns
sum_of-add_monomial xs m [] = refl
sum_of-add_monomial xs m (n ∷ ns) =
    (elim (same m.variables n.variables) as (λ b. same m.variables n.variables ≡ b →
    sum_of xs (elim b [ true ↦ record { coefficient = m.coefficient +ℤ n.coefficient; variables = n.variables } ∷ ns | false ↦ n ∷ add_monomial m ns ])
    ≡ m.coefficient *ℤ product_of xs m.variables +ℤ sum_of xs (n ∷ ns)) [
      | true ↦ λ e. gathered m.coefficient n.coefficient (product_of xs m.variables) (product_of xs n.variables) (sum_of xs ns) (ap (product_of xs) (same-true m.variables n.variables e))
      | false ↦ λ e. ap (λ s. n.coefficient *ℤ product_of xs n.variables +ℤ s) (sum_of-add_monomial xs m ns)
          ∙ passed (n.coefficient *ℤ product_of xs n.variables) (m.coefficient *ℤ product_of xs m.variables) (sum_of xs ns)
    ]) refl

abbrev pub added : List Monomial → List Monomial → List Monomial
added [] ns = ns
added (m ∷ ms) ns = add_monomial m (added ms ns)

sum_of-added : (xs : List ℤ) (ms ns : List Monomial) → sum_of xs (added ms ns) ≡ sum_of xs ms +ℤ sum_of xs ns
sum_of-added xs [] ns = sym (+ℤ_idl (sum_of xs ns))
sum_of-added xs (m ∷ ms) ns =
    sum_of-add_monomial xs m (added ms ns) ∙ ap (λ s. m.coefficient *ℤ product_of xs m.variables +ℤ s) (sum_of-added xs ms ns)
    ∙ sym (+ℤ_assoc (m.coefficient *ℤ product_of xs m.variables) (sum_of xs ms) (sum_of xs ns))

abbrev pub negated : List Monomial → List Monomial
negated [] = []
negated (m ∷ ms) = record { coefficient = neg_ℤ m.coefficient; variables = m.variables } ∷ negated ms

opposite_sum : (x y : ℤ) → neg_ℤ x +ℤ neg_ℤ y ≡ neg_ℤ (x +ℤ y)
opposite_sum x y = omega (arith, ints)

sum_of-negated : (xs : List ℤ) (ms : List Monomial) → sum_of xs (negated ms) ≡ neg_ℤ (sum_of xs ms)
sum_of-negated xs [] = refl
sum_of-negated xs (m ∷ ms) =
    ap (λ s. s +ℤ sum_of xs (negated ms)) (neg_ℤ-*ℤ m.coefficient (product_of xs m.variables))
    ∙ ap (λ s. neg_ℤ (m.coefficient *ℤ product_of xs m.variables) +ℤ s) (sum_of-negated xs ms)
    ∙ opposite_sum (m.coefficient *ℤ product_of xs m.variables) (sum_of xs ms)

-- ---- products of sums

abbrev pub scaled : Monomial → List Monomial → List Monomial
scaled m [] = []
scaled m (n ∷ ns) = record { coefficient = m.coefficient *ℤ n.coefficient; variables = merged m.variables n.variables } ∷ scaled m ns

crossed : (c d p q : ℤ) → (c *ℤ d) *ℤ (p *ℤ q) ≡ (c *ℤ p) *ℤ (d *ℤ q)
crossed c d p q = *ℤ_assoc c d (p *ℤ q) ∙ ap (λ s. c *ℤ s) (*ℤ_left_comm d p q) ∙ sym (*ℤ_assoc c p (d *ℤ q))

sum_of-scaled : (xs : List ℤ) (m : Monomial) (ns : List Monomial) → sum_of xs (scaled m ns) ≡ (m.coefficient *ℤ product_of xs m.variables) *ℤ sum_of xs ns
sum_of-scaled xs m [] = sym (*ℤ-zero (m.coefficient *ℤ product_of xs m.variables))
sum_of-scaled xs m (n ∷ ns) =
    let whole = m.coefficient *ℤ product_of xs m.variables in
    ap (λ s. (m.coefficient *ℤ n.coefficient) *ℤ s +ℤ sum_of xs (scaled m ns)) (product_of-merged xs m.variables n.variables)
    ∙ ap (λ s. s +ℤ sum_of xs (scaled m ns)) (crossed m.coefficient n.coefficient (product_of xs m.variables) (product_of xs n.variables))
    ∙ ap (λ s. whole *ℤ (n.coefficient *ℤ product_of xs n.variables) +ℤ s) (sum_of-scaled xs m ns)
    ∙ sym (*ℤ-+ℤ whole (n.coefficient *ℤ product_of xs n.variables) (sum_of xs ns))

abbrev pub multiplied : List Monomial → List Monomial → List Monomial
multiplied [] ns = []
multiplied (m ∷ ms) ns = added (scaled m ns) (multiplied ms ns)

sum_of-multiplied : (xs : List ℤ) (ms ns : List Monomial) → sum_of xs (multiplied ms ns) ≡ sum_of xs ms *ℤ sum_of xs ns
sum_of-multiplied xs [] ns = sym (zero-*ℤ (sum_of xs ns))
sum_of-multiplied xs (m ∷ ms) ns =
    sum_of-added xs (scaled m ns) (multiplied ms ns)
    ∙ ap (λ s. s +ℤ sum_of xs (multiplied ms ns)) (sum_of-scaled xs m ns)
    ∙ ap (λ s. (m.coefficient *ℤ product_of xs m.variables) *ℤ sum_of xs ns +ℤ s) (sum_of-multiplied xs ms ns)
    ∙ sym (+ℤ-*ℤ (m.coefficient *ℤ product_of xs m.variables) (sum_of xs ms) (sum_of xs ns))

-- ---- terms as sums of monomials

-- the sum of monomials that a term comes to, each list of variables once
abbrev pub expanded : Term → List Monomial
expanded (var n) = record { coefficient = pos 1; variables = n ∷ [] } ∷ []
expanded (num z) = record { coefficient = z; variables = [] } ∷ []
expanded (minus t) = negated (expanded t)
expanded (s ⊕ t) = added (expanded s) (expanded t)
expanded (s ⊖ t) = added (negated (expanded t)) (expanded s)
expanded (s ⊛ t) = multiplied (expanded s) (expanded t)

alone : (z : ℤ) → pos 1 *ℤ (z *ℤ pos 1) +ℤ pos 0 ≡ z
alone z = omega (arith, ints)

constant : (z : ℤ) → z *ℤ pos 1 +ℤ pos 0 ≡ z
constant z = omega (arith, ints)

taken : (x y : ℤ) → neg_ℤ y +ℤ x ≡ x -ℤ y
taken x y = omega (arith, ints)

sum_of-expanded : (xs : List ℤ) (t : Term) → sum_of xs (expanded t) ≡ value xs t
sum_of-expanded xs (var n) = alone (value_at xs n)
sum_of-expanded xs (num z) = constant z
sum_of-expanded xs (minus t) = sum_of-negated xs (expanded t) ∙ ap neg_ℤ (sum_of-expanded xs t)
sum_of-expanded xs (s ⊕ t) =
    sum_of-added xs (expanded s) (expanded t) ∙ ap (λ n. n +ℤ sum_of xs (expanded t)) (sum_of-expanded xs s)
    ∙ ap (λ n. value xs s +ℤ n) (sum_of-expanded xs t)
sum_of-expanded xs (s ⊖ t) =
    sum_of-added xs (negated (expanded t)) (expanded s) ∙ ap (λ n. n +ℤ sum_of xs (expanded s)) (sum_of-negated xs (expanded t))
    ∙ taken (sum_of xs (expanded s)) (sum_of xs (expanded t)) ∙ ap (λ n. n -ℤ sum_of xs (expanded t)) (sum_of-expanded xs s)
    ∙ ap (λ n. value xs s -ℤ n) (sum_of-expanded xs t)
sum_of-expanded xs (s ⊛ t) =
    sum_of-multiplied xs (expanded s) (expanded t) ∙ ap (λ n. n *ℤ sum_of xs (expanded t)) (sum_of-expanded xs s)
    ∙ ap (λ n. value xs s *ℤ n) (sum_of-expanded xs t)

abbrev pub is_zero : ℤ → Bool
is_zero (pos n) = nat_eq n 0
is_zero (negsuc n) = false

is_zero-true : (z : ℤ) → is_zero z ≡ true → z ≡ pos 0
is_zero-true (pos n) e = ap pos (eqb-true n 0 e)
is_zero-true (negsuc n) e = cc

-- every coefficient is 0
abbrev pub vanishes : List Monomial → Bool
vanishes [] = true
vanishes (m ∷ ms) = elim (is_zero m.coefficient) [ true ↦ vanishes ms | false ↦ false ]

sum_of-vanishes : (xs : List ℤ) (ms : List Monomial) → vanishes ms ≡ true → sum_of xs ms ≡ pos 0
sum_of-vanishes xs [] e = refl
sum_of-vanishes xs (m ∷ ms) e =
    (elim (is_zero m.coefficient) as (λ b. is_zero m.coefficient ≡ b → elim b [ true ↦ vanishes ms | false ↦ false ] ≡ true → sum_of xs (m ∷ ms) ≡ pos 0) [
      | true ↦ λ zero_here rest.
          ap (λ c. c *ℤ product_of xs m.variables +ℤ sum_of xs ms) (is_zero-true m.coefficient zero_here)
          ∙ ap (λ s. s +ℤ sum_of xs ms) (zero-*ℤ (product_of xs m.variables)) ∙ +ℤ_idl (sum_of xs ms) ∙ sum_of-vanishes xs ms rest
      | false ↦ λ here rest. cc
    ]) refl e

-- two terms whose difference vanishes have one value, whatever the values of their variables are
pub identity : (xs : List ℤ) (s t : Term) → vanishes (expanded (s ⊖ t)) ≡ true → value xs s ≡ value xs t
identity xs s t gone =
    equal (value xs s) (value xs t) (sym (sum_of-expanded xs (s ⊖ t)) ∙ sum_of-vanishes xs (expanded (s ⊖ t)) gone)
  where
    equal : (x y : ℤ) → x -ℤ y ≡ pos 0 → x ≡ y
    equal x y e = omega (arith, ints)
