-- The least number of parts.
use Rattle.std.proofs.Common.{◌≡◌, refl, sym, ◌∙◌, ap, ℕ, zero, suc, ◌+◌, ◌-◌, ◌*◌, ◌<◌, ◌≤◌, true, false, ◌⊎◌, inl, inr, arith}
use Rattle.std.proofs.Math.Nat.{mul-le-mul, mul-le-mul_right, le_trans, le-mul_of_pos_right}
use Rattle.std.proofs.lemmas.Bool.{leb-true, leb-false, cases_lt}
use Rattle.std.proofs.lemmas.Grind.{div_ceil_times}
use Rattle.std.specs.Int.{div_ceil}
use Rattle.shape_track.specs.Samples.{reaches, first_that_reaches, parts_of}

-- r reaches, and no lesser number that is at least 1 does
pub record IsLeastParts (near d r : ℕ) : Type 0 where
  pub some : 1 ≤ r
  pub reaches_far : 4 * d ≤ r * r * (near * near)
  pub least : (n : ℕ) → 1 ≤ n → 4 * d ≤ n * n * (near * near) → r ≤ n

grow : (a b q : ℕ) → a ≤ b → a * a * q ≤ b * b * q
grow a b q h = mul-le-mul_right q (mul-le-mul h h)

-- a search from a number not above the least one finds it
first_is : (near d r n more : ℕ) → IsLeastParts near d r → 1 ≤ n → n ≤ r → r ≤ n + more → first_that_reaches near d n more ≡ r
first_is near d r n zero l some below above = omega arith
first_is near d r n (suc more) l some below above =
    (elim (reaches near d n) as (λ b. reaches near d n ≡ b → elim b [ true ↦ n | false ↦ first_that_reaches near d (n + 1) more ] ≡ r) [
      | true ↦ λ e. let upper : r ≤ n = l.least n some (leb-true (4 * d) (n * n * (near * near)) e) in omega arith
      | false ↦ λ e. first_is near d r (n + 1) more l (omega arith) (later (leb-false (4 * d) (n * n * (near * near)) e)) (omega arith)
    ]) refl
  where
    later : n * n * (near * near) < 4 * d → n + 1 ≤ r
    later short = by_order (cases_lt n r)
      where
        clash : (p q f : ℕ) → p ≤ q → f ≤ p → q < f → ⊥
        clash p q f grows far short = omega arith

        by_order : (n < r) ⊎ (r ≤ n) → n + 1 ≤ r
        by_order (inl h) = omega arith
        by_order (inr h) =
            absurd (clash (r * r * (near * near)) (n * n * (near * near)) (4 * d) (grow r n (near * near) h) l.reaches_far short)

-- the least number of parts is what the definition finds
pub parts_of_is : (near d r : ℕ) → 0 < near → IsLeastParts near d r → parts_of near d ≡ r
parts_of_is near d r some l = first_is near d r 1 (2 * d) l (omega arith) l.some (bounded (2 * d) (l.least (1 + 2 * d) (omega arith) enough))
  where
    square : (d : ℕ) → 4 * d ≤ (1 + 2 * d) * (1 + 2 * d)
    square d = omega arith

    enough : 4 * d ≤ (1 + 2 * d) * (1 + 2 * d) * (near * near)
    enough = le_trans (square d) (le-mul_of_pos_right ((1 + 2 * d) * (1 + 2 * d)) (mul-le-mul some some))

    bounded : (m : ℕ) → r ≤ 1 + m → r ≤ 1 + m
    bounded m h = h

-- one more than the root of the squares of half of `near` that are wanted, less one, is the least number of parts
pub least_by_root : (near d squares s : ℕ) → 4 * d ≤ squares * (near * near) → squares * (near * near) < 4 * d + near * near → s * s ≤ squares - 1 →
    squares - 1 < (s + 1) * (s + 1) → IsLeastParts near d (s + 1)
least_by_root near d squares s enough tight root next = record {
  some = omega arith;
  reaches_far = le_trans enough (mul-le-mul_right (near * near) (up squares ((s + 1) * (s + 1)) next));
  least = λ n some far. least n some far;
}
  where
    up : (a b : ℕ) → a - 1 < b → a ≤ b
    up a b h = omega arith

    least : (n : ℕ) → 1 ≤ n → 4 * d ≤ n * n * (near * near) → s + 1 ≤ n
    least n some far = by_order (cases_lt s n)
      where
        by_order : (s < n) ⊎ (n ≤ s) → s + 1 ≤ n
        by_order (inl h) = omega arith
        by_order (inr h) =
            let one : 1 ≤ n * n = mul-le-mul some some in
            let under : n * n ≤ squares - 1 = le_trans (mul-le-mul h h) root in
            let room : 1 ≤ squares = omega arith in
            let weighed : n * n * (near * near) ≤ (squares - 1) * (near * near) = mul-le-mul_right (near * near) under in
            let less : (squares - 1) * (near * near) + near * near ≡ squares * (near * near) = split squares (near * near) room in
            absurd (clash_of (n * n * (near * near)) ((squares - 1) * (near * near)) (squares * (near * near)) (near * near) (4 * d) weighed less far tight)
          where
            expand : (k w : ℕ) → (k + 1) * w ≡ k * w + w
            expand k w = omega arith

            split : (m w : ℕ) → 1 ≤ m → (m - 1) * w + w ≡ m * w
            split m w h = let back : m ≡ m - 1 + 1 = omega arith in sym (ap (λ n. n * w) back ∙ expand (m - 1) w)

            clash_of : (p q t w f : ℕ) → p ≤ q → q + w ≡ t → f ≤ p → t < f + w → ⊥
            clash_of p q t w f weighed less far tight = omega arith

-- that, where the squares are rounded upwards
pub parts_by_root : (near d squares s : ℕ) → 0 < near → squares ≡ div_ceil (4 * d) (near * near) → s * s ≤ squares - 1 → squares - 1 < (s + 1) * (s + 1) →
    s + 1 ≡ parts_of near d
parts_by_root near d squares s some is root next =
    let bounds = div_ceil_times (4 * d) (near * near) (mul-le-mul some some) in
    let enough : 4 * d ≤ squares * (near * near) = rw is bounds.0 in
    let tight : squares * (near * near) < 4 * d + near * near = rw is bounds.1 in
    sym (parts_of_is near d (s + 1) some (least_by_root near d squares s enough tight root next))
