-- Texts made number by number.
use Rattle.std.proofs.Common.{◌≡◌, sym, ◌∙◌, ap, subst, ℕ, zero, suc, ◌+◌, List, ◌++◌, arith, append_assoc, append-nil}
use Rattle.std.specs.List.{flat_map, range_with_len}

-- the texts of one more number
pub flat_range_more : {A : Type 0} (f : ℕ → List A) (a n j : ℕ) → a + n ≡ j → flat_map f (range_with_len a (n + 1)) ≡ flat_map f (range_with_len a n) ++ f j
flat_range_more f a zero j e = append-nil (f a) ∙ ap f (sum_zero e)
  where
    sum_zero : a + 0 ≡ j → a ≡ j
    sum_zero e = omega arith
flat_range_more f a (suc n) j e =
    let more : suc n + 1 ≡ suc (n + 1) = omega arith in
    subst (λ (m : ℕ). flat_map f (range_with_len a m) ≡ flat_map f (range_with_len a (suc n)) ++ f j) (sym more)
    (ap (λ xs. f a ++ xs) (flat_range_more f (a + 1) n j (omega (arith, e))) ∙ sym (append_assoc (f a) (flat_map f (range_with_len (a + 1) n)) (f j)))

-- a text that goes on with the text of the next number
pub pushed_more : (f : ℕ → List ℕ) (n : ℕ) (old before after : List ℕ) → before ≡ old ++ flat_map f (range_with_len 0 n) → after ≡ before ++ f n →
    after ≡ old ++ flat_map f (range_with_len 0 (n + 1))
pushed_more f n old before after was now =
    now ∙ ap (λ xs. xs ++ f n) was ∙ append_assoc old (flat_map f (range_with_len 0 n)) (f n) ∙ ap (λ xs. old ++ xs) (sym (flat_range_more f 0 n n (omega arith)))
