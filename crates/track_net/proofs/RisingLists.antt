-- Rising lists of numbers are the same where they have the same numbers.
use Rattle.std.proofs.Common.{◌≡◌, refl, sym, ◌∙◌, ap, subst, ℕ, zero, suc, ◌<◌, ◌⊎◌, inl, inr, List, [], ◌∷◌, length, get_or, AllPairs, Contains, arith}

Contains-cases : (y x : ℕ) (ys : List ℕ) → Contains (y ∷ ys) x → (y ≡ x) ⊎ Contains ys x
Contains-cases y x ys h = of_place h.0 h.1 h.2
  where
    of_place : (k : ℕ) → k < suc (length ys) → get_or (y ∷ ys) k x ≡ x → (y ≡ x) ⊎ Contains ys x
    of_place zero below e = inl e
    of_place (suc k) below e = inr (k, (omega arith), e)

Contains-behind : (y x : ℕ) (ys : List ℕ) → Contains ys x → Contains (y ∷ ys) x
Contains-behind y x ys h = (suc h.0, (omega (arith, h.1)), h.2)

above_first : (x k : ℕ) (xs : List ℕ) → AllPairs (λ m n. m < n) (x ∷ xs) → Contains xs k → x < k
above_first x k xs rising h = subst (λ (n : ℕ). x < n) h.2 (rising 0 (suc h.0) k (omega arith) (omega (arith, h.1)))

rising_tail : (x : ℕ) (xs : List ℕ) → AllPairs (λ m n. m < n) (x ∷ xs) → AllPairs (λ m n. m < n) xs
rising_tail x xs rising i j d order below = rising (suc i) (suc j) d (omega arith) (omega arith)

pub same_where_rising : (xs ys : List ℕ) → AllPairs (λ m n. m < n) xs → AllPairs (λ m n. m < n) ys → ((k : ℕ) → Contains xs k → Contains ys k) → ((k : ℕ) → Contains ys k → Contains xs k) →
    xs ≡ ys
same_where_rising [] [] up_x up_y there back = refl
same_where_rising [] (y ∷ ys) up_x up_y there back = let h = back y (0, (omega arith), refl) in let none : h.0 < 0 = h.1 in absurd (omega arith)
same_where_rising (x ∷ xs) [] up_x up_y there back = let h = there x (0, (omega arith), refl) in let none : h.0 < 0 = h.1 in absurd (omega arith)
same_where_rising (x ∷ xs) (y ∷ ys) up_x up_y there back =
    ap (λ z. z ∷ xs) first ∙ ap (λ zs. y ∷ zs) (same_where_rising xs ys (rising_tail x xs up_x) (rising_tail y ys up_y) tail_there tail_back)
  where
    first : x ≡ y
    first = of_cases (Contains-cases y x ys (there x (0, (omega arith), refl))) (Contains-cases x y xs (back y (0, (omega arith), refl)))
      where
        of_cases : (y ≡ x) ⊎ Contains ys x → (x ≡ y) ⊎ Contains xs y → x ≡ y
        of_cases (inl e) k = sym e
        of_cases (inr h) (inl e) = e
        of_cases (inr h) (inr k) =
            let above : y < x = above_first y x ys up_y h in
            let below : x < y = above_first x y xs up_x k in
            absurd (omega arith)

    tail_there : (k : ℕ) → Contains xs k → Contains ys k
    tail_there k h = of_case (Contains-cases y k ys (there k (Contains-behind x k xs h)))
      where
        of_case : (y ≡ k) ⊎ Contains ys k → Contains ys k
        of_case (inr g) = g
        of_case (inl e) = let above : x < k = above_first x k xs up_x h in let same : x ≡ y = first in absurd (omega arith)

    tail_back : (k : ℕ) → Contains ys k → Contains xs k
    tail_back k h = of_case (Contains-cases x k xs (back k (Contains-behind y k ys h)))
      where
        of_case : (x ≡ k) ⊎ Contains xs k → Contains xs k
        of_case (inr g) = g
        of_case (inl e) = let above : y < k = above_first y k ys up_y h in let same : x ≡ y = first in absurd (omega arith)
