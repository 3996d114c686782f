-- The first of the greatest numbers of a list, found from front to back.
use Rattle.std.proofs.Common.{◌≡◌, ◌∙◌, refl, sym, ap, ap₂, ℕ, zero, suc, ◌+◌, ◌<◌, ◌≤◌, ◌⊎◌, inl, inr, Bool, true, false, cond, eqb, nat_lt, max, List, [], ◌∷◌, length, map, drop, get_or, arith}
use Rattle.std.proofs.lemmas.Bool.{cases_lt, eq-eqb, ne_eqb, lt-ltb, le-ltb}
use Rattle.std.proofs.lemmas.List.{drop_all, drop_more}
use Rattle.map_base.specs.declared.ids.NodeId.{NodeId}
use Rattle.line_chains.specs.Bends.{first_place, greatest}

-- the place so far and its number, and the next numbers from place i on
abbrev pub scan : ℕ × ℕ → ℕ → List ℕ → ℕ × ℕ
scan best i [] = best
scan best i (x ∷ xs) = scan (cond (nat_lt best.1 x) (i, x) best) (i + 1) xs

-- what comes of it
abbrev found : ℕ × ℕ → ℕ → List ℕ → ℕ × ℕ
found best i xs = cond (nat_lt best.1 (greatest xs)) (i + first_place (greatest xs) xs, greatest xs) best

pub scan_is : (best : ℕ × ℕ) (i : ℕ) (xs : List ℕ) → scan best i xs ≡ found best i xs
scan_is best i [] = let none : nat_lt best.1 0 ≡ false = le-ltb best.1 0 (omega arith) in sym (ap (λ t. cond t (i + 0, 0) best) none)
scan_is best i (x ∷ xs) = scan_is (cond (nat_lt best.1 x) (i, x) best) (i + 1) xs ∙ of_first (cases_lt best.1 x)
  where
    g : ℕ
    g = greatest xs

    later : (b : ℕ × ℕ) → b.1 < g → x < g → best.1 < g → found b (i + 1) xs ≡ found best i (x ∷ xs)
    later b h above low =
        let most : max x g ≡ g = omega arith in
        ap (λ t. cond t (i + 1 + first_place g xs, g) b) (lt-ltb b.1 g h)
        ∙ ap₂ (λ (j k : ℕ). (let p : ℕ × ℕ = (j, k) in p)) (omega arith) refl
        ∙ sym (ap (λ t. (let p : ℕ × ℕ = (i + cond t 0 (suc (first_place g xs)), g) in p)) (ne_eqb x g (λ e. omega (arith, e))))
        ∙ sym (ap (λ m. (let p : ℕ × ℕ = (i + first_place m (x ∷ xs), m) in p)) most)
        ∙ sym (ap (λ t. cond t (i + first_place (max x g) (x ∷ xs), max x g) best) (lt-ltb best.1 (max x g) (omega arith)))

    of_first : (best.1 < x) ⊎ (x ≤ best.1) → found (cond (nat_lt best.1 x) (i, x) best) (i + 1) xs ≡ found best i (x ∷ xs)
    of_first (inl low) = ap (λ t. found (cond t (i, x) best) (i + 1) xs) (lt-ltb best.1 x low) ∙ of_rest (cases_lt x g)
      where
        of_rest : (x < g) ⊎ (g ≤ x) → found (i, x) (i + 1) xs ≡ found best i (x ∷ xs)
        of_rest (inl above) = later (i, x) above above (omega arith)
        of_rest (inr not_above) =
            let most : max x g ≡ x = omega arith in
            ap (λ t. cond t (i + 1 + first_place g xs, g) (i, x)) (le-ltb x g not_above)
            ∙ ap (λ (j : ℕ). (let p : ℕ × ℕ = (j, x) in p)) (omega arith)
            ∙ sym (ap (λ t. (let p : ℕ × ℕ = (i + cond t 0 (suc (first_place x xs)), x) in p)) (eq-eqb x x refl))
            ∙ sym (ap (λ m. (let p : ℕ × ℕ = (i + first_place m (x ∷ xs), m) in p)) most)
            ∙ sym (ap (λ t. cond t (i + first_place (max x g) (x ∷ xs), max x g) best) (lt-ltb best.1 (max x g) (omega arith)))
    of_first (inr not_low) = ap (λ t. found (cond t (i, x) best) (i + 1) xs) (le-ltb best.1 x not_low) ∙ of_rest (cases_lt best.1 g)
      where
        of_rest : (best.1 < g) ⊎ (g ≤ best.1) → found best (i + 1) xs ≡ found best i (x ∷ xs)
        of_rest (inl above) = later best above (omega arith) above
        of_rest (inr not_above) =
            ap (λ t. cond t (i + 1 + first_place g xs, g) best) (le-ltb best.1 g not_above)
            ∙ sym (ap (λ t. cond t (i + first_place (max x g) (x ∷ xs), max x g) best) (le-ltb best.1 (max x g) (omega arith)))

-- from the first number of a list
pub scan_all : (x : ℕ) (xs : List ℕ) → scan (0, x) 1 xs ≡ (let p : ℕ × ℕ = (first_place (greatest (x ∷ xs)) (x ∷ xs), greatest (x ∷ xs)) in p)
scan_all x xs = scan_is (0, x) 1 xs ∙ of_rest (cases_lt x (greatest xs))
  where
    g : ℕ
    g = greatest xs

    of_rest : (x < g) ⊎ (g ≤ x) → found (0, x) 1 xs ≡ (let p : ℕ × ℕ = (first_place (max x g) (x ∷ xs), max x g) in p)
    of_rest (inl above) =
        let most : max x g ≡ g = omega arith in
        ap (λ t. cond t (1 + first_place g xs, g) (0, x)) (lt-ltb x g above)
        ∙ ap (λ (j : ℕ). (let p : ℕ × ℕ = (j, g) in p)) (omega arith)
        ∙ sym (ap (λ t. (let p : ℕ × ℕ = (cond t 0 (suc (first_place g xs)), g) in p)) (ne_eqb x g (λ e. omega (arith, e))))
        ∙ sym (ap (λ m. (let p : ℕ × ℕ = (first_place m (x ∷ xs), m) in p)) most)
    of_rest (inr not_above) =
        let most : max x g ≡ x = omega arith in
        ap (λ t. cond t (1 + first_place g xs, g) (0, x)) (le-ltb x g not_above)
        ∙ sym (ap (λ t. (let p : ℕ × ℕ = (cond t 0 (suc (first_place x xs)), x) in p)) (eq-eqb x x refl))
        ∙ sym (ap (λ m. (let p : ℕ × ℕ = (first_place m (x ∷ xs), m) in p)) most)

-- one node more, and all of them
pub scan_more : (f : NodeId → ℕ) (inner : List NodeId) (i : ℕ) (d : NodeId) (best new whole : ℕ × ℕ) → i < length inner → new ≡ cond (nat_lt best.1 (f (get_or inner i d))) (i, f (get_or inner i d)) best
    → scan best i (map f (drop i inner)) ≡ whole → scan new (i + 1) (map f (drop (i + 1) inner)) ≡ whole
scan_more f inner i d best new whole h step e =
    ap (λ (b : ℕ × ℕ). scan b (i + 1) (map f (drop (i + 1) inner))) step
    ∙ sym (ap (λ (v : List NodeId). scan best i (map f v)) (drop_more inner i d h))
    ∙ e

pub scan_over : (f : NodeId → ℕ) (inner : List NodeId) (i : ℕ) (best whole : ℕ × ℕ) → length inner ≤ i → scan best i (map f (drop i inner)) ≡ whole → best ≡ whole
scan_over f inner i best whole h e = sym (ap (λ (v : List NodeId). scan best i (map f v)) (drop_all i inner h)) ∙ e

pub scanned_all : (f : NodeId → ℕ) (inner : List NodeId) (d : NodeId) → 0 < length inner
    → scan (0, f (get_or inner 0 d)) 1 (map f (drop 1 inner)) ≡ (let p : ℕ × ℕ = (first_place (greatest (map f inner)) (map f inner), greatest (map f inner)) in p)
scanned_all f [] d h = absurd (omega (arith, h))
scanned_all f (n ∷ ns) d h = scan_all (f n) (map f ns)
