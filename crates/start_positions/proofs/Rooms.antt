-- There is always room for one more home: more even points lie round the origin than there are nodes.
use Rattle.std.proofs.Common.{◌≡◌, refl, sym, ◌∙◌, ap, ap₂, subst, ℕ, zero, suc, ◌+◌, ◌*◌, ◌/◌, ◌%◌, ◌<◌, ◌≤◌, Bool, true, false, cond, leb, ◌||◌, List, [], ◌∷◌, length, ℤ, pos, neg_ℤ, ◌-ℤ◌, ◌≤ℤ◌, arith}
use Rattle.std.proofs.lemmas.Int.{ints}
use Rattle.std.proofs.lemmas.Bool.{false_from_ne_true, leb-true}
use Rattle.std.proofs.lemmas.Nat.{div-add-mod', div_below, mod_below, mul-lt}
use Rattle.octi_grid.specs.declared.point.GridPoint.{GridPoint}
use Rattle.octi_grid.specs.Ways.{are_one}
use Rattle.octi_grid.specs.Legal.{is_among, is_even}
use Rattle.grid_board.specs.declared.bounds.Bounds.{Bounds}
use Rattle.grid_board.specs.Boards.{contains}
use Rattle.grid_board.proofs.Marks.{one_true}
use Rattle.grid_board.proofs.Within.{inside_test}
use Rattle.start_positions.specs.Cells.{root_from, root_up}
use Rattle.start_positions.specs.Nearest.{IsEvenLine}
use Rattle.start_positions.proofs.Rows.{even_point}

-- how many of the numbers below n pass a test
count : (ℕ → Bool) → ℕ → ℕ
count p zero = 0
count p (suc n) = cond (p n) (suc (count p n)) (count p n)

-- where not all pass, one fails
some_false : (p : ℕ → Bool) (n : ℕ) → count p n < n → (k : ℕ) × (k < n) × (p k ≡ false)
unfolding count
some_false p zero h = absurd (omega arith)
some_false p (suc n) h = by_test (p n) refl h (λ k. some_false p n k)
  where
    by_test : (t : Bool) → p n ≡ t → cond t (suc (count p n)) (count p n) < suc n → (count p n < n → (k : ℕ) × (k < n) × (p k ≡ false)) → (k : ℕ) × (k < suc n) × (p k ≡ false)
    by_test true e h later =
        let found : (k : ℕ) × (k < n) × (p k ≡ false) = later (omega arith) in
        (found.0, omega (arith, found.1), found.2)
    by_test false e h later = (n, omega arith, e)

count_or : (p q : ℕ → Bool) (n : ℕ) → count (λ k. p k || q k) n ≤ count p n + count q n
unfolding count
count_or p q zero = omega arith
count_or p q (suc n) = by_tests (p n) (q n) (count_or p q n)
  where
    by_tests : (t u : Bool) → count (λ k. p k || q k) n ≤ count p n + count q n
        → cond (t || u) (suc (count (λ k. p k || q k) n)) (count (λ k. p k || q k) n) ≤ cond t (suc (count p n)) (count p n) + cond u (suc (count q n)) (count q n)
    by_tests true true h = omega arith
    by_tests true false h = omega arith
    by_tests false true h = omega arith
    by_tests false false h = h

count_none : (p : ℕ → Bool) (n : ℕ) → ((k : ℕ) → k < n → p k ≡ false) → count p n ≡ 0
unfolding count
count_none p zero none = refl
count_none p (suc n) none = ap (λ t. cond t (suc (count p n)) (count p n)) (none n (omega arith)) ∙ count_none p n (λ k h. none k (omega arith))

count_one : (p : ℕ → Bool) (n : ℕ) → ((i j : ℕ) → i < n → j < n → p i ≡ true → p j ≡ true → i ≡ j) → count p n ≤ 1
unfolding count
count_one p zero one = omega arith
count_one p (suc n) one = by_test (p n) refl (count_one p n (λ i j h k f g. one i j (omega arith) (omega arith) f g))
  where
    by_test : (t : Bool) → p n ≡ t → count p n ≤ 1 → cond t (suc (count p n)) (count p n) ≤ 1
    by_test true e rest =
        let none : count p n ≡ 0 = count_none p n (λ k h. false_from_ne_true (p k) (λ f. (let same : k ≡ n = one k n (omega arith) (omega arith) f e in omega arith))) in
        omega arith
    by_test false e rest = rest

-- of different points at most as many are among others as those are
count_among : (f : ℕ → GridPoint) (n : ℕ) → ((i j : ℕ) → i < n → j < n → f i ≡ f j → i ≡ j) → (used : List GridPoint) → count (λ k. is_among used (f k)) n ≤ length used
count_among f n apart [] = let none = count_none (λ k. is_among [] (f k)) n (λ k h. refl) in omega arith
count_among f n apart (u ∷ us) =
    let first = count_one (λ k. are_one (f k) u) n (λ i j h k e g. apart i j h k (one_true (f i) u e ∙ sym (one_true (f j) u g))) in
    let rest = count_among f n apart us in
    let sum = count_or (λ k. are_one (f k) u) (λ k. is_among us (f k)) n in
    omega arith

-- even points round the origin, by number
abbrev even_at : ℕ → ℕ → ℤ
even_at m k = pos (2 * k) -ℤ pos (2 * (m / 2))

abbrev square_at : ℕ → ℕ → GridPoint
square_at m k = record { x = even_at m (k % m); y = even_at m (k / m) }

even_line : (m k : ℕ) → IsEvenLine (even_at m k)
even_line m k = omega (arith, ints)

even_low : (m k : ℕ) → neg_ℤ (pos m) ≤ℤ even_at m k
even_low m k = omega (arith, ints)

even_high : (m k : ℕ) → k < m → even_at m k ≤ℤ pos m
even_high m k h = omega (arith, ints)

even_apart : (m i j : ℕ) → even_at m i ≡ even_at m j → i ≡ j
even_apart m i j e = omega (arith, ints)

squares_apart : (m i j : ℕ) → square_at m i ≡ square_at m j → i ≡ j
squares_apart m i j e =
    let columns : i % m ≡ j % m = even_apart m (i % m) (j % m) (ap (λ (p : GridPoint). p.x) e) in
    let rows : i / m ≡ j / m = even_apart m (i / m) (j / m) (ap (λ (p : GridPoint). p.y) e) in
    sym (div-add-mod' i m) ∙ ap₂ (λ (a b : ℕ). a * m + b) rows columns ∙ div-add-mod' j m

-- a grid has so many columns and rows at least on each side of the origin
pub record IsRoundOrigin (m : ℕ) (grid : Bounds) : Type 0 where
  pub left : grid.left ≤ℤ neg_ℤ (pos m)
  pub right : pos m ≤ℤ grid.right
  pub bottom : grid.bottom ≤ℤ neg_ℤ (pos m)
  pub top : pos m ≤ℤ grid.top

-- an even point of a grid that is not used
pub record IsUnused (grid : Bounds) (used : List GridPoint) (p : GridPoint) : Type 0 where
  pub inside : contains grid p ≡ true
  pub even : is_even p ≡ true
  pub unused : is_among used p ≡ false

pub room : (m : ℕ) (grid : Bounds) (used : List GridPoint) → 0 < m → IsRoundOrigin m grid → length used < m * m → (p : GridPoint) × IsUnused grid used p
room m grid used some round few = from_number (some_false (λ k. is_among used (square_at m k)) (m * m) less)
  where
    less : count (λ k. is_among used (square_at m k)) (m * m) < m * m
    less =
        let most = count_among (square_at m) (m * m) (λ i j h k e. squares_apart m i j e) used in
        omega arith

    from_number : (k : ℕ) × (k < m * m) × (is_among used (square_at m k) ≡ false) → (p : GridPoint) × IsUnused grid used p
    from_number found =
        let k = found.0 in
        let column : k % m < m = mod_below k m some in
        let row : k / m < m = div_below k m m some found.1 in
        let west = even_low m (k % m) in
        let east = even_high m (k % m) column in
        let south = even_low m (k / m) in
        let north = even_high m (k / m) row in (
          square_at m k,
          record {
            inside = inside_test grid (square_at m k) (record {
              west = omega (arith, ints, round.left);
              east = omega (arith, ints, round.right);
              south = omega (arith, ints, round.bottom);
              north = omega (arith, ints, round.top);
            });
            even = even_point (square_at m k) (even_line m (k % m)) (even_line m (k / m));
            unused = found.2;
          },
        )

-- the root, rounded up
root_reaches : (n m fuel : ℕ) → n ≤ (m + fuel) * (m + fuel) → n ≤ root_from n m fuel * root_from n m fuel
root_reaches n m zero h = let same : m + 0 ≡ m = omega arith in subst (λ (k : ℕ). n ≤ k * k) same h
root_reaches n m (suc fuel) h = by_test (leb n (m * m)) refl (root_reaches n (m + 1) fuel)
  where
    by_test : (t : Bool) → leb n (m * m) ≡ t → (n ≤ (m + 1 + fuel) * (m + 1 + fuel) → n ≤ root_from n (m + 1) fuel * root_from n (m + 1) fuel)
        → n ≤ cond t m (root_from n (m + 1) fuel) * cond t m (root_from n (m + 1) fuel)
    by_test true e later = leb-true n (m * m) e
    by_test false e later = later (let same : m + 1 + fuel ≡ m + suc fuel = omega arith in subst (λ (k : ℕ). n ≤ k * k) (sym same) h)

root_most : (n m fuel : ℕ) → root_from n m fuel ≤ m + fuel
root_most n m zero = omega arith
root_most n m (suc fuel) = by_test (leb n (m * m)) (root_most n (m + 1) fuel)
  where
    by_test : (t : Bool) → root_from n (m + 1) fuel ≤ m + 1 + fuel → cond t m (root_from n (m + 1) fuel) ≤ m + suc fuel
    by_test true h = omega arith
    by_test false h = omega arith

pub root_enough : (n : ℕ) → n ≤ 10000 → n ≤ root_up n * root_up n
unfolding root_up
root_enough n h = root_reaches n 0 100 h

pub root_few : (n : ℕ) → root_up n ≤ 100
unfolding root_up
root_few n = root_most n 0 100

pub margin_enough : (n : ℕ) → n ≤ 10000 → n < (4 + root_up n) * (4 + root_up n)
margin_enough n h =
    let root = root_enough n h in
    let more : root_up n * root_up n < (4 + root_up n) * (4 + root_up n) = mul-lt (root_up n) (root_up n) (4 + root_up n) (4 + root_up n) (omega arith) (omega arith) in
    omega arith
