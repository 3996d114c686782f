-- Tables of known costs, and what waits.
use Rattle.std.proofs.Common.{◌≡◌, ◌≢◌, refl, sym, ◌∙◌, ap, subst, ℕ, zero, suc, ◌+◌, ◌*◌, ◌<◌, ◌≤◌, ◌⊎◌, inl, inr, List, [], ◌∷◌, Option, Some, None, length, get_or, set, replicate, Contains, IsPermutation, arith, get_or-set_same, get_or-set_other}
use Rattle.std.proofs.lemmas.Bool.{cases_eq, cases_lt}
use Rattle.std.proofs.lemmas.List.Sums.{sum_by-set, sum_by-le, sum_by-cons}
use Rattle.std.proofs.lemmas.List.Elements.{All-nil}
use Rattle.std.proofs.lemmas.List.Folds.{sum_by-replicate}
use Rattle.std.proofs.lemmas.List.Sorted.{IsPermutation-sym, Contains-permutation}
use Rattle.std.specs.declared.cmp.Reverse.{Reverse}
use Rattle.least_path.specs.Orders.{AtMost}
use Rattle.state_search.specs.Searching.{known_at, entry, Waits, unknown_of, unknowns_of, height_at, height_of}

-- what is known after a write
pub known_at-same : (table : List (Option ℕ)) (at : ℕ) (o : Option ℕ) → at < length table → known_at (set table at o) at ≡ o
known_at-same table at o below = get_or-set_same table at o None below

pub known_at-other : (table : List (Option ℕ)) (at s : ℕ) (o : Option ℕ) → s ≢ at → known_at (set table at o) s ≡ known_at table s
known_at-other table at s o apart = get_or-set_other table at s o None apart

-- a lower cost keeps what was at most a number at most that number
pub AtMost-lowered : (table : List (Option ℕ)) (at t a m : ℕ) → at < length table → (AtMost (known_at table at) t → ⊥) → AtMost (known_at table a) m →
    AtMost (known_at (set table at (Some t)) a) m
AtMost-lowered table at t a m below not_low low = of_place (cases_eq a at)
  where
    lower : (o : Option ℕ) → (AtMost o t → ⊥) → AtMost o m → t ≤ m
    lower None not_low low = absurd low
    lower (Some j) not_low low = by_order (cases_lt t j)
      where
        by_order : (t < j) ⊎ (j ≤ t) → t ≤ m
        by_order (inl h) = omega arith
        by_order (inr h) = absurd (not_low h)

    of_place : (a ≡ at) ⊎ (a ≡ at → ⊥) → AtMost (known_at (set table at (Some t)) a) m
    of_place (inl e) =
        let here : known_at (set table at (Some t)) a ≡ Some t = ap (known_at (set table at (Some t))) e ∙ known_at-same table at (Some t) below in
        subst (λ (o : Option ℕ). AtMost o m) (sym here) (lower (known_at table at) not_low (subst (λ (n : ℕ). AtMost (known_at table n) m) e low))
    of_place (inr apart) = subst (λ (o : Option ℕ). AtMost o m) (sym (known_at-other table at a (Some t) apart)) low

-- a state that gets its first cost is one fewer without one
pub unknowns_of-first : (table : List (Option ℕ)) (at t : ℕ) → at < length table → known_at table at ≡ None → unknowns_of (set table at (Some t)) + 1 ≡ unknowns_of table
unknowns_of-first table at t below none =
    let whole : unknowns_of (set table at (Some t)) + unknown_of (known_at table at) ≡ unknowns_of table + 0 = sum_by-set unknown_of table at (Some t) None below in
    let here : unknown_of (known_at table at) ≡ 1 = ap unknown_of none in
    sums (unknowns_of (set table at (Some t))) (unknown_of (known_at table at)) (unknowns_of table) whole here
  where
    sums : (m u n : ℕ) → m + u ≡ n + 0 → u ≡ 1 → m + 1 ≡ n
    sums m u n e f = omega arith

pub unknowns_of-again : (table : List (Option ℕ)) (at t j : ℕ) → at < length table → known_at table at ≡ Some j → unknowns_of (set table at (Some t)) ≡ unknowns_of table
unknowns_of-again table at t j below some =
    let whole : unknowns_of (set table at (Some t)) + unknown_of (known_at table at) ≡ unknowns_of table + 0 = sum_by-set unknown_of table at (Some t) None below in
    let here : unknown_of (known_at table at) ≡ 0 = ap unknown_of some in
    sums (unknowns_of (set table at (Some t))) (unknown_of (known_at table at)) (unknowns_of table) whole here
  where
    sums : (m u n : ℕ) → m + u ≡ n + 0 → u ≡ 0 → m ≡ n
    sums m u n e f = omega arith

-- a cost that is not as low as one that is known is below it
pub below_known : (o : Option ℕ) (t j : ℕ) → o ≡ Some j → (AtMost o t → ⊥) → t < j
below_known o t j e not_low = by_order (cases_lt t j)
  where
    by_order : (t < j) ⊎ (j ≤ t) → t < j
    by_order (inl h) = h
    by_order (inr h) = absurd (not_low (subst (λ (q : Option ℕ). AtMost q t) (sym e) h))

-- a lower cost lowers the whole
pub height_of-lowered : (top : ℕ) (table : List (Option ℕ)) (at t : ℕ) → at < length table → t < top → (AtMost (known_at table at) t → ⊥) →
    height_of top (set table at (Some t)) + 1 ≤ height_of top table
height_of-lowered top table at t below under not_low =
    sums (height_of top (set table at (Some t))) (height_at top (known_at table at)) (height_of top table) whole (above (known_at table at) refl)
  where
    whole : height_of top (set table at (Some t)) + height_at top (known_at table at) ≡ height_of top table + t
    whole = sum_by-set (height_at top) table at (Some t) None below

    above : (o : Option ℕ) → known_at table at ≡ o → t < height_at top (known_at table at)
    above None e = subst (λ (n : ℕ). t < n) (sym (ap (height_at top) e)) under
    above (Some j) e = subst (λ (n : ℕ). t < n) (sym (ap (height_at top) e)) (below_known (known_at table at) t j e not_low)

    sums : (m u n : ℕ) → m + u ≡ n + t → t < u → m + 1 ≤ n
    sums m u n e f = omega arith

-- what stands in a list with one more at its front
pub Contains-cases : {X : Type 0} (y x : X) (ys : List X) → Contains (y ∷ ys) x → (y ≡ x) ⊎ Contains ys x
Contains-cases y x ys h = of_place h.0 h.1 h.2
  where
    of_place : (k : ℕ) → k < suc (length ys) → get_or (y ∷ ys) k x ≡ x → (y ≡ x) ⊎ Contains ys x
    of_place zero below e = inl e
    of_place (suc k) below e = inr (k, (omega arith), e)

pub Contains-front : {X : Type 0} (y : X) (ys : List X) → Contains (y ∷ ys) y
Contains-front y ys = (0, (omega arith), refl)

pub Contains-behind : {X : Type 0} (y x : X) (ys : List X) → Contains ys x → Contains (y ∷ ys) x
Contains-behind y x ys h = (suc h.0, (omega (arith, h.1)), h.2)

pub same_point : (k s j t : ℕ) → entry k s ≡ entry j t → s ≡ t
same_point k s j t e = ap (λ (r : Reverse (ℕ × ℕ)). r.0.1) e

pub same_cost : (k s j t : ℕ) → entry k s ≡ entry j t → k ≡ j
same_cost k s j t e = ap (λ (r : Reverse (ℕ × ℕ)). r.0.0) e

-- a state that waits in a queue, where one entry was put in front or taken
pub Waits-pushed : (queue longer : List (Reverse (ℕ × ℕ))) (k s j t : ℕ) → IsPermutation (entry k s ∷ queue) longer → Waits queue t j → Waits longer t j
Waits-pushed queue longer k s j t moved h = Contains-permutation (entry k s ∷ queue) longer (entry j t) moved (Contains-behind (entry k s) (entry j t) queue h)

pub Waits-new : (queue longer : List (Reverse (ℕ × ℕ))) (k s : ℕ) → IsPermutation (entry k s ∷ queue) longer → Waits longer s k
Waits-new queue longer k s moved = Contains-permutation (entry k s ∷ queue) longer (entry k s) moved (Contains-front (entry k s) queue)

pub Waits-cases : (queue longer : List (Reverse (ℕ × ℕ))) (k s j t : ℕ) → IsPermutation (entry k s ∷ queue) longer → Waits longer t j →
    ((s ≡ t) × (k ≡ j)) ⊎ Waits queue t j
Waits-cases queue longer k s j t moved h =
    of_case (Contains-cases (entry k s) (entry j t) queue (Contains-permutation longer (entry k s ∷ queue) (entry j t) (IsPermutation-sym (entry k s ∷ queue) longer moved) h))
  where
    of_case : (entry k s ≡ entry j t) ⊎ Waits queue t j → ((s ≡ t) × (k ≡ j)) ⊎ Waits queue t j
    of_case (inl e) = inl (same_point k s j t e, same_cost k s j t e)
    of_case (inr w) = inr w

-- nothing is known at first
pub known_at-none : (n s : ℕ) → known_at (replicate n None) s ≡ None
known_at-none zero s = refl
known_at-none (suc n) zero = refl
known_at-none (suc n) (suc s) = known_at-none n s

pub unknowns_of-none : (n : ℕ) → unknowns_of (replicate n None) ≡ n
unknowns_of-none n =
    let all : unknowns_of (replicate n None) ≡ n * 1 = sum_by-replicate unknown_of n None in all ∙ (let one : n * 1 ≡ n = omega arith in one)

-- no more states are without a cost than there are
pub unknowns_of-le : (table : List (Option ℕ)) → unknowns_of table ≤ length table
unknowns_of-le [] = sum_by-le unknown_of 0 [] (All-nil (λ o. unknown_of o ≤ 0))
unknowns_of-le (None ∷ rest) = let more : unknowns_of rest ≤ length rest = unknowns_of-le rest in omega (arith, sum_by-cons unknown_of None rest)
unknowns_of-le (Some k ∷ rest) = let more : unknowns_of rest ≤ length rest = unknowns_of-le rest in omega (arith, sum_by-cons unknown_of (Some k) rest)
