-- What waits at a level and apart from it, where a state is let wait or taken.
use Rattle.std.proofs.Common.{◌≡◌, refl, sym, ap, subst, ℕ, ◌<◌, ◌≤◌, ◌⊎◌, inl, inr, List, [], ◌∷◌, ◌++◌, map, Option, Some, None, length, Contains, IsPermutation, arith}
use Rattle.std.specs.declared.cmp.Reverse.{Reverse}
use Rattle.std.proofs.lemmas.List.Elements.{Contains-append_cases}
use Rattle.std.proofs.lemmas.List.Sorted.{IsPermutation-append_right, IsPermutation-middle, IsPermutation-sym, IsPermutation-trans}
use Rattle.state_search.specs.Searching.{all_waiting, entry, HasBelow, IsBeyond, Waits}
use Rattle.state_search.proofs.Tables.{Contains-cases, same_cost}

abbrev Waiting : Type 0
Waiting = List (Reverse (ℕ × ℕ))

-- what waits does so at the level, or apart from it
at_level : (level : ℕ) (here : List ℕ) (s k : ℕ) → Contains (map (entry level) here) (entry k s) → (level ≡ k) × (0 < length here)
at_level level [] s k h = let nowhere : h.0 < 0 = h.1 in absurd (omega arith)
at_level level (x ∷ here) s k h = of_case (Contains-cases (entry level x) (entry k s) (map (entry level) here) h) (λ g. at_level level here s k g)
  where
    of_case : (entry level x ≡ entry k s) ⊎ Contains (map (entry level) here) (entry k s) → (Contains (map (entry level) here) (entry k s) → (level ≡ k) × (0 < length here)) →
        (level ≡ k) × (0 < length (x ∷ here))
    of_case (inl e) rest = (same_cost level x k s e, omega arith)
    of_case (inr g) rest = ((rest g).0, omega arith)

pub waiting_cases : (level : ℕ) (here : List ℕ) (apart : Waiting) (s k : ℕ) → Waits (all_waiting level here apart) s k → ((level ≡ k) × (0 < length here)) ⊎ Waits apart s k
waiting_cases level here apart s k h = of_case (Contains-append_cases (map (entry level) here) apart (entry k s) h)
  where
    of_case : Contains (map (entry level) here) (entry k s) ⊎ Contains apart (entry k s) → ((level ≡ k) × (0 < length here)) ⊎ Waits apart s k
    of_case (inl g) = inl (at_level level here s k g)
    of_case (inr g) = inr g

-- one more at the level
at_end : (level at : ℕ) (here : List ℕ) (apart : Waiting) → map (entry level) here ++ entry level at ∷ apart ≡ all_waiting level (here ++ at ∷ []) apart
at_end level at [] apart = refl
at_end level at (x ∷ here) apart = ap (λ (rest : Waiting). entry level x ∷ rest) (at_end level at here apart)

pub one_here : (level at : ℕ) (here : List ℕ) (apart : Waiting) → IsPermutation (all_waiting level (here ++ at ∷ []) apart) (entry level at ∷ all_waiting level here apart)
one_here level at here apart =
    subst (λ (all : Waiting). IsPermutation all (entry level at ∷ all_waiting level here apart)) (at_end level at here apart) (IsPermutation-middle (map (entry level) here) (entry level at) apart)

-- one more apart from it
pub one_apart : (level k at : ℕ) (here : List ℕ) (apart rest : Waiting) → IsPermutation apart (entry k at ∷ rest) → IsPermutation (all_waiting level here apart) (entry k at ∷ all_waiting level here rest)
one_apart level k at here apart rest moved =
    IsPermutation-trans (all_waiting level here apart) (map (entry level) here ++ entry k at ∷ rest) (entry k at ∷ all_waiting level here rest)
    (IsPermutation-append_right (map (entry level) here) apart (entry k at ∷ rest) moved) (IsPermutation-middle (map (entry level) here) (entry k at) rest)

-- what is no less than something beyond a limit is beyond it
pub farther_beyond : (limit : Option ℕ) (k j : ℕ) → k ≤ j → IsBeyond limit k → IsBeyond limit j
farther_beyond None k j h b = b
farther_beyond (Some d) k j h b = let beyond : d < k = b in omega (arith, h, beyond)

-- where the level is the least, all that waits is no less
pub all_no_less : (level : ℕ) (here : List ℕ) (apart : Waiting) → ((s k : ℕ) → Waits apart s k → level ≤ k) → (s k : ℕ) → Waits (all_waiting level here apart) s k → level ≤ k
all_no_less level here apart least s k h = of_case (waiting_cases level here apart s k h)
  where
    of_case : ((level ≡ k) × (0 < length here)) ⊎ Waits apart s k → level ≤ k
    of_case (inl e) = omega (arith, e.0)
    of_case (inr g) = least s k g

-- where it is not, what is no more than all that waits apart is no more than all that waits
pub apart_no_more : (level least : ℕ) (here : List ℕ) (apart : Waiting) → (here ≡ []) ⊎ HasBelow level apart → ((s k : ℕ) → Waits apart s k → least ≤ k) → (s k : ℕ) → Waits (all_waiting level here apart) s k → least ≤ k
apart_no_more level least here apart lower all s k h = of_case (waiting_cases level here apart s k h)
  where
    of_lower : (here ≡ []) ⊎ HasBelow level apart → level ≡ k → 0 < length here → least ≤ k
    of_lower (inl e) same some = absurd (omega (arith, ap length e, some))
    of_lower (inr b) same some = let no_more = all b.0 b.1 b.2 in omega (arith, no_more, b.3, same)

    of_case : ((level ≡ k) × (0 < length here)) ⊎ Waits apart s k → least ≤ k
    of_case (inl e) = of_lower lower e.0 e.1
    of_case (inr g) = all s k g

-- and where all that waits apart is beyond a limit, all that waits is
pub apart_beyond : (limit : Option ℕ) (level : ℕ) (here : List ℕ) (apart : Waiting) → (here ≡ []) ⊎ HasBelow level apart → ((s k : ℕ) → Waits apart s k → IsBeyond limit k) →
    (s k : ℕ) → Waits (all_waiting level here apart) s k → IsBeyond limit k
apart_beyond limit level here apart lower all s k h = of_case (waiting_cases level here apart s k h)
  where
    of_lower : (here ≡ []) ⊎ HasBelow level apart → level ≡ k → 0 < length here → IsBeyond limit k
    of_lower (inl e) same some = absurd (omega (arith, ap length e, some))
    of_lower (inr b) same some = farther_beyond limit b.1 k (omega (arith, b.3, same)) (all b.0 b.1 b.2)

    of_case : ((level ≡ k) × (0 < length here)) ⊎ Waits apart s k → IsBeyond limit k
    of_case (inl e) = of_lower lower e.0 e.1
    of_case (inr g) = all s k g

-- ---- the same of a queue that is seen as all that waits

pub pushed_here : (level k at : ℕ) (here more : List ℕ) (apart old : Waiting) → all_waiting level here apart ≡ old → k ≡ level → more ≡ here ++ at ∷ [] → IsPermutation (entry k at ∷ old) (all_waiting level more apart)
pushed_here level k at here more apart old view same longer =
    subst (λ (all : Waiting). IsPermutation (entry k at ∷ all) (all_waiting level more apart)) view
    (subst (λ (items : List ℕ). IsPermutation (entry k at ∷ all_waiting level here apart) (all_waiting level items apart)) (sym longer)
    (subst (λ (n : ℕ). IsPermutation (entry n at ∷ all_waiting level here apart) (all_waiting level (here ++ at ∷ []) apart)) (sym same)
    (IsPermutation-sym (all_waiting level (here ++ at ∷ []) apart) (entry level at ∷ all_waiting level here apart) (one_here level at here apart))))

pub pushed_apart : (level k at : ℕ) (here : List ℕ) (apart more old : Waiting) → all_waiting level here apart ≡ old → IsPermutation (entry k at ∷ apart) more → IsPermutation (entry k at ∷ old) (all_waiting level here more)
pushed_apart level k at here apart more old view moved =
    subst (λ (all : Waiting). IsPermutation (entry k at ∷ all) (all_waiting level here more)) view
    (IsPermutation-sym (all_waiting level here more) (entry k at ∷ all_waiting level here apart) (one_apart level k at here more apart (IsPermutation-sym (entry k at ∷ apart) more moved)))

pub taken_here : (level at : ℕ) (here rest : List ℕ) (apart old : Waiting) → all_waiting level here apart ≡ old → here ≡ rest ++ at ∷ [] → IsPermutation old (entry level at ∷ all_waiting level rest apart)
taken_here level at here rest apart old view last =
    subst (λ (all : Waiting). IsPermutation all (entry level at ∷ all_waiting level rest apart)) view
    (subst (λ (items : List ℕ). IsPermutation (all_waiting level items apart) (entry level at ∷ all_waiting level rest apart)) (sym last) (one_here level at rest apart))

pub taken_apart : (level k at : ℕ) (here : List ℕ) (apart rest old : Waiting) → all_waiting level here apart ≡ old → IsPermutation apart (entry k at ∷ rest) → IsPermutation old (entry k at ∷ all_waiting level here rest)
taken_apart level k at here apart rest old view moved = subst (λ (all : Waiting). IsPermutation all (entry k at ∷ all_waiting level here rest)) view (one_apart level k at here apart rest moved)
