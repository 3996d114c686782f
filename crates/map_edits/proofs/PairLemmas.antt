-- Pairs by rising ids, and one pair put among them.
use Rattle.std.proofs.Common.{◌≡◌, ℕ, zero, suc, ◌<◌, ◌≤◌, List, [], ◌∷◌, length, All, get_or, refl, sym, ap, inl, inr, ◌⊎◌, ◌∙◌, arith}
use Rattle.std.specs.declared.cmp.Ordering.{Ordering}
use Rattle.std.specs.declared.cmp.Ordering.TheVariants.{Less, Equal, Greater}
use Rattle.std.specs.Ordering.{nat_cmp, match_ordering, ordering_index, ordering_reverse}
use Rattle.std.specs.List.{insert}
use Rattle.std.proofs.Math.ListN.{set}
use Rattle.std.specs.Cmp.Lexicographic.{slice_cmp, nat_list_cmp_total}
use Rattle.std.specs.List.Sorted.{IsNonDecreasingBy}
use Rattle.std.proofs.lemmas.List.Elements.{All-cons, All-head, All-tail}
use Rattle.map_base.specs.Settings.{AreRisingIds, IsImportance}
use Rattle.map_edits.specs.Effects.{with_pair}
use Rattle.map_edits.specs.Pairs.{IsPair, IsGap}

abbrev pub Pair : Type 0
Pair = List ℕ × ℕ

-- how one id lies to another
abbrev pub order : List ℕ → List ℕ → Ordering
order x y = slice_cmp nat_cmp x y

-- below an id that is this one
below_equal : (x y z : List ℕ) → order x y ≡ Less → order y z ≡ Equal → order x z ≡ Less
below_equal x y z low same =
    nat_list_cmp_total.antisymm x z
    ∙ ap ordering_reverse (sym (nat_list_cmp_total.congr y z x same) ∙ nat_list_cmp_total.antisymm y x ∙ ap ordering_reverse low)

-- an id that lies above another
above : (x y : List ℕ) → order x y ≡ Greater → order y x ≡ Less
above x y high = nat_list_cmp_total.antisymm y x ∙ ap ordering_reverse high

rising_tail : (p : Pair) (rest : List Pair) → AreRisingIds (p ∷ rest) → AreRisingIds rest
rising_tail p [] rising = tt
rising_tail p (q ∷ rest) rising = rising.1

-- the first id is below each later one
first_below : (p : Pair) (rest : List Pair) (j : ℕ) (d : Pair) → AreRisingIds (p ∷ rest) → j < length rest → order p.0 (get_or rest j d).0 ≡ Less
first_below p [] j d rising low = absurd (omega arith)
first_below p (q ∷ rest) zero d rising low = rising.0
first_below p (q ∷ rest) (suc j) d rising low = nat_list_cmp_total.trans p.0 q.0 (get_or rest j d).0 rising.0 (first_below q rest j d rising.1 (omega arith))

earlier_below : (pairs : List Pair) (i j : ℕ) (d : Pair) → AreRisingIds pairs → i < j → j < length pairs → order (get_or pairs i d).0 (get_or pairs j d).0 ≡ Less
earlier_below [] i j d rising before low = absurd (omega arith)
earlier_below (p ∷ rest) i zero d rising before low = absurd (omega arith)
earlier_below (p ∷ rest) zero (suc j) d rising before low = first_below p rest j d rising (omega arith)
earlier_below (p ∷ rest) (suc i) (suc j) d rising before low = earlier_below rest i j d (rising_tail p rest rising) (omega arith) (omega arith)

at_most_two : (o : Ordering) → ordering_index o ≤ 2
at_most_two Less = omega arith
at_most_two Equal = omega arith
at_most_two Greater = omega arith

index_rises : (x y z : List ℕ) → order x y ≡ Less → ordering_index (order x z) ≤ ordering_index (order y z)
index_rises x y z low = by (order y z) refl
  where
    by : (o : Ordering) → order y z ≡ o → ordering_index (order x z) ≤ ordering_index o
    by Less e = let less : ordering_index (order x z) ≡ 0 = ap ordering_index (nat_list_cmp_total.trans x y z low e) in omega arith
    by Equal e = let less : ordering_index (order x z) ≡ 0 = ap ordering_index (below_equal x y z low e) in omega arith
    by Greater e = at_most_two (order x z)

le_cases : (m n : ℕ) → m ≤ n → (m < n) ⊎ (m ≡ n)
le_cases zero zero h = inr refl
le_cases zero (suc n) h = inl (omega arith)
le_cases (suc m) zero h = absurd (omega arith)
le_cases (suc m) (suc n) h = elim (le_cases m n (omega arith)) [ inl less ↦ inl (omega arith) | inr e ↦ inr (ap suc e) ]

-- how the ids of pairs lie to an id rises
pub orders_rise : (pairs : List Pair) (id : List ℕ) → AreRisingIds pairs → IsNonDecreasingBy (λ (p : Pair). ordering_index (order p.0 id)) pairs
orders_rise pairs id rising i j d before low = by j before low
  where
    same : (k : ℕ) → i ≡ k → ordering_index (order (get_or pairs i d).0 id) ≤ ordering_index (order (get_or pairs k d).0 id)
    same k e = let there : ordering_index (order (get_or pairs i d).0 id) ≡ ordering_index (order (get_or pairs k d).0 id) = ap (λ (n : ℕ). ordering_index (order (get_or pairs n d).0 id)) e in omega arith

    strict : (k : ℕ) → i < k → k < length pairs → ordering_index (order (get_or pairs i d).0 id) ≤ ordering_index (order (get_or pairs k d).0 id)
    strict k less low = index_rises (get_or pairs i d).0 (get_or pairs k d).0 id (earlier_below pairs i k d rising less low)

    by : (k : ℕ) → i ≤ k → k < length pairs → ordering_index (order (get_or pairs i d).0 id) ≤ ordering_index (order (get_or pairs k d).0 id)
    by k before low = elim (le_cases i k before) [ inl less ↦ strict k less low | inr e ↦ same k e ]

abbrev put : Ordering → List ℕ → ℕ → Pair → List Pair → List Pair
put o id number p rest = match_ordering o (p ∷ with_pair id number rest) ((p.0, number) ∷ rest) ((id, number) ∷ p ∷ rest)

-- the pair of the same id is replaced
pub put_there : (pairs : List Pair) (id : List ℕ) (number place : ℕ) → AreRisingIds pairs → IsPair pairs id place → with_pair id number pairs ≡ set pairs place ((get_or pairs place ([], 0)).0, number)
put_there [] id number place rising is = absurd (omega (arith, is.within))
put_there (p ∷ rest) id number zero rising is = ap (λ (o : Ordering). put o id number p rest) is.equal
put_there (p ∷ rest) id number (suc k) rising is =
    let low : k < length rest = omega (arith, is.within) in
    let less : order p.0 id ≡ Less = below_equal p.0 (get_or rest k ([], 0)).0 id (first_below p rest k ([], 0) rising low) is.equal in
    ap (λ (o : Ordering). put o id number p rest) less
    ∙ ap (λ (ps : List Pair). p ∷ ps) (put_there rest id number k (rising_tail p rest rising) (record { within = low; equal = is.equal }))

-- the pair goes in between
pub put_between : (pairs : List Pair) (id : List ℕ) (number place : ℕ) → IsGap pairs id place → with_pair id number pairs ≡ insert pairs place (id, number)
put_between [] id number zero is = refl
put_between [] id number (suc k) is = absurd (omega (arith, is.within))
put_between (p ∷ rest) id number zero is = ap (λ (o : Ordering). put o id number p rest) (is.greater 0 (omega arith) (omega arith))
put_between (p ∷ rest) id number (suc k) is =
    let later : IsGap rest id k = record {
      within = omega (arith, is.within);
      lower = λ j before. is.lower (suc j) (omega arith);
      greater = λ j from low. is.greater (suc j) (omega arith) (omega arith);
    } in
    ap (λ (o : Ordering). put o id number p rest) (is.lower 0 (omega arith)) ∙ ap (λ (ps : List Pair). p ∷ ps) (put_between rest id number k later)

-- a first pair with another number
same_first : (p : Pair) (number : ℕ) (rest : List Pair) → AreRisingIds (p ∷ rest) → AreRisingIds ((p.0, number) ∷ rest)
same_first p number [] rising = tt
same_first p number (q ∷ rest) rising = rising

-- a pair behind a lower one
rising_behind : (p : Pair) (rest : List Pair) (id : List ℕ) (number : ℕ) → AreRisingIds (p ∷ rest) → order p.0 id ≡ Less → AreRisingIds (p ∷ with_pair id number rest)
rising_behind p [] id number rising less = (less, tt)
rising_behind p (q ∷ rest) id number rising less = by (order q.0 id) refl (λ e. rising_behind q rest id number rising.1 e)
  where
    by : (o : Ordering) → order q.0 id ≡ o → (order q.0 id ≡ Less → AreRisingIds (q ∷ with_pair id number rest)) → AreRisingIds (p ∷ put o id number q rest)
    by Less e later = (rising.0, later e)
    by Equal e later = (rising.0, same_first q number rest rising.1)
    by Greater e later = (less, (above q.0 id e, rising.1))

-- ids rise with a pair put among them
pub rising_with : (pairs : List Pair) (id : List ℕ) (number : ℕ) → AreRisingIds pairs → AreRisingIds (with_pair id number pairs)
rising_with [] id number rising = tt
rising_with (p ∷ rest) id number rising = by (order p.0 id) refl
  where
    by : (o : Ordering) → order p.0 id ≡ o → AreRisingIds (put o id number p rest)
    by Less e = rising_behind p rest id number rising e
    by Equal e = same_first p number rest rising
    by Greater e = (above p.0 id e, rising)

abbrev pub Counts : Pair → Type 0
Counts p = IsImportance p.1

-- each number stays an importance
pub importance_with : (pairs : List Pair) (id : List ℕ) (number : ℕ) → IsImportance number → All Counts pairs → All Counts (with_pair id number pairs)
importance_with [] id number here all = All-cons Counts (id, number) [] here all
importance_with (p ∷ rest) id number here all = by (order p.0 id) (importance_with rest id number here (All-tail Counts p rest all))
  where
    by : (o : Ordering) → All Counts (with_pair id number rest) → All Counts (put o id number p rest)
    by Less later = All-cons Counts p (with_pair id number rest) (All-head Counts p rest all) later
    by Equal later = All-cons Counts (p.0, number) rest here (All-tail Counts p rest all)
    by Greater later = All-cons Counts (id, number) (p ∷ rest) here all
