-- Distinct lines, and their numbers in order.
use Rattle.std.proofs.Common.{◌≡◌, ℕ, ◌<◌, Bool, true, false, not, ◌&&◌, ◌||◌, eqb, List, [], ◌∷◌, get_or, refl, ap, sym, ◌∙◌, IsTrue, arith}
use Rattle.std.specs.Prelude.{◌↔◌}
use Rattle.std.specs.List.{AllByRecursion, IsDistinct}
use Rattle.std.specs.List.Sorted.{IsPermutation, IsNonDecreasing, IsStrictlyIncreasing}
use Rattle.std.proofs.lemmas.Bool.{and_parts, ne_eqb, not-true, or_parts}
use Rattle.std.proofs.lemmas.Bool.Decides.{nat_tests}
use Rattle.std.proofs.lemmas.List.Sorted.{IsPermutation-sym}
use Rattle.std.proofs.lemmas.Map.Keys.{IsDistinct-IsPermutation, IsStrictlyIncreasing-from_distinct, IsDistinct-head, IsDistinct-tail, IsDistinct-from_apart, below_from_sorted, sorted_from_strictly_increasing}
use Rattle.map_base.specs.declared.ids.LineId.{LineId}
use Rattle.cert_file.specs.Forms.{is_among, are_distinct, numbers_of_lines}

flips : (m n : ℕ) → eqb m n ≡ eqb n m
flips m n = grind (arith, nat_tests)

-- a line that is none of others differs from each
apart : (l : LineId) (rest : List LineId) → is_among rest l ≡ false → AllByRecursion (λ y. eqb l.0 y ≡ false) (numbers_of_lines rest)
apart l [] none = tt
apart l (m ∷ rest) none =
    let parts = or_parts (eqb m.0 l.0) (is_among rest l) none in (flips l.0 m.0 ∙ parts.0, apart l rest parts.1)

among_none : (l : LineId) (rest : List LineId) → AllByRecursion (λ y. eqb l.0 y ≡ false) (numbers_of_lines rest) → is_among rest l ≡ false
among_none l [] all = refl
among_none l (m ∷ rest) all = ap (λ (b : Bool). b || is_among rest l) (flips m.0 l.0 ∙ all.0) ∙ among_none l rest all.1

-- lines are distinct exactly where their numbers are
numbers_distinct : (lines : List LineId) → are_distinct lines ≡ true → IsDistinct eqb (numbers_of_lines lines)
unfolding IsDistinct
numbers_distinct [] e = tt
numbers_distinct (l ∷ rest) e =
    let parts = and_parts (not (is_among rest l)) (are_distinct rest) e in
    (apart l rest (not-true (is_among rest l) parts.0), numbers_distinct rest parts.1)

lines_distinct : (lines : List LineId) → IsDistinct eqb (numbers_of_lines lines) → are_distinct lines ≡ true
lines_distinct [] d = refl
lines_distinct (l ∷ rest) d =
    ap (λ (b : Bool). not b && are_distinct rest) (among_none l rest (IsDistinct-head eqb l.0 (numbers_of_lines rest) d))
    ∙ lines_distinct rest (IsDistinct-tail eqb l.0 (numbers_of_lines rest) d)

rising_distinct : (xs : List ℕ) → IsStrictlyIncreasing xs → IsDistinct eqb xs
rising_distinct xs rising = IsDistinct-from_apart eqb xs (λ i j d before within. differ (get_or xs i d) (get_or xs j d) (below_from_sorted xs i j d (sorted_from_strictly_increasing xs rising) before within))
  where
    differ : (m n : ℕ) → m < n → eqb m n ≡ false
    differ m n low = ne_eqb m n (λ e. absurd (omega arith))

-- numbers in order rise strictly exactly where the lines are distinct
pub rise_is : (lines : List LineId) (sorted : List ℕ) (b : Bool) → IsPermutation (numbers_of_lines lines) sorted → IsNonDecreasing sorted → IsTrue b ↔ IsStrictlyIncreasing sorted → b ≡ are_distinct lines
rise_is lines sorted b moved order is = by b (are_distinct lines) refl refl
  where
    by : (x y : Bool) → b ≡ x → are_distinct lines ≡ y → x ≡ y
    by true true e f = refl
    by false false e f = refl
    by true false e f =
        let rising = is.0 e in
        let back = IsDistinct-IsPermutation eqb flips sorted (numbers_of_lines lines) (IsPermutation-sym (numbers_of_lines lines) sorted moved) (rising_distinct sorted rising) in
        sym (sym f ∙ lines_distinct lines back)
    by false true e f =
        let d = IsDistinct-IsPermutation eqb flips (numbers_of_lines lines) sorted moved (numbers_distinct lines f) in
        sym e ∙ is.1 (IsStrictlyIncreasing-from_distinct sorted order d)
