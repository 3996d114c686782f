-- Pairs that are settled one after another, and those of one segment.
use Rattle.std.proofs.Common.{◌≡◌, ℕ, ◌-◌, ◌<◌, ◌≤◌, ◌==◌, ◌&&◌, Bool, true, false, cond, List, [], ◌∷◌, ◌++◌, length, map, filter, get_or, refl, sym, ◌∙◌, ap, subst, arith, inl, inr}
use Rattle.std.specs.Prelude.{reverse, sum_by, count_by}
use Rattle.std.specs.List.{All, AllByRecursion, list_all}
use Rattle.std.proofs.lemmas.Bool.{and_from, cases_lt}
use Rattle.std.proofs.lemmas.List.{reverse-append, length-reverse, get_or-reverse, get_or_past, length-map}
use Rattle.std.proofs.lemmas.List.Elements.{recursion_from_All}
use Rattle.std.proofs.lemmas.List.Sums.{sum_by-append, sum_by-cons, length-filter}
use Rattle.map_base.specs.declared.ids.SegId.{SegId}
use Rattle.map_base.specs.declared.ids.LineId.{LineId}
use Rattle.order_model.specs.Problems.{lines_on}
use Rattle.least_orders.specs.Rows.{is_one_of}
use Rattle.dual_bound.specs.declared.settled.SettledPair.{SettledPair}
use Rattle.dual_bound.specs.Settled.{settled_on}
use Rattle.dual_bound.proofs.Segments.{same_seg}
use Rattle.dual_shares.specs.RowSteps.{AreTwoOf}
use Rattle.dual_orders.specs.SettledPairs.{pairs_of, IsPairOn, IsPairHere}

pub pushed_pairs : (stack : List SettledPair) (q : SettledPair) → pairs_of (stack ++ q ∷ []) ≡ q ∷ pairs_of stack
pushed_pairs stack q = reverse-append stack (q ∷ [])

-- where each place has 0, no place has more
pub all_zero : (xs : List ℕ) (n : ℕ) → ((k : ℕ) → k < n → get_or xs k 0 ≡ 0) → length xs ≤ n → (k : ℕ) → get_or xs k 0 ≡ 0
all_zero xs n h over k = elim (cases_lt k n) [
  | inl below ↦ h k below
  | inr above ↦ get_or_past xs k 0 (omega (arith, over, above))
]

-- The pairs are of lines of their segments.

reversed_all : {A : Type 0} (P : A → Type 0) (xs : List A) → All P xs → All P (reverse xs)
reversed_all P xs h k d below =
    let each = length-reverse xs in
    let within : k < length xs = omega (arith, below, each) in
    subst P (sym (get_or-reverse xs k d within)) (h (length xs - 1 - k) d (omega (arith, within)))

pair_here : (segs : List (List LineId)) (s : SegId) (q : SettledPair) → IsPairOn segs q → IsPairHere s (lines_on segs s) q
pair_here segs s q on here = subst (λ (t : SegId). AreTwoOf (lines_on segs t) q.first q.second) (same_seg q.seg s here) on.two

abbrev are_known : List LineId → LineId × LineId → Bool
are_known lines p = is_one_of lines p.0 && is_one_of lines p.1

known_in : (segs : List (List LineId)) (s : SegId) (l : List SettledPair) → AllByRecursion (IsPairOn segs) l → list_all (are_known (lines_on segs s)) (settled_on l s) ≡ true
known_in segs s [] h = refl
known_in segs s (q ∷ l) h = by_test (q.seg.0 == s.0) refl (known_in segs s l h.1)
  where
    by_test : (b : Bool) → (q.seg.0 == s.0) ≡ b → list_all (are_known (lines_on segs s)) (settled_on l s) ≡ true
        → list_all (are_known (lines_on segs s)) (map (λ (r : SettledPair). (r.first, r.second)) (cond b (q ∷ filter (λ (r : SettledPair). r.seg.0 == s.0) l) (filter (λ (r : SettledPair). r.seg.0 == s.0) l))) ≡ true
    by_test false e rest = rest
    by_test true e rest =
        let two = pair_here segs s q h.0 e in
        and_from (are_known (lines_on segs s) (q.first, q.second)) (list_all (are_known (lines_on segs s)) (settled_on l s))
        (and_from (is_one_of (lines_on segs s) q.first) (is_one_of (lines_on segs s) q.second) two.first_on two.second_on) rest

pub settled_known : (segs : List (List LineId)) (s : SegId) (stack : List SettledPair) → All (IsPairOn segs) stack
    → list_all (λ (p : LineId × LineId). is_one_of (lines_on segs s) p.0 && is_one_of (lines_on segs s) p.1) (settled_on (pairs_of stack) s) ≡ true
settled_known segs s stack h = known_in segs s (pairs_of stack) (recursion_from_All (IsPairOn segs) (reverse stack) (reversed_all (IsPairOn segs) stack h))

-- How many they are.

count_reversed : (f : SettledPair → ℕ) (xs : List SettledPair) → sum_by f (reverse xs) ≡ sum_by f xs
count_reversed f [] = refl
count_reversed f (x ∷ xs) =
    let both = sum_by-append f (reverse xs) (x ∷ []) in
    let one = sum_by-cons f x [] in
    let all = sum_by-cons f x xs in
    let rest = count_reversed f xs in
    ap (sum_by f) (reverse-append (x ∷ []) xs) ∙ omega (arith, both, one, all, rest)

pub count_settled : (stack : List SettledPair) (s : SegId) → count_by (λ (q : SettledPair). q.seg.0 == s.0) stack ≡ length (settled_on (pairs_of stack) s)
count_settled stack s =
    sym (length-map (filter (λ (q : SettledPair). q.seg.0 == s.0) (pairs_of stack)) (λ (r : SettledPair). (r.first, r.second))
    ∙ (length-filter (λ (q : SettledPair). q.seg.0 == s.0) (pairs_of stack)
    ∙ count_reversed (λ (q : SettledPair). cond (q.seg.0 == s.0) 1 0) stack))
