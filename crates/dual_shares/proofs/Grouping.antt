-- How the terms of a part come to its segments.
use Rattle.std.proofs.Common.{◌≡◌, ◌≢◌, ℕ, zero, suc, ◌+◌, ◌<◌, ◌≤◌, ◌==◌, ◌||◌, Bool, true, false, cond, List, [], ◌∷◌, ◌++◌, length, map, take, get_or, refl, sym, ◌∙◌, ap, subst, arith, inl, inr, true≢false, eqb-true, eq-eqb, Option, Some, None}
use Rattle.std.specs.Prelude.{Vec, IfSome}
use Rattle.std.specs.Global.{Global}
use Rattle.std.specs.List.{HoldsAt}
use Rattle.std.specs.List.Sorted.{IsNonDecreasingBy, IsPartitionPoint}
use Rattle.std.specs.Ordering.{nat_cmp, ordering_index}
use Rattle.std.specs.declared.cmp.Ordering.TheVariants.{Less, Equal, Greater}
use Rattle.std.proofs.lemmas.Bool.{cases_eq, cases_lt, ne_eqb}
use Rattle.std.proofs.lemmas.Bool.Decides.{nat_tests}
use Rattle.std.proofs.lemmas.List.{take_all, take_more, append-nil, length-map, get_or_default}
use Rattle.std.proofs.lemmas.List.Elements.{filter-append}
use Rattle.map_base.specs.declared.ids.SegId.{SegId}
use Rattle.order_model.specs.declared.term.Term.{Term}
use Rattle.order_model.specs.Costs.{seg_of, other_of}
use Rattle.order_model.specs.Parts.{IsRisingPart}
use Rattle.order_model.specs.Places.{tables_of}
use Rattle.order_model.specs.PartTerms.{is_in, no_term, no_numbers, with_number}
use Rattle.dual_bound.proofs.Segments.{AreApart, part_apart, same_seg}
use Rattle.dual_shares.specs.Groups.{is_on, numbers_on}
use Rattle.dual_shares.specs.GroupSteps.{IsPlaceInPart, with_number_where, with_number_at, with_term}

-- the segment itself
abbrev is_seg : SegId → SegId → Bool
is_seg s u = s.0 == u.0

turned : (a b : ℕ) → (a == b) ≡ (b == a)
turned a b = grind (arith, nat_tests)

absent_where : (s : SegId) (n : ℕ) (part : List SegId) (lists : List (List ℕ)) → length lists ≡ length part → is_in part s ≡ false → with_number_where (is_seg s) n part lists ≡ lists
absent_where s n [] lists e h = refl
absent_where s n (u ∷ part) [] e h = refl
absent_where s n (u ∷ part) (l ∷ lists) e h =
    let parts = neither (u.0 == s.0) (is_in part s) h in
    ap (λ b. cond b (l ++ n ∷ []) l ∷ with_number_where (is_seg s) n part lists) (turned s.0 u.0 ∙ parts.0)
    ∙ ap (λ r. l ∷ r) (absent_where s n part lists (omega (arith, e)) parts.1)
  where
    neither : (a b : Bool) → (a || b) ≡ false → (a ≡ false) × (b ≡ false)
    neither true b h = absurd (true≢false h)
    neither false b h = (refl, h)

-- the one place of a segment
placed_where : (s : SegId) (n : ℕ) (part : List SegId) (lists : List (List ℕ)) (k : ℕ) → length lists ≡ length part → AreApart part → k < length part → get_or part k s ≡ s
    → with_number k n lists ≡ with_number_where (is_seg s) n part lists
placed_where s n [] lists k e apart below here = absurd (omega (arith, below))
placed_where s n (u ∷ part) [] k e apart below here = absurd (omega (arith, e))
placed_where s n (u ∷ part) (l ∷ lists) zero e apart below here =
    sym (ap (λ b. cond b (l ++ n ∷ []) l ∷ with_number_where (is_seg s) n part lists) (eq_is s u here)
    ∙ ap (λ r. (l ++ n ∷ []) ∷ r) (absent_where s n part lists (omega (arith, e)) (subst (λ v. is_in part v ≡ false) here apart.0)))
  where
    eq_is : (s u : SegId) → u ≡ s → (s.0 == u.0) ≡ true
    eq_is s u h = eq-eqb s.0 u.0 (ap (λ (v : SegId). v.0) (sym h))
placed_where s n (u ∷ part) (l ∷ lists) (suc k) e apart below here =
    ap (λ r. l ∷ r) (placed_where s n part lists k (omega (arith, e)) apart.1 (omega (arith, below)) here)
    ∙ ap (λ b. cond b (l ++ n ∷ []) l ∷ with_number_where (is_seg s) n part lists) (sym (ne_eqb s.0 u.0 (λ f. absurd (other f))))
  where
    in_at : (part : List SegId) (k : ℕ) → k < length part → get_or part k s ≡ s → is_in part s ≡ true
    in_at [] k below is = absurd (omega (arith, below))
    in_at (v ∷ part) zero below is = ap (λ t. t || is_in part s) (eq-eqb v.0 s.0 (ap (λ (w : SegId). w.0) is))
    in_at (v ∷ part) (suc k) below is = or_second (v.0 == s.0) (is_in part s) (in_at part k (omega (arith, below)) is)
      where
        or_second : (a b : Bool) → b ≡ true → (a || b) ≡ true
        or_second true b h = refl
        or_second false b h = h

    other : s.0 ≡ u.0 → ⊥
    other f = true≢false (sym (in_at part k (omega (arith, below)) here) ∙ subst (λ v. is_in part v ≡ false) (same_seg u s (eq-eqb u.0 s.0 (sym f))) apart.0)

pub at_place : (s : SegId) (n : ℕ) (part : List SegId) (lists : List (List ℕ)) (place : Option ℕ) → length lists ≡ length part → IsRisingPart part → IsPlaceInPart part s place
    → with_number_at place n lists ≡ with_number_where (is_seg s) n part lists
at_place s n part lists None e rising h = sym (absent_where s n part lists e h)
at_place s n part lists (Some k) e rising h = placed_where s n part lists k e (part_apart part rising) h.0 h.1

pub length_where : (p : SegId → Bool) (n : ℕ) (part : List SegId) (lists : List (List ℕ)) → length lists ≡ length part → length (with_number_where p n part lists) ≡ length part
length_where p n [] lists e = e
length_where p n (s ∷ part) [] e = absurd (omega (arith, e))
length_where p n (s ∷ part) (l ∷ lists) e = ap suc (length_where p n part lists (omega (arith, e)))

-- both segments of a term
both_where : (s t : SegId) (n : ℕ) (part : List SegId) (lists : List (List ℕ)) → t.0 ≢ s.0
    → with_number_where (is_seg t) n part (with_number_where (is_seg s) n part lists) ≡ with_number_where (λ u. s.0 == u.0 || t.0 == u.0) n part lists
both_where s t n [] lists apart = refl
both_where s t n (u ∷ part) [] apart = refl
both_where s t n (u ∷ part) (l ∷ lists) apart =
    ap (λ r. cond (t.0 == u.0) (cond (s.0 == u.0) (l ++ n ∷ []) l ++ n ∷ []) (cond (s.0 == u.0) (l ++ n ∷ []) l) ∷ r) (both_where s t n part lists apart)
    ∙ ap (λ m. m ∷ with_number_where (λ u. s.0 == u.0 || t.0 == u.0) n part lists) (by_tests (s.0 == u.0) refl (t.0 == u.0) refl)
  where
    by_tests : (a : Bool) → (s.0 == u.0) ≡ a → (b : Bool) → (t.0 == u.0) ≡ b → cond b (cond a (l ++ n ∷ []) l ++ n ∷ []) (cond a (l ++ n ∷ []) l) ≡ cond (a || b) (l ++ n ∷ []) l
    by_tests true e true f = absurd (apart (eqb-true t.0 u.0 f ∙ sym (eqb-true s.0 u.0 e)))
    by_tests true e false f = refl
    by_tests false e true f = refl
    by_tests false e false f = refl

same_where : (p q : SegId → Bool) (n : ℕ) (part : List SegId) (lists : List (List ℕ)) → ((u : SegId) → p u ≡ q u) → with_number_where p n part lists ≡ with_number_where q n part lists
same_where p q n [] lists h = refl
same_where p q n (u ∷ part) [] h = refl
same_where p q n (u ∷ part) (l ∷ lists) h =
    ap (λ b. cond b (l ++ n ∷ []) l ∷ with_number_where p n part lists) (h u) ∙ ap (λ r. cond (q u) (l ++ n ∷ []) l ∷ r) (same_where p q n part lists h)

pub two_ends : (t : Term) (n : ℕ) (part : List SegId) (lists : List (List ℕ)) → (other_of t).0 ≢ (seg_of t).0
    → with_number_where (is_seg (other_of t)) n part (with_number_where (is_seg (seg_of t)) n part lists) ≡ with_term part t n lists
two_ends t n part lists apart = both_where (seg_of t) (other_of t) n part lists apart

pub one_end : (t : Term) (n : ℕ) (part : List SegId) (lists : List (List ℕ)) → (other_of t).0 ≡ (seg_of t).0
    → with_number_where (is_seg (seg_of t)) n part lists ≡ with_term part t n lists
one_end t n part lists e = same_where (is_seg (seg_of t)) (λ (u : SegId). is_on u t) n part lists (λ u. sym (ap (λ m. (seg_of t).0 == u.0 || m == u.0) e ∙ twice ((seg_of t).0 == u.0)))
  where
    twice : (b : Bool) → (b || b) ≡ b
    twice true = refl
    twice false = refl

-- one term more
pub groups_more : (terms : List Term) (numbers : List ℕ) (i n : ℕ) (part : List SegId) → i < length numbers → n ≡ get_or numbers i 0
    → with_term part (get_or terms n no_term) n (map (numbers_on terms (take i numbers)) part) ≡ map (numbers_on terms (take (i + 1) numbers)) part
groups_more terms numbers i n part below is = each part
  where
    pushed : take (i + 1) numbers ≡ take i numbers ++ n ∷ []
    pushed = take_more numbers i 0 below ∙ ap (λ m. take i numbers ++ m ∷ []) (sym is)

    one : (s : SegId) → cond (is_on s (get_or terms n no_term)) (numbers_on terms (take i numbers) s ++ n ∷ []) (numbers_on terms (take i numbers) s) ≡ numbers_on terms (take (i + 1) numbers) s
    one s = sym (ap (λ l. numbers_on terms l s) pushed ∙ (filter-append (λ m. is_on s (get_or terms m no_term)) (take i numbers) (n ∷ []) ∙ by_test (is_on s (get_or terms n no_term))))
      where
        by_test : (b : Bool) → numbers_on terms (take i numbers) s ++ cond b (n ∷ []) [] ≡ cond b (numbers_on terms (take i numbers) s ++ n ∷ []) (numbers_on terms (take i numbers) s)
        by_test true = refl
        by_test false = append-nil (numbers_on terms (take i numbers) s)

    each : (part : List SegId) → with_term part (get_or terms n no_term) n (map (numbers_on terms (take i numbers)) part) ≡ map (numbers_on terms (take (i + 1) numbers)) part
    each [] = refl
    each (s ∷ part) = ap (λ l. l ∷ with_term part (get_or terms n no_term) n (map (numbers_on terms (take i numbers)) part)) (one s) ∙ ap (λ r. numbers_on terms (take (i + 1) numbers) s ∷ r) (each part)

pub groups_none : (terms : List Term) (numbers : List ℕ) (part : List SegId) → no_numbers (length part) ≡ map (numbers_on terms (take 0 numbers)) part
groups_none terms numbers [] = refl
groups_none terms numbers (s ∷ part) = ap (λ r. [] ∷ r) (groups_none terms numbers part)

-- as the code has it, with the place of each end
pub place_within : (part : List SegId) (s : SegId) (place : Option ℕ) (n : ℕ) → n ≡ length part → IsPlaceInPart part s place → IfSome place (λ k. k < n)
place_within part s None n e h = tt
place_within part s (Some k) n e h = let below = h.0 in omega (arith, below, e)

pub other_within : (part : List SegId) (s t : SegId) (place : Option ℕ) (n : ℕ) → n ≡ length part → (t.0 ≡ s.0 → place ≡ None) → (t.0 ≢ s.0 → IsPlaceInPart part t place) → IfSome place (λ k. k < n)
other_within part s t place n e one two = elim (cases_eq t.0 s.0) [
  | inl same ↦ subst (λ o. IfSome o (λ k. k < n)) (sym (one same)) tt
  | inr apart ↦ place_within part t place n e (two apart)
]

pub term_added : (t : Term) (n : ℕ) (part : List SegId) (lists between new : List (List ℕ)) (place other_place : Option ℕ) (seg other : SegId) → seg ≡ seg_of t → other ≡ other_of t → IsRisingPart part
    → length lists ≡ length part → IsPlaceInPart part seg place → (other.0 ≡ seg.0 → other_place ≡ None) → (other.0 ≢ seg.0 → IsPlaceInPart part other other_place)
    → between ≡ with_number_at place n lists → new ≡ with_number_at other_place n between → new ≡ with_term part t n lists
term_added t n part lists between new place other_place seg other e f rising each at one two first second = elim (cases_eq other.0 seg.0) [
  | inl same ↦
      second
      ∙ (ap (λ o. with_number_at o n between) (one same)
      ∙ (between_is ∙ one_end t n part lists (sym (ap (λ (u : SegId). u.0) f) ∙ (same ∙ ap (λ (u : SegId). u.0) e))))
  | inr apart ↦
      second
      ∙ (at_place other n part between other_place (ap length between_is ∙ length_where (is_seg (seg_of t)) n part lists each) rising (two apart)
      ∙ (ap (λ l. with_number_where (is_seg other) n part l) between_is
      ∙ (ap (λ (u : SegId). with_number_where (is_seg u) n part (with_number_where (is_seg (seg_of t)) n part lists)) f
      ∙ two_ends t n part lists (λ same. absurd (apart (ap (λ (u : SegId). u.0) f ∙ (same ∙ sym (ap (λ (u : SegId). u.0) e))))))))
]
  where
    between_is : between ≡ with_number_where (is_seg (seg_of t)) n part lists
    between_is = first ∙ (at_place seg n part lists place each rising at ∙ ap (λ (u : SegId). with_number_where (is_seg u) n part lists) e)

abbrev pub items_of : Vec ℕ Global → List ℕ
items_of v = v.items

-- there is a list for each segment
pub lists_each : (terms : List Term) (numbers : List ℕ) (part : List SegId) (groups : List (Vec ℕ Global)) → tables_of groups ≡ map (numbers_on terms numbers) part → length groups ≡ length part
lists_each terms numbers part groups is = sym (length-map groups items_of) ∙ (ap length is ∙ length-map part (numbers_on terms numbers))

-- all terms
pub groups_whole : (terms : List Term) (numbers : List ℕ) (i : ℕ) (part : List SegId) → length numbers ≤ i → map (numbers_on terms (take i numbers)) part ≡ map (numbers_on terms numbers) part
groups_whole terms numbers i part over = ap (λ l. map (numbers_on terms l) part) (take_all i numbers over)

-- A search in a part.

pub places_rise : (part : List SegId) (i j : ℕ) (d : SegId) → IsRisingPart part → i < j → j < length part → (get_or part i d).0 < (get_or part j d).0
places_rise [] i j d h below within = absurd (omega (arith, within))
places_rise (s ∷ []) i j d h below within = absurd (omega (arith, below, within))
places_rise (s ∷ t ∷ part) i zero d h below within = absurd (omega (arith, below))
places_rise (s ∷ t ∷ part) zero (suc zero) d h below within = h.0
places_rise (s ∷ t ∷ part) zero (suc (suc j)) d h below within =
    let rest = places_rise (t ∷ part) zero (suc j) d h.1 (omega arith) (omega (arith, within)) in let first = h.0 in omega (arith, rest, first)
places_rise (s ∷ t ∷ part) (suc i) (suc j) d h below within = places_rise (t ∷ part) i j d h.1 (omega (arith, below)) (omega (arith, within))

comparisons_rise : (part : List SegId) (s : SegId) → IsRisingPart part → IsNonDecreasingBy (λ (t : SegId). ordering_index (nat_cmp t.0 s.0)) part
comparisons_rise part s rising i j d under within = by_number (get_or part i d).0 (get_or part j d).0 s.0 (elim (cases_lt i j) [
  | inl less ↦ (let rise = places_rise part i j d rising less within in omega (arith, rise))
  | inr over ↦ (let same = ap (λ k. (get_or part k d).0) {x = i} {y = j} (omega (arith, under, over)) in omega (arith, same))
])
  where
    by_number : (a b q : ℕ) → a ≤ b → ordering_index (nat_cmp a q) ≤ ordering_index (nat_cmp b q)
    by_number a b q l = grind (arith, nat_tests)

pub found_in_part : (part : List SegId) (s : SegId) (k : ℕ) → k < length part → HoldsAt (λ (t : SegId). nat_cmp t.0 s.0 ≡ Equal) part k → IsPlaceInPart part s (Some k)
found_in_part part s k below here = (below, same_seg (get_or part k s) s (eq-eqb (get_or part k s).0 s.0 (level (get_or part k s).0 s.0 (here s))))
  where
    level : (a q : ℕ) → nat_cmp a q ≡ Equal → a ≡ q
    level a q h = grind (arith, nat_tests)

none_in_part : (part : List SegId) (s : SegId) → ((i : ℕ) → i < length part → (get_or part i s).0 ≢ s.0) → is_in part s ≡ false
none_in_part [] s h = refl
none_in_part (t ∷ part) s h = ap (λ b. b || is_in part s) (ne_eqb t.0 s.0 (h 0 (omega arith))) ∙ none_in_part part s (λ i below. h (suc i) (omega (arith, below)))

pub missing_in_part : (part : List SegId) (s : SegId) (at : ℕ) → IsRisingPart part
    → (IsNonDecreasingBy (λ (t : SegId). ordering_index (nat_cmp t.0 s.0)) part → IsPartitionPoint (λ (t : SegId). nat_cmp t.0 s.0 ≡ Less) (λ (t : SegId). nat_cmp t.0 s.0 ≡ Greater) part at) → is_in part s ≡ false
missing_in_part part s at rising found = none_in_part part s (λ i below here. elim (cases_lt i at) [
  | inl under ↦ absurd (low (get_or part i s).0 s.0 ((found (comparisons_rise part s rising)).0 i s (omega arith) under) here)
  | inr over ↦ absurd (high (get_or part i s).0 s.0 ((found (comparisons_rise part s rising)).1 i s over below) here)
])
  where
    low : (a q : ℕ) → nat_cmp a q ≡ Less → a ≡ q → ⊥
    low a q h e = grind (arith, nat_tests)

    high : (a q : ℕ) → nat_cmp a q ≡ Greater → a ≡ q → ⊥
    high a q h e = grind (arith, nat_tests)

-- a term, as it is read
pub term_read : (read terms : List Term) (n : ℕ) (d : Term) → read ≡ terms → n < length terms → get_or read n d ≡ get_or terms n no_term
term_read read terms n d same below = ap (λ l. get_or l n d) same ∙ get_or_default terms n d no_term below
