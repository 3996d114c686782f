-- What a prefix decides or settles has that answer in each completion.
use Rattle.std.proofs.Common.{◌≡◌, ◌≢◌, ℕ, suc, ◌+◌, ◌==◌, Bool, true, false, not, cond, ◌||◌, ◌&&◌, List, [], ◌∷◌, ◌++◌, length, Some, None, refl, sym, ap, subst, ◌∙◌, inl, inr, arith, eqb-true, true≢false, length-append}
use Rattle.std.specs.Prelude.{IsPermutation}
use Rattle.std.proofs.lemmas.Bool.{or_right, or_cases, or_parts}
use Rattle.std.proofs.lemmas.Bool.Decides.{nat_tests}
use Rattle.std.proofs.lemmas.List.Sums.{sum_by-append}
use Rattle.std.proofs.lemmas.List.Sorted.{length_permutation}
use Rattle.map_base.specs.declared.ids.LineId.{LineId}
use Rattle.graph_core.specs.Consistent.{AreRising}
use Rattle.order_model.specs.Places.{place_of}
use Rattle.order_model.specs.Costs.{comes_before, are_these, are_neighbours}
use Rattle.order_model.specs.Prefixes.{is_placed}
use Rattle.order_model.specs.Completions.{BeginsWith}
use Rattle.order_model.specs.Looks.{is_last, beside_unplaced, neighbours_on}
use Rattle.order_model.proofs.Lines.{has_append, has_permutation}
use Rattle.order_model.proofs.PlaceLemmas.{AreOnce, times, once, order_once, once_tail, times_here, not_beside, not_beside_second}

-- Which line comes first.

pub before_known : (placed rest : List LineId) (a b : LineId) → (is_placed placed a || is_placed placed b) ≡ true → comes_before (placed ++ rest) a b ≡ comes_before placed a b
before_known [] rest a b h = absurd (true≢false (sym h))
before_known (x ∷ placed) rest a b h = by_tests (x.0 == a.0) (x.0 == b.0) (is_placed placed a) (is_placed placed b) h (before_known placed rest a b)
  where
    by_tests : (p q r s : Bool) → ((p || r) || (q || s)) ≡ true → ((r || s) ≡ true → comes_before (placed ++ rest) a b ≡ comes_before placed a b)
        → cond p true (cond q false (comes_before (placed ++ rest) a b)) ≡ cond p true (cond q false (comes_before placed a b))
    by_tests true q r s h rest_same = refl
    by_tests false true r s h rest_same = refl
    by_tests false false r s h rest_same = rest_same h

pub before_total : (order : List LineId) (a b : LineId) → a.0 ≢ b.0 → is_placed order a ≡ true → comes_before order b a ≡ not (comes_before order a b)
before_total [] a b ne h = absurd (true≢false (sym h))
before_total (x ∷ order) a b ne h = by_tests (x.0 == a.0) refl (x.0 == b.0) refl h (before_total order a b ne)
  where
    by_tests : (p : Bool) → (x.0 == a.0) ≡ p → (q : Bool) → (x.0 == b.0) ≡ q → (p || is_placed order a) ≡ true → (is_placed order a ≡ true → comes_before order b a ≡ not (comes_before order a b))
        → cond q true (cond p false (comes_before order b a)) ≡ not (cond p true (cond q false (comes_before order a b)))
    by_tests true e true f h rest = absurd (ne (sym (eqb-true x.0 a.0 e) ∙ eqb-true x.0 b.0 f))
    by_tests true e false f h rest = refl
    by_tests false e true f h rest = refl
    by_tests false e false f h rest = rest h

-- Whether lines are neighbours.

these_apart : (x y a b : LineId) → (x.0 == b.0) ≡ false → (y.0 == b.0) ≡ false → are_these x y a b ≡ false
these_apart x y a b p q = by_tests (x.0 == a.0) (y.0 == b.0) (x.0 == b.0) (y.0 == a.0) q p
  where
    by_tests : (p q r s : Bool) → q ≡ false → r ≡ false → ((p && q) || (r && s)) ≡ false
    by_tests true q r s e f = rw (e, f) refl
    by_tests false q r s e f = rw f refl

these_turned : (x y a b : LineId) → are_these x y a b ≡ are_these x y b a
these_turned x y a b = by_tests (x.0 == a.0 && y.0 == b.0) (x.0 == b.0 && y.0 == a.0)
  where
    by_tests : (p q : Bool) → (p || q) ≡ (q || p)
    by_tests true true = refl
    by_tests true false = refl
    by_tests false true = refl
    by_tests false false = refl

neighbours_turned : (xs : List LineId) (a b : LineId) → are_neighbours xs a b ≡ are_neighbours xs b a
neighbours_turned [] a b = refl
neighbours_turned (x ∷ []) a b = refl
neighbours_turned (x ∷ y ∷ xs) a b = rw (these_turned x y a b, neighbours_turned (y ∷ xs) a b) refl

neighbours_later : (x : LineId) (xs : List LineId) (a b : LineId) → are_neighbours xs a b ≡ true → are_neighbours (x ∷ xs) a b ≡ true
neighbours_later x [] a b h = absurd (true≢false (sym h))
neighbours_later x (y ∷ xs) a b h = or_right (are_these x y a b) (are_neighbours (y ∷ xs) a b) h

none_in_front : (xs ys : List LineId) (a : LineId) → times a (xs ++ ys) ≡ 0 → times a xs ≡ 0
none_in_front xs ys a h = omega (arith, h, sum_by-append (once a) xs ys)

none_after : (x : LineId) (xs : List LineId) (a : LineId) → AreOnce (x ∷ xs) → (x.0 == a.0) ≡ true → times a xs ≡ 0
none_after x xs a h e = omega (arith, h a, times_here a x xs (eqb-true x.0 a.0 e))

both_placed : (placed rest : List LineId) (a b : LineId) → AreOnce (placed ++ rest) → a.0 ≢ b.0 → is_placed placed a ≡ true → is_placed placed b ≡ true
    → are_neighbours (placed ++ rest) a b ≡ are_neighbours placed a b
both_placed [] rest a b once ne p q = absurd (true≢false (sym p))
both_placed (x ∷ []) rest a b once ne p q = elim (or_cases (x.0 == a.0) false p) [
  | inl e ↦ elim (or_cases (x.0 == b.0) false q) [ inl f ↦ absurd (ne (sym (eqb-true x.0 a.0 e) ∙ eqb-true x.0 b.0 f)) | inr f ↦ absurd (true≢false (sym f)) ]
  | inr e ↦ absurd (true≢false (sym e))
]
both_placed (x ∷ y ∷ placed) rest a b once ne p q =
    by_tests (x.0 == a.0) refl (x.0 == b.0) refl p q (λ r s. both_placed (y ∷ placed) rest a b (once_tail x ((y ∷ placed) ++ rest) once) ne r s)
  where
    by_tests : (s : Bool) → (x.0 == a.0) ≡ s → (t : Bool) → (x.0 == b.0) ≡ t → (s || is_placed (y ∷ placed) a) ≡ true → (t || is_placed (y ∷ placed) b) ≡ true
        → (is_placed (y ∷ placed) a ≡ true → is_placed (y ∷ placed) b ≡ true → are_neighbours ((y ∷ placed) ++ rest) a b ≡ are_neighbours (y ∷ placed) a b)
        → (are_these x y a b || are_neighbours ((y ∷ placed) ++ rest) a b) ≡ (are_these x y a b || are_neighbours (y ∷ placed) a b)
    by_tests true e t f p q same =
        let none : times a ((y ∷ placed) ++ rest) ≡ 0 = none_after x ((y ∷ placed) ++ rest) a once e in
        ap (λ k. are_these x y a b || k) (not_beside ((y ∷ placed) ++ rest) a b none ∙ sym (not_beside (y ∷ placed) a b (none_in_front (y ∷ placed) rest a none)))
    by_tests false e true f p q same =
        let none : times b ((y ∷ placed) ++ rest) ≡ 0 = none_after x ((y ∷ placed) ++ rest) b once f in
        ap (λ k. are_these x y a b || k) (not_beside_second ((y ∷ placed) ++ rest) a b none ∙ sym (not_beside_second (y ∷ placed) a b (none_in_front (y ∷ placed) rest b none)))
    by_tests false e false f p q same = ap (λ k. are_these x y a b || k) (same p q)

apart_unplaced : (placed rest : List LineId) (a b : LineId) → AreOnce (placed ++ rest) → is_placed placed a ≡ true → is_placed placed b ≡ false → is_last placed a ≡ false
    → are_neighbours (placed ++ rest) a b ≡ false
apart_unplaced [] rest a b once p q l = absurd (true≢false (sym p))
apart_unplaced (x ∷ []) rest a b once p q l = elim (or_cases (x.0 == a.0) false p) [
  | inl e ↦ absurd (true≢false (sym (ap (λ k. (cond k 0 (1 + place_of [] a) + 1) == 1) e) ∙ l))
  | inr e ↦ absurd (true≢false (sym e))
]
apart_unplaced (x ∷ y ∷ placed) rest a b once p q l =
    let first = or_parts (x.0 == b.0) (is_placed (y ∷ placed) b) q in
    let second = or_parts (y.0 == b.0) (is_placed placed b) first.1 in
    by_test (x.0 == a.0) refl p l (these_apart x y a b first.0 second.0)
    (λ r s. apart_unplaced (y ∷ placed) rest a b (once_tail x ((y ∷ placed) ++ rest) once) r first.1 s)
  where
    later_last : (i n : ℕ) → (((1 + i) + 1) == suc n) ≡ false → ((i + 1) == n) ≡ false
    later_last i n h = grind (arith, nat_tests)

    by_test : (s : Bool) → (x.0 == a.0) ≡ s → (s || is_placed (y ∷ placed) a) ≡ true → ((cond s 0 (1 + place_of (y ∷ placed) a) + 1) == length (x ∷ y ∷ placed)) ≡ false
        → are_these x y a b ≡ false → (is_placed (y ∷ placed) a ≡ true → is_last (y ∷ placed) a ≡ false → are_neighbours ((y ∷ placed) ++ rest) a b ≡ false)
        → (are_these x y a b || are_neighbours ((y ∷ placed) ++ rest) a b) ≡ false
    by_test true e p l these same = rw (these, not_beside ((y ∷ placed) ++ rest) a b (none_after x ((y ∷ placed) ++ rest) a once e)) refl
    by_test false e p l these same = rw (these, same p (later_last (place_of (y ∷ placed) a) (suc (length placed)) l)) refl

last_two : (placed rest : List LineId) (a b : LineId) → length rest ≡ 2 → a.0 ≢ b.0 → is_placed rest a ≡ true → is_placed rest b ≡ true → are_neighbours (placed ++ rest) a b ≡ true
last_two (x ∷ placed) rest a b two ne p q = neighbours_later x (placed ++ rest) a b (last_two placed rest a b two ne p q)
last_two [] [] a b two ne p q = absurd (true≢false (sym p))
last_two [] (u ∷ []) a b two ne p q = absurd (omega (arith, two))
last_two [] (u ∷ v ∷ w ∷ rest) a b two ne p q = absurd (omega (arith, two))
last_two [] (u ∷ v ∷ []) a b two ne p q = by_tests (u.0 == a.0) refl (u.0 == b.0) refl (v.0 == a.0) refl (v.0 == b.0) refl p q
  where
    by_tests : (s : Bool) → (u.0 == a.0) ≡ s → (t : Bool) → (u.0 == b.0) ≡ t → (c : Bool) → (v.0 == a.0) ≡ c → (d : Bool) → (v.0 == b.0) ≡ d → (s || (c || false)) ≡ true → (t || (d || false)) ≡ true
        → (((s && d) || (t && c)) || false) ≡ true
    by_tests true e true f c i d j p q = absurd (ne (sym (eqb-true u.0 a.0 e) ∙ eqb-true u.0 b.0 f))
    by_tests true e false f c i true j p q = refl
    by_tests true e false f c i false j p q = absurd (true≢false (sym q))
    by_tests false e true f true i d j p q = refl
    by_tests false e true f false i d j p q = absurd (true≢false (sym p))
    by_tests false e false f true i true j p q = absurd (ne (sym (eqb-true v.0 a.0 i) ∙ eqb-true v.0 b.0 j))
    by_tests false e false f true i false j p q = absurd (true≢false (sym q))
    by_tests false e false f false i d j p q = absurd (true≢false (sym p))

-- what is settled holds in each completion
pub neighbours_known : (lines placed order : List LineId) (a b : LineId) (x : Bool) → AreRising lines → IsPermutation lines order → BeginsWith placed order → a.0 ≢ b.0
    → is_placed lines a ≡ true → is_placed lines b ≡ true → neighbours_on lines placed a b ≡ Some x → are_neighbours order a b ≡ x
neighbours_known lines placed order a b x rising perm begins ne on_a on_b known =
    ap (λ o. are_neighbours o a b) begins.1 ∙ by_tests (is_placed placed a) refl (is_placed placed b) refl known
  where
    rest : List LineId
    rest = begins.0

    same_some : (y z : Bool) → Some y ≡ Some z → y ≡ z
    same_some y z e = cc

    no_none : (z : Bool) → None ≡ Some z → ⊥
    no_none z e = cc

    apart : AreOnce (placed ++ begins.0)
    apart = subst AreOnce begins.1 (order_once lines order rising perm)

    left : (c : LineId) → is_placed lines c ≡ true → is_placed placed c ≡ false → is_placed begins.0 c ≡ true
    left c on out = elim (or_cases (is_placed placed c) (is_placed begins.0 c) (sym (has_append placed begins.0 c) ∙ (ap (λ o. is_placed o c) (sym begins.1) ∙ (sym (has_permutation lines order c perm) ∙ on)))) [
      | inl here ↦ absurd (true≢false (sym here ∙ out))
      | inr later ↦ later
    ]

    unplaced : (c d : LineId) → is_placed placed c ≡ true → is_placed placed d ≡ false → beside_unplaced placed c ≡ Some x → are_neighbours (placed ++ begins.0) c d ≡ x
    unplaced c d in_c out_d known = by_last (is_last placed c) refl known
      where
        by_last : (l : Bool) → is_last placed c ≡ l → cond l None (Some false) ≡ Some x → are_neighbours (placed ++ begins.0) c d ≡ x
        by_last true e h = absurd (no_none x h)
        by_last false e h = apart_unplaced placed begins.0 c d apart in_c out_d e ∙ same_some false x h

    by_tests : (p : Bool) → is_placed placed a ≡ p → (q : Bool) → is_placed placed b ≡ q
        → cond p (cond q (Some (are_neighbours placed a b)) (beside_unplaced placed a)) (cond q (beside_unplaced placed b) (cond (length placed + 2 == length lines) (Some true) None)) ≡ Some x
        → are_neighbours (placed ++ begins.0) a b ≡ x
    by_tests true p true q h = both_placed placed begins.0 a b apart ne p q ∙ same_some (are_neighbours placed a b) x h
    by_tests true p false q h = unplaced a b p q h
    by_tests false p true q h = neighbours_turned (placed ++ begins.0) a b ∙ unplaced b a q p h
    by_tests false p false q h = by_count (length placed + 2 == length lines) refl h
      where
        by_count : (t : Bool) → (length placed + 2 == length lines) ≡ t → cond t (Some true) None ≡ Some x → are_neighbours (placed ++ begins.0) a b ≡ x
        by_count false e h = absurd (no_none x h)
        by_count true e h =
            let lengths : length order ≡ length lines = length_permutation lines order perm in
            let two : length begins.0 ≡ 2 = omega (arith, lengths, ap length begins.1, length-append placed begins.0, eqb-true (length placed + 2) (length lines) e) in
            last_two placed begins.0 a b two ne (left a on_a p) (left b on_b q) ∙ same_some true x h
