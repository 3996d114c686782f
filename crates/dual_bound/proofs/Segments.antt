-- The segments of a part, and orders of their lines.
use Rattle.std.proofs.Common.{◌≡◌, ℕ, zero, suc, ◌+◌, ◌<◌, ◌==◌, ◌||◌, ◌&&◌, not, Bool, true, false, cond, List, [], ◌∷◌, length, get_or, refl, sym, ◌∙◌, ap, subst, arith, ◌⊎◌, inl, inr, true≢false, eq-eqb, eqb-true}
use Rattle.std.specs.Prelude.{IsPermutation, Contains, ℤ, pos, ◌+ℤ◌, ◌-ℤ◌}
use Rattle.std.specs.List.{All}
use Rattle.std.proofs.lemmas.Bool.{eqb-false, ne_eqb}
use Rattle.std.proofs.lemmas.Bool.Decides.{nat_tests}
use Rattle.std.proofs.lemmas.Int.{ints}
use Rattle.std.proofs.lemmas.List.Elements.{All-head, All-tail}
use Rattle.std.proofs.lemmas.List.Sorted.{IsPermutation-refl}
use Rattle.map_base.specs.declared.ids.SegId.{SegId}
use Rattle.map_base.specs.declared.ids.LineId.{LineId}
use Rattle.graph_core.specs.Consistent.{AreRising}
use Rattle.order_model.specs.Parts.{IsRisingPart}
use Rattle.order_model.specs.PartTerms.{is_in}
use Rattle.order_model.specs.Costs.{comes_before, AreOrders}
use Rattle.order_model.specs.Prefixes.{is_placed}
use Rattle.order_model.proofs.Lines.{either_true, same_line}
use Rattle.whole_sums.specs.Sums.{int_sum}

-- Orders of segments, one by one.

pub order_at : (segs orders : List (List LineId)) (s : ℕ) → AreOrders segs orders → IsPermutation (get_or segs s []) (get_or orders s [])
order_at [] [] s h = IsPermutation-refl []
order_at (l ∷ segs) (o ∷ orders) zero h = h.0
order_at (l ∷ segs) (o ∷ orders) (suc s) h = order_at segs orders s h.1
order_at [] (o ∷ orders) s h = absurd h
order_at (l ∷ segs) [] s h = absurd h

pub rising_at : (segs : List (List LineId)) (s : ℕ) → All AreRising segs → AreRising (get_or segs s [])
rising_at [] s h = tt
rising_at (l ∷ segs) zero h = All-head AreRising l segs h
rising_at (l ∷ segs) (suc s) h = rising_at segs s (All-tail AreRising l segs h)

pub contains_placed : (xs : List LineId) (a : LineId) → Contains xs a → is_placed xs a ≡ true
contains_placed xs a h = at_place xs h.0 h.1 h.2
  where
    at_place : (xs : List LineId) (k : ℕ) → k < length xs → get_or xs k a ≡ a → is_placed xs a ≡ true
    at_place [] k below is = absurd (omega (arith, below))
    at_place (x ∷ xs) zero below is = ap (λ t. t || is_placed xs a) (eq-eqb x.0 a.0 (ap (λ (u : LineId). u.0) is))
    at_place (x ∷ xs) (suc k) below is = or_second (x.0 == a.0) (is_placed xs a) (at_place xs k (omega (arith, below)) is)
      where
        or_second : (s t : Bool) → t ≡ true → (s || t) ≡ true
        or_second true t h = refl
        or_second false t h = h

turned : (a b : ℕ) → (a == b) ≡ false → (b == a) ≡ false
turned a b h = grind (arith, nat_tests)

-- of two lines of an order one comes before the other
pub before_or_behind : (o : List LineId) (a b : LineId) → (a.0 == b.0) ≡ false → is_placed o a ≡ true → is_placed o b ≡ true → comes_before o a b ≡ not (comes_before o b a)
before_or_behind [] a b apart here there = absurd (true≢false (sym here))
before_or_behind (x ∷ o) a b apart here there =
    by_first (x.0 == a.0) refl (x.0 == b.0) refl (either_true (x.0 == a.0) (is_placed o a) here) (either_true (x.0 == b.0) (is_placed o b) there) (λ h k. before_or_behind o a b apart h k)
  where
    differ : (x.0 == a.0) ≡ true → (x.0 == b.0) ≡ true → ⊥
    differ e f = true≢false (sym f ∙ (ap (λ (u : LineId). u.0 == b.0) (same_line x a e) ∙ apart))

    by_first : (s : Bool) → (x.0 == a.0) ≡ s → (t : Bool) → (x.0 == b.0) ≡ t → ((x.0 == a.0) ≡ true) ⊎ (is_placed o a ≡ true) → ((x.0 == b.0) ≡ true) ⊎ (is_placed o b ≡ true)
        → (is_placed o a ≡ true → is_placed o b ≡ true → comes_before o a b ≡ not (comes_before o b a))
        → cond s true (cond t false (comes_before o a b)) ≡ not (cond t true (cond s false (comes_before o b a)))
    by_first true e true f h k rest = absurd (differ e f)
    by_first true e false f h k rest = refl
    by_first false e true f h k rest = refl
    by_first false e false f (inl h) k rest = absurd (true≢false (sym h ∙ e))
    by_first false e false f (inr h) (inl k) rest = absurd (true≢false (sym k ∙ f))
    by_first false e false f (inr h) (inr k) rest = rest h k

-- Segments of a part stand once.

abbrev pub AreApart : List SegId → Type 0
AreApart [] = Unit {0}
AreApart (s ∷ part) = (is_in part s ≡ false) × AreApart part

not_in_above : (s : SegId) (t : SegId) (part : List SegId) → IsRisingPart (t ∷ part) → s.0 < t.0 → is_in (t ∷ part) s ≡ false
not_in_above s t [] h below = ap (λ b. b || false) (ne_eqb t.0 s.0 (λ e. absurd (omega (arith, below, e))))
not_in_above s t (u ∷ part) h below =
    ap (λ b. b || is_in (u ∷ part) s) (ne_eqb t.0 s.0 (λ e. absurd (omega (arith, below, e)))) ∙ not_in_above s u part h.1 (let more = h.0 in omega (arith, below, more))

pub part_apart : (part : List SegId) → IsRisingPart part → AreApart part
part_apart [] h = tt
part_apart (s ∷ []) h = (refl, tt)
part_apart (s ∷ t ∷ part) h = (not_in_above s t part h.1 h.0, part_apart (t ∷ part) h.1)

-- Sums over the segments of a part of which one alone counts.

none_counts : (k : SegId) (f : SegId → ℤ) (part : List SegId) → is_in part k ≡ false → int_sum (λ (s : SegId). cond (k.0 == s.0) (f s) (pos 0)) part ≡ pos 0
none_counts k f [] h = refl
none_counts k f (s ∷ part) h =
    let parts = neither (s.0 == k.0) (is_in part k) h in
    let rest = none_counts k f part parts.1 in
    ap (λ t. cond t (f s) (pos 0) +ℤ int_sum (λ (s : SegId). cond (k.0 == s.0) (f s) (pos 0)) part) (turned s.0 k.0 parts.0) ∙ omega (arith, ints, rest)
  where
    neither : (a b : Bool) → (a || b) ≡ false → (a ≡ false) × (b ≡ false)
    neither true b h = absurd (true≢false h)
    neither false b h = (refl, h)

pub same_seg : (s t : SegId) → (s.0 == t.0) ≡ true → s ≡ t
same_seg s t h = let P : ℕ → SegId = λ n. record { 0 = n } in ap P (eqb-true s.0 t.0 h)

pub one_counts : (k : SegId) (f : SegId → ℤ) (part : List SegId) → AreApart part → is_in part k ≡ true → int_sum (λ (s : SegId). cond (k.0 == s.0) (f s) (pos 0)) part ≡ f k
one_counts k f [] apart h = absurd (true≢false (sym h))
one_counts k f (s ∷ part) apart h = by_test (k.0 == s.0) refl (λ g. one_counts k f part apart.1 g)
  where
    later : (k.0 == s.0) ≡ false → ((s.0 == k.0) ≡ true) ⊎ (is_in part k ≡ true) → is_in part k ≡ true
    later e (inl here) = absurd (true≢false (sym here ∙ turned k.0 s.0 e))
    later e (inr there) = there

    by_test : (b : Bool) → (k.0 == s.0) ≡ b → (is_in part k ≡ true → int_sum (λ (s : SegId). cond (k.0 == s.0) (f s) (pos 0)) part ≡ f k)
        → cond b (f s) (pos 0) +ℤ int_sum (λ (s : SegId). cond (k.0 == s.0) (f s) (pos 0)) part ≡ f k
    by_test true e rest =
        let is : k ≡ s = same_seg k s e in
        let none = none_counts k f part (ap (λ u. is_in part u) is ∙ apart.0) in
        let same : f s ≡ f k = ap f (sym is) in
        omega (arith, ints, none, same)
    by_test false e rest = let more = rest (later e (either_true (s.0 == k.0) (is_in part k) h)) in omega (arith, ints, more)

pub int_sum_less_by : {A : Type 0} (f g : A → ℤ) (xs : List A) → int_sum (λ x. f x -ℤ g x) xs ≡ int_sum f xs -ℤ int_sum g xs
int_sum_less_by f g [] = omega (arith, ints)
int_sum_less_by f g (x ∷ xs) = let rest = int_sum_less_by f g xs in omega (arith, ints, rest)
