-- The live tree has no more branch nodes than the part has prefixes that are not complete.
use Rattle.std.proofs.Common.{◌≡◌, ◌≢◌, ℕ, zero, suc, ◌+◌, ◌-◌, ◌*◌, ◌<◌, ◌≤◌, ◌==◌, ◌||◌, nat_lt, Bool, true, false, cond, List, [], ◌∷◌, ◌++◌, ◌⊎◌, length, get_or, refl, sym, ◌∙◌, ap, subst, arith, inl, inr, true≢false, eqb-true, eq-eqb, length-append, Some, None, Option}
use Rattle.std.specs.List.{All, Contains, find, filter}
use Rattle.std.specs.Option.{option_to_list}
use Rattle.std.proofs.Math.Nat.{mul-le-mul_left}
use Rattle.std.proofs.lemmas.Bool.{eqb-false, ltb-true}
use Rattle.std.proofs.lemmas.Bool.Decides.{nat_tests}
use Rattle.std.proofs.lemmas.List.{get_or-set_same, get_or-set_other}
use Rattle.std.proofs.lemmas.List.Elements.{All-head, All-tail}
use Rattle.std.proofs.lemmas.List.Sorted.{length_permutation, IsPermutation-filter_both}
use Rattle.map_base.specs.declared.ids.SegId.{SegId}
use Rattle.map_base.specs.declared.ids.LineId.{LineId}
use Rattle.graph_core.specs.Consistent.{AreRising}
use Rattle.order_model.specs.Problems.{lines_on}
use Rattle.order_model.specs.Parts.{IsRisingPart}
use Rattle.order_model.specs.Prefixes.{is_placed, is_unplaced, with_line, AreApart}
use Rattle.order_model.proofs.RisingLines.{contains_kept}
use Rattle.order_proof.specs.Plain.{cases_of}
use Rattle.order_proof.specs.Trees.{splits_of, splits_of_cases}
use Rattle.order_model.specs.PartTerms.{is_in}
use Rattle.order_model.specs.Completions.{placed_more}
use Rattle.order_model.proofs.Lines.{neither}
use Rattle.order_bound.proofs.Sound.{same_or_other, all_in}
use Rattle.part_bounds.specs.PartStates.{IsWell}
use Rattle.order_search.specs.Left.{is_open, first_open, lines_left, left_on, room_of, AreNext}
use Rattle.order_search.specs.LiveTrees.{BoundedPart, Best, next_lines, grow_cases, split_with, closed_with, live_node, live_within, live_at}
use Rattle.order_search.specs.Finding.{orders_of, prefixes_of, product, incomplete_in}
use Rattle.order_search.proofs.Rooms.{found_in}
use Rattle.order_search.proofs.NextLines.{are_next, ordered}
use Rattle.order_model.proofs.PrefixLemmas.{few_apart}
use Rattle.order_search.proofs.Accepted.{well_more}

-- Products.

mul_le : (a b c d : ℕ) → a ≤ b → c ≤ d → a * c ≤ b * d
mul_le a b c d h g = omega (arith, mul-le-mul_left a g, mul-le-mul_left d h)

one_product : (f : SegId → ℕ) → ((s : SegId) → 1 ≤ f s) → (part : List SegId) → 1 ≤ product f part
one_product f each [] = omega arith
one_product f each (s ∷ part) = omega (arith, mul_le 1 (f s) 1 (product f part) (each s) (one_product f each part))

less_product : (f g : SegId → ℕ) → ((s : SegId) → f s ≤ g s) → (part : List SegId) → product f part ≤ product g part
less_product f g each [] = omega arith
less_product f g each (s ∷ part) = mul_le (f s) (g s) (product f part) (product g part) (each s) (less_product f g each part)

pub same_product : (f g : SegId → ℕ) (part : List SegId) → ((u : SegId) → is_in part u ≡ true → f u ≡ g u) → product f part ≡ product g part
same_product f g [] same = refl
same_product f g (s ∷ part) same =
    ap (λ n. n * product f part) (same s (here s part)) ∙ ap (λ n. g s * n) (same_product f g part (λ u h. same u (later s u part h)))
  where
    here : (s : SegId) (part : List SegId) → is_in (s ∷ part) s ≡ true
    here s part = rw (eq-eqb s.0 s.0 refl) refl

    later : (s u : SegId) (part : List SegId) → is_in part u ≡ true → is_in (s ∷ part) u ≡ true
    later s u part h = by_test (s.0 == u.0)
      where
        by_test : (b : Bool) → (b || is_in part u) ≡ true
        by_test true = refl
        by_test false = h

-- no segment stands twice
abbrev pub AreOnce : List SegId → Type 0
AreOnce [] = Unit {0}
AreOnce (s ∷ part) = (is_in part s ≡ false) × AreOnce part

apart : (x m : ℕ) → m < x → (x == m) ≡ false
apart x m h = grind (arith, nat_tests)

below_all : (m s : SegId) (part : List SegId) → m.0 < s.0 → IsRisingPart (s ∷ part) → is_in (s ∷ part) m ≡ false
below_all m s [] below rising = rw (apart s.0 m.0 below) refl
below_all m s (t ∷ part) below rising = rw (apart s.0 m.0 below) (below_all m t part (omega (arith, below, rising.0)) rising.1)

pub rising_once : (part : List SegId) → IsRisingPart part → AreOnce part
rising_once [] h = absurd h
rising_once (s ∷ []) h = (refl, tt)
rising_once (s ∷ t ∷ part) h = (below_all s t part h.0 h.1, rising_once (t ∷ part) h.1)

-- One factor changes.

abbrev IsSameBut : SegId → (SegId → ℕ) → (SegId → ℕ) → Type 0
IsSameBut s f g = (u : SegId) → u.0 ≢ s.0 → f u ≡ g u

same_beside : (s : SegId) (f g : SegId → ℕ) → IsSameBut s f g → (part : List SegId) → is_in part s ≡ false → product f part ≡ product g part
same_beside s f g same [] h = refl
same_beside s f g same (t ∷ part) h =
    let both = neither (t.0 == s.0) (is_in part s) h in
    ap (λ n. n * product f part) (same t (eqb-false t.0 s.0 both.0)) ∙ ap (λ n. g t * n) (same_beside s f g same part both.1)

seg_is : (t s : SegId) → (t.0 == s.0) ≡ true → t ≡ s
seg_is t s h = let P : ℕ → SegId = λ n. record { 0 = n } in ap P (eqb-true t.0 s.0 h)

-- where the factor of a segment grows from n to 1 and m times n
product_grows : (s : SegId) (m : ℕ) (f g : SegId → ℕ) → IsSameBut s f g → f s ≡ 1 + m * g s → ((u : SegId) → 1 ≤ f u) → (part : List SegId) → AreOnce part → is_in part s ≡ true
    → 1 + m * product g part ≤ product f part
product_grows s m f g same at each [] once h = absurd (true≢false (sym h))
product_grows s m f g same at each (t ∷ part) once h = by_test (t.0 == s.0) refl (product_grows s m f g same at each part once.1)
  where
    whole : (a b r : ℕ) → a ≡ 1 + m * b → 1 ≤ r → 1 + m * (b * r) ≤ a * r
    whole a b r e one = rw e (omega (arith, one))

    other : (a x y : ℕ) → 1 ≤ a → 1 + m * y ≤ x → 1 + m * (a * y) ≤ a * x
    other a x y one h = omega (arith, one, mul-le-mul_left a h)

    by_test : (b : Bool) → (t.0 == s.0) ≡ b → (is_in part s ≡ true → 1 + m * product g part ≤ product f part) → 1 + m * product g (t ∷ part) ≤ product f (t ∷ part)
    by_test true e again =
        let is : t ≡ s = seg_is t s e in
        let beside : product f part ≡ product g part = same_beside s f g same part (subst (λ u. is_in part u ≡ false) is once.0) in
        let at_t : f t ≡ 1 + m * g t = subst (λ u. f u ≡ 1 + m * g u) (sym is) at in
        subst (λ r. 1 + m * (g t * r) ≤ f t * product f part) beside (whole (f t) (g t) (product f part) at_t (one_product f each part))
    by_test false e again =
        let in_rest : is_in part s ≡ true = subst (λ b. (b || is_in part s) ≡ true) e h in
        let same_t : f t ≡ g t = same t (eqb-false t.0 s.0 e) in
        subst (λ a. 1 + m * (a * product g part) ≤ f t * product f part) same_t
        (other (f t) (product f part) (product g part) (each t) (again in_rest))

-- where it grows from n to m times n
product_times : (s : SegId) (m : ℕ) (f g : SegId → ℕ) → IsSameBut s f g → f s ≡ m * g s → (part : List SegId) → AreOnce part → is_in part s ≡ true
    → product f part ≡ m * product g part
product_times s m f g same at [] once h = absurd (true≢false (sym h))
product_times s m f g same at (t ∷ part) once h = by_test (t.0 == s.0) refl (product_times s m f g same at part once.1)
  where
    whole : (a b r : ℕ) → a ≡ m * b → a * r ≡ m * (b * r)
    whole a b r e = rw e (omega arith)

    other : (a x y : ℕ) → x ≡ m * y → a * x ≡ m * (a * y)
    other a x y e = rw e (omega arith)

    by_test : (b : Bool) → (t.0 == s.0) ≡ b → (is_in part s ≡ true → product f part ≡ m * product g part) → product f (t ∷ part) ≡ m * product g (t ∷ part)
    by_test true e again =
        let is : t ≡ s = seg_is t s e in
        let beside : product f part ≡ product g part = same_beside s f g same part (subst (λ u. is_in part u ≡ false) is once.0) in
        let at_t : f t ≡ m * g t = subst (λ u. f u ≡ m * g u) (sym is) at in
        subst (λ r. f t * product f part ≡ m * (g t * r)) beside (whole (f t) (g t) (product f part) at_t)
    by_test false e again =
        let in_rest : is_in part s ≡ true = subst (λ b. (b || is_in part s) ≡ true) e h in
        let same_t : f t ≡ g t = same t (eqb-false t.0 s.0 e) in
        subst (λ a. f t * product f part ≡ m * (a * product g part)) same_t (other (f t) (product f part) (product g part) (again in_rest))

-- Orders and prefixes of so many lines.

one_prefix : (n : ℕ) → 1 ≤ prefixes_of n
one_prefix zero = omega arith
one_prefix (suc zero) = omega arith
one_prefix (suc (suc n)) = omega arith

orders_few : (n : ℕ) → orders_of n ≤ prefixes_of n
orders_few zero = omega arith
orders_few (suc zero) = omega arith
orders_few (suc (suc n)) = omega (arith, mul-le-mul_left (suc (suc n)) (orders_few (suc n)))

prefixes_more : (m : ℕ) → 2 ≤ m → prefixes_of m ≡ 1 + m * prefixes_of (m - 1)
prefixes_more zero h = absurd (omega (arith, h))
prefixes_more (suc zero) h = absurd (omega (arith, h))
prefixes_more (suc (suc n)) h = let e : suc n ≡ suc (suc n) - 1 = omega arith in ap (λ k. 1 + suc (suc n) * prefixes_of k) e

orders_more : (m : ℕ) → 2 ≤ m → orders_of m ≡ m * orders_of (m - 1)
orders_more zero h = absurd (omega (arith, h))
orders_more (suc n) h = let e : n ≡ suc n - 1 = omega arith in ap (λ k. suc n * orders_of k) e

-- so many are left after one more is placed: the last two are placed at once
abbrev IsOneFewer : ℕ → ℕ → Type 0
IsOneFewer m n = (n ≡ m - 1) ⊎ ((m ≡ 2) × (n ≤ 1))

pub few_prefixes : (n : ℕ) → n ≤ 1 → prefixes_of n ≡ 1
few_prefixes zero h = refl
few_prefixes (suc zero) h = refl
few_prefixes (suc (suc n)) h = absurd (omega (arith, h))

pub few_orders : (n : ℕ) → n ≤ 1 → orders_of n ≡ 1
few_orders zero h = refl
few_orders (suc zero) h = refl
few_orders (suc (suc n)) h = absurd (omega (arith, h))

fewer_prefixes : (m n : ℕ) → IsOneFewer m n → prefixes_of n ≡ prefixes_of (m - 1)
fewer_prefixes m n (inl e) = ap prefixes_of e
fewer_prefixes m n (inr h) = few_prefixes n h.1 ∙ sym (ap (λ k. prefixes_of (k - 1)) h.0)

fewer_orders : (m n : ℕ) → IsOneFewer m n → orders_of n ≡ orders_of (m - 1)
fewer_orders m n (inl e) = ap orders_of e
fewer_orders m n (inr h) = few_orders n h.1 ∙ sym (ap (λ k. orders_of (k - 1)) h.0)

placed_then : (lines placed : List LineId) (a : LineId) → length placed < length lines → IsOneFewer (length lines - length placed) (length lines - length (with_line lines placed a))
placed_then lines placed a less = by_test (length (placed ++ a ∷ []) + 1 == length lines) refl
  where
    pushed : length (placed ++ a ∷ []) ≡ length placed + 1
    pushed = length-append placed (a ∷ [])

    by_test : (b : Bool) → (length (placed ++ a ∷ []) + 1 == length lines) ≡ b
        → IsOneFewer (length lines - length placed) (length lines - length (cond b ((placed ++ a ∷ []) ++ option_to_list (find (is_unplaced (placed ++ a ∷ [])) lines)) (placed ++ a ∷ [])))
    by_test true e =
        let two : length (placed ++ a ∷ []) + 1 ≡ length lines = eqb-true (length (placed ++ a ∷ []) + 1) (length lines) e in
        inr (omega (arith, two, pushed), omega (arith, two, length-append (placed ++ a ∷ []) (option_to_list (find (is_unplaced (placed ++ a ∷ [])) lines))))
    by_test false e = inl (omega (arith, pushed))

-- no more lines are left than are not placed
few_left : (lines placed : List LineId) → AreApart placed → All (Contains lines) placed → length (lines_left lines placed) + length placed ≤ length lines
few_left lines placed apart known =
    let both = length_permutation lines (filter (is_placed placed) lines ++ filter (is_unplaced placed) lines) (IsPermutation-filter_both (is_placed placed) (is_unplaced placed) (λ a. refl) lines) in
    let few : length placed ≤ length (filter (is_placed placed) lines) = few_apart placed (filter (is_placed placed) lines) apart
    (λ k d below. contains_kept (is_placed placed) (get_or placed k d) lines (known k d below) (among placed k d below)) in
    omega (arith, both, few, length-append (filter (is_placed placed) lines) (filter (is_unplaced placed) lines))
  where
    among : (xs : List LineId) (k : ℕ) (d : LineId) → k < length xs → is_placed xs (get_or xs k d) ≡ true
    among [] k d below = absurd (omega (arith, below))
    among (x ∷ xs) zero d below = rw (eq-eqb x.0 x.0 refl) refl
    among (x ∷ xs) (suc k) d below = later (x.0 == (get_or xs k d).0) (is_placed xs (get_or xs k d)) (among xs k d (omega (arith, below)))
      where
        later : (s t : Bool) → t ≡ true → (s || t) ≡ true
        later true t h = refl
        later false t h = h

-- The induction.

module _ (q : BoundedPart) (rising : All AreRising q.segs) (known : All (λ (s : SegId). s.0 < length q.segs) q.part) (once : AreOnce q.part) where
  abbrev pub prefixes_at : List (List LineId) → SegId → ℕ
  prefixes_at placed s = prefixes_of (left_on q.segs placed s)

  abbrev pub orders_at : List (List LineId) → SegId → ℕ
  orders_at placed s = orders_of (left_on q.segs placed s)

  -- a line is left on a segment of the part
  abbrev pub IsOpenIn : List (List LineId) → SegId → Type 0
  IsOpenIn placed s = (is_open q.segs placed s ≡ true) × (is_in q.part s ≡ true)

  known_seg : (placed : List (List LineId)) (s : SegId) → IsOpenIn placed s → s.0 < length q.segs
  known_seg placed s e = all_in (λ (s : SegId). s.0 < length q.segs) q.part s known e.1

  less_there : (placed : List (List LineId)) (s : SegId) → IsOpenIn placed s → length (lines_on placed s) < length (lines_on q.segs s)
  less_there placed s e = ltb-true (length (lines_on placed s)) (length (lines_on q.segs s)) e.0

  two_left : (placed : List (List LineId)) (s : SegId) → IsWell q.segs placed → IsOpenIn placed s → 2 ≤ left_on q.segs placed s
  two_left placed s ok e =
      let alone : length (lines_on placed s) + 1 ≢ length (lines_on q.segs s) = (ok.lines s.0 (known_seg placed s e)).none_alone in
      by_case (length (lines_on q.segs s)) (length (lines_on placed s)) (less_there placed s e) alone
    where
      by_case : (n p : ℕ) → p < n → p + 1 ≢ n → 2 ≤ n - p
      by_case n p h g = elim (same_or_other (p + 1) n) [ inl is ↦ absurd (g is) | inr other ↦ omega (arith, h, other) ]

  left_beside : (placed : List (List LineId)) (s u : SegId) (a : LineId) → u.0 ≢ s.0 → left_on q.segs (placed_more q.segs placed s a) u ≡ left_on q.segs placed u
  left_beside placed s u a n = ap (λ l. length (lines_on q.segs u) - length l) (get_or-set_other placed s.0 u.0 (with_line (lines_on q.segs s) (lines_on placed s) a) [] n)

  left_here : (placed : List (List LineId)) (s : SegId) (a : LineId) → IsWell q.segs placed → IsOpenIn placed s
      → IsOneFewer (left_on q.segs placed s) (left_on q.segs (placed_more q.segs placed s a) s)
  left_here placed s a ok e =
      let s_known : s.0 < length placed = omega (arith, ok.each, known_seg placed s e) in
      subst (λ l. IsOneFewer (left_on q.segs placed s) (length (lines_on q.segs s) - length l))
      (sym (get_or-set_same placed s.0 (with_line (lines_on q.segs s) (lines_on placed s) a) [] s_known))
      (placed_then (lines_on q.segs s) (lines_on placed s) a (less_there placed s e))

  -- so many prefixes and orders each child has
  abbrev pub child_prefixes : List (List LineId) → SegId → ℕ
  child_prefixes placed s = product (λ u. cond (u.0 == s.0) (prefixes_of (left_on q.segs placed s - 1)) (prefixes_at placed u)) q.part

  abbrev pub child_orders : List (List LineId) → SegId → ℕ
  child_orders placed s = product (λ u. cond (u.0 == s.0) (orders_of (left_on q.segs placed s - 1)) (orders_at placed u)) q.part

  by_seg : (f : ℕ → ℕ) (placed : List (List LineId)) (s : SegId) (a : LineId) (n : ℕ) → f (left_on q.segs (placed_more q.segs placed s a) s) ≡ n
      → (u : SegId) → f (left_on q.segs (placed_more q.segs placed s a) u) ≡ cond (u.0 == s.0) n (f (left_on q.segs placed u))
  by_seg f placed s a n at u = by_test (u.0 == s.0) refl
    where
      by_test : (b : Bool) → (u.0 == s.0) ≡ b → f (left_on q.segs (placed_more q.segs placed s a) u) ≡ cond b n (f (left_on q.segs placed u))
      by_test true e = subst (λ v. f (left_on q.segs (placed_more q.segs placed s a) v) ≡ n) (sym (seg_is u s e)) at
      by_test false e = ap f (left_beside placed s u a (eqb-false u.0 s.0 e))

  pub prefixes_of_child : (placed : List (List LineId)) (s : SegId) (a : LineId) → IsWell q.segs placed → IsOpenIn placed s
      → product (prefixes_at (placed_more q.segs placed s a)) q.part ≡ child_prefixes placed s
  prefixes_of_child placed s a ok e =
      same_product (prefixes_at (placed_more q.segs placed s a)) (λ u. cond (u.0 == s.0) (prefixes_of (left_on q.segs placed s - 1)) (prefixes_at placed u)) q.part
      (λ u h. by_seg prefixes_of placed s a (prefixes_of (left_on q.segs placed s - 1))
      (fewer_prefixes (left_on q.segs placed s) (left_on q.segs (placed_more q.segs placed s a) s) (left_here placed s a ok e)) u)

  pub orders_of_child : (placed : List (List LineId)) (s : SegId) (a : LineId) → IsWell q.segs placed → IsOpenIn placed s
      → product (orders_at (placed_more q.segs placed s a)) q.part ≡ child_orders placed s
  orders_of_child placed s a ok e =
      same_product (orders_at (placed_more q.segs placed s a)) (λ u. cond (u.0 == s.0) (orders_of (left_on q.segs placed s - 1)) (orders_at placed u)) q.part
      (λ u h. by_seg orders_of placed s a (orders_of (left_on q.segs placed s - 1))
      (fewer_orders (left_on q.segs placed s) (left_on q.segs (placed_more q.segs placed s a) s) (left_here placed s a ok e)) u)

  at_seg : (s : SegId) (n : ℕ) (f : SegId → ℕ) → cond (s.0 == s.0) n (f s) ≡ n
  at_seg s n f = rw (eq-eqb s.0 s.0 refl) refl

  but_seg : (s : SegId) (n : ℕ) (f : SegId → ℕ) → IsSameBut s f (λ u. cond (u.0 == s.0) n (f u))
  but_seg s n f u h = by_test (u.0 == s.0) refl
    where
      by_test : (b : Bool) → (u.0 == s.0) ≡ b → f u ≡ cond b n (f u)
      by_test true e = absurd (h (eqb-true u.0 s.0 e))
      by_test false e = refl

  pub prefixes_grow : (placed : List (List LineId)) (s : SegId) → IsWell q.segs placed → IsOpenIn placed s
      → 1 + left_on q.segs placed s * child_prefixes placed s ≤ product (prefixes_at placed) q.part
  prefixes_grow placed s ok e =
      let m : ℕ = left_on q.segs placed s in
      product_grows s m (prefixes_at placed) (λ u. cond (u.0 == s.0) (prefixes_of (left_on q.segs placed s - 1)) (prefixes_at placed u))
      (but_seg s (prefixes_of (left_on q.segs placed s - 1)) (prefixes_at placed))
      (prefixes_more m (two_left placed s ok e) ∙ ap (λ n. 1 + m * n) (sym (at_seg s (prefixes_of (m - 1)) (prefixes_at placed))))
      (λ u. one_prefix (left_on q.segs placed u)) q.part once e.1

  pub orders_times : (placed : List (List LineId)) (s : SegId) → IsWell q.segs placed → IsOpenIn placed s
      → product (orders_at placed) q.part ≡ left_on q.segs placed s * child_orders placed s
  orders_times placed s ok e =
      let m : ℕ = left_on q.segs placed s in
      product_times s m (orders_at placed) (λ u. cond (u.0 == s.0) (orders_of (left_on q.segs placed s - 1)) (orders_at placed u))
      (but_seg s (orders_of (left_on q.segs placed s - 1)) (orders_at placed))
      (orders_more m (two_left placed s ok e) ∙ ap (λ n. m * n) (sym (at_seg s (orders_of (m - 1)) (orders_at placed)))) q.part once e.1

  pub few_next : (placed : List (List LineId)) (s : SegId) → IsWell q.segs placed → IsOpenIn placed s → length (next_lines q placed s) ≤ left_on q.segs placed s
  few_next placed s ok e =
      let lines = ok.lines s.0 (known_seg placed s e) in
      omega (
        arith,
        length_permutation (lines_left (lines_on q.segs s) (lines_on placed s)) (next_lines q placed s) (ordered q placed s),
        few_left (lines_on q.segs s) (lines_on placed s) lines.apart lines.known,
      )

  abbrev CountedAt : ℕ → Type 0
  CountedAt n = (placed : List (List LineId)) (b : Best) → IsWell q.segs placed → splits_of (live_within n q placed b).tree + product (orders_at placed) q.part ≤ product (prefixes_at placed) q.part

  pub orders_below : (placed : List (List LineId)) → product (orders_at placed) q.part ≤ product (prefixes_at placed) q.part
  orders_below placed = less_product (orders_at placed) (prefixes_at placed) (λ u. orders_few (left_on q.segs placed u)) q.part

  counted_cases : (n : ℕ) → CountedAt n → (placed : List (List LineId)) (b : Best) → IsWell q.segs placed → (s : SegId) → IsOpenIn placed s
      → (lines : List LineId) → AreNext q.segs placed s lines
      → splits_of_cases (cases_of (grow_cases (live_within n q) q placed s lines b).cases) + length lines * child_orders placed s ≤ length lines * child_prefixes placed s
  counted_cases n again placed b ok s e [] next = omega arith
  counted_cases n again placed b ok s e (a ∷ lines) next =
      let P : LineId → Type 0 = λ (a : LineId). Contains (lines_on q.segs s) a × (is_placed (lines_on placed s) a ≡ false) in
      let more : List (List LineId) = placed_more q.segs placed s a in
      let fits = All-head P a lines next in
      let one = again more b (well_more q rising known placed s a ok (known_seg placed s e) fits.0 fits.1) in
      let rest = counted_cases n again placed (live_within n q more b).best ok s e lines (All-tail P a lines next) in
      omega (arith, one, rest, prefixes_of_child placed s a ok e, orders_of_child placed s a ok e)

  pub fewer_times : (k m c p t : ℕ) → k ≤ m → c ≤ p → t + k * c ≤ k * p → t + m * c ≤ m * p
  fewer_times k m c p t less below h =
      let more : (m - k) * c ≤ (m - k) * p = mul-le-mul_left (m - k) below in
      let all : k + (m - k) ≡ m = omega (arith, less) in
      subst (λ n. t + n * c ≤ n * p) all (omega (arith, h, more))

  pub child_below : (placed : List (List LineId)) (s : SegId) → child_orders placed s ≤ child_prefixes placed s
  child_below placed s =
      less_product (λ u. cond (u.0 == s.0) (orders_of (left_on q.segs placed s - 1)) (orders_at placed u))
      (λ u. cond (u.0 == s.0) (prefixes_of (left_on q.segs placed s - 1)) (prefixes_at placed u)) (λ u. by_test u (u.0 == s.0)) q.part
    where
      by_test : (u : SegId) (b : Bool) → cond b (orders_of (left_on q.segs placed s - 1)) (orders_at placed u) ≤ cond b (prefixes_of (left_on q.segs placed s - 1)) (prefixes_at placed u)
      by_test u true = orders_few (left_on q.segs placed s - 1)
      by_test u false = orders_few (left_on q.segs placed u)

  counted_node : (n : ℕ) → CountedAt n → (placed : List (List LineId)) (b : Best) → IsWell q.segs placed
      → (f : Option SegId) → first_open q.segs q.part placed ≡ f
      → splits_of (live_node (live_within n q) q placed f b).tree + product (orders_at placed) q.part ≤ product (prefixes_at placed) q.part
  counted_node n again placed b ok None e = omega (arith, orders_below placed)
  counted_node n again placed b ok (Some s) e = by_test (nat_lt (q.bound placed) b.cost)
    where
      by_test : (t : Bool) → splits_of (cond t (split_with s (grow_cases (live_within n q) q placed s (next_lines q placed s) b)) (closed_with q placed b)).tree
          + product (orders_at placed) q.part ≤ product (prefixes_at placed) q.part
      by_test true =
          let here : IsOpenIn placed s = found_in (is_open q.segs placed) q.part s e in
          let cases = counted_cases n again placed b ok s here (next_lines q placed s) (are_next q placed s) in
          let all = fewer_times (length (next_lines q placed s)) (left_on q.segs placed s) (child_orders placed s) (child_prefixes placed s)
          (splits_of_cases (cases_of (grow_cases (live_within n q) q placed s (next_lines q placed s) b).cases)) (few_next placed s ok here) (child_below placed s) cases in
          omega (arith, all, prefixes_grow placed s ok here, orders_times placed s ok here)
      by_test false = omega (arith, orders_below placed)

  counted : (n : ℕ) → CountedAt n
  counted zero placed b ok = omega (arith, orders_below placed)
  counted (suc n) placed b ok = counted_node n (counted n) placed b ok (first_open q.segs q.part placed) refl

  -- from where each segment of the part has as many prefixes and orders left as there are
  pub live_counted : (placed : List (List LineId)) (b : Best) → IsWell q.segs placed
      → ((u : SegId) → orders_of (left_on q.segs placed u) ≡ orders_of (length (lines_on q.segs u)))
      → ((u : SegId) → prefixes_of (left_on q.segs placed u) ≡ prefixes_of (length (lines_on q.segs u)))
      → splits_of (live_at q placed b).tree ≤ incomplete_in q.segs q.part
  live_counted placed b ok all_orders all_prefixes =
      omega (
        arith,
        counted (room_of q.segs q.part placed) placed b ok,
        same_product (orders_at placed) (λ s. orders_of (length (lines_on q.segs s))) q.part (λ u h. all_orders u),
        same_product (prefixes_at placed) (λ s. prefixes_of (length (lines_on q.segs s))) q.part (λ u h. all_prefixes u),
      )
