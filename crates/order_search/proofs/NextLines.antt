-- The lines that are placed next are those that are left, each once.
use Rattle.std.proofs.Common.{◌≡◌, ℕ, zero, suc, ◌<◌, ◌==◌, ◌||◌, ◌&&◌, not, Bool, true, false, cond, List, [], ◌∷◌, length, refl, sym, ◌∙◌, ap, arith, true≢false, eq-eqb}
use Rattle.std.specs.Prelude.{IsPermutation}
use Rattle.std.specs.List.{All, Contains, list_all, filter, IsDistinct, AllByRecursion}
use Rattle.std.proofs.lemmas.Bool.Decides.{nat_tests}
use Rattle.std.proofs.lemmas.List.Elements.{All-nil, All-cons, All-head, All-tail}
use Rattle.std.proofs.lemmas.List.Sorted.{All-permutation, length_permutation}
use Rattle.std.proofs.lemmas.Map.Keys.{IsDistinct-IsPermutation}
use Rattle.std.proofs.lemmas.Bool.{and_from}
use Rattle.map_base.specs.declared.ids.SegId.{SegId}
use Rattle.map_base.specs.declared.ids.LineId.{LineId}
use Rattle.graph_core.specs.Consistent.{AreRising}
use Rattle.order_model.specs.Problems.{lines_on}
use Rattle.order_model.specs.Prefixes.{is_placed, is_unplaced, is_left}
use Rattle.order_model.proofs.RisingLines.{few_rising}
use Rattle.order_model.proofs.PrefixLemmas.{contains_placed}
use Rattle.order_proof.specs.Trees.{is_among, AreDistinct}
use Rattle.order_bound.specs.Accepting.{are_those_left}
use Rattle.order_model.proofs.Lines.{neither, not_true, has_permutation}
use Rattle.order_bound.proofs.Sound.{rising_at}
use Rattle.order_search.specs.Left.{lines_left, AreNext}
use Rattle.order_search.specs.LiveTrees.{BoundedPart, child_at, next_lines}
use Rattle.order_search.proofs.Ordered.{ordered_lines}

-- Lines that are left.

next_left : (lines placed xs : List LineId) → ((a : LineId) → Contains xs a → Contains lines a)
    → All (λ (a : LineId). Contains lines a × (is_placed placed a ≡ false)) (lines_left xs placed)
next_left lines placed [] within = All-nil (λ (a : LineId). Contains lines a × (is_placed placed a ≡ false))
next_left lines placed (x ∷ xs) within =
    by_test (is_unplaced placed x) refl (next_left lines placed xs (λ a h. within a (suc h.0, omega (arith, h.1), h.2)))
  where
    by_test : (b : Bool) → is_unplaced placed x ≡ b → All (λ (a : LineId). Contains lines a × (is_placed placed a ≡ false)) (lines_left xs placed)
        → All (λ (a : LineId). Contains lines a × (is_placed placed a ≡ false)) (cond b (x ∷ lines_left xs placed) (lines_left xs placed))
    by_test true e rest =
        All-cons (λ (a : LineId). Contains lines a × (is_placed placed a ≡ false)) x (lines_left xs placed)
        (within x (0, omega arith, refl), not_true (is_placed placed x) e) rest
    by_test false e rest = rest

all_placed : (xs placed : List LineId) → length (lines_left xs placed) ≡ 0 → All (Contains placed) xs
all_placed [] placed h = All-nil (Contains placed)
all_placed (x ∷ xs) placed h = by_test (is_placed placed x) refl h (all_placed xs placed)
  where
    by_test : (b : Bool) → is_placed placed x ≡ b → length (cond (not b) (x ∷ lines_left xs placed) (lines_left xs placed)) ≡ 0
        → (length (lines_left xs placed) ≡ 0 → All (Contains placed) xs) → All (Contains placed) (x ∷ xs)
    by_test true e h rest = All-cons (Contains placed) x xs (contains_placed placed x e) (rest h)
    by_test false e h rest = absurd (omega (arith, h))

some_left : (lines placed : List LineId) → AreRising lines → length placed < length lines → 0 < length (lines_left lines placed)
some_left lines placed rising less = by_count (length (lines_left lines placed)) refl
  where
    by_count : (n : ℕ) → length (lines_left lines placed) ≡ n → 0 < n
    by_count zero e = absurd (omega (arith, less, few_rising lines placed rising (all_placed lines placed e)))
    by_count (suc n) e = omega arith

among_first : (x : LineId) (xs : List LineId) → is_among (x ∷ xs) x ≡ true
among_first x xs = rw (eq-eqb x.0 x.0 refl) refl

among_later : (x a : LineId) (xs : List LineId) → is_among xs a ≡ true → is_among (x ∷ xs) a ≡ true
among_later x a xs h = by_test (x.0 == a.0)
  where
    by_test : (b : Bool) → (b || is_among xs a) ≡ true
    by_test true = refl
    by_test false = h

left_are_left : (lines placed xs : List LineId) → ((a : LineId) → is_among xs a ≡ true → is_among lines a ≡ true) → All (λ (a : LineId). is_left lines placed a ≡ true) (lines_left xs placed)
left_are_left lines placed [] within = All-nil (λ (a : LineId). is_left lines placed a ≡ true)
left_are_left lines placed (x ∷ xs) within = by_test (is_unplaced placed x) refl (left_are_left lines placed xs (λ a h. within a (among_later x a xs h)))
  where
    by_test : (b : Bool) → is_unplaced placed x ≡ b → All (λ (a : LineId). is_left lines placed a ≡ true) (lines_left xs placed)
        → All (λ (a : LineId). is_left lines placed a ≡ true) (cond b (x ∷ lines_left xs placed) (lines_left xs placed))
    by_test true e rest =
        All-cons (λ (a : LineId). is_left lines placed a ≡ true) x (lines_left xs placed) (and_from (is_among lines x) (is_unplaced placed x) (within x (among_first x xs)) e) rest
    by_test false e rest = rest

all_left_among : (placed these xs : List LineId) → ((a : LineId) → is_among (lines_left xs placed) a ≡ true → is_among these a ≡ true)
    → list_all (λ b. is_placed placed b || is_among these b) xs ≡ true
all_left_among placed these [] within = refl
all_left_among placed these (x ∷ xs) within = by_test (is_placed placed x) refl within (all_left_among placed these xs)
  where
    by_test : (b : Bool) → is_placed placed x ≡ b
        → ((a : LineId) → is_among (cond (not b) (x ∷ lines_left xs placed) (lines_left xs placed)) a ≡ true → is_among these a ≡ true)
        → (((a : LineId) → is_among (lines_left xs placed) a ≡ true → is_among these a ≡ true) → list_all (λ b. is_placed placed b || is_among these b) xs ≡ true)
        → ((is_placed placed x || is_among these x) && list_all (λ b. is_placed placed b || is_among these b) xs) ≡ true
    by_test true e within rest =
        and_from (is_placed placed x || is_among these x) (list_all (λ b. is_placed placed b || is_among these b) xs)
        (ap (λ b. b || is_among these x) e) (rest within)
    by_test false e within rest =
        and_from (is_placed placed x || is_among these x) (list_all (λ b. is_placed placed b || is_among these b) xs)
        (ap (λ b. b || is_among these x) e ∙ within x (among_first x (lines_left xs placed))) (rest (λ a h. within a (among_later x a (lines_left xs placed) h)))

all_pass : (p : LineId → Bool) (xs : List LineId) → All (λ (a : LineId). p a ≡ true) xs → list_all p xs ≡ true
all_pass p [] all = refl
all_pass p (x ∷ xs) all =
    and_from (p x) (list_all p xs) (All-head (λ (a : LineId). p a ≡ true) x xs all) (all_pass p xs (All-tail (λ (a : LineId). p a ≡ true) x xs all))

-- Lines of a segment stand once.

abbrev same : LineId → LineId → Bool
same a b = a.0 == b.0

flips : (x y : LineId) → same x y ≡ same y x
flips x y = grind (arith, nat_tests)

abbrev IsApartFrom : LineId → LineId → Type 0
IsApartFrom x y = same x y ≡ false

above : (m x : ℕ) → m < x → (x == m) ≡ false
above m x h = grind (arith, nat_tests)

among_cond : (t : Bool) (x a : LineId) (xs : List LineId) → (x.0 == a.0) ≡ false → is_among xs a ≡ false → is_among (cond t (x ∷ xs) xs) a ≡ false
among_cond true x a xs e h = rw e h
among_cond false x a xs e h = h

among_kept : (p : LineId → Bool) (xs : List LineId) (a : LineId) → is_among xs a ≡ false → is_among (filter p xs) a ≡ false
among_kept p [] a h = refl
among_kept p (x ∷ xs) a h =
    let both = neither (x.0 == a.0) (is_among xs a) h in among_cond (p x) x a (filter p xs) both.0 (among_kept p xs a both.1)

fresh : (m x : LineId) (xs : List LineId) → m.0 < x.0 → AreRising (x ∷ xs) → is_among (x ∷ xs) m ≡ false
fresh m x [] below h = rw (above m.0 x.0 below) refl
fresh m x (y ∷ xs) below h = rw (above m.0 x.0 below) (fresh m y xs (omega (arith, below, h.0)) h.1)

distinct_cond : (t : Bool) (x : LineId) (xs : List LineId) → is_among xs x ≡ false → AreDistinct xs → AreDistinct (cond t (x ∷ xs) xs)
distinct_cond true x xs e h = (e, h)
distinct_cond false x xs e h = h

distinct_kept : (p : LineId → Bool) (xs : List LineId) → AreRising xs → AreDistinct (filter p xs)
distinct_kept p [] h = tt
distinct_kept p (x ∷ []) h = distinct_cond (p x) x [] refl tt
distinct_kept p (x ∷ y ∷ xs) h =
    distinct_cond (p x) x (filter p (y ∷ xs)) (among_kept p (y ∷ xs) x (fresh x y xs h.0 h.1)) (distinct_kept p (y ∷ xs) h.1)

none_same : (x : LineId) (xs : List LineId) → is_among xs x ≡ false → AllByRecursion (IsApartFrom x) xs
none_same x [] h = tt
none_same x (y ∷ xs) h = let both = neither (y.0 == x.0) (is_among xs x) h in (flips x y ∙ both.0, none_same x xs both.1)

same_none : (x : LineId) (xs : List LineId) → AllByRecursion (IsApartFrom x) xs → is_among xs x ≡ false
same_none x [] h = refl
same_none x (y ∷ xs) h = rw (flips y x ∙ h.0) (same_none x xs h.1)

is_distinct : (xs : List LineId) → AreDistinct xs → IsDistinct same xs
unfolding IsDistinct
is_distinct [] h = tt
is_distinct (x ∷ xs) h = (none_same x xs h.0, is_distinct xs h.1)

are_distinct : (xs : List LineId) → IsDistinct same xs → AreDistinct xs
unfolding IsDistinct
are_distinct [] h = tt
are_distinct (x ∷ xs) h = (same_none x xs h.0, are_distinct xs h.1)

-- The lines that are placed next.

module _ (q : BoundedPart) (placed : List (List LineId)) (s : SegId) where
  abbrev pub left : List LineId
  left = lines_left (lines_on q.segs s) (lines_on placed s)

  pub ordered : IsPermutation left (next_lines q placed s)
  ordered = ordered_lines (child_at q placed s) (λ a. refl) left

  pub are_next : AreNext q.segs placed s (next_lines q placed s)
  are_next =
      All-permutation (λ (a : LineId). Contains (lines_on q.segs s) a × (is_placed (lines_on placed s) a ≡ false)) left (next_lines q placed s) ordered
      (next_left (lines_on q.segs s) (lines_on placed s) (lines_on q.segs s) (λ a h. h))

  pub some_next : All AreRising q.segs → length (lines_on placed s) < length (lines_on q.segs s) → 0 < length (next_lines q placed s)
  some_next rising less =
      omega (arith, length_permutation left (next_lines q placed s) ordered, some_left (lines_on q.segs s) (lines_on placed s) (rising_at q.segs s.0 rising) less)

  pub those_next : are_those_left (lines_on q.segs s) (lines_on placed s) (next_lines q placed s) ≡ true
  those_next =
      and_from (list_all (is_left (lines_on q.segs s) (lines_on placed s)) (next_lines q placed s))
      (list_all (λ b. is_placed (lines_on placed s) b || is_among (next_lines q placed s) b) (lines_on q.segs s))
      (all_pass (is_left (lines_on q.segs s) (lines_on placed s)) (next_lines q placed s)
      (All-permutation (λ (a : LineId). is_left (lines_on q.segs s) (lines_on placed s) a ≡ true) left (next_lines q placed s) ordered
      (left_are_left (lines_on q.segs s) (lines_on placed s) (lines_on q.segs s) (λ a h. h))))
      (all_left_among (lines_on placed s) (next_lines q placed s) (lines_on q.segs s) (λ a h. sym (has_permutation left (next_lines q placed s) a ordered) ∙ h))

  pub distinct_next : All AreRising q.segs → AreDistinct (next_lines q placed s)
  distinct_next rising =
      are_distinct (next_lines q placed s)
      (IsDistinct-IsPermutation same flips left (next_lines q placed s) ordered
      (is_distinct left (distinct_kept (is_unplaced (lines_on placed s)) (lines_on q.segs s) (rising_at q.segs s.0 rising))))
