-- Tables of the places of lines in orders, which may lack some lines.
use Rattle.std.proofs.Common.{◌≡◌, ◌≢◌, ℕ, zero, suc, ◌+◌, ◌<◌, ◌≤◌, ◌==◌, ◌||◌, ◌&&◌, not, nat_lt, Bool, true, false, cond, List, [], ◌∷◌, ◌++◌, length, take, set, get_or, refl, sym, ◌∙◌, ap, subst, arith, inl, inr, ◌⊎◌, true≢false, eq-eqb, replicate, Option, Some, None}
use Rattle.std.specs.Prelude.{IsPermutation}
use Rattle.std.specs.List.{All, Contains, find}
use Rattle.std.specs.Option.{option_map}
use Rattle.std.proofs.lemmas.Bool.{eqb-false, ne_eqb}
use Rattle.std.proofs.lemmas.Bool.Decides.{nat_tests}
use Rattle.std.proofs.lemmas.List.{get_or-map, length-map, length-set, get_or-set_same, get_or-set_other, ext_get_or, get_or_default, length-take-le, take_more, take_all}
use Rattle.std.proofs.lemmas.List.Elements.{Contains-get_or}
use Rattle.std.proofs.lemmas.List.Sorted.{IsPermutation-sym, Contains-permutation}
use Rattle.map_base.specs.declared.ids.LineId.{LineId}
use Rattle.graph_core.specs.Consistent.{AreRising}
use Rattle.order_model.specs.Costs.{comes_before, are_neighbours}
use Rattle.order_model.specs.Places.{place_of, has_line, no_place, place_in, places_in, first_without_place, is_left_by, are_adjacent}
use Rattle.order_model.specs.Prefixes.{is_placed, is_unplaced, is_left, AreApart}
use Rattle.order_model.proofs.PlaceLemmas.{no_line, same_or_not, times, times_here, times_not_here, AreOnce, once_head, once_tail, order_once, rising_once, line_is, place_here, place_later, place_below, line_at_place, place_of_line, before_is, beside_is, not_beside, not_beside_second}
use Rattle.order_model.proofs.PrefixLemmas.{neither, contains_placed, apart_take}

-- Lines apart from each other stand once each.

pub never_there : (xs : List LineId) (a : LineId) → has_line xs a ≡ false → times a xs ≡ 0
never_there [] a h = refl
never_there (x ∷ xs) a h =
    let both = neither (x.0 == a.0) (has_line xs a) h in
    times_not_here a x xs (eqb-false x.0 a.0 both.0) ∙ never_there xs a both.1

not_there : (xs : List LineId) (a : LineId) → times a xs ≡ 0 → has_line xs a ≡ false
not_there [] a h = refl
not_there (x ∷ xs) a h = elim (same_or_not x.0 a.0) [
  | inl e ↦ absurd (omega (arith, times_here a x xs e, h))
  | inr n ↦ (let rest = not_there xs a (sym (times_not_here a x xs n) ∙ h) in grind (arith, nat_tests))
]

pub apart_once : (xs : List LineId) → AreApart xs → AreOnce xs
apart_once [] h a = omega arith
apart_once (x ∷ xs) h a = elim (same_or_not x.0 a.0) [
  | inl e ↦ (let none : times a xs ≡ 0 = subst (λ l. times l xs ≡ 0) (line_is x a e) (never_there xs x h.0) in omega (arith, times_here a x xs e, none))
  | inr n ↦ omega (arith, times_not_here a x xs n, apart_once xs h.1 a)
]

pub once_apart : (xs : List LineId) → AreOnce xs → AreApart xs
once_apart [] h = tt
once_apart (x ∷ xs) h = (not_there xs x (once_head x xs h), once_apart xs (once_tail x xs h))

-- The place of a line in an order.

place_absent : (xs : List LineId) (a : LineId) → has_line xs a ≡ false → place_in xs a ≡ no_place
place_absent xs a h = ap (λ b. cond b (place_of xs a) no_place) h

place_present : (xs : List LineId) (a : LineId) → has_line xs a ≡ true → place_in xs a ≡ place_of xs a
place_present xs a h = ap (λ b. cond b (place_of xs a) no_place) h

place_of_absent : (xs : List LineId) (a : LineId) → has_line xs a ≡ false → place_of xs a ≡ length xs
place_of_absent [] a h = refl
place_of_absent (x ∷ xs) a h =
    let both = neither (x.0 == a.0) (has_line xs a) h in
    omega (arith, place_later x a xs (eqb-false x.0 a.0 both.0), place_of_absent xs a both.1)

place_of_present : (xs : List LineId) (a : LineId) → has_line xs a ≡ true → place_of xs a < length xs
place_of_present xs a h = place_below xs a (contains_placed xs a h)

pub has_contained : (xs : List LineId) (a : LineId) → Contains xs a → has_line xs a ≡ true
has_contained xs a h = by_test (has_line xs a) refl
  where
    by_test : (b : Bool) → has_line xs a ≡ b → has_line xs a ≡ true
    by_test true e = e
    by_test false e = absurd (omega (arith, place_below xs a h, place_of_absent xs a e))

-- a line has no place exactly if it is not placed
pub no_place_is : (xs : List LineId) (a : LineId) → length xs < no_place → (place_in xs a == no_place) ≡ is_unplaced xs a
no_place_is xs a short = by_test (has_line xs a) refl
  where
    by_test : (b : Bool) → has_line xs a ≡ b → (cond b (place_of xs a) no_place == no_place) ≡ not b
    by_test true e = (let within : place_of xs a < length xs = place_of_present xs a e in grind (arith, nat_tests))
    by_test false e = refl

-- Which of two lines comes first, and whether they stand next to each other.

pub before_in : (xs : List LineId) (a b : LineId) → length xs < no_place → a.0 ≢ b.0 → comes_before xs a b ≡ nat_lt (place_in xs a) (place_in xs b)
before_in xs a b short n = before_is xs a b n ∙ by_tests (has_line xs a) (has_line xs b) refl refl
  where
    by_tests : (p q : Bool) → has_line xs a ≡ p → has_line xs b ≡ q
        → nat_lt (place_of xs a) (place_of xs b) ≡ nat_lt (cond p (place_of xs a) no_place) (cond q (place_of xs b) no_place)
    by_tests true true p q = refl
    by_tests true false p q = (let here = place_of_present xs a p in let past = place_of_absent xs b q in grind (arith, nat_tests))
    by_tests false true p q = (let past = place_of_absent xs a p in let here = place_of_present xs b q in grind (arith, nat_tests))
    by_tests false false p q = (let past = place_of_absent xs a p in let too = place_of_absent xs b q in grind (arith, nat_tests))

pub beside_in : (xs : List LineId) (a b : LineId) → AreOnce xs → length xs < no_place → a.0 ≢ b.0
    → are_neighbours xs a b ≡ are_adjacent (place_in xs a) (place_in xs b)
beside_in xs a b once short n = by_tests (has_line xs a) (has_line xs b) refl refl
  where
    by_tests : (p q : Bool) → has_line xs a ≡ p → has_line xs b ≡ q
        → are_neighbours xs a b ≡ are_adjacent (cond p (place_of xs a) no_place) (cond q (place_of xs b) no_place)
    by_tests true true p q = beside_is xs a b once n (contains_placed xs a p) (contains_placed xs b q)
    by_tests true false p q =
        let here = place_of_present xs a p in
        let far : are_adjacent (place_of xs a) no_place ≡ false = grind (arith, nat_tests) in
        not_beside_second xs a b (never_there xs b q) ∙ sym far
    by_tests false true p q =
        let here = place_of_present xs b q in
        let far : are_adjacent no_place (place_of xs b) ≡ false = grind (arith, nat_tests) in
        not_beside xs a b (never_there xs a p) ∙ sym far
    by_tests false false p q = not_beside xs a b (never_there xs a p)

-- Writing the place of one line.

-- the tables of two orders differ in the place of one line
write_place : (lines old new : List LineId) (a : LineId) (v : ℕ) → AreRising lines → Contains lines a → place_in new a ≡ v
    → ((b : LineId) → a.0 ≢ b.0 → place_in new b ≡ place_in old b) → places_in lines new ≡ set (places_in lines old) (place_of lines a) v
write_place lines old new a v rising on here others =
    ext_get_or 0 (places_in lines new) (set (places_in lines old) (place_of lines a) v)
    (length-map lines (place_in new) ∙ sym (length-map lines (place_in old)) ∙ sym (length-set (places_in lines old) (place_of lines a) v)) at
  where
    within : place_of lines a < length (places_in lines old)
    within = omega (arith, length-map lines (place_in old), place_below lines a on)

    at : (k : ℕ) → k < length (places_in lines new) → get_or (places_in lines new) k 0 ≡ get_or (set (places_in lines old) (place_of lines a) v) k 0
    at k below = elim (same_or_not k (place_of lines a)) [
      | inl e ↦ subst (λ j. get_or (places_in lines new) j 0 ≡ get_or (set (places_in lines old) (place_of lines a) v) j 0) (sym e)
          (get_or-map (place_in new) lines (place_of lines a) no_line 0 (place_below lines a on) ∙ ap (place_in new) (line_at_place lines a on) ∙ here
          ∙ sym (get_or-set_same (places_in lines old) (place_of lines a) v 0 within))
      | inr n ↦ (let inside : k < length lines = omega (arith, below, length-map lines (place_in new)) in
          let b : LineId = get_or lines k no_line in
          let differ : a.0 ≢ b.0 = λ e. n (sym (place_of_line lines k (rising_once lines rising) inside) ∙ ap (place_of lines) (sym (line_is a b e))) in
          get_or-map (place_in new) lines k no_line 0 inside ∙ others b differ ∙ sym (get_or-map (place_in old) lines k no_line 0 inside)
          ∙ sym (get_or-set_other (places_in lines old) (place_of lines a) k v 0 n))
    ]

has_more : (xs : List LineId) (a b : LineId) → a.0 ≢ b.0 → has_line (xs ++ a ∷ []) b ≡ has_line xs b
has_more [] a b n = grind (arith, nat_tests)
has_more (x ∷ xs) a b n = ap (λ h. (x.0 == b.0) || h) (has_more xs a b n)

place_of_more : (xs : List LineId) (a b : LineId) → has_line xs b ≡ true → place_of (xs ++ a ∷ []) b ≡ place_of xs b
place_of_more [] a b h = absurd (true≢false (sym h))
place_of_more (x ∷ xs) a b h = elim (same_or_not x.0 b.0) [
  | inl e ↦ place_here x b (xs ++ a ∷ []) e ∙ sym (place_here x b xs e)
  | inr n ↦ (let rest : has_line xs b ≡ true = grind (arith, nat_tests) in
      place_later x b (xs ++ a ∷ []) n ∙ ap (λ k. 1 + k) (place_of_more xs a b rest) ∙ sym (place_later x b xs n))
]

place_in_more : (xs : List LineId) (a b : LineId) → a.0 ≢ b.0 → place_in (xs ++ a ∷ []) b ≡ place_in xs b
place_in_more xs a b n = by_test (has_line xs b) refl
  where
    by_test : (t : Bool) → has_line xs b ≡ t → place_in (xs ++ a ∷ []) b ≡ place_in xs b
    by_test true e = place_present (xs ++ a ∷ []) b (has_more xs a b n ∙ e) ∙ place_of_more xs a b e ∙ sym (place_present xs b e)
    by_test false e = place_absent (xs ++ a ∷ []) b (has_more xs a b n ∙ e) ∙ sym (place_absent xs b e)

place_in_last : (xs : List LineId) (a : LineId) → has_line xs a ≡ false → place_in (xs ++ a ∷ []) a ≡ length xs
place_in_last [] a h = grind (arith, nat_tests)
place_in_last (x ∷ xs) a h =
    let both = neither (x.0 == a.0) (has_line xs a) h in
    let rest : has_line (xs ++ a ∷ []) a ≡ true = last_there xs a in
    let whole : has_line (x ∷ xs ++ a ∷ []) a ≡ true = last_there (x ∷ xs) a in
    let later = place_later x a (xs ++ a ∷ []) (eqb-false x.0 a.0 both.0) in
    place_present (x ∷ xs ++ a ∷ []) a whole ∙ later ∙ ap (λ k. 1 + k) (sym (place_present (xs ++ a ∷ []) a rest) ∙ place_in_last xs a both.1) ∙ suc_of (length xs)
  where
    last_there : (xs : List LineId) (a : LineId) → has_line (xs ++ a ∷ []) a ≡ true
    last_there [] a = grind (arith, nat_tests)
    last_there (x ∷ xs) a = (let rest = last_there xs a in grind (arith, nat_tests))

    suc_of : (k : ℕ) → 1 + k ≡ suc k
    suc_of k = omega arith

-- one more line is placed
pub push_place : (lines placed : List LineId) (a : LineId) → AreRising lines → Contains lines a → is_placed placed a ≡ false
    → places_in lines (placed ++ a ∷ []) ≡ set (places_in lines placed) (place_of lines a) (length placed)
push_place lines placed a rising on free =
    write_place lines placed (placed ++ a ∷ []) a (length placed) rising on (place_in_last placed a free) (λ b n. place_in_more placed a b n)

-- the last placed line is taken back
pub take_place : (lines front : List LineId) (a : LineId) → AreRising lines → Contains lines a → is_placed front a ≡ false
    → places_in lines front ≡ set (places_in lines (front ++ a ∷ [])) (place_of lines a) no_place
take_place lines front a rising on free =
    write_place lines (front ++ a ∷ []) front a no_place rising on (place_absent front a free) (λ b n. sym (place_in_more front a b n))

-- The last of lines that are apart.

pub apart_last : (front : List LineId) (a : LineId) → AreApart (front ++ a ∷ []) → is_placed front a ≡ false
apart_last [] a h = refl
apart_last (x ∷ front) a h = elim (same_or_not x.0 a.0) [
  | inl e ↦ absurd (omega (arith, never_there (front ++ a ∷ []) x h.0, times_last front a x e))
  | inr n ↦ (let rest = apart_last front a h.1 in grind (arith, nat_tests))
]
  where
    times_last : (front : List LineId) (a x : LineId) → x.0 ≡ a.0 → 1 ≤ times x (front ++ a ∷ [])
    times_last [] a x e = omega (arith, times_here x a [] (sym e))
    times_last (y ∷ front) a x e = elim (same_or_not y.0 x.0) [
      | inl s ↦ omega (arith, times_here x y (front ++ a ∷ []) s)
      | inr n ↦ omega (arith, times_not_here x y (front ++ a ∷ []) n, times_last front a x e)
    ]

-- Filling the table of an order of all lines, and changing the table of placed lines.

pub none_table : (lines : List LineId) (n : ℕ) → n ≡ length lines → replicate n no_place ≡ places_in lines []
none_table lines n e = ap (λ k. replicate k no_place) e ∙ all_none lines
  where
    all_none : (lines : List LineId) → replicate (length lines) no_place ≡ places_in lines []
    all_none [] = refl
    all_none (x ∷ lines) = ap (λ ps. no_place ∷ ps) (all_none lines)

pub line_known : (lines order : List LineId) → IsPermutation lines order → (k : ℕ) → k < length order → Contains lines (get_or order k no_line)
line_known lines order perm k below = Contains-permutation order lines (get_or order k no_line) (IsPermutation-sym lines order perm) (Contains-get_or order k no_line below)

pub put_next : (lines order : List LineId) → AreRising lines → IsPermutation lines order → (i : ℕ) (places : List ℕ) → i < length order
    → places ≡ places_in lines (take i order) → set places (place_of lines (get_or order i no_line)) i ≡ places_in lines (take (i + 1) order)
put_next lines order rising perm i places below made =
    let a : LineId = get_or order i no_line in
    let next : take (i + 1) order ≡ take i order ++ a ∷ [] = take_more order i no_line below in
    let apart : AreApart (take i order ++ a ∷ []) = subst AreApart next (apart_take (i + 1) order (once_apart order (order_once lines order rising perm))) in
    let free : is_placed (take i order) a ≡ false = apart_last (take i order) a apart in
    let count : length (take i order) ≡ i = length-take-le i order (omega arith) in
    ap (λ ps. set ps (place_of lines a) i) made
    ∙ sym (push_place lines (take i order) a rising (line_known lines order perm i below) free ∙ ap (set (places_in lines (take i order)) (place_of lines a)) count)
    ∙ sym (ap (places_in lines) next)

pub all_put : (lines order : List LineId) (i : ℕ) (places : List ℕ) → length order ≤ i → places ≡ places_in lines (take i order) → places ≡ places_in lines order
all_put lines order i places whole made = made ∙ ap (places_in lines) (take_all i order whole)

-- the table after the line at i is placed
pub pushed : (lines placed now : List LineId) (places : List ℕ) (i n : ℕ) (a : LineId) → AreRising lines → i < length lines → a ≡ get_or lines i a
    → is_placed placed a ≡ false → places ≡ places_in lines placed → n ≡ length placed → now ≡ placed ++ a ∷ [] → set places i n ≡ places_in lines now
pushed lines placed now places i n a rising below is free made count pushing =
    let same : a ≡ get_or lines i no_line = is ∙ get_or_default lines i a no_line below in
    let on : Contains lines a = subst (Contains lines) (sym same) (Contains-get_or lines i no_line below) in
    let rank : i ≡ place_of lines a = sym (ap (place_of lines) same ∙ place_of_line lines i (rising_once lines rising) below) in
    ap (λ ps. set ps i n) made ∙ ap (λ k. set (places_in lines placed) k n) rank ∙ ap (set (places_in lines placed) (place_of lines a)) count
    ∙ sym (push_place lines placed a rising on free) ∙ sym (ap (places_in lines) pushing)

-- the table after the last placed line is taken back
pub taken : (lines placed : List LineId) (places : List ℕ) (k r : ℕ) → AreRising lines → All (Contains lines) placed → AreApart placed → k + 1 ≡ length placed
    → places ≡ places_in lines placed → r ≡ place_of lines (get_or placed k no_line) → set places r no_place ≡ places_in lines (take k placed)
taken lines placed places k r rising known apart last made rank =
    let front : List LineId = take k placed in
    let a : LineId = get_or placed k no_line in
    let split : placed ≡ front ++ a ∷ [] = sym (take_all (k + 1) placed (omega (arith, last))) ∙ take_more placed k no_line (omega (arith, last)) in
    let free : is_placed front a ≡ false = apart_last front a (subst AreApart split apart) in
    let on : Contains lines a = known k no_line (omega (arith, last)) in
    ap (λ ps. set ps r no_place) (made ∙ ap (places_in lines) split) ∙ ap (λ i. set (places_in lines (front ++ a ∷ [])) i no_place) rank
    ∙ sym (take_place lines front a rising on free)

-- The first place in a table that is none.

pub first_here : (places : List ℕ) (i : ℕ) → ((k : ℕ) → k < i → get_or places k 0 ≢ no_place) → i < length places → get_or places i 0 ≡ no_place
    → first_without_place places ≡ Some i
first_here [] i before below here = absurd (omega (arith, below))
first_here (p ∷ places) zero before below here = ap (λ t. cond t (Some 0) (option_map (λ (i : ℕ). 1 + i) (first_without_place places))) (eq-eqb p no_place here)
first_here (p ∷ places) (suc i) before below here =
    let rest : first_without_place places ≡ Some i = first_here places i (λ k h. before (suc k) (omega (arith, h))) (omega (arith, below)) here in
    ap (λ t. cond t (Some 0) (option_map (λ (i : ℕ). 1 + i) (first_without_place places))) (ne_eqb p no_place (before 0 (omega arith)))
    ∙ ap (option_map (λ (i : ℕ). 1 + i)) rest ∙ ap (λ (k : ℕ). Some k) (suc_of i)
  where
    suc_of : (k : ℕ) → 1 + k ≡ suc k
    suc_of k = omega arith

pub first_nowhere : (places : List ℕ) → ((k : ℕ) → k < length places → get_or places k 0 ≢ no_place) → first_without_place places ≡ None
first_nowhere [] all = refl
first_nowhere (p ∷ places) all =
    ap (λ t. cond t (Some 0) (option_map (λ (i : ℕ). 1 + i) (first_without_place places))) (ne_eqb p no_place (all 0 (omega arith)))
    ∙ ap (option_map (λ (i : ℕ). 1 + i)) (first_nowhere places (λ k h. all (suc k) (omega (arith, h))))

-- The first line that is not placed.

-- the first line that is not placed stands at i
pub record IsFirstFree (lines placed : List LineId) (i : ℕ) : Type 0 where
  pub place : first_without_place (places_in lines placed) ≡ Some i
  pub within : i < length lines
  pub line : find (is_unplaced placed) lines ≡ Some (get_or lines i no_line)
  pub free : is_placed placed (get_or lines i no_line) ≡ false

-- all lines are placed
pub record IsNoneFree (lines placed : List LineId) : Type 0 where
  pub place : first_without_place (places_in lines placed) ≡ None
  pub line : find (is_unplaced placed) lines ≡ None

not_true : (b : Bool) → not b ≡ true → b ≡ false
not_true true h = absurd (true≢false (sym h))
not_true false h = refl

first_free_or_none : (lines placed : List LineId) → length placed < no_place → ((i : ℕ) × IsFirstFree lines placed i) ⊎ IsNoneFree lines placed
first_free_or_none [] placed short = inr (record { place = refl; line = refl })
first_free_or_none (x ∷ lines) placed short = by_test (is_unplaced placed x) (no_place_is placed x short) refl (first_free_or_none lines placed short)
  where
    suc_of : (k : ℕ) → 1 + k ≡ suc k
    suc_of k = omega arith

    by_table : (b : Bool) (o : Option ℕ) → (place_in placed x == no_place) ≡ b → first_without_place (places_in lines placed) ≡ o
        → first_without_place (places_in (x ∷ lines) placed) ≡ cond b (Some 0) (option_map (λ (i : ℕ). 1 + i) o)
    by_table b o e h =
        ap (λ t. cond t (Some 0) (option_map (λ (i : ℕ). 1 + i) (first_without_place (places_in lines placed)))) e
        ∙ ap (λ (q : Option ℕ). cond b (Some 0) (option_map (λ (i : ℕ). 1 + i) q)) h

    by_list : (b : Bool) (o : Option LineId) → is_unplaced placed x ≡ b → find (is_unplaced placed) lines ≡ o → find (is_unplaced placed) (x ∷ lines) ≡ cond b (Some x) o
    by_list b o e h = ap (λ t. cond t (Some x) (find (is_unplaced placed) lines)) e ∙ ap (λ (q : Option LineId). cond b (Some x) q) h

    by_test : (b : Bool) → (place_in placed x == no_place) ≡ b → is_unplaced placed x ≡ b
        → ((i : ℕ) × IsFirstFree lines placed i) ⊎ IsNoneFree lines placed
        → ((i : ℕ) × IsFirstFree (x ∷ lines) placed i) ⊎ IsNoneFree (x ∷ lines) placed
    by_test true e t later = inl (
      0,
      record {
        place = by_table true (first_without_place (places_in lines placed)) e refl;
        within = omega arith;
        line = by_list true (find (is_unplaced placed) lines) t refl;
        free = not_true (is_placed placed x) t;
      },
    )
    by_test false e t (inl h) = inl (
      suc h.0,
      record {
        place = by_table false (Some h.0) e h.1.place ∙ ap (λ (k : ℕ). Some k) (suc_of h.0);
        within = omega (arith, h.1.within);
        line = by_list false (Some (get_or lines h.0 no_line)) t h.1.line;
        free = h.1.free;
      },
    )
    by_test false e t (inr h) = inr (record { place = by_table false None e h.place; line = by_list false None t h.line })

pub first_free : (lines placed : List LineId) (i : ℕ) → length placed < no_place → first_without_place (places_in lines placed) ≡ Some i → IsFirstFree lines placed i
first_free lines placed i short found = by_cases (first_free_or_none lines placed short)
  where
    by_cases : ((k : ℕ) × IsFirstFree lines placed k) ⊎ IsNoneFree lines placed → IsFirstFree lines placed i
    by_cases (inl h) = (let e : h.0 ≡ i = cc (h.1.place, found) in subst (IsFirstFree lines placed) e h.1)
    by_cases (inr h) = (let e : ⊥ = cc (h.place, found) in absurd e)

pub none_free : (lines placed : List LineId) → length placed < no_place → first_without_place (places_in lines placed) ≡ None → find (is_unplaced placed) lines ≡ None
none_free lines placed short found = by_cases (first_free_or_none lines placed short)
  where
    by_cases : ((k : ℕ) × IsFirstFree lines placed k) ⊎ IsNoneFree lines placed → find (is_unplaced placed) lines ≡ None
    by_cases (inl h) = (let e : ⊥ = cc (h.1.place, found) in absurd e)
    by_cases (inr h) = h.line

-- Which lines are left.

pub left_is : (lines placed : List LineId) (a : LineId) → length placed < no_place → is_left_by lines (places_in lines placed) a ≡ is_left lines placed a
left_is lines placed a short = by_test (has_line lines a) refl
  where
    by_test : (b : Bool) → has_line lines a ≡ b → (b && (get_or (places_in lines placed) (place_of lines a) 0 == no_place)) ≡ (b && is_unplaced placed a)
    by_test false e = refl
    by_test true e =
        let on : Contains lines a = contains_placed lines a e in
        ap (λ p. p == no_place) (get_or-map (place_in placed) lines (place_of lines a) no_line 0 (place_below lines a on) ∙ ap (place_in placed) (line_at_place lines a on))
        ∙ no_place_is placed a short

-- what stands at the rank of a line is the line, if it is one of these
pub not_at_rank : (lines : List LineId) (a : LineId) (i : ℕ) → (Contains lines a → i ≡ place_of lines a) → (get_or lines i no_line).0 ≢ a.0 → has_line lines a ≡ false
not_at_rank lines a i rank differ = by_test (has_line lines a) refl
  where
    by_test : (b : Bool) → has_line lines a ≡ b → has_line lines a ≡ false
    by_test false e = e
    by_test true e =
        let on : Contains lines a = contains_placed lines a e in
        absurd (differ (ap (λ (l : LineId). l.0) (ap (λ k. get_or lines k no_line) (rank on) ∙ line_at_place lines a on)))
