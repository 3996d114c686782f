-- The choice of a pitch, one pitch after another.
use Rattle.std.proofs.Common.{◌≡◌, ℕ, zero, suc, ◌+◌, ◌-◌, ◌*◌, ◌<◌, ◌≤◌, ◌==◌, ◌⊎◌, inl, inr, Bool, true, false, cond, ◌&&◌, ◌||◌, List, [], ◌∷◌, ◌++◌, length, drop, map, filter, fold, get_or, Option, Some, None, unwrap_or, refl, ap, sym, ◌∙◌, subst, w32, Fits, arith}
use Rattle.std.specs.Prelude.{nat_le, nat_lt, IsTrue, MatchOption}
use Rattle.std.specs.List.{find, range_with_len}
use Rattle.std.proofs.lemmas.Bool.{ne_eqb}
use Rattle.std.proofs.lemmas.Bool.Decides.{nat_tests}
use Rattle.std.proofs.lemmas.List.{map-append}
use Rattle.std.proofs.lemmas.List.Elements.{filter-append}
use Rattle.std.proofs.lemmas.List.FromFn.{get_or-map-range_with_len}
use Rattle.poster_plan.specs.declared.plan.Plan.{Plan}
use Rattle.poster_plan.specs.Placing.{named}
use Rattle.poster_plan.specs.Pitches.{better_of, first_pitch, fits, full_left, is_better, is_roomy, pitch_of, pitches, small_left, suits, tried}
use Rattle.poster_layout.specs.declared.laying.Laid.{Laid}
use Rattle.poster_layout.specs.Fits.{above, best_of, IsLaid, IsPitch}
use Rattle.poster_table.proofs.Finding.{find_here, find_past}

-- the pitch of a number
abbrev pub pitch_numbered : ℕ → ℕ
pitch_numbered i = 20 + 4 * i

-- ---- which pitches pass a test

none_kept : (test : ℕ → Bool) (a n : ℕ) → ((i : ℕ) → i < a + n → test (pitch_numbered i) ≡ false) → filter test (map pitch_numbered (range_with_len a n)) ≡ []
none_kept test a zero misses = refl
none_kept test a (suc n) misses =
    let rest = filter test (map pitch_numbered (range_with_len (a + 1) n)) in
    ap (λ (b : Bool). cond b (pitch_numbered a ∷ rest) rest) (misses a (omega arith)) ∙ none_kept test (a + 1) n (λ i low. misses i (omega (arith, low)))

all_kept : (test : ℕ → Bool) (a n : ℕ) → ((i : ℕ) → a ≤ i → test (pitch_numbered i) ≡ true) → filter test (map pitch_numbered (range_with_len a n)) ≡ map pitch_numbered (range_with_len a n)
all_kept test a zero passes = refl
all_kept test a (suc n) passes =
    let rest = filter test (map pitch_numbered (range_with_len (a + 1) n)) in
    ap (λ (b : Bool). cond b (pitch_numbered a ∷ rest) rest) (passes a (omega arith)) ∙ ap (λ (us : List ℕ). pitch_numbered a ∷ us) (all_kept test (a + 1) n (λ i low. passes i (omega (arith, low))))

split : (a m n : ℕ) → range_with_len a (m + n) ≡ range_with_len a m ++ range_with_len (a + m) n
split a zero n =
    let none : 0 + n ≡ n = omega arith in
    let same : a ≡ a + 0 = omega arith in
    ap (range_with_len a) none ∙ ap (λ (b : ℕ). range_with_len b n) same
split a (suc m) n =
    let more : suc m + n ≡ suc (m + n) = omega arith in
    let same : (a + 1) + m ≡ a + suc m = omega arith in
    ap (range_with_len a) more ∙ ap (λ (ks : List ℕ). a ∷ ks) (split (a + 1) m n ∙ ap (λ (b : ℕ). range_with_len (a + 1) m ++ range_with_len b n) same)

-- those from number m on, where a test passes these and no earlier one
kept_in : (test : ℕ → Bool) (m n : ℕ) (us : List ℕ) → us ≡ map pitch_numbered (range_with_len 0 (m + n)) → ((i : ℕ) → i < m → test (pitch_numbered i) ≡ false) → ((i : ℕ) → m ≤ i → test (pitch_numbered i) ≡ true)
    → filter test us ≡ map pitch_numbered (range_with_len m n)
kept_in test m n us are misses passes =
    let front : 0 + m ≡ m = omega arith in
    ap (filter test) are
    ∙ ap (λ (ks : List ℕ). filter test (map pitch_numbered ks)) (split 0 m n)
    ∙ ap (λ (k : ℕ). filter test (map pitch_numbered (range_with_len 0 m ++ range_with_len k n))) front
    ∙ ap (filter test) (map-append pitch_numbered (range_with_len 0 m) (range_with_len m n))
    ∙ filter-append test (map pitch_numbered (range_with_len 0 m)) (map pitch_numbered (range_with_len m n))
    ∙ ap (λ (ks : List ℕ). ks ++ filter test (map pitch_numbered (range_with_len m n))) (none_kept test 0 m (λ i low. misses i (omega (arith, low))))
    ∙ all_kept test m n passes

counted : (k : ℕ) → k ≡ 46 → pitches ≡ map pitch_numbered (range_with_len 0 k)
counted k all = ap (λ (n : ℕ). map pitch_numbered (range_with_len 0 n)) (sym all)

lt_true : (m n : ℕ) → m < n → nat_lt m n ≡ true
lt_true m n h = grind (arith, nat_tests)

lt_false : (m n : ℕ) → n ≤ m → nat_lt m n ≡ false
lt_false m n h = grind (arith, nat_tests)

le_true : (m n : ℕ) → m ≤ n → nat_le m n ≡ true
le_true m n h = grind (arith, nat_tests)

le_false : (m n : ℕ) → n < m → nat_le m n ≡ false
le_false m n h = grind (arith, nat_tests)

above_are : (j : ℕ) → j ≤ 45 → above (pitch_numbered j) ≡ map pitch_numbered (range_with_len (j + 1) (45 - j))
unfolding above
above_are j low =
    kept_in (nat_lt (pitch_numbered j)) (j + 1) (45 - j) pitches (counted ((j + 1) + (45 - j)) (omega (arith, low))) (λ i small. lt_false (pitch_numbered j) (pitch_numbered i) (omega (arith, small))) (λ i large. lt_true (pitch_numbered j) (pitch_numbered i) (omega (arith, large)))

-- the next of them
pub above_next : (j : ℕ) → j < 45 → above (pitch_numbered j) ≡ pitch_numbered (j + 1) ∷ above (pitch_numbered (j + 1))
above_next j low =
    let more : 45 - j ≡ suc (45 - (j + 1)) = omega (arith, low) in
    above_are j (omega (arith, low))
    ∙ ap (λ (n : ℕ). map pitch_numbered (range_with_len (j + 1) n)) more
    ∙ ap (λ (us : List ℕ). pitch_numbered (j + 1) ∷ us) (sym (above_are (j + 1) (omega (arith, low))))

-- none is above the greatest
pub above_last : (j : ℕ) → j ≡ 45 → above (pitch_numbered j) ≡ []
above_last j last = let none : 45 - j ≡ 0 = omega (arith, last) in above_are j (omega (arith, last)) ∙ ap (λ (n : ℕ). map pitch_numbered (range_with_len (j + 1) n)) none

-- the pitches from one on
unfoldable from_on : ℕ → List ℕ
from_on u = filter (nat_le u) pitches

from_are : (j : ℕ) → j ≤ 45 → from_on (pitch_numbered j) ≡ pitch_numbered j ∷ above (pitch_numbered j)
unfolding from_on
from_are j low =
    let more : 46 - j ≡ suc (45 - j) = omega (arith, low) in
    kept_in (nat_le (pitch_numbered j)) j (46 - j) pitches (counted (j + (46 - j)) (omega (arith, low))) (λ i small. le_false (pitch_numbered j) (pitch_numbered i) (omega (arith, small))) (λ i large. le_true (pitch_numbered j) (pitch_numbered i) (omega (arith, large)))
    ∙ ap (λ (n : ℕ). map pitch_numbered (range_with_len j n)) more
    ∙ ap (λ (us : List ℕ). pitch_numbered j ∷ us) (sym (above_are j low))

-- ---- the best

never_before : (s f : ℕ) → (nat_lt s s || (s == s) && nat_lt f f) ≡ false
never_before s f = ap (λ (b : Bool). b || (s == s) && nat_lt f f) (lt_false s s (omega arith)) ∙ ap (λ (b : Bool). (s == s) && b) (lt_false f f (omega arith)) ∙ and_false (s == s)
  where
    and_false : (b : Bool) → (b && false) ≡ false
    and_false true = refl
    and_false false = refl

not_better : (plan : Plan) (u : ℕ) → is_better plan u u ≡ false
not_better plan u = never_before (small_left u plan) (full_left u plan)

-- the first of pitches that is tried
first_tried : (plan : Plan) (best u : ℕ) (us : List ℕ) → fits plan u ≡ true → fold (better_of plan) best (tried plan (u ∷ us)) ≡ cond (full_left u plan == 0) (better_of plan best u) (fold (better_of plan) (better_of plan best u) (tried plan us))
first_tried plan best u us fit =
    ap (λ (b : Bool). fold (better_of plan) best (cond b (u ∷ cond (full_left u plan == 0) [] (tried plan us)) [])) fit ∙ by_test (full_left u plan == 0)
  where
    by_test : (b : Bool) → fold (better_of plan) (better_of plan best u) (cond b [] (tried plan us)) ≡ cond b (better_of plan best u) (fold (better_of plan) (better_of plan best u) (tried plan us))
    by_test true = refl
    by_test false = refl

-- the pitch by the first that suits
pitch_by : (plan : Plan) → cond (fits plan (first_pitch plan)) (fold (better_of plan) (first_pitch plan) (tried plan (from_on (first_pitch plan)))) (first_pitch plan) ≡ pitch_of plan
unfolding from_on
pitch_by plan = refl

-- where the first pitch fits, the best of those from it on is the pitch
pub pitch_is : (plan : Plan) (u left : ℕ) → u ≡ first_pitch plan → IsPitch u → fits plan u ≡ true → left ≡ full_left u plan → best_of plan u left u ≡ pitch_of plan
unfolding best_of
pitch_is plan u left first is fit count =
    let j = is.0 in
    let numbered : u ≡ pitch_numbered j = is.2 in
    let from : from_on u ≡ u ∷ above u = ap from_on numbered ∙ from_are j is.1 ∙ ap (λ (w : ℕ). w ∷ above w) (sym numbered) in
    let own : better_of plan u u ≡ u = ap (λ (b : Bool). cond b u u) (not_better plan u) in
    ap (λ (k : ℕ). best_of plan u k u) count
    ∙ ap (λ (w : ℕ). cond (full_left u plan == 0) w (fold (better_of plan) w (tried plan (above u)))) (sym own)
    ∙ sym (first_tried plan u u (above u) fit)
    ∙ sym (ap (λ (us : List ℕ). fold (better_of plan) u (tried plan us)) from)
    ∙ sym (ap (λ (b : Bool). cond b (fold (better_of plan) u (tried plan (from_on u))) u) fit)
    ∙ ap (λ (w : ℕ). cond (fits plan w) (fold (better_of plan) w (tried plan (from_on w))) w) first
    ∙ pitch_by plan

-- where it does not fit, it is the pitch
pub pitch_large : (plan : Plan) (u : ℕ) → u ≡ first_pitch plan → fits plan u ≡ false → u ≡ pitch_of plan
pitch_large plan u first large =
    sym (ap (λ (b : Bool). cond b (fold (better_of plan) u (tried plan (from_on u))) u) large)
    ∙ ap (λ (w : ℕ). cond (fits plan w) (fold (better_of plan) w (tried plan (from_on w))) w) first
    ∙ pitch_by plan

-- one pitch more that fits
pub best_more : (plan : Plan) (best left u : ℕ) (j : ℕ) → u ≡ pitch_numbered j → j < 45 → 0 < left → fits plan (u + 4) ≡ true → best_of plan (better_of plan best (u + 4)) (full_left (u + 4) plan) (u + 4) ≡ best_of plan best left u
unfolding best_of
best_more plan best left u j numbered low some fit =
    let next : u + 4 ≡ pitch_numbered (j + 1) = omega (arith, numbered) in
    let over : above u ≡ (u + 4) ∷ above (u + 4) = ap above numbered ∙ above_next j low ∙ ap (λ (w : ℕ). w ∷ above w) (sym next) in
    sym (first_tried plan best (u + 4) (above (u + 4)) fit)
    ∙ sym (ap (λ (us : List ℕ). fold (better_of plan) best (tried plan us)) over)
    ∙ sym (ap (λ (b : Bool). cond b best (fold (better_of plan) best (tried plan (above u)))) (ne_eqb left 0 (λ e. omega (arith, e, some))))

-- one that does not fit
pub best_large : (plan : Plan) (best left u : ℕ) (j : ℕ) → u ≡ pitch_numbered j → j < 45 → 0 < left → fits plan (u + 4) ≡ false → best ≡ best_of plan best left u
unfolding best_of
best_large plan best left u j numbered low some large =
    let next : u + 4 ≡ pitch_numbered (j + 1) = omega (arith, numbered) in
    let over : above u ≡ (u + 4) ∷ above (u + 4) = ap above numbered ∙ above_next j low ∙ ap (λ (w : ℕ). w ∷ above w) (sym next) in
    sym (ap (λ (b : Bool). fold (better_of plan) best (cond b ((u + 4) ∷ cond (full_left (u + 4) plan == 0) [] (tried plan (above (u + 4)))) [])) large)
    ∙ sym (ap (λ (us : List ℕ). fold (better_of plan) best (tried plan us)) over)
    ∙ sym (ap (λ (b : Bool). cond b best (fold (better_of plan) best (tried plan (above u)))) (ne_eqb left 0 (λ e. omega (arith, e, some))))

-- none is left
pub best_last : (plan : Plan) (best left u : ℕ) → IsPitch u → (left ≡ 0) ⊎ (200 ≤ u) → best ≡ best_of plan best left u
unfolding best_of
best_last plan best left u is (inl none) = sym (ap (λ (b : Bool). cond b best (fold (better_of plan) best (tried plan (above u)))) (ap (λ (k : ℕ). k == 0) none))
best_last plan best left u is (inr high) =
    let last : is.0 ≡ 45 = omega (arith, high, is.1, is.2) in
    let over : above u ≡ [] = ap above is.2 ∙ above_last is.0 last in
    sym (ap (λ (us : List ℕ). cond (left == 0) best (fold (better_of plan) best (tried plan us))) over ∙ same (left == 0))
  where
    same : (b : Bool) → cond b best best ≡ best
    same true = refl
    same false = refl

-- the pitch after one
pub next_pitch : (u : ℕ) → IsPitch u → u < 200 → IsPitch (u + 4)
next_pitch u is low = (is.0 + 1, omega (arith, is.2, low), omega (arith, is.2))

-- which number it has, how great it is, and that fewer are left
pub number_low : (u : ℕ) (is : IsPitch u) → u < 200 → is.0 < 45
number_low u is low = omega (arith, is.2, low)

pub next_small : (u : ℕ) → IsPitch u → u < 200 → u + 4 ≤ 200
next_small u is low = omega (arith, is.1, is.2, low)

pub next_fits : (u : ℕ) → u < 200 → Fits w32 (u + 4)
next_fits u low = omega (arith, low)

pub next_nearer : (u : ℕ) → u < 200 → 200 - (u + 4) < 200 - u
next_nearer u low = omega (arith, low)

-- ---- the first that suits

-- what is said of the names at a pitch that is roomy says whether it suits
pub suits_is : (plan : Plan) (u full small names : ℕ) → is_roomy u plan ≡ true → full ≡ full_left u plan → small ≡ small_left u plan → names ≡ length (named plan.marks)
    → (nat_le (10 * full) names && nat_le (30 * small) names) ≡ suits plan u
suits_is plan u full small names roomy e f g =
    ap (λ (n : ℕ). nat_le (10 * n) names && nat_le (30 * small) names) e
    ∙ ap (λ (n : ℕ). nat_le (10 * full_left u plan) names && nat_le (30 * n) names) f
    ∙ ap (λ (n : ℕ). nat_le (10 * full_left u plan) n && nat_le (30 * small_left u plan) n) g
    ∙ sym (ap (λ (b : Bool). b && nat_le (10 * full_left u plan) (length (named plan.marks)) && nat_le (30 * small_left u plan) (length (named plan.marks))) roomy)

-- the names at a pitch, where it suits
abbrev pub Found : Plan → ℕ → Option Laid → Type 0
Found plan u found = MatchOption found (suits plan u ≡ false) (λ laid. IsLaid plan laid × (laid.pitch ≡ u) × IsTrue (suits plan u))

pub found_none : (plan : Plan) (u : ℕ) (found : Option Laid) → found ≡ None → Found plan u found → suits plan u ≡ false
found_none plan u found is h = subst (Found plan u) is h

pub found_some : (plan : Plan) (u : ℕ) (found : Option Laid) (laid : Laid) → found ≡ Some laid → Found plan u found → IsLaid plan laid × (laid.pitch ≡ u) × IsTrue (suits plan u)
found_some plan u found laid is h = subst (Found plan u) is h

pub number_of : (i d : ℕ) → i < 46 → get_or pitches i d ≡ pitch_numbered i
number_of i d low = get_or-map-range_with_len pitch_numbered 0 46 i i d low (omega arith)

-- the greatest is tried last
pub first_last : (plan : Plan) (u : ℕ) → unwrap_or (find (suits plan) (u ∷ [])) u ≡ u
first_last plan u = by_test (suits plan u)
  where
    by_test : (b : Bool) → unwrap_or (cond b (Some u) None) u ≡ u
    by_test true = refl
    by_test false = refl

-- none of the first pitches suits
unfoldable pub NoneBefore : Plan → ℕ → Type 0
NoneBefore plan i = find (suits plan) (drop i pitches) ≡ find (suits plan) pitches

pub first_none : (plan : Plan) → NoneBefore plan 0
unfolding NoneBefore
first_none plan = refl

pub first_past : (plan : Plan) (i : ℕ) → i < 46 → suits plan (pitch_numbered i) ≡ false → NoneBefore plan i → NoneBefore plan (i + 1)
unfolding NoneBefore
first_past plan i low misses before = find_past (suits plan) pitches i 0 low (ap (suits plan) (number_of i 0 low) ∙ misses) ∙ before

pub first_here : (plan : Plan) (i : ℕ) → i < 46 → suits plan (pitch_numbered i) ≡ true → NoneBefore plan i → pitch_numbered i ≡ first_pitch plan
unfolding NoneBefore
first_here plan i low passes before =
    sym (ap (λ (o : Option ℕ). unwrap_or o 200) (sym before ∙ find_here (suits plan) pitches i 0 low (ap (suits plan) (number_of i 0 low) ∙ passes)) ∙ number_of i 0 low)

pub first_end : (plan : Plan) (i : ℕ) → i ≡ 45 → NoneBefore plan i → 200 ≡ first_pitch plan
unfolding NoneBefore
first_end plan i last before = sym (ap (λ (o : Option ℕ). unwrap_or o 200) (sym before ∙ ap (λ (n : ℕ). find (suits plan) (drop n pitches)) last) ∙ first_last plan 200)

found_numbered : (test : ℕ → Bool) (a n u : ℕ) → find test (map pitch_numbered (range_with_len a n)) ≡ Some u → (i : ℕ) × (i < a + n) × (u ≡ pitch_numbered i)
found_numbered test a zero u e = absurd cc
found_numbered test a (suc n) u e = by_test (found_numbered test (a + 1) n u) (test (pitch_numbered a)) refl e
  where
    by_test : (find test (map pitch_numbered (range_with_len (a + 1) n)) ≡ Some u → (i : ℕ) × (i < (a + 1) + n) × (u ≡ pitch_numbered i)) → (b : Bool) → test (pitch_numbered a) ≡ b → cond b (Some (pitch_numbered a)) (find test (map pitch_numbered (range_with_len (a + 1) n))) ≡ Some u → (i : ℕ) × (i < a + suc n) × (u ≡ pitch_numbered i)
    by_test later true is f = let same : pitch_numbered a ≡ u = cc in (a, omega arith, sym same)
    by_test later false is f = let rest = later f in (rest.0, omega (arith, rest.1), rest.2)

pub first_is_pitch : (plan : Plan) → IsPitch (first_pitch plan)
first_is_pitch plan = by_found (find (suits plan) pitches) refl
  where
    by_found : (o : Option ℕ) → find (suits plan) pitches ≡ o → IsPitch (unwrap_or o 200)
    by_found None e = (45, omega arith, refl)
    by_found (Some u) e = let at = found_numbered (suits plan) 0 46 u e in (at.0, omega (arith, at.1), at.2)
