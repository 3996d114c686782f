-- Places of lines, entries of rows, and what is added to them.
use Rattle.std.proofs.Common.{◌≡◌, ◌≢◌, ℕ, zero, suc, ◌+◌, ◌*◌, ◌<◌, ◌≤◌, ◌==◌, ◌||◌, ◌&&◌, Bool, true, false, cond, List, [], ◌∷◌, length, set, get_or, refl, sym, ◌∙◌, ap, subst, arith, ◌⊎◌, inl, inr, true≢false, eq-eqb, eqb-true, get_or-set_same, get_or-set_other}
use Rattle.std.specs.Prelude.{ℤ, pos, ◌+ℤ◌, ◌-ℤ◌, unsigned_abs}
use Rattle.std.proofs.Math.Nat.{mul-le-mul_left, mul-le-mul_right, suc-mul}
use Rattle.std.proofs.lemmas.Bool.{and_parts, cases_eq, cases_order, ne_eqb, eqb-false}
use Rattle.std.proofs.lemmas.Int.{ints}
use Rattle.map_base.specs.declared.ids.LineId.{LineId}
use Rattle.graph_core.specs.Consistent.{AreRising}
use Rattle.order_model.specs.Places.{has_line, place_of}
use Rattle.order_model.proofs.Lines.{either_true, same_line}
use Rattle.least_orders.specs.OrderCosts.{PairCosts, no_costs, cost_before, cost_beside}
use Rattle.least_orders.specs.Rows.{line_at, named}
use Rattle.least_orders.proofs.Renaming.{same_name}
use Rattle.dual_bound.specs.ShareCosts.{costs_where}
use Rattle.dual_shares.specs.RowSteps.{row_entry, TellPairs, AreSmall, IsAddedAt, IsAddedBefore, IsAddedBeside, IsMoreBy, IsRoomy, AreTwoOf, most_where}

-- Places.

pub place_known : (lines : List LineId) (a : LineId) → has_line lines a ≡ true → (place_of lines a < length lines) × ((d : LineId) → get_or lines (place_of lines a) d ≡ a)
place_known [] a h = absurd (true≢false (sym h))
place_known (x ∷ lines) a h = by_test (x.0 == a.0) refl (either_true (x.0 == a.0) (has_line lines a) h) (λ k. place_known lines a k)
  where
    by_test : (b : Bool) → (x.0 == a.0) ≡ b → ((x.0 == a.0) ≡ true) ⊎ (has_line lines a ≡ true)
        → (has_line lines a ≡ true → (place_of lines a < length lines) × ((d : LineId) → get_or lines (place_of lines a) d ≡ a))
        → (cond b 0 (1 + place_of lines a) < length (x ∷ lines)) × ((d : LineId) → get_or (x ∷ lines) (cond b 0 (1 + place_of lines a)) d ≡ a)
    by_test true e k rest = (omega arith, λ d. same_line x a e)
    by_test false e (inl k) rest = absurd (true≢false (sym k ∙ e))
    by_test false e (inr k) rest =
        let more = rest k in
        let next : 1 + place_of lines a ≡ suc (place_of lines a) = omega arith in
        (let below = more.0 in omega (arith, below), λ d. ap (λ j. get_or (x ∷ lines) j d) next ∙ more.1 d)

-- a line is looked for from a place on
abbrev pub IsNoneBelow : List LineId → LineId → ℕ → Type 0
IsNoneBelow lines a i = (k : ℕ) → k < i → ((get_or lines k (line_at 0)).0 == a.0) ≡ false

pub place_here : (lines : List LineId) (a : LineId) (i : ℕ) → i < length lines → IsNoneBelow lines a i → (get_or lines i (line_at 0)).0 ≡ a.0 → i ≡ place_of lines a
place_here [] a i below none here = absurd (omega (arith, below))
place_here (x ∷ lines) a zero below none here = sym (ap (λ b. cond b 0 (1 + place_of lines a)) (eq-eqb x.0 a.0 here))
place_here (x ∷ lines) a (suc i) below none here =
    let rest = place_here lines a i (omega (arith, below)) (λ k low. none (suc k) (omega (arith, low))) here in
    let next : 1 + place_of lines a ≡ suc i = omega (arith, rest) in
    sym (ap (λ b. cond b 0 (1 + place_of lines a)) (none 0 (omega arith)) ∙ next)

pub no_line_there : (lines : List LineId) (a : LineId) → IsNoneBelow lines a (length lines) → has_line lines a ≡ false
no_line_there [] a none = refl
no_line_there (x ∷ lines) a none = ap (λ b. b || has_line lines a) (none 0 (omega arith)) ∙ no_line_there lines a (λ k low. none (suc k) (omega (arith, low)))

-- a line has the name at a place exactly where it stands there
pub name_at : (lines : List LineId) (a : LineId) (i : ℕ) → AreRising lines → has_line lines a ≡ true → i < length lines → ((named lines (line_at i)).0 == a.0) ≡ (i == place_of lines a)
name_at lines a i rising has below =
    let known = place_known lines a has in
    ap (λ (u : LineId). (named lines (line_at i)).0 == u.0) (sym (known.1 (line_at (place_of lines a)))) ∙ same_name lines rising (line_at i) (line_at (place_of lines a)) below known.0

-- Entries.

pub row_before : (m k n j : ℕ) → m < k → j < n → m * n + j < k * n
row_before m k n j below within =
    let rows = mul-le-mul_right {m = m + 1} {n = k} n (omega (arith, below)) in
    let next : (m + 1) * n ≡ m * n + n = ap (λ i. i * n) (omega arith) ∙ suc-mul m n in
    omega (arith, within, rows, next)

pub squares : (n : ℕ) → n ≤ 16 → n * n ≤ 256
squares n under =
    let one = mul-le-mul_left {m = n} {n = 16} n under in
    let two = mul-le-mul_right {m = n} {n = 16} 16 under in
    omega (arith, one, two)

pub same_entry : (n i j k l : ℕ) → j < n → l < n → ((i * n + j) == (k * n + l)) ≡ ((i == k) && (j == l))
same_entry n i j k l first second = elim (cases_order i k) [
  | inl is ↦ ap (λ m. (m * n + j) == (k * n + l)) is ∙ (by_place (j == l) refl ∙ ap (λ t. t && (j == l)) (sym (eq-eqb i k is)))
  | inr apart ↦ elim apart [
    | inl less ↦ (let under = row_before i k n j less first in ne_eqb (i * n + j) (k * n + l) (λ e. absurd (omega (arith, under, e)))) ∙ ap (λ t. t && (j == l)) (sym (ne_eqb i k (λ e. absurd (omega (arith, less, e)))))
    | inr more ↦ (let under = row_before k i n l more second in ne_eqb (i * n + j) (k * n + l) (λ e. absurd (omega (arith, under, e)))) ∙ ap (λ t. t && (j == l)) (sym (ne_eqb i k (λ e. absurd (omega (arith, more, e)))))
  ]
]
  where
    by_place : (b : Bool) → (j == l) ≡ b → ((k * n + j) == (k * n + l)) ≡ (j == l)
    by_place true e = eq-eqb (k * n + j) (k * n + l) (let same = eqb-true j l e in omega (arith, same)) ∙ sym e
    by_place false e = ne_eqb (k * n + j) (k * n + l) (λ f. absurd (eqb-false j l e (omega (arith, f)))) ∙ sym e

-- One entry is changed.

pub entry_written : (row : List ℤ) (at : ℕ) (v amount : ℤ) → at < length row → v ≡ row_entry row at +ℤ amount → IsAddedAt at amount row (set row at v)
entry_written row at v amount below is k = elim (cases_eq k at) [
  | inl same ↦
      ap (λ j. row_entry (set row at v) j) same
      ∙ (get_or-set_same row at v (pos 0) below
      ∙ (is
      ∙ (ap (λ j. row_entry row j +ℤ amount) (sym same) ∙ ap (λ b. cond b (row_entry row k +ℤ amount) (row_entry row k)) (sym (eq-eqb k at same)))))
  | inr apart ↦ get_or-set_other row at k v (pos 0) apart ∙ ap (λ b. cond b (row_entry row k +ℤ amount) (row_entry row k)) (sym (ne_eqb k at apart))
]

moved_by : (a b c : ℤ) (most : ℕ) → unsigned_abs c ≤ most → a ≡ b +ℤ c → unsigned_abs (a -ℤ b) ≤ most
moved_by a b c most small e = omega (arith, ints, small, e)

pub more_by : (at : ℕ) (amount : ℤ) (old new : List ℤ) (most : ℕ) → unsigned_abs amount ≤ most → IsAddedAt at amount old new → IsMoreBy most old new
more_by at amount old new most small h k = by_test (k == at) (h k)
  where
    by_test : (b : Bool) → row_entry new k ≡ cond b (row_entry old k +ℤ amount) (row_entry old k) → unsigned_abs (row_entry new k -ℤ row_entry old k) ≤ most
    by_test true e = moved_by (row_entry new k) (row_entry old k) amount most small e
    by_test false e = moved_by (row_entry new k) (row_entry old k) (pos 0) most (omega arith) (e ∙ no_more (row_entry old k))
      where
        no_more : (b : ℤ) → b ≡ b +ℤ pos 0
        no_more b = omega (arith, ints)

-- What entries come to.

pub abs_sum : (a b : ℤ) (m n : ℕ) → unsigned_abs a ≤ m → unsigned_abs b ≤ n → unsigned_abs (a +ℤ b) ≤ m + n
abs_sum a b m n h k = omega (arith, ints, h, k)

less_nothing : (v : ℤ) (m : ℕ) → unsigned_abs (v -ℤ v) ≤ m
less_nothing v m = omega (arith, ints)

pub more_by_nothing : (most : ℕ) (row : List ℤ) → IsMoreBy most row row
more_by_nothing most row k = less_nothing (row_entry row k) most

more_by_more : (u v w : ℤ) (m n : ℕ) → unsigned_abs (v -ℤ u) ≤ m → unsigned_abs (w -ℤ v) ≤ n → unsigned_abs (w -ℤ u) ≤ m + n
more_by_more u v w m n h g = omega (arith, ints, h, g)

pub more_by_both : (m n : ℕ) (old between new : List ℤ) → IsMoreBy m old between → IsMoreBy n between new → IsMoreBy (m + n) old new
more_by_both m n old between new h g k = more_by_more (row_entry old k) (row_entry between k) (row_entry new k) m n (h k) (g k)

abs_more : (u v : ℤ) (m n : ℕ) → unsigned_abs u ≤ m → unsigned_abs (v -ℤ u) ≤ n → unsigned_abs v ≤ m + n
abs_more u v m n h g = omega (arith, ints, h, g)

pub small_more : (m most : ℕ) (old new : List ℤ) (k : ℕ) → most ≤ 256000000 → IsMoreBy most old new → unsigned_abs (row_entry old k) ≤ m * 256000000 → unsigned_abs (row_entry new k) ≤ (m + 1) * 256000000
small_more m most old new k within more small = let step = abs_more (row_entry old k) (row_entry new k) (m * 256000000) most small (more k) in omega (arith, step, within)

pub small_both : (count m one two : ℕ) (before_old beside_old before_new beside_new : List ℤ) → one ≤ 256000000 → two ≤ 256000000 → IsMoreBy one before_old before_new → IsMoreBy two beside_old beside_new
    → AreSmall count m before_old beside_old → AreSmall count (m + 1) before_new beside_new
small_both count m one two before_old beside_old before_new beside_new within within_too before beside small = record {
  before_small = λ k below. small_more m one before_old before_new k within before (small.before_small k below);
  beside_small = λ k below. small_more m two beside_old beside_new k within_too beside (small.beside_small k below);
}

-- small entries have room
pub small_roomy : (count m : ℕ) (before beside : List ℤ) → m ≤ 4000000 → AreSmall count m before beside → IsRoomy count before × IsRoomy count beside
small_roomy count m before beside few small =
    (λ k below. (let most = small.before_small k below in omega (arith, most, few)), λ k below. (let most = small.beside_small k below in omega (arith, most, few)))

-- they still have after one amount more
pub still_roomy : (count most : ℕ) (old new : List ℤ) → most ≤ 256000000 → ((k : ℕ) → k < count * count → unsigned_abs (row_entry old k) ≤ 1024000000000000) → IsMoreBy most old new → IsRoomy count new
still_roomy count most old new within small more k below =
    let step = abs_more (row_entry old k) (row_entry new k) 1024000000000000 most (small k below) (more k) in omega (arith, step, within)

pub small_most : (count m : ℕ) (before beside : List ℤ) → m ≤ 4000000 → AreSmall count m before beside
    → ((k : ℕ) → k < count * count → unsigned_abs (row_entry before k) ≤ 1024000000000000) × ((k : ℕ) → k < count * count → unsigned_abs (row_entry beside k) ≤ 1024000000000000)
small_most count m before beside few small =
    (λ k below. (let most = small.before_small k below in omega (arith, most, few)), λ k below. (let most = small.beside_small k below in omega (arith, most, few)))

pub one_of_two : (s t : Bool) → (s ≡ true → t ≡ true → ⊥) → most_where s + most_where t ≤ 256000000
one_of_two true true h = absurd (h refl refl)
one_of_two true false h = omega arith
one_of_two false true h = omega arith
one_of_two false false h = omega arith

pub most_within : (s : Bool) → most_where s ≤ 256000000
most_within true = omega arith
most_within false = omega arith

-- an amount by test
added_if : (b : Bool) (v amount : ℤ) → cond b (v +ℤ amount) v ≡ v +ℤ cond b amount (pos 0)
added_if true v amount = refl
added_if false v amount = omega (arith, ints)

pub added_before : (lines : List LineId) (first second : LineId) (amount : ℤ) (old new : List ℤ) → AreRising lines → has_line lines first ≡ true → has_line lines second ≡ true
    → IsAddedAt (place_of lines first * length lines + place_of lines second) amount old new → IsAddedBefore lines (cost_before first second amount) old new
added_before lines first second amount old new rising has has_too h i j here there =
    h (i * length lines + j)
    ∙ (ap (λ b. cond b (row_entry old (i * length lines + j) +ℤ amount) (row_entry old (i * length lines + j)))
    (same_entry (length lines) i j (place_of lines first) (place_of lines second) there (place_known lines second has_too).0)
    ∙ (added_if ((i == place_of lines first) && (j == place_of lines second)) (row_entry old (i * length lines + j)) amount
    ∙ (ap (λ b. row_entry old (i * length lines + j) +ℤ cond (b && (j == place_of lines second)) amount (pos 0)) (sym (name_at lines first i rising has here))
    ∙ ap (λ b. row_entry old (i * length lines + j) +ℤ cond (((named lines (line_at i)).0 == first.0) && b) amount (pos 0)) (sym (name_at lines second j rising has_too there)))))

-- two entries are changed, of which no place has both
both_if : (s t : Bool) (v amount : ℤ) → (s ≡ true → t ≡ true → ⊥) → cond t (cond s (v +ℤ amount) v +ℤ amount) (cond s (v +ℤ amount) v) ≡ v +ℤ cond (s || t) amount (pos 0)
both_if true true v amount h = absurd (h refl refl)
both_if true false v amount h = refl
both_if false true v amount h = refl
both_if false false v amount h = omega (arith, ints)

pub added_beside : (lines : List LineId) (a b : LineId) (amount : ℤ) (old between new : List ℤ) → AreRising lines → has_line lines a ≡ true → has_line lines b ≡ true → (a.0 == b.0) ≡ false
    → IsAddedAt (place_of lines a * length lines + place_of lines b) amount old between → IsAddedAt (place_of lines b * length lines + place_of lines a) amount between new
    → IsAddedBeside lines (cost_beside a b amount) old new
added_beside lines a b amount old between new rising has has_too apart h g i j here there =
    g (i * length lines + j)
    ∙ (ap (λ v. cond ((i * length lines + j) == (place_of lines b * length lines + place_of lines a)) (v +ℤ amount) v) (h (i * length lines + j))
    ∙ (ap (λ t. cond t (cond ((i * length lines + j) == (place_of lines a * length lines + place_of lines b)) (row_entry old (i * length lines + j) +ℤ amount) (row_entry old (i * length lines + j)) +ℤ amount)
    (cond ((i * length lines + j) == (place_of lines a * length lines + place_of lines b)) (row_entry old (i * length lines + j) +ℤ amount) (row_entry old (i * length lines + j)))) second
    ∙ (ap (λ s. cond (((named lines (line_at i)).0 == b.0) && ((named lines (line_at j)).0 == a.0)) (cond s (row_entry old (i * length lines + j) +ℤ amount) (row_entry old (i * length lines + j)) +ℤ amount)
    (cond s (row_entry old (i * length lines + j) +ℤ amount) (row_entry old (i * length lines + j)))) first
    ∙ both_if (((named lines (line_at i)).0 == a.0) && ((named lines (line_at j)).0 == b.0)) (((named lines (line_at i)).0 == b.0) && ((named lines (line_at j)).0 == a.0)) (row_entry old (i * length lines + j)) amount never)))
  where
    first : ((i * length lines + j) == (place_of lines a * length lines + place_of lines b)) ≡ (((named lines (line_at i)).0 == a.0) && ((named lines (line_at j)).0 == b.0))
    first =
        same_entry (length lines) i j (place_of lines a) (place_of lines b) there (place_known lines b has_too).0
        ∙ (ap (λ t. t && (j == place_of lines b)) (sym (name_at lines a i rising has here)) ∙ ap (λ t. ((named lines (line_at i)).0 == a.0) && t) (sym (name_at lines b j rising has_too there)))

    second : ((i * length lines + j) == (place_of lines b * length lines + place_of lines a)) ≡ (((named lines (line_at i)).0 == b.0) && ((named lines (line_at j)).0 == a.0))
    second =
        same_entry (length lines) i j (place_of lines b) (place_of lines a) there (place_known lines a has).0
        ∙ (ap (λ t. t && (j == place_of lines a)) (sym (name_at lines b i rising has_too here)) ∙ ap (λ t. ((named lines (line_at i)).0 == b.0) && t) (sym (name_at lines a j rising has there)))

    left_of : (s t : Bool) → (s && t) ≡ true → s ≡ true
    left_of true t e = refl
    left_of false t e = absurd (true≢false (sym e))

    never : (((named lines (line_at i)).0 == a.0) && ((named lines (line_at j)).0 == b.0)) ≡ true → (((named lines (line_at i)).0 == b.0) && ((named lines (line_at j)).0 == a.0)) ≡ true → ⊥
    never e f =
        let one = eqb-true (named lines (line_at i)).0 a.0 (left_of ((named lines (line_at i)).0 == a.0) ((named lines (line_at j)).0 == b.0) e) in
        let two = eqb-true (named lines (line_at i)).0 b.0 (left_of ((named lines (line_at i)).0 == b.0) ((named lines (line_at j)).0 == a.0) f) in
        eqb-false a.0 b.0 apart (sym one ∙ two)

-- As the code has it: an amount is added where it is so.

where_true : (so : Bool) (costs : PairCosts) → so ≡ true → costs_where so costs ≡ costs
where_true so costs h = ap (λ b. costs_where b costs) h

pub before_where : (lines : List LineId) (so : Bool) (first second : LineId) (amount : ℤ) (old new : List ℤ) (n i j : ℕ) → AreRising lines → so ≡ true → AreTwoOf lines first second
    → n ≡ length lines → i ≡ place_of lines first → j ≡ place_of lines second → IsAddedAt (i * n + j) amount old new → IsAddedBefore lines (costs_where so (cost_before first second amount)) old new
before_where lines so first second amount old new n i j rising is two e f g h =
    subst (λ c. IsAddedBefore lines c old new) (sym (where_true so (cost_before first second amount) is))
    (added_before lines first second amount old new rising two.first_on two.second_on (subst (λ m. IsAddedAt m amount old new) (ap (λ m. m * n + j) f ∙ (ap (λ m. place_of lines first * m + j) e ∙ ap (λ m. place_of lines first * length lines + m) g)) h))

pub beside_where : (lines : List LineId) (so : Bool) (a b : LineId) (amount : ℤ) (old between new : List ℤ) (n i j : ℕ) → AreRising lines → so ≡ true → AreTwoOf lines a b
    → n ≡ length lines → i ≡ place_of lines a → j ≡ place_of lines b → IsAddedAt (i * n + j) amount old between → IsAddedAt (j * n + i) amount between new
    → IsAddedBeside lines (costs_where so (cost_beside a b amount)) old new
beside_where lines so a b amount old between new n i j rising is two e f g h k =
    subst (λ c. IsAddedBeside lines c old new) (sym (where_true so (cost_beside a b amount) is))
    (added_beside lines a b amount old between new rising two.first_on two.second_on two.differ
    (subst (λ m. IsAddedAt m amount old between) (ap (λ m. m * n + j) f ∙ (ap (λ m. place_of lines a * m + j) e ∙ ap (λ m. place_of lines a * length lines + m) g)) h)
    (subst (λ m. IsAddedAt m amount between new) (ap (λ m. m * n + i) g ∙ (ap (λ m. place_of lines b * m + i) e ∙ ap (λ m. place_of lines b * length lines + m) f)) k))

most_is : (so : Bool) → so ≡ true → most_where so ≡ 256000000
most_is so h = ap most_where h

pub more_where : (so : Bool) (at : ℕ) (amount : ℤ) (old new : List ℤ) → so ≡ true → unsigned_abs amount ≤ 256000000 → IsAddedAt at amount old new → IsMoreBy (most_where so) old new
more_where so at amount old new is small h = subst (λ m. IsMoreBy m old new) (sym (most_is so is)) (more_by at amount old new 256000000 small h)

-- the two entries of neighbours are apart
pub places_apart : (lines : List LineId) (a b : LineId) → AreTwoOf lines a b → (place_of lines a) ≢ (place_of lines b)
places_apart lines a b two e =
    let here = (place_known lines a two.first_on).1 a in
    let there = (place_known lines b two.second_on).1 a in
    absurd (eqb-false a.0 b.0 two.differ (ap (λ (u : LineId). u.0) (sym here ∙ (ap (λ k. get_or lines k a) e ∙ there))))

pub entries_apart : (lines : List LineId) (a b : LineId) (n i j : ℕ) → AreTwoOf lines a b → n ≡ length lines → i ≡ place_of lines a → j ≡ place_of lines b → (j * n + i) ≢ (i * n + j)
entries_apart lines a b n i j two e f g same =
    let here = (place_known lines a two.first_on).0 in
    let there = (place_known lines b two.second_on).0 in
    let both = and_parts (j == i) (i == j) (sym (same_entry n j i i j (omega (arith, here, e, f)) (omega (arith, there, e, g))) ∙ eq-eqb (j * n + i) (i * n + j) same) in
    absurd (places_apart lines a b two (sym f ∙ (sym (eqb-true j i both.0) ∙ g)))

pub more_twice : (so : Bool) (at at_too : ℕ) (amount : ℤ) (old between new : List ℤ) → so ≡ true → at_too ≢ at → unsigned_abs amount ≤ 256000000 → IsAddedAt at amount old between → IsAddedAt at_too amount between new
    → IsMoreBy (most_where so) old new
more_twice so at at_too amount old between new is apart small h g = subst (λ m. IsMoreBy m old new) (sym (most_is so is)) each
  where
    each : IsMoreBy 256000000 old new
    each k = by_tests (k == at) refl (k == at_too) refl (h k) (g k)
      where
        by_tests : (s : Bool) → (k == at) ≡ s → (t : Bool) → (k == at_too) ≡ t → row_entry between k ≡ cond s (row_entry old k +ℤ amount) (row_entry old k)
            → row_entry new k ≡ cond t (row_entry between k +ℤ amount) (row_entry between k) → unsigned_abs (row_entry new k -ℤ row_entry old k) ≤ 256000000
        by_tests true e true f one two = absurd (apart (sym (eqb-true k at_too f) ∙ eqb-true k at e))
        by_tests true e false f one two = moved_by (row_entry new k) (row_entry old k) amount 256000000 small (two ∙ one)
        by_tests false e true f one two = moved_by (row_entry new k) (row_entry old k) amount 256000000 small (two ∙ ap (λ v. v +ℤ amount) one)
        by_tests false e false f one two = subst (λ v. unsigned_abs (v -ℤ row_entry old k) ≤ 256000000) (sym (two ∙ one)) (less_nothing (row_entry old k) 256000000)

-- an entry that is not written is as it was
pub not_written : (at k : ℕ) (amount : ℤ) (old new : List ℤ) → IsAddedAt at amount old new → k ≢ at → row_entry new k ≡ row_entry old k
not_written at k amount old new h apart = h k ∙ ap (λ b. cond b (row_entry old k +ℤ amount) (row_entry old k)) (ne_eqb k at apart)

-- where all entries are 0, no lines cost anything
pub cleared_told : (lines : List LineId) (count : ℕ) (before beside : List ℤ) → length lines ≡ count → ((k : ℕ) → k < count * count → row_entry before k ≡ pos 0) → ((k : ℕ) → k < count * count → row_entry beside k ≡ pos 0)
    → TellPairs lines no_costs before beside
cleared_told lines count before beside each none none_too = record {
  before_told = λ i j here there. none (i * length lines + j) (subst (λ n. i * length lines + j < n * n) each (row_before i (length lines) (length lines) j here there));
  beside_told = λ i j here there. none_too (i * length lines + j) (subst (λ n. i * length lines + j < n * n) each (row_before i (length lines) (length lines) j here there));
}
