-- The lines to which chains of settled pairs lead, as sets of places.
use Rattle.std.proofs.Common.{◌≡◌, ℕ, zero, suc, ◌+◌, ◌-◌, ◌<◌, ◌≤◌, ◌==◌, ◌||◌, ◌&&◌, Bool, true, false, cond, List, [], ◌∷◌, length, refl, sym, ◌∙◌, ap, arith, inl, inr, true≢false, eq-eqb, eqb-true, max}
use Rattle.std.specs.Prelude.{bit_or, slice_index}
use Rattle.std.specs.Int.{bit_at}
use Rattle.std.specs.List.{list_any, list_all}
use Rattle.std.proofs.lemmas.Bool.{and_from, and_parts}
use Rattle.std.proofs.lemmas.Bool.Decides.{nat_tests}
use Rattle.std.proofs.lemmas.Nat.Bits.{bit_at_or, bit_at-lt, bit_at-zero}
use Rattle.map_base.specs.declared.ids.LineId.{LineId}
use Rattle.order_model.specs.Places.{has_line, place_of}
use Rattle.order_model.proofs.Lines.{either_true, same_line}
use Rattle.least_orders.specs.Rows.{line_at, named, is_one_of}
use Rattle.least_orders.specs.Subsets.{has_place}
use Rattle.least_orders.proofs.Lists.{Among, all_at, same_test}
use Rattle.dual_shares.specs.SettledSets.{TellAhead}
use Rattle.dual_shares.proofs.Entries.{place_known}
use Rattle.dual_ascent.specs.OpenPairs as open_pairs
use Rattle.dual_orders.specs.Closing.{joined, stepped, stepped_by}
use Rattle.dual_orders.specs.NextPairs.{TellsPairs}

-- Tests.

or_test : (x y : ℕ) → x < 2 → y < 2 → (max x y == 1) ≡ ((x == 1) || (y == 1))
or_test zero zero h k = refl
or_test zero (suc zero) h k = refl
or_test (suc zero) zero h k = refl
or_test (suc zero) (suc zero) h k = refl
or_test zero (suc (suc y)) h k = absurd (omega (arith, k))
or_test (suc zero) (suc (suc y)) h k = absurd (omega (arith, k))
or_test (suc (suc x)) y h k = absurd (omega (arith, h))

has_or : (a b i : ℕ) → has_place (bit_or a b) i ≡ (has_place a i || has_place b i)
has_or a b i = ap (λ n. n == 1) (bit_at_or a b i) ∙ or_test (bit_at a i) (bit_at b i) (bit_at-lt a i) (bit_at-lt b i)

has_none : (i : ℕ) → has_place 0 i ≡ false
has_none i = ap (λ n. n == 1) (bit_at-zero i)

left_true : (a b : Bool) → a ≡ true → (a || b) ≡ true
left_true a b h = ap (λ t. t || b) h

right_true : (a b : Bool) → b ≡ true → (a || b) ≡ true
right_true true b h = refl
right_true false b h = h

witness : {A : Type 0} (p : A → Bool) (xs : List A) → list_any p xs ≡ true → (x : A) × Among x xs × (p x ≡ true)
witness p [] h = absurd (true≢false (sym h))
witness p (x ∷ xs) h = elim (either_true (p x) (list_any p xs) h) [
  | inl here ↦ (x, inl refl, here)
  | inr there ↦ (let rest = witness p xs there in (rest.0, inr rest.1, rest.2))
]

any_among : {A : Type 0} (p : A → Bool) (x : A) (xs : List A) → Among x xs → p x ≡ true → list_any p xs ≡ true
any_among p x [] h e = absurd h
any_among p x (y ∷ xs) (inl is) e = left_true (p y) (list_any p xs) (ap p (sym is) ∙ e)
any_among p x (y ∷ xs) (inr h) e = right_true (p y) (list_any p xs) (any_among p x xs h e)

-- one of so many places from one on
abbrev any_from : (ℕ → Bool) → ℕ → ℕ → Bool
any_from f k zero = false
any_from f k (suc n) = f k || any_from f (k + 1) n

from_any : (f : ℕ → Bool) (k n : ℕ) → any_from f k n ≡ true → (m : ℕ) × (m < k + n) × (f m ≡ true)
from_any f k zero h = absurd (true≢false (sym h))
from_any f k (suc n) h = elim (either_true (f k) (any_from f (k + 1) n) h) [
  | inl here ↦ (k, omega arith, here)
  | inr there ↦ (let rest = from_any f (k + 1) n there in (rest.0, (let below = rest.1 in omega (arith, below)), rest.2))
]

to_any : (f : ℕ → Bool) (k n m : ℕ) → k ≤ m → m < k + n → f m ≡ true → any_from f k n ≡ true
to_any f k zero m h g e = absurd (omega (arith, h, g))
to_any f k (suc n) m h g e = by_place (k == m) refl (λ above. to_any f (k + 1) n m above (omega (arith, g)) e)
  where
    by_place : (b : Bool) → (k == m) ≡ b → (k + 1 ≤ m → any_from f (k + 1) n ≡ true) → any_from f k (suc n) ≡ true
    by_place true is rest = left_true (f k) (any_from f (k + 1) n) (ap f (eqb-true k m is) ∙ e)
    by_place false apart rest = right_true (f k) (any_from f (k + 1) n) (rest (past k m h apart))
      where
        past : (k m : ℕ) → k ≤ m → (k == m) ≡ false → k + 1 ≤ m
        past k m h apart = grind (arith, nat_tests)

-- What a step adds.

one_less : (k n : ℕ) → k < n → n - k ≡ suc (n - (k + 1))
one_less k n h = omega (arith, h)

has_joined : (direct : List ℕ) (set i k n all : ℕ) → has_place (joined direct set k n all) i ≡ (has_place all i || any_from (λ m. has_place set m && has_place (slice_index direct m) i) k n)
has_joined direct set i k zero all = or_false (has_place all i)
  where
    or_false : (a : Bool) → a ≡ (a || false)
    or_false true = refl
    or_false false = refl
has_joined direct set i k (suc n) all =
    has_joined direct set i (k + 1) n (cond (has_place set k) (bit_or all (slice_index direct k)) all) ∙ by_test (has_place set k)
  where
    assoc : (a b c : Bool) → ((a || b) || c) ≡ (a || (b || c))
    assoc true b c = refl
    assoc false b c = refl

    by_test : (b : Bool) → (has_place (cond b (bit_or all (slice_index direct k)) all) i || any_from (λ m. has_place set m && has_place (slice_index direct m) i) (k + 1) n)
        ≡ (has_place all i || ((b && has_place (slice_index direct k) i) || any_from (λ m. has_place set m && has_place (slice_index direct m) i) (k + 1) n))
    by_test false = refl
    by_test true =
        ap (λ t. t || any_from (λ m. has_place set m && has_place (slice_index direct m) i) (k + 1) n) (has_or all (slice_index direct k) i)
        ∙ assoc (has_place all i) (has_place (slice_index direct k) i) (any_from (λ m. has_place set m && has_place (slice_index direct m) i) (k + 1) n)

-- one place more of a set
pub joined_more : (direct : List ℕ) (set k count all more : ℕ) → k < count
    → more ≡ cond (has_place set k) (bit_or all (slice_index direct k)) all
    → joined direct set (k + 1) (count - (k + 1)) more ≡ joined direct set k (count - k) all
joined_more direct set k count all more below is = ap (joined direct set (k + 1) (count - (k + 1))) is ∙ sym
    (ap (λ n. joined direct set k n all) (one_less k count below))

-- one step more
pub step_more : (direct : List ℕ) (count j set i most more : ℕ) → i < most → more ≡ stepped direct count j set
    → stepped_by direct count j (most - (i + 1)) more ≡ stepped_by direct count j (most - i) set
step_more direct count j set i most more below is = ap (stepped_by direct count j (most - (i + 1))) is ∙ sym
    (ap (λ n. stepped_by direct count j n set) (one_less i most below))

-- a step more at the end
step_last : (direct : List ℕ) (count j n set : ℕ) → stepped_by direct count j (suc n) set ≡ stepped direct count j (stepped_by direct count j n set)
step_last direct count j zero set = refl
step_last direct count j (suc n) set = step_last direct count j n (stepped direct count j set)

-- where a step adds nothing, no more steps do
pub steps_rest : (direct : List ℕ) (count j n set : ℕ) → stepped direct count j set ≡ set → stepped_by direct count j n set ≡ set
steps_rest direct count j zero set h = refl
steps_rest direct count j (suc n) set h = ap (stepped_by direct count j n) h ∙ steps_rest direct count j n set h

-- Chains.

module _ (pairs : List (LineId × LineId)) (lines : List LineId) (direct : List ℕ) (tell : TellAhead pairs lines direct)
    (known : list_all (λ (p : LineId × LineId). is_one_of lines p.0 && is_one_of lines p.1) pairs ≡ true) where
  abbrev name : ℕ → LineId
  name k = named lines (line_at k)

  abbrev goes : ℕ → LineId → LineId → LineId × LineId → Bool
  goes n a b q = q.0.0 == a.0 && (q.1.0 == b.0 || open_pairs.leads n pairs q.1 b)

  named_place : (a : LineId) → has_line lines a ≡ true → name (place_of lines a) ≡ a
  named_place a h = (place_known lines a h).1 (line_at (place_of lines a))

  -- a chain of one pair more
  step_leads : (n i j : ℕ) (set : ℕ) → i < length lines → j < length lines → ((k : ℕ) → k < length lines → has_place set k ≡ open_pairs.leads n pairs (name k) (name j))
      → has_place (stepped direct (length lines) j set) i ≡ open_pairs.leads (suc n) pairs (name i) (name j)
  step_leads n i j set here there h =
      has_joined direct set i 0 (length lines) (slice_index direct j)
      ∙ same_test (has_place (slice_index direct j) i || any_from (λ m. has_place set m && has_place (slice_index direct m) i) 0 (length lines)) (list_any (goes n (name i) (name j)) pairs) forth back
    where
      through : (q : LineId × LineId) → (q.0.0 == (name i).0) ≡ true → (q.1.0 == (name j).0 || open_pairs.leads n pairs q.1 (name j)) ≡ true → Among q pairs → list_any (goes n (name i) (name j)) pairs ≡ true
      through q e f among = any_among (goes n (name i) (name j)) q pairs among (and_from (q.0.0 == (name i).0) (q.1.0 == (name j).0 || open_pairs.leads n pairs q.1 (name j)) e f)

      forth : (has_place (slice_index direct j) i || any_from (λ m. has_place set m && has_place (slice_index direct m) i) 0 (length lines)) ≡ true → list_any (goes n (name i) (name j)) pairs ≡ true
      forth e = elim (either_true (has_place (slice_index direct j) i) (any_from (λ m. has_place set m && has_place (slice_index direct m) i) 0 (length lines)) e) [
        | inl at_once ↦
            (let one = witness (λ (p : LineId × LineId). p.0.0 == (name i).0 && p.1.0 == (name j).0) pairs (sym (tell.told i j here there) ∙ at_once) in
            let both = and_parts (one.0.0.0 == (name i).0) (one.0.1.0 == (name j).0) one.2 in
            through one.0 both.0 (left_true (one.0.1.0 == (name j).0) (open_pairs.leads n pairs one.0.1 (name j)) both.1) one.1)
        | inr later ↦
            (let place = from_any (λ m. has_place set m && has_place (slice_index direct m) i) 0 (length lines) later in
            let both = and_parts (has_place set place.0) (has_place (slice_index direct place.0) i) place.2 in
            let within : place.0 < length lines = (let below = place.1 in omega (arith, below)) in
            let one = witness (λ (p : LineId × LineId). p.0.0 == (name i).0 && p.1.0 == (name place.0).0) pairs (sym (tell.told i place.0 here within) ∙ both.1) in
            let parts = and_parts (one.0.0.0 == (name i).0) (one.0.1.0 == (name place.0).0) one.2 in
            through one.0 parts.0 (right_true (one.0.1.0 == (name j).0) (open_pairs.leads n pairs one.0.1 (name j))
            (ap (λ u. open_pairs.leads n pairs u (name j)) (same_line one.0.1 (name place.0) parts.1) ∙ (sym (h place.0 within) ∙ both.0))) one.1)
      ]

      back : list_any (goes n (name i) (name j)) pairs ≡ true → (has_place (slice_index direct j) i || any_from (λ m. has_place set m && has_place (slice_index direct m) i) 0 (length lines)) ≡ true
      back e =
          let one = witness (goes n (name i) (name j)) pairs e in
          let q : LineId × LineId = one.0 in
          let parts = and_parts (q.0.0 == (name i).0) (q.1.0 == (name j).0 || open_pairs.leads n pairs q.1 (name j)) one.2 in
          elim (either_true (q.1.0 == (name j).0) (open_pairs.leads n pairs q.1 (name j)) parts.1) [
            | inl ends ↦
                left_true (has_place (slice_index direct j) i) (any_from (λ m. has_place set m && has_place (slice_index direct m) i) 0 (length lines))
                (tell.told i j here there
                ∙ any_among (λ (p : LineId × LineId). p.0.0 == (name i).0 && p.1.0 == (name j).0) q pairs one.1 (and_from (q.0.0 == (name i).0) (q.1.0 == (name j).0) parts.0 ends))
            | inr goes_on ↦
                (let ones = and_parts (is_one_of lines q.0) (is_one_of lines q.1) (all_at (λ (p : LineId × LineId). is_one_of lines p.0 && is_one_of lines p.1) pairs q known one.1) in
                let place = place_known lines q.1 ones.1 in
                let is : name (place_of lines q.1) ≡ q.1 = named_place q.1 ones.1 in
                right_true (has_place (slice_index direct j) i) (any_from (λ m. has_place set m && has_place (slice_index direct m) i) 0 (length lines))
                (to_any (λ m. has_place set m && has_place (slice_index direct m) i) 0 (length lines) (place_of lines q.1) (omega arith) (let below = place.0 in omega (arith, below))
                (and_from (has_place set (place_of lines q.1)) (has_place (slice_index direct (place_of lines q.1)) i)
                (h (place_of lines q.1) place.0 ∙ (ap (λ u. open_pairs.leads n pairs u (name j)) is ∙ goes_on))
                (tell.told i (place_of lines q.1) here place.0
                ∙ any_among (λ (p : LineId × LineId). p.0.0 == (name i).0 && p.1.0 == (name (place_of lines q.1)).0) q pairs one.1
                (and_from (q.0.0 == (name i).0) (q.1.0 == (name (place_of lines q.1)).0) parts.0 (eq-eqb q.1.0 (name (place_of lines q.1)).0 (ap (λ (u : LineId). u.0) (sym is))))))))
          ]

  -- chains of at most so many pairs
  pub steps_lead : (n i j : ℕ) → i < length lines → j < length lines → has_place (stepped_by direct (length lines) j n 0) i ≡ open_pairs.leads n pairs (name i) (name j)
  steps_lead zero i j here there = has_none i
  steps_lead (suc n) i j here there =
      ap (λ s. has_place s i) (step_last direct (length lines) j n 0)
      ∙ step_leads n i j (stepped_by direct (length lines) j n 0) here there (λ k below. steps_lead n k j below there)

  -- of two lines
  lines_lead : (n : ℕ) (a b : LineId) → has_line lines a ≡ true → has_line lines b ≡ true
      → has_place (stepped_by direct (length lines) (place_of lines b) n 0) (place_of lines a) ≡ open_pairs.leads n pairs a b
  lines_lead n a b h k =
      steps_lead n (place_of lines a) (place_of lines b) (place_known lines a h).0 (place_known lines b k).0
      ∙ (ap (λ u. open_pairs.leads n pairs u (name (place_of lines b))) (named_place a h) ∙ ap (λ u. open_pairs.leads n pairs a u) (named_place b k))

-- whether the set of those ahead has a line
pub leads_by : (pairs : List (LineId × LineId)) (lines : List LineId) (direct : List ℕ) (a b : LineId)
    (chain i j set : ℕ) (r : Bool) → TellsPairs pairs lines direct → chain ≡ length pairs → has_line lines a ≡ true
    → has_line lines b ≡ true → i ≡ place_of lines a → j ≡ place_of lines b
    → set ≡ stepped_by direct (length lines) j chain 0 → r ≡ has_place set i
    → r ≡ open_pairs.leads (length pairs) pairs a b
leads_by pairs lines direct a b chain i j set r tells count first_on second_on first second made is =
    is
    ∙ (ap (λ s. has_place s i)
    (made ∙ (ap (λ m. stepped_by direct (length lines) m chain 0) second ∙ ap
    (λ n. stepped_by direct (length lines) (place_of lines b) n 0) count))
    ∙ (ap (has_place (stepped_by direct (length lines) (place_of lines b) (length pairs) 0)) first ∙ lines_lead pairs
    lines direct tells.told tells.known (length pairs) a b first_on second_on))

pub settled_once : (a b : Bool) → a ≡ true → true ≡ (a || b)
settled_once a b h = sym (left_true a b h)

pub settled_back : (r a b : Bool) → a ≡ false → r ≡ b → r ≡ (a || b)
settled_back r a b h is = is ∙ sym (ap (λ t. t || b) h)
