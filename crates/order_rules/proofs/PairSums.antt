-- Sums over terms, told apart by the two lines that each is of.
use Rattle.std.proofs.Common.{◌≡◌, ◌≢◌, ℕ, ◌+◌, ◌≤◌, Bool, true, false, cond, List, [], ◌∷◌, refl, sym, ap, ◌∙◌, arith, inl, inr, ◌⊎◌}
use Rattle.std.specs.List.{Contains, AllByRecursion, sum_by, list_all}
use Rattle.std.proofs.lemmas.Bool.Decides.{nat_tests}
use Rattle.std.proofs.lemmas.List.Sums.{sum_by-cons}
use Rattle.map_base.specs.declared.ids.LineId.{LineId}
use Rattle.order_model.specs.declared.term.Term.{Term}
use Rattle.order_model.specs.declared.term.Term.TheVariants.{Side, Link, Apart}
use Rattle.order_model.specs.Costs.{are_these}
use Rattle.order_model.proofs.Lines.{both_true}
use Rattle.order_model.proofs.PlaceLemmas.{times, AreOnce, times_here, times_not_here, once_tail, same_or_not}
use Rattle.order_model.proofs.RisingLines.{contains_cases}
use Rattle.order_rules.specs.PairWeights.{is_of_lines, all_pairs}

-- Sums over a list.

pub sum_same : {A : Type 0} (f g : A → ℕ) (xs : List A) → ((x : A) → f x ≡ g x) → sum_by f xs ≡ sum_by g xs
sum_same f g [] h = refl
sum_same f g (x ∷ xs) h = let rest = sum_same f g xs h in omega (arith, rest, h x, sum_by-cons f x xs, sum_by-cons g x xs)

pub sum_both : {A : Type 0} (f g : A → ℕ) (xs : List A) → sum_by (λ x. f x + g x) xs ≡ sum_by f xs + sum_by g xs
sum_both f g [] = refl
sum_both f g (x ∷ xs) = let rest = sum_both f g xs in omega (arith, rest, sum_by-cons (λ x. f x + g x) x xs, sum_by-cons f x xs, sum_by-cons g x xs)

pub sum_less : {A : Type 0} (f g : A → ℕ) (xs : List A) → AllByRecursion (λ x. f x ≤ g x) xs → sum_by f xs ≤ sum_by g xs
sum_less f g [] h = omega arith
sum_less f g (x ∷ xs) h = let rest = sum_less f g xs h.1 in omega (arith, rest, h.0, sum_by-cons f x xs, sum_by-cons g x xs)

pub sum_none : {A : Type 0} (f : A → ℕ) (xs : List A) → ((x : A) → f x ≡ 0) → sum_by f xs ≡ 0
sum_none f [] h = refl
sum_none f (x ∷ xs) h = let rest = sum_none f xs h in omega (arith, rest, h x, sum_by-cons f x xs)

-- Sums over each two of a list of lines.

abbrev pub sum_pairs : (LineId → LineId → ℕ) → List LineId → ℕ
sum_pairs f [] = 0
sum_pairs f (a ∷ rest) = sum_by (f a) rest + sum_pairs f rest

pub pairs_same : (f g : LineId → LineId → ℕ) (xs : List LineId) → ((a b : LineId) → f a b ≡ g a b) → sum_pairs f xs ≡ sum_pairs g xs
pairs_same f g [] h = refl
pairs_same f g (a ∷ rest) h = let later = pairs_same f g rest h in omega (arith, later, sum_same (f a) (g a) rest (h a))

pub pairs_both : (f g : LineId → LineId → ℕ) (xs : List LineId) → sum_pairs (λ a b. f a b + g a b) xs ≡ sum_pairs f xs + sum_pairs g xs
pairs_both f g [] = refl
pairs_both f g (a ∷ rest) = let later = pairs_both f g rest in omega (arith, later, sum_both (f a) (g a) rest)

pub pairs_none : (f : LineId → LineId → ℕ) (xs : List LineId) → ((a b : LineId) → f a b ≡ 0) → sum_pairs f xs ≡ 0
pairs_none f [] h = refl
pairs_none f (a ∷ rest) h = let later = pairs_none f rest h in omega (arith, later, sum_none (f a) rest (h a))

with_less : (test : LineId → Bool) (f g : LineId → ℕ) (xs : List LineId) → ((b : LineId) → test b ≡ true → f b ≤ g b) → list_all test xs ≡ true → sum_by f xs ≤ sum_by g xs
with_less test f g [] h all = omega arith
with_less test f g (b ∷ xs) h all =
    let parts = both_true (test b) (list_all test xs) all in
    let rest = with_less test f g xs h parts.1 in
    omega (arith, rest, h b parts.0, sum_by-cons f b xs, sum_by-cons g b xs)

pub pairs_less : (test : LineId → LineId → Bool) (f g : LineId → LineId → ℕ) (xs : List LineId)
    → ((a b : LineId) → test a b ≡ true → f a b ≤ g a b) → all_pairs test xs ≡ true → sum_pairs f xs ≤ sum_pairs g xs
pairs_less test f g [] h all = omega arith
pairs_less test f g (a ∷ rest) h all =
    let parts = both_true (list_all (test a) rest) (all_pairs test rest) all in
    let later = pairs_less test f g rest h parts.1 in
    omega (arith, later, with_less (test a) (f a) (g a) rest (h a) parts.0)

-- Of the pairs of a list in which no line stands twice, one alone is two given lines.

later_one : (x a : LineId) (xs : List LineId) → x.0 ≢ a.0 → Contains (x ∷ xs) a → Contains xs a
later_one x a xs n h = elim (contains_cases x a xs h) [ inl e ↦ absurd (n (ap (λ (l : LineId). l.0) e)) | inr later ↦ later ]

-- a number that only one line has
pub record IsOf (y : LineId) (v : ℕ) (g : LineId → ℕ) : Type 0 where
  pub here : (b : LineId) → y.0 ≡ b.0 → g b ≡ v
  pub elsewhere : (b : LineId) → y.0 ≢ b.0 → g b ≡ 0

pick_none : (y : LineId) (v : ℕ) (g : LineId → ℕ) (xs : List LineId) → IsOf y v g → times y xs ≡ 0 → sum_by g xs ≡ 0
pick_none y v g [] is none = refl
pick_none y v g (b ∷ xs) is none = elim (same_or_not b.0 y.0) [
  | inl e ↦ absurd (omega (arith, times_here y b xs e, none))
  | inr n ↦ omega (arith, sum_by-cons g b xs, is.elsewhere b (λ e. n (sym e)), pick_none y v g xs is (omega (arith, times_not_here y b xs n, none)))
]

pick : (y : LineId) (v : ℕ) (g : LineId → ℕ) (xs : List LineId) → IsOf y v g → AreOnce xs → Contains xs y → sum_by g xs ≡ v
pick y v g [] is once on = absurd (omega (arith, on.1))
pick y v g (b ∷ xs) is once on = elim (same_or_not b.0 y.0) [
  | inl e ↦ omega (arith, sum_by-cons g b xs, is.here b (sym e), pick_none y v g xs is (omega (arith, once y, times_here y b xs e)))
  | inr n ↦ omega (arith, sum_by-cons g b xs, is.elsewhere b (λ e. n (sym e)), pick y v g xs is (once_tail b xs once) (later_one b y xs n on))
]

-- a number for two lines
abbrev pub for_two : LineId → LineId → ℕ → LineId → LineId → ℕ
for_two x y v a b = cond (are_these x y a b) v 0

two_swapped : (x y a b : LineId) → are_these x y a b ≡ are_these y x a b
two_swapped x y a b = grind (arith, nat_tests)

two_first : (x y a b : LineId) (v : ℕ) → a.0 ≡ x.0 → y.0 ≡ b.0 → for_two x y v a b ≡ v
two_first x y a b v e h = grind (arith, nat_tests)

two_not : (x y a b : LineId) (v : ℕ) → a.0 ≡ x.0 → x.0 ≢ y.0 → y.0 ≢ b.0 → for_two x y v a b ≡ 0
two_not x y a b v e n h = grind (arith, nat_tests)

two_none : (x y a b : LineId) (v : ℕ) → x.0 ≢ a.0 → x.0 ≢ b.0 → for_two x y v a b ≡ 0
two_none x y a b v e h = grind (arith, nat_tests)

two_neither : (x y a b : LineId) (v : ℕ) → a.0 ≢ x.0 → a.0 ≢ y.0 → for_two x y v a b ≡ 0
two_neither x y a b v e h = grind (arith, nat_tests)

row_none : (x y a : LineId) (v : ℕ) (xs : List LineId) → a.0 ≢ x.0 → times x xs ≡ 0 → sum_by (for_two x y v a) xs ≡ 0
row_none x y a v [] n none = refl
row_none x y a v (b ∷ xs) n none = elim (same_or_not b.0 x.0) [
  | inl e ↦ absurd (omega (arith, times_here x b xs e, none))
  | inr m ↦ omega (
    arith,
    sum_by-cons (for_two x y v a) b xs,
    two_none x y a b v (λ e. n (sym e)) (λ e. m (sym e)),
    row_none x y a v xs n (omega (arith, times_not_here x b xs m, none)),
  )
]

none_of_two : (x y : LineId) (v : ℕ) (xs : List LineId) → times x xs ≡ 0 → sum_pairs (for_two x y v) xs ≡ 0
none_of_two x y v [] none = refl
none_of_two x y v (a ∷ rest) none = elim (same_or_not a.0 x.0) [
  | inl e ↦ absurd (omega (arith, times_here x a rest e, none))
  | inr n ↦ (let later : times x rest ≡ 0 = omega (arith, times_not_here x a rest n, none) in
      omega (arith, row_none x y a v rest n later, none_of_two x y v rest later))
]

one_from : (x y a : LineId) (v : ℕ) (rest : List LineId) → a.0 ≡ x.0 → x.0 ≢ y.0 → AreOnce (a ∷ rest) → Contains (a ∷ rest) y → sum_pairs (for_two x y v) (a ∷ rest) ≡ v
one_from x y a v rest e n once on =
    let is : IsOf y v (for_two x y v a) = record { here = λ b h. two_first x y a b v e h; elsewhere = λ b h. two_not x y a b v e n h } in
    let apart : a.0 ≢ y.0 = λ k. n (sym e ∙ k) in
    let none : times x rest ≡ 0 = omega (arith, once x, times_here x a rest e) in
    omega (arith, pick y v (for_two x y v a) rest is (once_tail a rest once) (later_one a y rest apart on), none_of_two x y v rest none)

pub one_of_two : (x y : LineId) (v : ℕ) (xs : List LineId) → x.0 ≢ y.0 → AreOnce xs → Contains xs x → Contains xs y → sum_pairs (for_two x y v) xs ≡ v
one_of_two x y v [] n once on_x on_y = absurd (omega (arith, on_x.1))
one_of_two x y v (a ∷ rest) n once on_x on_y = elim (same_or_not a.0 x.0) [
  | inl e ↦ one_from x y a v rest e n once on_y
  | inr no_x ↦ elim (same_or_not a.0 y.0) [
    | inl e ↦ pairs_same (for_two x y v) (for_two y x v) (a ∷ rest) (λ c b. ap (λ (m : Bool). cond m v 0) (two_swapped x y c b)) ∙ one_from y x a v rest e (λ k. n (sym k)) once on_x
    | inr no_y ↦ (let later = one_of_two x y v rest n (once_tail a rest once) (later_one a x rest no_x on_x) (later_one a y rest no_y on_y) in
        omega (arith, later, sum_none (for_two x y v a) rest (λ b. two_neither x y a b v no_x no_y)))
  ]
]

-- The two lines of a term.

abbrev pub first_of : Term → LineId
first_of (Side seg first second w) = first
first_of (Link seg other flip a b w) = a
first_of (Apart seg other a b w) = a

abbrev pub second_of : Term → LineId
second_of (Side seg first second w) = second
second_of (Link seg other flip a b w) = b
second_of (Apart seg other a b w) = b

pub of_lines : (t : Term) (a b : LineId) → is_of_lines a b t ≡ are_these (first_of t) (second_of t) a b
of_lines (Side seg first second w) a b = refl
of_lines (Link seg other flip x y w) a b = refl
of_lines (Apart seg other x y w) a b = refl

-- two different lines of a list
pub record AreTwoIn (lines : List LineId) (x y : LineId) : Type 0 where
  pub differ : x.0 ≢ y.0
  pub x_on : Contains lines x
  pub y_on : Contains lines y

-- the number of a term, if it is of these lines
abbrev pub of_pair : (Term → ℕ) → LineId → LineId → Term → ℕ
of_pair S a b t = cond (is_of_lines a b t) (S t) 0

abbrev pub pair_sum : (Term → ℕ) → List Term → LineId → LineId → ℕ
pair_sum S terms a b = sum_by (of_pair S a b) terms

abbrev of_none : Bool → ℕ
of_none c = cond c 0 0

cond_none : (c : Bool) → of_none c ≡ 0
cond_none true = refl
cond_none false = refl

-- a sum over terms of two of these lines each is the sum over each two lines of the sum over their terms
pub by_pairs : (S : Term → ℕ) (lines : List LineId) (terms : List Term) → AreOnce lines
    → AllByRecursion (λ t. (S t ≡ 0) ⊎ AreTwoIn lines (first_of t) (second_of t)) terms → sum_by S terms ≡ sum_pairs (pair_sum S terms) lines
by_pairs S lines [] once all = sym (pairs_none (pair_sum S []) lines (λ a b. refl))
by_pairs S lines (t ∷ terms) once all =
    let rest = by_pairs S lines terms once all.1 in
    let split = pairs_same (pair_sum S (t ∷ terms)) (λ a b. of_pair S a b t + pair_sum S terms a b) lines (λ a b. sum_by-cons (of_pair S a b) t terms) in
    let both = pairs_both (λ a b. of_pair S a b t) (pair_sum S terms) lines in
    let here = one_term all.0 in
    omega (arith, rest, split, both, here, sum_by-cons S t terms)
  where
    one_term : (S t ≡ 0) ⊎ AreTwoIn lines (first_of t) (second_of t) → sum_pairs (λ a b. of_pair S a b t) lines ≡ S t
    one_term (inl e) = pairs_none (λ a b. of_pair S a b t) lines (λ a b. ap (λ n. cond (is_of_lines a b t) n 0) e ∙ cond_none (is_of_lines a b t)) ∙ sym e
    one_term (inr two) =
        pairs_same (λ a b. of_pair S a b t) (for_two (first_of t) (second_of t) (S t)) lines (λ a b. ap (λ (m : Bool). cond m (S t) 0) (of_lines t a b))
        ∙ one_of_two (first_of t) (second_of t) (S t) lines two.differ once two.x_on two.y_on
