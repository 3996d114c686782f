-- Lists that have each line equally often are permutations of one another, and so is what a test keeps of them.
use Rattle.std.proofs.Common.{◌≡◌, ◌≢◌, ℕ, ◌≤◌, ◌==◌, Bool, true, false, cond, List, [], ◌∷◌, ◌++◌, refl, sym, ap, subst, ◌∙◌, arith, inl, inr, true≢false, eqb-true}
use Rattle.std.specs.Prelude.{filter, IsPermutation}
use Rattle.std.proofs.lemmas.Bool.{or_parts, eqb-false}
use Rattle.std.proofs.lemmas.List.Sums.{sum_by-cons, sum_by-append}
use Rattle.std.proofs.lemmas.List.Sorted.{IsPermutation-refl, IsPermutation-sym, IsPermutation-cons, IsPermutation-trans, IsPermutation-middle, sum_by-IsPermutation}
use Rattle.map_base.specs.declared.ids.LineId.{LineId}
use Rattle.graph_core.specs.Consistent.{AreRising}
use Rattle.order_model.specs.Places.{has_line}
use Rattle.order_model.proofs.Lines.{either_true}
use Rattle.order_model.proofs.PlaceLemmas.{once, times, times_here, times_not_here, same_or_not, line_is, rising_once}

parted : (a : LineId) (xs : List LineId) → 1 ≤ times a xs → (u : List LineId) × (v : List LineId) × (xs ≡ u ++ a ∷ v)
parted a [] h = absurd (omega (arith, h))
parted a (x ∷ xs) h = elim (same_or_not x.0 a.0) [
  | inl e ↦ ([], xs, ap (λ (l : LineId). l ∷ xs) (line_is x a e))
  | inr n ↦ (let rest = parted a xs (omega (arith, h, times_not_here a x xs n)) in
      (x ∷ rest.0, rest.1, ap (λ (zs : List LineId). x ∷ zs) rest.2))
]

pub counted_permutation : (xs ys : List LineId) → ((a : LineId) → times a xs ≡ times a ys) → IsPermutation xs ys
counted_permutation [] [] h = IsPermutation-refl []
counted_permutation [] (y ∷ ys) h = absurd (omega (arith, h y, times_here y y ys refl))
counted_permutation (x ∷ xs) ys h =
    let at = parted x ys (omega (arith, h x, times_here x x xs refl)) in
    let left : List LineId = at.0 ++ at.1 in
    let rest : IsPermutation xs left = counted_permutation xs left (λ b. omega (arith, h b, sum_by-cons (once b) x xs, ap (times b) at.2, sum_by-append (once b) at.0 (x ∷ at.1), sum_by-cons (once b) x at.1, sum_by-append (once b) at.0 at.1)) in
    let front : IsPermutation (x ∷ left) (at.0 ++ x ∷ at.1) = IsPermutation-sym (at.0 ++ x ∷ at.1) (x ∷ left) (IsPermutation-middle at.0 x at.1) in
    let Q : List LineId → Type 0 = λ zs. IsPermutation (x ∷ xs) zs in
    subst Q (sym at.2) (IsPermutation-trans (x ∷ xs) (x ∷ left) (at.0 ++ x ∷ at.1) (IsPermutation-cons x xs left rest) front)

-- a test keeps a line as often as it stands there, or not at all
pub times_filter : (p : LineId → Bool) (a : LineId) (xs : List LineId) → times a (filter p xs) ≡ cond (p a) (times a xs) 0
times_filter p a [] = none (p a) 0
  where
    none : (c : Bool) (n : ℕ) → n ≡ cond c n n
    none true n = refl
    none false n = refl
times_filter p a (x ∷ xs) = elim (same_or_not x.0 a.0) [
  | inl e ↦ by_here (p x) refl (ap p (sym (line_is x a e))) e (times_filter p a xs)
  | inr n ↦ by_other (p x) n (times_filter p a xs)
]
  where
    by_here : (c : Bool) → p x ≡ c → p a ≡ p x → x.0 ≡ a.0 → times a (filter p xs) ≡ cond (p a) (times a xs) 0
        → times a (cond c (x ∷ filter p xs) (filter p xs)) ≡ cond (p a) (times a (x ∷ xs)) 0
    by_here true h k e rest = let is : p a ≡ true = k ∙ h in rw is (omega (arith, times_here a x (filter p xs) e, times_here a x xs e, rw is at rest))
    by_here false h k e rest = let is : p a ≡ false = k ∙ h in rw is (rw is at rest)

    by_other : (c : Bool) → x.0 ≢ a.0 → times a (filter p xs) ≡ cond (p a) (times a xs) 0
        → times a (cond c (x ∷ filter p xs) (filter p xs)) ≡ cond (p a) (times a (x ∷ xs)) 0
    by_other true n rest = times_not_here a x (filter p xs) n ∙ (rest ∙ ap (λ (m : ℕ). cond (p a) m 0) (sym (times_not_here a x xs n)))
    by_other false n rest = rest ∙ ap (λ (m : ℕ). cond (p a) m 0) (sym (times_not_here a x xs n))

pub filter_permutation : (p : LineId → Bool) (xs ys : List LineId) → IsPermutation xs ys → IsPermutation (filter p xs) (filter p ys)
filter_permutation p xs ys h = counted_permutation (filter p xs) (filter p ys)
    (λ a. times_filter p a xs ∙ (ap (λ (m : ℕ). cond (p a) m 0) (sym (sum_by-IsPermutation (once a) xs ys h)) ∙ sym (times_filter p a ys)))

has_some : (a : LineId) (xs : List LineId) → has_line xs a ≡ true → 1 ≤ times a xs
has_some a [] h = absurd (true≢false (sym h))
has_some a (x ∷ xs) h = elim (either_true (x.0 == a.0) (has_line xs a) h) [
  | inl k ↦ omega (arith, times_here a x xs (eqb-true x.0 a.0 k))
  | inr later ↦ omega (arith, has_some a xs later, sum_by-cons (once a) x xs)
]

has_none : (a : LineId) (xs : List LineId) → has_line xs a ≡ false → times a xs ≡ 0
has_none a [] h = refl
has_none a (x ∷ xs) h = let parts = or_parts (x.0 == a.0) (has_line xs a) h in times_not_here a x xs (eqb-false x.0 a.0 parts.0) ∙ has_none a xs parts.1

-- rising lines are what a test for them keeps of rising lines that have them
pub group_kept : (lines group : List LineId) → AreRising lines → AreRising group → ((a : LineId) → has_line group a ≡ true → has_line lines a ≡ true)
    → IsPermutation group (filter (has_line group) lines)
group_kept lines group rising up within = counted_permutation group (filter (has_line group) lines) (λ a. by_group a (has_line group a) refl ∙ sym (times_filter (has_line group) a lines))
  where
    by_group : (a : LineId) (c : Bool) → has_line group a ≡ c → times a group ≡ cond (has_line group a) (times a lines) 0
    by_group a true h = rw h (omega (arith, has_some a group h, rising_once group up a, has_some a lines (within a h), rising_once lines rising a))
    by_group a false h = rw h (has_none a group h)
