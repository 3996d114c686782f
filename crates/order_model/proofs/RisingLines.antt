-- Rising lines, and the lines that a list has.
use Rattle.std.proofs.Common.{◌≡◌, zero, suc, ◌<◌, ◌≤◌, nat_lt, Bool, true, false, cond, List, [], ◌∷◌, length, get_or, refl, sym, ◌∙◌, ap, subst, arith, inl, inr, ◌⊎◌, lt-ltb}
use Rattle.std.specs.List.{All, Contains, filter}
use Rattle.std.proofs.lemmas.List.Elements.{All-nil, All-cons, All-head, All-tail}
use Rattle.std.proofs.lemmas.Bool.Decides.{nat_tests}
use Rattle.map_base.specs.declared.ids.LineId.{LineId}
use Rattle.graph_core.specs.Consistent.{AreRising}

-- Rising lines that are all known are no more than the known ones.

abbrev above : LineId → LineId → Bool
above x y = nat_lt x.0 y.0

pub contains_cases : (x y : LineId) (xs : List LineId) → Contains (x ∷ xs) y → (x ≡ y) ⊎ Contains xs y
contains_cases x y xs (zero, below, is) = inl is
contains_cases x y xs (suc k, below, is) = inr (k, omega arith, is)

pub contains_first : (x : LineId) (xs : List LineId) → Contains (x ∷ xs) x
contains_first x xs = (0, omega arith, refl)

pub contains_later : (x y : LineId) (xs : List LineId) → Contains xs y → Contains (x ∷ xs) y
contains_later x y xs h = (suc h.0, omega (arith, h.1), h.2)

pub contains_kept : (p : LineId → Bool) (y : LineId) (xs : List LineId) → Contains xs y → p y ≡ true → Contains (filter p xs) y
contains_kept p y [] h t = absurd (omega (arith, h.1))
contains_kept p y (x ∷ xs) h t = elim (contains_cases x y xs h) [
  | inl e ↦ (let q : p x ≡ true = ap p e ∙ t in
      subst (λ b. Contains (cond b (x ∷ filter p xs) (filter p xs)) y) (sym q) (subst (λ z. Contains (x ∷ filter p xs) z) e (contains_first x (filter p xs))))
  | inr later ↦ (let rest : Contains (filter p xs) y = contains_kept p y xs later t in
      elim (p x) as (λ b. Contains (cond b (x ∷ filter p xs) (filter p xs)) y) [ true ↦ contains_later x y (filter p xs) rest | false ↦ rest ])
]

length_kept : (p : LineId → Bool) (xs : List LineId) → length (filter p xs) ≤ length xs
length_kept p [] = omega arith
length_kept p (x ∷ xs) =
    elim (p x) as (λ b. length (cond b (x ∷ filter p xs) (filter p xs)) ≤ length (x ∷ xs)) [ true ↦ omega (arith, length_kept p xs) | false ↦ omega (arith, length_kept p xs) ]

pub length_without : (p : LineId → Bool) (y : LineId) (xs : List LineId) → Contains xs y → p y ≡ false → length (filter p xs) < length xs
length_without p y [] h f = absurd (omega (arith, h.1))
length_without p y (x ∷ xs) h f = elim (contains_cases x y xs h) [
  | inl e ↦ (let q : p x ≡ false = ap p e ∙ f in
      subst (λ b. length (cond b (x ∷ filter p xs) (filter p xs)) < length (x ∷ xs)) (sym q) (omega (arith, length_kept p xs)))
  | inr later ↦ (let rest : length (filter p xs) < length xs = length_without p y xs later f in
      elim (p x) as (λ b. length (cond b (x ∷ filter p xs) (filter p xs)) < length (x ∷ xs)) [ true ↦ omega arith | false ↦ omega arith ])
]

abbrev pub AreAbove : LineId → List LineId → Type 0
AreAbove x ys = All (λ (y : LineId). x.0 < y.0) ys

pub rising_tail : (x : LineId) (xs : List LineId) → AreRising (x ∷ xs) → AreRising xs
rising_tail x [] h = tt
rising_tail x (y ∷ ys) h = h.1

pub rising_above : (x : LineId) (xs : List LineId) → AreRising (x ∷ xs) → AreAbove x xs
rising_above x [] h = All-nil (λ (y : LineId). x.0 < y.0)
rising_above x (y ∷ ys) h =
    All-cons (λ (z : LineId). x.0 < z.0) y ys h.0 (λ k d below. let up : y.0 < (get_or ys k d).0 = rising_above y ys h.1 k d below in omega (arith, h.0))

not_above : (x : LineId) → above x x ≡ false
not_above x = grind (arith, nat_tests)

pub few_rising : (xs known : List LineId) → AreRising xs → All (Contains known) xs → length xs ≤ length known
few_rising [] known h all = omega arith
few_rising (x ∷ xs) known h all =
    let kept : List LineId = filter (above x) known in
    let fewer : length kept < length known = length_without (above x) x known (All-head (Contains known) x xs all) (not_above x) in
    let rest : length xs ≤ length kept = few_rising xs kept (rising_tail x xs h)
    (λ k d below. contains_kept (above x) (get_or xs k d) known (All-tail (Contains known) x xs all k d below) (lt-ltb _ _ (rising_above x xs h k d below))) in
    omega arith
