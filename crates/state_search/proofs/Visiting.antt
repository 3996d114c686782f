-- A least path visits no state twice, and is no longer than there are states.
use Rattle.std.proofs.Common.{◌≡◌, refl, sym, subst, ℕ, zero, suc, ◌+◌, ◌<◌, ◌≤◌, ◌⊎◌, inl, inr, Bool, true, false, eqb, ◌||◌, List, [], ◌∷◌, length, arith}
use Rattle.std.specs.List.{list_any, IsDistinct, AllByRecursion}
use Rattle.std.proofs.lemmas.Bool.{ne_eqb, eqb-true}
use Rattle.std.proofs.lemmas.Map.Keys.{IsDistinct-cons, IsDistinct-from_apart}
use Rattle.std.proofs.lemmas.Map.Steps.{length-le_from_distinct_below}
use Rattle.state_search.specs.Goals.{Space, PathTo, IsSpace}

-- the states that labels lead through, the first one included
abbrev pub states_on : (w : Space) (a : ℕ) (ls : List ℕ) (k : ℕ) → PathTo w a ls k → List ℕ
states_on w a [] k p = a ∷ []
states_on w a (l ∷ ls) k p = a ∷ states_on w p.0 ls p.2 p.4

-- no path from the state to a goal costs less
abbrev pub IsLeastTo : Space → ℕ → ℕ → Type 0
IsLeastTo w a k = (others : List ℕ) (r : ℕ) → PathTo w a others r → k ≤ r

-- a path that costs less than the least one from a does not come to a
not_there : (w : Space) (a bound x : ℕ) (ls : List ℕ) (k : ℕ) → IsLeastTo w a bound → k < bound → (p : PathTo w x ls k) → AllByRecursion (λ s. eqb a s ≡ false) (states_on w x ls k p)
not_there w a bound x [] k least below p = (ne_eqb a x not_here, tt)
  where
    not_here : a ≡ x → ⊥
    not_here e = let most : bound ≤ k = least [] k (subst (λ (y : ℕ). PathTo w y [] k) (sym e) p) in omega arith
not_there w a bound x (l ∷ ls) k least below p =
    let sum : k ≡ p.1 + p.2 = p.5 in
    (ne_eqb a x not_here, not_there w a bound p.0 ls p.2 least (omega arith) p.4)
  where
    not_here : a ≡ x → ⊥
    not_here e = let most : bound ≤ k = least (l ∷ ls) k (subst (λ (y : ℕ). PathTo w y (l ∷ ls) k) (sym e) p) in omega arith

-- the rest of a least path is one
least_rest : (w : Space) (a l s c r k : ℕ) → k ≡ c + r → w.step a l s c → IsLeastTo w a k → IsLeastTo w s r
least_rest w a l s c r k sum step least others q path =
    let most : k ≤ c + q = least (l ∷ others) (c + q) (s, c, q, step, path, refl) in
    omega arith

-- a path than which none costs less visits no state twice
pub visits_once : (w : Space) → IsSpace w → (a : ℕ) (ls : List ℕ) (k : ℕ) (p : PathTo w a ls k) → IsLeastTo w a k → IsDistinct eqb (states_on w a ls k p)
visits_once w space a [] k p least = IsDistinct-cons eqb a [] tt (IsDistinct-from_apart eqb [] (λ i j d less below. absurd (omega arith)))
visits_once w space a (l ∷ ls) k p least =
    let sum : k ≡ p.1 + p.2 = p.5 in
    let some : 1 ≤ p.1 = space.not_free a l p.0 p.1 p.3 in
    IsDistinct-cons eqb a (states_on w p.0 ls p.2 p.4) (not_there w a k p.0 ls p.2 least (omega arith) p.4)
    (visits_once w space p.0 ls p.2 p.4 (least_rest w a l p.0 p.1 p.2 k p.5 p.3 least))

states_count : (w : Space) (a : ℕ) (ls : List ℕ) (k : ℕ) (p : PathTo w a ls k) → length (states_on w a ls k p) ≡ length ls + 1
states_count w a [] k p = omega arith
states_count w a (l ∷ ls) k p = let rest : length (states_on w p.0 ls p.2 p.4) ≡ length ls + 1 = states_count w p.0 ls p.2 p.4 in omega arith

first_or_later : (a n q : ℕ) (xs : List ℕ) → a < n → (t : Bool) → eqb q a ≡ t → (t || list_any (eqb q) xs) ≡ true →
    (list_any (eqb q) xs ≡ true → q < n) → q < n
first_or_later a n q xs inside true e found later = subst (λ (m : ℕ). m < n) (sym (eqb-true q a e)) inside
first_or_later a n q xs inside false e found later = later found

states_in_range : (w : Space) → IsSpace w → (a : ℕ) (ls : List ℕ) (k : ℕ) (p : PathTo w a ls k) → (q : ℕ) → list_any (eqb q) (states_on w a ls k p) ≡ true → q < w.count
states_in_range w space a [] k p q found = first_or_later a w.count q [] (space.end_state a k p) (eqb q a) refl found (λ none. cc)
states_in_range w space a (l ∷ ls) k p q found =
    first_or_later a w.count q (states_on w p.0 ls p.2 p.4) (space.from_state a l p.0 p.1 p.3) (eqb q a) refl found (λ later. states_in_range w space p.0 ls p.2 p.4 q later)

-- so it has fewer steps than there are states
pub short_enough : (w : Space) → IsSpace w → (a : ℕ) (ls : List ℕ) (k : ℕ) → PathTo w a ls k → IsLeastTo w a k → length ls < w.count
short_enough w space a ls k p least =
    let all : length (states_on w a ls k p) ≤ w.count =
    length-le_from_distinct_below (states_on w a ls k p) w.count (visits_once w space a ls k p least) (states_in_range w space a ls k p) in
    omega (arith, states_count w a ls k p)

-- a path that comes to a state goes on from there at no greater cost
pub record GoesOn (w : Space) (x k : ℕ) : Type 0 where
  pub further : List ℕ
  pub cost : ℕ
  pub path : PathTo w x further cost
  pub no_more : cost ≤ k

from_there : (w : Space) (x a : ℕ) (ls : List ℕ) (k : ℕ) (p : PathTo w a ls k) → AllByRecursion (λ s. eqb x s ≡ false) (states_on w a ls k p) ⊎ GoesOn w x k
from_there w x a [] k p = of_test (eqb x a) refl
  where
    of_test : (t : Bool) → eqb x a ≡ t → AllByRecursion (λ s. eqb x s ≡ false) (a ∷ []) ⊎ GoesOn w x k
    of_test true e = inr (record { further = []; cost = k; path = subst (λ (y : ℕ). PathTo w y [] k) (sym (eqb-true x a e)) p; no_more = omega arith })
    of_test false e = inl (e, tt)
from_there w x a (l ∷ ls) k p = of_test (eqb x a) refl (from_there w x p.0 ls p.2 p.4)
  where
    of_later : eqb x a ≡ false → AllByRecursion (λ s. eqb x s ≡ false) (states_on w p.0 ls p.2 p.4) ⊎ GoesOn w x p.2 →
        AllByRecursion (λ s. eqb x s ≡ false) (a ∷ states_on w p.0 ls p.2 p.4) ⊎ GoesOn w x k
    of_later e (inl none) = inl (e, none)
    of_later e (inr g) =
        let sum : k ≡ p.1 + p.2 = p.5 in
        let less : g.cost ≤ p.2 = g.no_more in
        inr (record { further = g.further; cost = g.cost; path = g.path; no_more = omega arith })

    of_test : (t : Bool) → eqb x a ≡ t → AllByRecursion (λ s. eqb x s ≡ false) (states_on w p.0 ls p.2 p.4) ⊎ GoesOn w x p.2 →
        AllByRecursion (λ s. eqb x s ≡ false) (a ∷ states_on w p.0 ls p.2 p.4) ⊎ GoesOn w x k
    of_test true e later = inr (record { further = l ∷ ls; cost = k; path = subst (λ (y : ℕ). PathTo w y (l ∷ ls) k) (sym (eqb-true x a e)) p; no_more = omega arith })
    of_test false e later = of_later e later

-- a path visits no state twice, or there is one that costs less
pub record IsCheaper (w : Space) (a k : ℕ) : Type 0 where
  pub labels : List ℕ
  pub cost : ℕ
  pub path : PathTo w a labels cost
  pub less : cost < k

pub once_or_cheaper : (w : Space) → IsSpace w → (a : ℕ) (ls : List ℕ) (k : ℕ) (p : PathTo w a ls k) → IsDistinct eqb (states_on w a ls k p) ⊎ IsCheaper w a k
once_or_cheaper w space a [] k p = inl (IsDistinct-cons eqb a [] tt (IsDistinct-from_apart eqb [] (λ i j d less below. absurd (omega arith))))
once_or_cheaper w space a (l ∷ ls) k p = of_both (from_there w a p.0 ls p.2 p.4) (once_or_cheaper w space p.0 ls p.2 p.4)
  where
    some : 1 ≤ p.1
    some = space.not_free a l p.0 p.1 p.3

    sum : k ≡ p.1 + p.2
    sum = p.5

    of_both : AllByRecursion (λ s. eqb a s ≡ false) (states_on w p.0 ls p.2 p.4) ⊎ GoesOn w a p.2 → IsDistinct eqb (states_on w p.0 ls p.2 p.4) ⊎ IsCheaper w p.0 p.2 →
        IsDistinct eqb (a ∷ states_on w p.0 ls p.2 p.4) ⊎ IsCheaper w a k
    of_both (inl apart) (inl once) = inl (IsDistinct-cons eqb a (states_on w p.0 ls p.2 p.4) apart once)
    of_both (inl apart) (inr c) =
        let less : c.cost < p.2 = c.less in
        let whole : k ≡ p.1 + p.2 = sum in
        inr (record { labels = l ∷ c.labels; cost = p.1 + c.cost; path = (p.0, p.1, c.cost, p.3, c.path, refl); less = omega arith })
    of_both (inr g) later =
        let no_more : g.cost ≤ p.2 = g.no_more in
        let step : 1 ≤ p.1 = some in
        let whole : k ≡ p.1 + p.2 = sum in
        inr (record { labels = g.further; cost = g.cost; path = g.path; less = omega arith })

-- so a path has one that is short, and costs less or is itself
pub record HasShort (w : Space) (a : ℕ) (ls : List ℕ) (k : ℕ) : Type 0 where
  pub labels : List ℕ
  pub cost : ℕ
  pub path : PathTo w a labels cost
  pub short : length labels < w.count
  pub no_more : (cost < k) ⊎ ((cost ≡ k) × (labels ≡ ls))

pub shortened : (w : Space) → IsSpace w → (fuel a : ℕ) (ls : List ℕ) (k : ℕ) → k ≤ fuel → PathTo w a ls k → HasShort w a ls k
shortened w space zero a ls k low p = of_case (once_or_cheaper w space a ls k p)
  where
    of_case : IsDistinct eqb (states_on w a ls k p) ⊎ IsCheaper w a k → HasShort w a ls k
    of_case (inl once) =
        let all : length (states_on w a ls k p) ≤ w.count = length-le_from_distinct_below (states_on w a ls k p) w.count once (states_in_range w space a ls k p) in
        record { labels = ls; cost = k; path = p; short = omega (arith, states_count w a ls k p); no_more = inr (refl, refl) }
    of_case (inr c) = let less : c.cost < k = c.less in absurd (omega arith)
shortened w space (suc fuel) a ls k low p = of_case (once_or_cheaper w space a ls k p) (λ others r small q. shortened w space fuel a others r small q)
  where
    of_case : IsDistinct eqb (states_on w a ls k p) ⊎ IsCheaper w a k → ((others : List ℕ) (r : ℕ) → r ≤ fuel → PathTo w a others r → HasShort w a others r) → HasShort w a ls k
    of_case (inl once) later =
        let all : length (states_on w a ls k p) ≤ w.count = length-le_from_distinct_below (states_on w a ls k p) w.count once (states_in_range w space a ls k p) in
        record { labels = ls; cost = k; path = p; short = omega (arith, states_count w a ls k p); no_more = inr (refl, refl) }
    of_case (inr c) later =
        let less : c.cost < k = c.less in
        let s = later c.labels c.cost (omega arith) c.path in
        record { labels = s.labels; cost = s.cost; path = s.path; short = s.short; no_more = inl (below s.cost c.cost less (of_cost s.no_more)) }
      where
        below : (x y : ℕ) → y < k → x ≤ y → x < k
        below x y h g = omega arith

        of_cost : {x y : ℕ} {xs ys : List ℕ} → (x < y) ⊎ ((x ≡ y) × (xs ≡ ys)) → x ≤ y
        of_cost (inl h) = omega arith
        of_cost (inr h) = let same = h.0 in omega arith
