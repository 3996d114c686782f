-- What known costs may conclude.
use Rattle.std.proofs.Common.{◌≡◌, refl, sym, subst, ℕ, ◌+◌, ◌<◌, ◌≤◌, ◌⊎◌, inl, inr, List, [], ◌∷◌, Option, Some, None, arith}
use Rattle.std.proofs.lemmas.Bool.{cases_order}
use Rattle.least_path.specs.Orders.{AtMost}
use Rattle.least_path.specs.Paths.{Path, IsLeastCost, AreLeastCosts}

-- a cost that is at most k is known, and is at most any number that is not below k
pub known_at_most : (o : Option ℕ) (k : ℕ) → AtMost o k → (d : ℕ) × (o ≡ Some d) × (d ≤ k)
known_at_most None k h = absurd h
known_at_most (Some d) k h = (d, refl, h)

pub AtMost-le : (o : Option ℕ) (k m : ℕ) → k ≤ m → AtMost o k → AtMost o m
AtMost-le None k m le h = h
AtMost-le (Some d) k m le h = omega arith

pub AtMost-some : (o : Option ℕ) (d k : ℕ) → o ≡ Some d → AtMost o k → d ≤ k
AtMost-some None d k e h = absurd h
AtMost-some (Some c) d k e h = let same : c ≡ d = cc in omega arith

-- where the target is known to cost nothing, and each step from a known state, within the bound, is followed by
-- a known cost of the state that it comes from, no path within the bound costs less than what is known
pub least_when_closed : {X : Type 0} (step : X → ℕ → X → ℕ → Type 0) (b : X) (bound : ℕ) (known : X → Option ℕ) →
    AtMost (known b) 0 →
    ((a s : X) (l c d : ℕ) → step a l s c → known s ≡ Some d → d ≤ bound → AtMost (known a) (c + d)) →
    (a : X) (labels : List ℕ) (k : ℕ) → k ≤ bound → Path step a b labels k → AtMost (known a) k
least_when_closed step b bound known target closed a [] k within p =
    subst (λ s. AtMost (known s) k) (sym p.0) (AtMost-le (known b) 0 k (omega arith) target)
least_when_closed step b bound known target closed a (l ∷ ls) k within p =
    let s = p.0 in
    let c = p.1 in
    let r = p.2 in
    let sum : k ≡ c + r = p.5 in
    let later : AtMost (known s) r = least_when_closed step b bound known target closed s ls r (omega arith) p.4 in
    let found = known_at_most (known s) r later in
    let d = found.0 in
    let below : d ≤ r = found.2 in
    AtMost-le (known a) (c + d) k (omega arith) (closed a s l c d p.3 found.1 (omega arith))

-- a known cost within the bound is the least
pub least_cost_of_known : {X : Type 0} (step : X → ℕ → X → ℕ → Type 0) (b : X) (bound : ℕ) (known : X → Option ℕ) → AreLeastCosts step b bound known →
    (a : X) (k : ℕ) → k ≤ bound → known a ≡ Some k → IsLeastCost step a b (Some k)
least_cost_of_known step b bound known costs a k within is = record { attained = costs.attained a k is; least = λ labels r p. at_most labels r p (cases_order k r) }
  where
    at_most : (labels : List ℕ) (r : ℕ) → Path step a b labels r → (k ≡ r) ⊎ ((k < r) ⊎ (r < k)) → k ≤ r
    at_most labels r p (inl e) = omega arith
    at_most labels r p (inr (inl h)) = omega arith
    at_most labels r p (inr (inr h)) = AtMost-some (known a) k r is (costs.least a labels r (omega arith) p)
