-- Paths over weighted steps. `step a l s c` says that from the state a the label l leads to the state s, at the
-- cost c. In a graph a label is the number of the node that it leads to.
use Rattle.std.specs.Prelude.{◌≡◌, ℕ, ◌+◌, ◌≤◌, List, [], ◌∷◌, Option, Some, IfSome}
use Rattle.least_path.specs.Orders.{LexLe, AtMost}

-- the labels lead from a to b, at the cost k in all
abbrev pub Path : {X : Type 0} → (X → ℕ → X → ℕ → Type 0) → X → X → List ℕ → ℕ → Type 0
Path step a b [] k = (a ≡ b) × (k ≡ 0)
Path {X = X} step a b (l ∷ ls) k = (s : X) × (c : ℕ) × (r : ℕ) × step a l s c × Path step s b ls r × (k ≡ c + r)

-- the labels are the least path from a to b: a path of the cost k, no path costs less, and of the paths of that
-- cost it is the first in the order of dictionaries
pub record IsLeastPath {X : Type 0} (step : X → ℕ → X → ℕ → Type 0) (a b : X) (labels : List ℕ) (k : ℕ) : Type 0 where
  pub path : Path step a b labels k
  pub least : (others : List ℕ) (r : ℕ) → Path step a b others r → k ≤ r
  pub first : (others : List ℕ) → Path step a b others k → LexLe labels others

-- a cost is that of some path to b, and none where there is no path
pub record IsLeastCost {X : Type 0} (step : X → ℕ → X → ℕ → Type 0) (a b : X) (cost : Option ℕ) : Type 0 where
  pub attained : IfSome cost (λ k. (labels : List ℕ) × Path step a b labels k)
  pub least : (labels : List ℕ) (k : ℕ) → Path step a b labels k → AtMost cost k

-- each known cost is that of some path to b, and where a path to b costs no more than the bound, a cost is known
-- that is no more than that path's
pub record AreLeastCosts {X : Type 0} (step : X → ℕ → X → ℕ → Type 0) (b : X) (bound : ℕ) (known : X → Option ℕ) : Type 0 where
  pub attained : (a : X) (k : ℕ) → known a ≡ Some k → (labels : List ℕ) × Path step a b labels k
  pub least : (a : X) (labels : List ℕ) (k : ℕ) → k ≤ bound → Path step a b labels k → AtMost (known a) k

-- steps that a walk can be led by: a label leads to one state at one cost, and no step is free
pub record IsWeighted {X : Type 0} (step : X → ℕ → X → ℕ → Type 0) : Type 0 where
  pub one_state : (a : X) (l : ℕ) (s t : X) (c d : ℕ) → step a l s c → step a l t d → s ≡ t
  pub one_cost : (a : X) (l : ℕ) (s t : X) (c d : ℕ) → step a l s c → step a l t d → c ≡ d
  pub not_free : (a : X) (l : ℕ) (s : X) (c : ℕ) → step a l s c → 1 ≤ c
