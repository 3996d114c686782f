-- Paths to goals. `step a l s c` says that from the state a the label l leads to the state s, at the cost c. States
-- are numbers. A path may end at each state that is a goal, at a cost of its own.
use Rattle.std.specs.Prelude.{◌≡◌, ℕ, ◌+◌, ◌<◌, ◌≤◌, List, [], ◌∷◌, Option, Some}
use Rattle.least_path.specs.Orders.{LexLe, AtMost}

-- states and what is known of them beforehand: the steps; what it costs to end at a state, where that may be done; a
-- lower bound on what it costs to come to a state; how many states there are; and a number that no step and no end
-- costs more than
pub record Space : Type 1 where
  pub step : ℕ → ℕ → ℕ → ℕ → Type 0
  pub goal : ℕ → Option ℕ
  pub ahead : ℕ → ℕ
  pub count : ℕ
  pub dearest : ℕ

-- the labels lead from a to a goal, at the cost k in all
abbrev pub PathTo : Space → ℕ → List ℕ → ℕ → Type 0
PathTo w a [] k = w.goal a ≡ Some k
PathTo w a (l ∷ ls) k = (s : ℕ) × (c : ℕ) × (r : ℕ) × w.step a l s c × PathTo w s ls r × (k ≡ c + r)

-- the labels are the least path from a to a goal: a path of the cost k, no path costs less, and of the paths of that
-- cost it is the first in the order of dictionaries
pub record IsLeastPathTo (w : Space) (a : ℕ) (labels : List ℕ) (k : ℕ) : Type 0 where
  pub path : PathTo w a labels k
  pub least : (others : List ℕ) (r : ℕ) → PathTo w a others r → k ≤ r
  pub first : (others : List ℕ) → PathTo w a others k → LexLe labels others

-- each known cost is that of some path to a goal, and where the cost of a path and the bound on what it takes to come
-- to its begin are within a limit together, a cost is known that is no more than that path's
pub record AreLeastCostsTo (w : Space) (limit : ℕ) (known : ℕ → Option ℕ) : Type 0 where
  pub attained : (a k : ℕ) → known a ≡ Some k → (labels : List ℕ) × PathTo w a labels k
  pub least : (a : ℕ) (labels : List ℕ) (k : ℕ) → k + w.ahead a ≤ limit → PathTo w a labels k → AtMost (known a) k

-- what a search may rest on: a label leads to one state at one cost, no step is free, steps lead between states, nothing
-- costs more than is said, and the bound rises by no more than a step costs
pub record IsSpace (w : Space) : Type 0 where
  pub one_state : (a l s t c d : ℕ) → w.step a l s c → w.step a l t d → s ≡ t
  pub one_cost : (a l s t c d : ℕ) → w.step a l s c → w.step a l t d → c ≡ d
  pub not_free : (a l s c : ℕ) → w.step a l s c → 1 ≤ c
  pub cheap : (a l s c : ℕ) → w.step a l s c → c ≤ w.dearest
  pub from_state : (a l s c : ℕ) → w.step a l s c → a < w.count
  pub to_state : (a l s c : ℕ) → w.step a l s c → s < w.count
  pub end_state : (a k : ℕ) → w.goal a ≡ Some k → a < w.count
  pub cheap_end : (a k : ℕ) → w.goal a ≡ Some k → k ≤ w.dearest
  pub consistent : (a l s c : ℕ) → w.step a l s c → w.ahead s ≤ w.ahead a + c
