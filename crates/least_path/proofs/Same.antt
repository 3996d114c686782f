-- Steps that are the same have the same paths.
use Rattle.std.proofs.Common.{ℕ, List, [], ◌∷◌}
use Rattle.least_path.specs.Paths.{Path, IsLeastPath}

-- a path of steps is one of other steps, where each of its steps is one of these
pub Path-along : {X : Type 0} (step other : X → ℕ → X → ℕ → Type 0) → ((a : X) (l : ℕ) (s : X) (c : ℕ) → step a l s c → other a l s c) →
    (a b : X) (labels : List ℕ) (k : ℕ) → Path step a b labels k → Path other a b labels k
Path-along step other same a b [] k p = p
Path-along step other same a b (l ∷ ls) k p = (p.0, p.1, p.2, same a l p.0 p.1 p.3, Path-along step other same p.0 b ls p.2 p.4, p.5)

-- the least path of steps is that of the same steps
pub IsLeastPath-along : {X : Type 0} (step other : X → ℕ → X → ℕ → Type 0) → ((a : X) (l : ℕ) (s : X) (c : ℕ) → step a l s c → other a l s c) →
    ((a : X) (l : ℕ) (s : X) (c : ℕ) → other a l s c → step a l s c) → (a b : X) (labels : List ℕ) (k : ℕ) → IsLeastPath step a b labels k → IsLeastPath other a b labels k
IsLeastPath-along step other to_other from_other a b labels k p = record {
  path = Path-along step other to_other a b labels k p.path;
  least = λ others r q. p.least others r (Path-along other step from_other a b others r q);
  first = λ others q. p.first others (Path-along other step from_other a b others k q);
}
