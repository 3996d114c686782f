-- What is said of trees, and what holds of each tree of a proof.
use Rattle.std.specs.Prelude.{◌≡◌, ◌≢◌, ℕ, suc, ℤ, pos, max, ◌+◌, ◌<◌, ◌≤◌, ◌==◌, Bool, false, List, [], ◌∷◌}
use Rattle.std.specs.List.{list_any, AllByRecursion}
use Rattle.map_base.specs.declared.ids.LineId.{LineId}
use Rattle.order_values.specs.PriceLists.{AreRisingPrices}
use Rattle.order_values.specs.DualTrees.{PlainDual, fork, stop, fork_depth}
use Rattle.order_proof.specs.Plain.{PlainTree, split, close, Cases, no_case, case_of, PlainPartTree, by_cases, by_pairs, PlainPart, PlainProof}

abbrev mutual
  -- the greatest number of splits on a way to a leaf
  pub depth_of : PlainTree → ℕ
  depth_of (split seg cases) = suc (depth_of_cases cases)
  depth_of (close prices) = 0

  pub depth_of_cases : Cases → ℕ
  depth_of_cases no_case = 0
  depth_of_cases (case_of line tree rest) = max (depth_of tree) (depth_of_cases rest)

abbrev mutual
  -- the number of splits
  pub splits_of : PlainTree → ℕ
  splits_of (split seg cases) = suc (splits_of_cases cases)
  splits_of (close prices) = 0

  pub splits_of_cases : Cases → ℕ
  splits_of_cases no_case = 0
  splits_of_cases (case_of line tree rest) = splits_of tree + splits_of_cases rest

-- the number of cases
abbrev pub count_of : Cases → ℕ
count_of no_case = 0
count_of (case_of line tree rest) = suc (count_of rest)

-- the lines of cases, in order
abbrev pub lines_of : Cases → List LineId
lines_of no_case = []
lines_of (case_of line tree rest) = line ∷ lines_of rest

-- the line is one of these
abbrev pub is_among : List LineId → LineId → Bool
is_among lines a = list_any (λ (b : LineId). b.0 == a.0) lines

-- no line stands twice
abbrev pub AreDistinct : List LineId → Type 0
AreDistinct [] = Unit {0}
AreDistinct (a ∷ rest) = (is_among rest a ≡ false) × AreDistinct rest

-- no price is zero
abbrev pub AreNotZero : List (ℕ × ℤ) → Type 0
AreNotZero prices = AllByRecursion (λ p. p.1 ≢ pos 0) prices

-- at least one case, and each line once, at each split; terms rise, and no price is zero
abbrev mutual
  pub IsTree : PlainTree → Type 0
  IsTree (split seg cases) = (0 < count_of cases) × AreDistinct (lines_of cases) × AreTrees cases
  IsTree (close prices) = AreRisingPrices prices × AreNotZero prices

  pub AreTrees : Cases → Type 0
  AreTrees no_case = Unit {0}
  AreTrees (case_of line tree rest) = IsTree tree × AreTrees rest

-- terms rise at each stop, and no price is zero
abbrev pub IsDualTree : PlainDual → Type 0
IsDualTree (fork seg a b first second) = IsDualTree first × IsDualTree second
IsDualTree (stop prices) = AreRisingPrices prices × AreNotZero prices

-- the greatest number of splits, or of forks, on a way to a leaf
abbrev pub depth_of_part : PlainPartTree → ℕ
depth_of_part (by_cases tree) = depth_of tree
depth_of_part (by_pairs tree) = fork_depth tree

-- how deep a tree of a proof may be
abbrev pub most_depth : ℕ
most_depth = 2048

-- what holds of each tree of cases of a proof, and of each dual tree
pub record IsProofTree (tree : PlainTree) : Type 0 where
  pub is_tree : IsTree tree
  pub depth : depth_of tree ≤ most_depth

pub record IsProofDual (tree : PlainDual) : Type 0 where
  pub is_tree : IsDualTree tree
  pub depth : fork_depth tree ≤ most_depth

-- what holds of the tree of each part of a proof
abbrev pub IsPartTree : PlainPartTree → Type 0
IsPartTree (by_cases tree) = IsProofTree tree
IsPartTree (by_pairs tree) = IsProofDual tree

-- what holds of each proof
abbrev pub HasTrees : PlainProof → Type 0
HasTrees p = AllByRecursion (λ (part : PlainPart). IsPartTree part.tree) p.parts
