-- The range of a proof that is written and read.
use Rattle.std.specs.Prelude.{◌≤◌, ◌<◌, ℕ, suc, ℤ, pos, negsuc, List, [], ◌∷◌, length}
use Rattle.std.specs.List.{AllByRecursion}
use Rattle.map_base.specs.declared.ids.SegId.{SegId}
use Rattle.map_base.specs.declared.ids.LineId.{LineId}
use Rattle.order_values.specs.declared.rule.Rule.{Rule}
use Rattle.order_values.specs.declared.rule.Rule.TheVariants.{Merge, Divide}
use Rattle.order_values.specs.DualTrees.{PlainDual, fork, stop}
use Rattle.order_proof.specs.Plain.{PlainTree, split, close, Cases, no_case, case_of, PlainPartTree, by_cases, by_pairs, PlainPart, PlainProof}
use Rattle.order_proof.specs.Trees.{count_of, lines_of, AreDistinct, depth_of_part, most_depth}
use Rattle.order_proof.specs.Forms.{most_items, most_id, most_cases, most_target, most_price, most_stop_price}

-- the numbers of lines rise strictly, the first of them at least `least`, and none is above 2^32 - 1
abbrev pub AreRisingLines : ℕ → List LineId → Type 0
AreRisingLines least [] = Unit {0}
AreRisingLines least (a ∷ rest) = (least ≤ a.0) × (a.0 ≤ most_id) × AreRisingLines (suc a.0) rest

-- the same of segments
abbrev pub AreRisingSegments : ℕ → List SegId → Type 0
AreRisingSegments least [] = Unit {0}
AreRisingSegments least (s ∷ rest) = (least ≤ s.0) × (s.0 ≤ most_id) × AreRisingSegments (suc s.0) rest

-- a price is not 0, and at most the greatest either way
abbrev pub IsPrice : ℕ → ℤ → Type 0
IsPrice most (pos n) = (0 < n) × (n ≤ most)
IsPrice most (negsuc n) = n < most

-- terms that rise strictly, the first of them at least `least`, each with a price of at most so much
abbrev pub ArePrices : ℕ → ℕ → List (ℕ × ℤ) → Type 0
ArePrices most least [] = Unit {0}
ArePrices most least (p ∷ rest) = (least ≤ p.0) × (p.0 ≤ most_id) × IsPrice most p.1 × ArePrices most (suc p.0) rest

-- the numbers of a rule are those of segments and lines, and the lines of a first group rise strictly
abbrev pub IsRuleInRange : Rule → Type 0
IsRuleInRange (Merge into from flip) = (into.0 ≤ most_id) × (from.0 ≤ most_id)
IsRuleInRange (Divide seg first) = (seg.0 ≤ most_id) × AreRisingLines 0 first

-- At each split of a tree there are from 1 to 1,000 cases, of different lines. Terms rise strictly, and prices are in
-- range.
abbrev mutual
  pub IsTreeInRange : PlainTree → Type 0
  IsTreeInRange (split seg cases) = (seg.0 ≤ most_id) × (1 ≤ count_of cases) × (count_of cases ≤ most_cases) × AreDistinct (lines_of cases) × AreCasesInRange cases
  IsTreeInRange (close prices) = ArePrices most_price 0 prices

  pub AreCasesInRange : Cases → Type 0
  AreCasesInRange no_case = Unit {0}
  AreCasesInRange (case_of a tree rest) = (a.0 ≤ most_id) × IsTreeInRange tree × AreCasesInRange rest

-- the numbers at each fork of a dual tree are those of a segment and of lines; terms rise strictly, and prices are in range
abbrev pub IsDualInRange : PlainDual → Type 0
IsDualInRange (fork seg a b first second) = (seg.0 ≤ most_id) × (a.0 ≤ most_id) × (b.0 ≤ most_id) × IsDualInRange first × IsDualInRange second
IsDualInRange (stop prices) = ArePrices most_stop_price 0 prices

-- a part's tree, by its kind
abbrev pub IsPartTreeInRange : PlainPartTree → Type 0
IsPartTreeInRange (by_cases tree) = IsTreeInRange tree
IsPartTreeInRange (by_pairs tree) = IsDualInRange tree

-- the target of a part, its segments and its tree are in range
pub record IsPartInRange (part : PlainPart) : Type 0 where
  pub target : part.target ≤ most_target
  pub segs : AreRisingSegments 0 part.segs
  pub tree : IsPartTreeInRange part.tree
  pub depth : depth_of_part part.tree ≤ most_depth

-- there are not too many rules and parts, and each is in range
pub record IsInRange (p : PlainProof) : Type 0 where
  pub few_rules : length p.rules ≤ most_items
  pub rules : AllByRecursion IsRuleInRange p.rules
  pub few_parts : length p.parts ≤ most_items
  pub parts : AllByRecursion IsPartInRange p.parts
