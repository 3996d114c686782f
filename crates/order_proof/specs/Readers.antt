-- What readers answer: a value and what stands behind its text.
use Rattle.std.specs.Prelude.{◌≡◌, ◌≤◌, ℕ, List, ◌++◌, length, take}
use Rattle.std.specs.List.{AllByRecursion}
use Rattle.order_values.specs.declared.rule.Rule.{Rule}
use Rattle.order_values.specs.DualTrees.{PlainDual, fork_depth}
use Rattle.order_proof.specs.Plain.{PlainTree, Cases, PlainPartTree, PlainPart, PlainProof}
use Rattle.order_proof.specs.Trees.{depth_of, depth_of_cases, depth_of_part, most_depth, count_of, lines_of, AreDistinct}
use Rattle.order_proof.specs.Text.{tree_text, cases_text, dual_text, part_tree_text, rules_text, part_text, parts_text, proof_text}
use Rattle.order_proof.specs.Ranges.{IsRuleInRange, IsTreeInRange, AreCasesInRange, IsDualInRange, IsPartTreeInRange, IsPartInRange, IsInRange}

-- so many rules in range stand at the front of a text, and the rest behind them
pub record AreRulesOf (count : ℕ) (rules : List Rule) (text rest : List ℕ) : Type 0 where
  pub counted : length rules ≡ count
  pub range : AllByRecursion IsRuleInRange rules
  pub front : text ≡ rules_text rules ++ rest

-- a tree in range with at most `room` splits on a way to a leaf
pub record IsTreeOf (room : ℕ) (tree : PlainTree) (text rest : List ℕ) : Type 0 where
  pub range : IsTreeInRange tree
  pub depth : depth_of tree ≤ room
  pub front : text ≡ tree_text tree ++ rest

-- so many cases of different lines, each with such a tree
pub record AreCasesOf (room count : ℕ) (cases : Cases) (text rest : List ℕ) : Type 0 where
  pub counted : count_of cases ≡ count
  pub distinct : AreDistinct (lines_of cases)
  pub range : AreCasesInRange cases
  pub depth : depth_of_cases cases ≤ room
  pub front : text ≡ cases_text cases ++ rest

-- a dual tree in range with at most `room` forks on a way to a stop
pub record IsDualOf (room : ℕ) (tree : PlainDual) (text rest : List ℕ) : Type 0 where
  pub range : IsDualInRange tree
  pub depth : fork_depth tree ≤ room
  pub front : text ≡ dual_text tree ++ rest

-- a part's tree in range, as deep as it may be
pub record IsPartTreeOf (tree : PlainPartTree) (text rest : List ℕ) : Type 0 where
  pub range : IsPartTreeInRange tree
  pub depth : depth_of_part tree ≤ most_depth
  pub front : text ≡ part_tree_text tree ++ rest

pub record IsPartOf (part : PlainPart) (text rest : List ℕ) : Type 0 where
  pub range : IsPartInRange part
  pub front : text ≡ part_text part ++ rest

pub record ArePartsOf (count : ℕ) (parts : List PlainPart) (text rest : List ℕ) : Type 0 where
  pub counted : length parts ≡ count
  pub range : AllByRecursion IsPartInRange parts
  pub front : text ≡ parts_text parts ++ rest

-- a proof in range stands at the front of a text, and the rest behind it
pub record IsProofOf (p : PlainProof) (text rest : List ℕ) : Type 0 where
  pub range : IsInRange p
  pub front : text ≡ proof_text p ++ rest

-- a proof in range has this text of so many bytes at the front of others
pub record IsTextOf (p : PlainProof) (used : ℕ) (bytes : List ℕ) : Type 0 where
  pub range : IsInRange p
  pub within : used ≤ length bytes
  pub text : take used bytes ≡ proof_text p
