-- The one text of each proof.
use Rattle.std.specs.Prelude.{ℕ, List, [], ◌∷◌, ◌++◌, length}
use Rattle.order_values.specs.declared.rule.Rule.{Rule}
use Rattle.order_values.specs.DualTrees.{PlainDual, fork, stop}
use Rattle.order_proof.specs.Plain.{PlainTree, split, close, Cases, no_case, case_of, PlainPartTree, by_cases, by_pairs, PlainPart, PlainProof}
use Rattle.order_proof.specs.Trees.{count_of}
use Rattle.order_proof.specs.Lines.{line_text, rules_line, rule_line, parts_line, part_line, split_line, take_line, close_line, fork_line, stop_line}

abbrev mutual
  -- a tree, each node before its cases
  pub tree_text : PlainTree → List ℕ
  tree_text (split seg cases) = line_text (split_line seg (count_of cases)) ++ cases_text cases
  tree_text (close prices) = line_text (close_line prices)

  -- each case: its line, then its tree
  pub cases_text : Cases → List ℕ
  cases_text no_case = []
  cases_text (case_of a tree rest) = line_text (take_line a) ++ (tree_text tree ++ cases_text rest)

-- a dual tree, each fork before its two trees
abbrev pub dual_text : PlainDual → List ℕ
dual_text (fork seg a b first second) = line_text (fork_line seg a b) ++ (dual_text first ++ dual_text second)
dual_text (stop prices) = line_text (stop_line prices)

-- a part's tree, by its kind
abbrev pub part_tree_text : PlainPartTree → List ℕ
part_tree_text (by_cases tree) = tree_text tree
part_tree_text (by_pairs tree) = dual_text tree

abbrev pub rules_text : List Rule → List ℕ
rules_text [] = []
rules_text (rule ∷ rest) = line_text (rule_line rule) ++ rules_text rest

abbrev pub part_text : PlainPart → List ℕ
part_text part = line_text (part_line part.target part.segs) ++ part_tree_text part.tree

abbrev pub parts_text : List PlainPart → List ℕ
parts_text [] = []
parts_text (part ∷ rest) = part_text part ++ parts_text rest

-- the text of a proof: its rules and its parts, each kind counted before it
abbrev pub proof_text : PlainProof → List ℕ
proof_text p = line_text (rules_line (length p.rules)) ++ (rules_text p.rules ++ (line_text (parts_line (length p.parts)) ++ parts_text p.parts))
