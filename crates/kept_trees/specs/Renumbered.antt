-- Trees of a part by itself, with the numbers of the problem.
use Rattle.std.specs.Prelude.{ℕ, Bool, true, false, List}
use Rattle.map_base.specs.declared.ids.SegId.{SegId}
use Rattle.map_base.specs.declared.ids.LineId.{LineId}
use Rattle.order_values.specs.DualTrees.{PlainDual, fork, stop}
use Rattle.order_proof.specs.declared.tree.Tree.{Tree}
use Rattle.order_proof.specs.Plain.{PlainTree, plain, PlainPartTree, by_cases, by_pairs}
use Rattle.order_search.specs.ByItself.{seg_from, number_from, prices_by, renumbered}

-- a case, with the numbers of the problem in its tree
abbrev pub renumbered_case : List SegId → List ℕ → LineId × Tree → LineId × PlainTree
renumbered_case part numbers c = (c.0, renumbered part numbers (plain c.1))

-- a dual tree whose segments and terms have other numbers
abbrev pub dual_by : (SegId → SegId) → (ℕ → ℕ) → PlainDual → PlainDual
dual_by seg number (fork s a b first second) = fork (seg s) a b (dual_by seg number first) (dual_by seg number second)
dual_by seg number (stop prices) = stop (prices_by number prices)

-- a dual tree, with the numbers of the problem
abbrev pub renumbered_dual : List SegId → List ℕ → PlainDual → PlainDual
renumbered_dual part numbers tree = dual_by (seg_from part) (number_from numbers) tree

-- the tree is a dual tree
abbrev pub is_by_pairs : PlainPartTree → Bool
is_by_pairs (by_cases tree) = false
is_by_pairs (by_pairs tree) = true

-- a tree of either kind
abbrev pub renumbered_tree : List SegId → List ℕ → PlainPartTree → PlainPartTree
renumbered_tree part numbers (by_cases tree) = by_cases (renumbered part numbers tree)
renumbered_tree part numbers (by_pairs tree) = by_pairs (renumbered_dual part numbers tree)
