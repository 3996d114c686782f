-- Trees with other numbers, case by case.
use Rattle.std.proofs.Common.{◌≡◌, ℕ, zero, suc, ◌<◌, List, [], ◌∷◌, length, map, get_or, refl, ap, arith}
use Rattle.map_base.specs.declared.ids.SegId.{SegId}
use Rattle.map_base.specs.declared.ids.LineId.{LineId}
use Rattle.order_proof.specs.declared.tree.Tree.{Tree}
use Rattle.order_proof.specs.Plain.{case_of, cases_of, plain, plain_children}
use Rattle.order_proof.specs.Trees.{IsTree, AreTrees}
use Rattle.order_search.specs.ByItself.{tree_by, cases_by, seg_from, number_from}
use Rattle.kept_trees.specs.Renumbered.{renumbered_case}

pub below_cases : (part : List SegId) (numbers : List ℕ) (cs : List (LineId × Tree))
    → cases_by (seg_from part) (number_from numbers) (plain_children cs) ≡ cases_of (map (renumbered_case part numbers) cs)
below_cases part numbers [] = refl
below_cases part numbers (c ∷ cs) = ap (case_of c.0 (tree_by (seg_from part) (number_from numbers) (plain c.1))) (below_cases part numbers cs)

-- the tree of a case
pub tree_at : (seg : SegId → SegId) (number : ℕ → ℕ) (cs : List (LineId × Tree)) (i : ℕ) (d : LineId × Tree)
    → AreTrees (cases_by seg number (plain_children cs)) → i < length cs
    → IsTree (tree_by seg number (plain (get_or cs i d).1))
tree_at seg number [] i d trees below = absurd (omega (arith, below))
tree_at seg number (c ∷ cs) zero d trees below = trees.0
tree_at seg number (c ∷ cs) (suc i) d trees below = tree_at seg number cs i d trees.1 (omega (arith, below))
