-- Trees and proofs without where they lie in memory.
use Rattle.std.specs.Prelude.{ℕ, ℤ, List, [], ◌∷◌, map}
use Rattle.map_base.specs.declared.ids.SegId.{SegId}
use Rattle.map_base.specs.declared.ids.LineId.{LineId}
use Rattle.order_values.specs.declared.rule.Rule.{Rule}
use Rattle.order_values.specs.DualTrees.{PlainDual, plain_dual}
use Rattle.order_proof.specs.declared.proof.Part.{Part}
use Rattle.order_proof.specs.declared.part_tree.PartTree.{PartTree}
use Rattle.order_proof.specs.declared.part_tree.PartTree.TheVariants.{ByCases, ByPairs}
use Rattle.order_proof.specs.declared.tree.Tree.{Tree, fold-Tree}
use Rattle.order_proof.specs.declared.tree.Tree.TheOpen.{Tree-F}

mutual
  -- a segment with its cases, or prices
  pub data PlainTree : Type 0 where
    split : (seg : SegId) (cases : Cases) → PlainTree
    close : (prices : List (ℕ × ℤ)) → PlainTree

  -- lines, each with its tree
  pub data Cases : Type 0 where
    no_case : Cases
    case_of : (line : LineId) (tree : PlainTree) (rest : Cases) → Cases

-- lines with their trees, as cases
abbrev pub cases_of : List (LineId × PlainTree) → Cases
cases_of [] = no_case
cases_of (c ∷ rest) = case_of c.0 c.1 (cases_of rest)

-- one node, with a plain tree in place of each child
abbrev pub plain_node : Tree-F PlainTree → PlainTree
plain_node (Tree-F.Split seg children) = split seg (cases_of children.items)
plain_node (Tree-F.Close prices) = close prices

-- a tree without where it lies in memory
abbrev pub plain : Tree → PlainTree
plain = fold-Tree PlainTree plain_node

-- the same of children
abbrev pub plain_children : List (LineId × Tree) → Cases
plain_children children = cases_of (map (λ c. (c.0, plain c.1)) children)

-- the tree of a part: of cases, or of settled pairs
pub data PlainPartTree : Type 0 where
  by_cases : (tree : PlainTree) → PlainPartTree
  by_pairs : (tree : PlainDual) → PlainPartTree

-- a part's tree without where it lies in memory
abbrev pub plain_part_tree : PartTree → PlainPartTree
plain_part_tree (ByCases tree) = by_cases (plain tree)
plain_part_tree (ByPairs tree) = by_pairs (plain_dual tree)

-- what is proved of one part
pub record PlainPart : Type 0 where
  pub segs : List SegId
  pub target : ℕ
  pub tree : PlainPartTree

-- a proof: rules and parts
pub record PlainProof : Type 0 where
  pub rules : List Rule
  pub parts : List PlainPart

abbrev pub plain_part : Part → PlainPart
plain_part p = record { segs = p.segs; target = p.target; tree = plain_part_tree p.tree }

-- what a proof is made of
pub record ProofFields : Type 0 where
  pub rules : List Rule
  pub parts : List Part

-- a proof without where it lies in memory
abbrev pub plain_proof : ProofFields → PlainProof
plain_proof p = record { rules = p.rules; parts = map plain_part p.parts }
