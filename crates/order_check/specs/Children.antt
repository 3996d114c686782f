-- The lines of the children of a node.
use Rattle.std.specs.Prelude.{List, map}
use Rattle.map_base.specs.declared.ids.LineId.{LineId}
use Rattle.order_proof.specs.declared.tree.Tree.{Tree}

abbrev pub child_lines : List (LineId × Tree) → List LineId
child_lines children = map (λ c. c.0) children
