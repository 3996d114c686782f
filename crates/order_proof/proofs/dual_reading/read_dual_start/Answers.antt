use Rattle.std.proofs.Common.{Option, Some, ap, sym, ◌∙◌}
use Rattle.order_values.specs.declared.dual_tree.DualTree.{DualTree}
use Rattle.order_values.specs.DualTrees.{plain_dual, fork_depth}
use Rattle.order_proof.specs.declared.dual_line.DualLine.{DualLine}
use Rattle.order_proof.specs.Begun.{first_line}
use Rattle.order_proof.proofs.dual_reading.read_dual_start.Goals as goal

abbrev some : {A : Type 0} → A → Option A
some x = Some x

pub returns-in-Fork-clause-line : goal.returns-in-Fork-clause-line
returns-in-Fork-clause-line c = c.in_ok-node.ensures ∙ ap (λ (node : DualLine). some (node, c.in_ok-node.rest.now)) c.in-Fork.is

pub returns-in_ok-tree-in-Stop-clause-line : goal.returns-in_ok-tree-in-Stop-clause-line
returns-in_ok-tree-in-Stop-clause-line c =
    c.in_ok-node.ensures ∙ ap (λ (node : DualLine). some (node, c.in_ok-node.rest.now)) c.in-Stop.is
    ∙ ap (λ (tree : DualTree). some (first_line (plain_dual tree), c.in_ok-node.rest.now)) (sym c.in_ok-tree-in-Stop.ensures.ok)

pub returns-in_ok-tree-in-Stop-clause-begun : goal.returns-in_ok-tree-in-Stop-clause-begun
returns-in_ok-tree-in-Stop-clause-begun c = ap (λ (tree : DualTree). fork_depth (plain_dual tree)) c.in_ok-tree-in-Stop.ensures.ok
