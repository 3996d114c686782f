use Rattle.std.proofs.Common.{Option, Some, ap, sym, subst, ◌∙◌}
use Rattle.order_proof.specs.declared.node_line.NodeLine.{NodeLine}
use Rattle.order_proof.specs.declared.tree.Tree.{Tree}
use Rattle.order_proof.specs.Plain.{plain}
use Rattle.order_proof.specs.Begun.{begins_with, IsBegun}
use Rattle.order_proof.proofs.reading.read_start.Goals as goal

abbrev some : {A : Type 0} → A → Option A
some x = Some x

pub returns-clause-line : goal.returns-clause-line
returns-clause-line c =
    c.in_ok-node.ensures ∙ ap (λ (node : NodeLine). some (node, c.in_ok-node.rest.now)) (sym c.begun-start.ensures.line)
    ∙ ap (λ (t : Tree). some (begins_with c.begun-start.result.1 (plain t), c.in_ok-node.rest.now)) (sym c.in_ok-tree.ensures.ok)

pub returns-clause-begun : goal.returns-clause-begun
returns-clause-begun c = subst (λ (t : Tree). IsBegun c.begun-start.result.1 (plain t)) (sym c.in_ok-tree.ensures.ok) c.begun-start.ensures.begun
