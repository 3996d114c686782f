use Rattle.std.proofs.Common.{[], ◌∷◌, subst, sym, ◌∙◌}
use Rattle.std.proofs.lemmas.Result.{err_from_is_err_and}
use Rattle.order_values.specs.declared.dual_tree.DualTree.{DualTree}
use Rattle.order_values.specs.DualTrees.{plain_dual}
use Rattle.order_proof.specs.declared.tree.Tree.{Tree}
use Rattle.order_proof.specs.Plain.{by_cases, by_pairs, plain}
use Rattle.order_proof.specs.Trees.{most_depth}
use Rattle.order_proof.specs.Readers.{IsPartTreeOf}
use Rattle.order_proof.specs.Reading.{APartTree, ATree, ADual, reading}
use Rattle.decimal_text.proofs.Stops.{rest_stops}
use Rattle.order_proof.proofs.ReadDuals.{dual_due_here, tree_due_here}
use Rattle.order_proof.proofs.reading.read_part_tree.Goals as goal

pub returns-in_err-tree-clause-follows : goal.returns-in_err-tree-clause-follows
returns-in_err-tree-clause-follows c =
    let p = err_from_is_err_and c.from_residual.result c.from_residual.ensures.1 in
    rw (p.1, p.2)
    (rest_stops c.in_err-tree.field-0.0 (reading (ADual most_depth ∷ []) c.args.text.now) (reading (APartTree ∷ []) c.args.text.now) c.in_err-tree.ensures.follows
    (dual_due_here c.args.text.now (sym c.begins_dual.ensures ∙ c.if-begins_dual.true)))

pub returns-in_err-tree-2-clause-follows : goal.returns-in_err-tree-2-clause-follows
returns-in_err-tree-2-clause-follows c =
    let p = err_from_is_err_and c.from_residual-in_err-tree-2.result c.from_residual-in_err-tree-2.ensures.1 in
    rw (p.1, p.2)
    (rest_stops c.in_err-tree-2.field-0.0 (reading (ATree most_depth ∷ []) c.args.text.now) (reading (APartTree ∷ []) c.args.text.now) c.in_err-tree-2.ensures.follows
    (tree_due_here c.args.text.now (sym c.begins_dual.ensures ∙ c.if-begins_dual.false)))

pub returns-in_ok-tree-clause-follows : goal.returns-in_ok-tree-clause-follows
returns-in_ok-tree-clause-follows c = dual_due_here c.args.text.now (sym c.begins_dual.ensures ∙ c.if-begins_dual.true) ∙ c.in_ok-tree.ensures.follows

pub returns-in_ok-tree-2-clause-follows : goal.returns-in_ok-tree-2-clause-follows
returns-in_ok-tree-2-clause-follows c = tree_due_here c.args.text.now (sym c.begins_dual.ensures ∙ c.if-begins_dual.false) ∙ c.in_ok-tree-2.ensures.follows

pub returns-in_ok-tree-clause-tree : goal.returns-in_ok-tree-clause-tree
returns-in_ok-tree-clause-tree c =
    subst (λ (tree : DualTree). IsPartTreeOf (by_pairs (plain_dual tree)) c.args.text.now c.in_ok-tree.rest.now) (sym c.into_inner.ensures)
    (record { range = c.in_ok-tree.ensures.tree.range; depth = c.in_ok-tree.ensures.tree.depth; front = c.in_ok-tree.ensures.tree.front })

pub returns-in_ok-tree-2-clause-tree : goal.returns-in_ok-tree-2-clause-tree
returns-in_ok-tree-2-clause-tree c =
    subst (λ (tree : Tree). IsPartTreeOf (by_cases (plain tree)) c.args.text.now c.in_ok-tree-2.rest.now) (sym c.into_inner-else-begins_dual.ensures)
    (record { range = c.in_ok-tree-2.ensures.tree.range; depth = c.in_ok-tree-2.ensures.tree.depth; front = c.in_ok-tree-2.ensures.tree.front })
