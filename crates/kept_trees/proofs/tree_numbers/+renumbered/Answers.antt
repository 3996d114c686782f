use Rattle.std.proofs.Common.{sym, ◌∙◌, ap, subst, rules}
use Rattle.map_base.specs.declared.ids.LineId.{LineId}
use Rattle.order_proof.specs.declared.tree.Tree.{Tree, the_lemmas}
use Rattle.order_proof.specs.Plain.{PlainTree, split, cases_of, plain, plain_children}
use Rattle.order_proof.specs.Trees.{IsTree}
use Rattle.order_search.specs.ByItself.{seg_from, number_from, cases_by, renumbered}
use Rattle.order_search.proofs.Shown.{priced_last}
use Rattle.kept_trees.specs.Renumbered.{renumbered_case}
use Rattle.kept_trees.proofs.RenumberedTrees.{below_cases, tree_at}
use Rattle.kept_trees.proofs.tree_numbers.+renumbered.Goals as goal
use Rattle.order_proof.proofs.Views.{plain-Split}

pub renumbered-returns-in_ok-children-in-Split : goal.renumbered-returns-in_ok-children-in-Split
renumbered-returns-in_ok-children-in-Split t c =
    let part = c.args.part.now in
    let numbers = c.args.numbers.now in
    let seg = c.in-Split.seg in
    plain-Split c.seg_from.result c.in_ok-children-in-Split.children
    ∙ ap (λ cs. split c.seg_from.result (cases_of cs)) c.in_ok-children-in-Split.ensures
    ∙ ap (split c.seg_from.result) (sym (below_cases part numbers c.as_slice.result.now))
    ∙ ap (λ s. split s (cases_by (seg_from part) (number_from numbers) (plain_children c.as_slice.result.now))) c.seg_from.ensures
    ∙ ap (λ cs. renumbered part numbers (split seg (plain_children cs))) c.as_slice.ensures.value
    ∙ ap (renumbered part numbers) (sym (plain-Split seg c.in-Split.children))
    ∙ ap (λ (x : Tree). renumbered part numbers (plain x)) (sym c.in-Split.is)

pub renumbered_cases-renumbered-requires : goal.renumbered_cases-renumbered-requires
renumbered_cases-renumbered-requires t c =
    let part = c.args.part.now in
    let numbers = c.args.numbers.now in
    let item : LineId × Tree = c.child-item.result in
    let there = tree_at (seg_from part) (number_from numbers) c.args.children.now c.loop-child.child-index item c.requires c.loop-child-test.true in
    let tree : IsTree (renumbered part numbers (plain item.1)) = subst (λ (x : LineId × Tree). IsTree (renumbered part numbers (plain x.1))) (sym c.child-item.is) there in
    search (rules, the_lemmas)

pub renumbered_cases-loop-child-preserved : goal.renumbered_cases-loop-child-preserved
renumbered_cases-loop-child-preserved t c =
    let item : LineId × Tree = c.child-item.result in
    let made : PlainTree → LineId × PlainTree = λ x. (item.0, x) in
    priced_last (renumbered_case c.args.part.now c.args.numbers.now) c.args.children.now c.loop-child.cases.items c.push.new.self.items c.loop-child.child-index item c.in_ok-tree.tree
    c.loop-child-test.true c.child-item.is c.in_ok-push.ensures.items c.loop-child.invariant (ap made c.in_ok-tree.ensures)
