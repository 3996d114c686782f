use Rattle.std.proofs.Common.{◌≡◌, sym, ◌∙◌, ap, subst, rules}
use Rattle.map_base.specs.declared.ids.LineId.{LineId}
use Rattle.order_proof.specs.declared.tree.Tree.{Tree, the_lemmas}
use Rattle.order_model.specs.Completions.{placed_more}
use Rattle.order_proof.specs.Plain.{PlainTree, split, cases_of, plain, plain_children}
use Rattle.part_bounds.specs.PartStates.{PartState}
use Rattle.order_search.specs.Pricing.{with_prices, priced_case}
use Rattle.order_search.specs.Searching.{part_of}
use Rattle.order_search.proofs.Shown.{priced_last}
use Rattle.order_search.proofs.OverPrices.{below_cases, case_over, IsCaseOver}
use Rattle.order_search.proofs.Ways.{back_placed}
use Rattle.order_search.proofs.tree_prices.+priced.Goals as goal
use Rattle.order_proof.proofs.Views.{plain-Split}

pub priced-returns-in_ok-children-in-Split-clause-tree : goal.priced-returns-in_ok-children-in-Split-clause-tree
priced-returns-in_ok-children-in-Split-clause-tree t c =
    let b : PartState = c.args.bounds.now in
    let seg = c.in-Split.seg in
    plain-Split seg c.in_ok-children-in-Split.children
    ∙ ap (λ cs. split seg (cases_of cs)) c.in_ok-children-in-Split.ensures.cases
    ∙ ap (split seg) (sym (below_cases (part_of b) b.placed seg c.as_slice.result.now))
    ∙ ap (λ cs. with_prices (part_of b) b.placed (split seg (plain_children cs))) c.as_slice.ensures.value
    ∙ ap (with_prices (part_of b) b.placed) (sym (plain-Split seg c.in-Split.children))
    ∙ ap (λ (x : Tree). with_prices (part_of b) b.placed (plain x)) (sym c.in-Split.is)

pub priced_case-returns-clause-kept : goal.priced_case-returns-clause-kept
priced_case-returns-clause-kept t c =
    c.take_back.ensures.state
    ∙ back_placed c.args.bounds.now c.priced.new.bounds c.args.seg c.args.line c.requires.well c.requires.known c.requires.rising (c.in_ok-tree.ensures.kept ∙ c.place.ensures.state)

pub priced_cases-priced_case-requires : goal.priced_cases-priced_case-requires
priced_cases-priced_case-requires t c =
    let old : PartState = c.args.bounds.now in
    let item : LineId × Tree = c.child-item.result in
    let same : c.loop-child.bounds ≡ old = c.loop-child.invariant.kept in
    let there = case_over old.segs old.placed c.args.seg c.args.children.now c.loop-child.child-index item c.requires.over c.loop-child-test.true in
    let over : IsCaseOver old.segs old.placed c.args.seg item = subst (IsCaseOver old.segs old.placed c.args.seg) (sym c.child-item.is) there in
    rw same (search (rules, the_lemmas))

pub priced_cases-loop-child-preserved : goal.priced_cases-loop-child-preserved
priced_cases-loop-child-preserved t c =
    let old : PartState = c.args.bounds.now in
    let item : LineId × Tree = c.child-item.result in
    let same : c.loop-child.bounds ≡ old = c.loop-child.invariant.kept in
    let made : PlainTree → LineId × PlainTree = λ x. (item.0, x) in
    let here : plain c.in_ok-tree.tree ≡ with_prices (part_of old) (placed_more old.segs old.placed c.args.seg item.0) (plain item.1) =
    c.in_ok-tree.ensures.tree ∙ ap (λ (b : PartState). with_prices (part_of b) (placed_more b.segs b.placed c.args.seg item.0) (plain item.1)) same in
    record {
      kept = c.in_ok-tree.ensures.kept ∙ same;
      cases = priced_last (priced_case (part_of old) old.placed c.args.seg) c.args.children.now c.loop-child.cases.items c.push.new.self.items c.loop-child.child-index item c.in_ok-tree.tree
          c.loop-child-test.true c.child-item.is c.in_ok-push.ensures.items c.loop-child.invariant.cases (ap made here);
    }
