use Rattle.std.proofs.Common.{ℕ, ◌∙◌, ap, refl, get_or}
use Rattle.order_model.specs.declared.term.Term.{Term}
use Rattle.order_model.specs.PartTerms.{no_term}
use Rattle.order_model.specs.Places.{tables_of}
use Rattle.dual_shares.specs.GroupSteps.{with_term}
use Rattle.dual_shares.proofs.Grouping.{groups_none, groups_more, term_read}
use Rattle.dual_shares.proofs.groups.terms_by_segment.Goals as goal

pub loop-n-init : goal.loop-n-init
loop-n-init c = c.in_ok-groups.ensures ∙ groups_none c.args.problem.now.terms c.args.numbers.now c.args.part.now

pub loop-n-preserved : goal.loop-n-preserved
loop-n-preserved c =
    let n : ℕ = get_or c.args.numbers.now c.loop-n.n-index 0 in
    c.in_ok-add_term.ensures
    ∙ (ap (λ (t : Term). with_term c.args.part.now t n (tables_of c.loop-n.groups.items))
    (term_read c.terms-terms.result.now c.args.problem.now.terms n _ c.terms-terms.ensures.list (c.requires.known c.loop-n.n-index 0 c.loop-n-test.true))
    ∙ (ap (with_term c.args.part.now (get_or c.args.problem.now.terms n no_term) n) c.loop-n.invariant
    ∙ groups_more c.args.problem.now.terms c.args.numbers.now c.loop-n.n-index n c.args.part.now c.loop-n-test.true refl))
