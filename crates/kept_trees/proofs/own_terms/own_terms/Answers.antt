use Rattle.std.proofs.Common.{◌∙◌, ◌<◌, ℕ, List, length, map, get_or, ap, sym, subst, arith}
use Rattle.std.specs.List.{All}
use Rattle.std.proofs.lemmas.List.{take_all}
use Rattle.order_model.specs.declared.term.Term.{Term}
use Rattle.order_model.specs.PartTerms.{no_term}
use Rattle.order_model.proofs.KeptTerms.{part_numbers_known}
use Rattle.order_search.specs.ByItself.{term_in}
use Rattle.kept_trees.proofs.OwnProblems.{own_terms_are, of_read}
use Rattle.kept_trees.proofs.own_terms.own_terms.Goals as goal

pub bounds-terms-n : goal.bounds-terms-n
bounds-terms-n c =
    let terms : List Term = c.args.terms.now in
    subst (All (λ (n : ℕ). n < length terms)) (sym c.requires.numbers) (part_numbers_known c.args.part.now terms) c.loop-n.n-index 0 c.loop-n-test.true

pub term_in-requires-clause-of : goal.term_in-requires-clause-of
term_in-requires-clause-of c = of_read c.args.part.now c.args.terms.now c.args.numbers.now c.loop-n.n-index c.requires.numbers c.loop-n-test.true

pub returns : goal.returns
returns c =
    let part = c.args.part.now in
    let terms : List Term = c.args.terms.now in
    let whole = take_all c.loop-n.n-index c.args.numbers.now (omega (arith, c.loop-n-test.false)) in
    c.loop-n.invariant ∙ ap (map (λ (n : ℕ). term_in part (get_or terms n no_term))) (whole ∙ c.requires.numbers) ∙ own_terms_are part terms
