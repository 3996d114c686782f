use Rattle.std.proofs.Common.{◌≡◌, ℕ, ◌<◌, ◌≤◌, ◌==◌, ◌&&◌, ◌∙◌, not, true, false, List, ap, sym, subst, length, get_or, arith, rules, w64, FitsSigned, to_z, of_z}
use Rattle.std.specs.List.{list_any}
use Rattle.std.proofs.lemmas.Int.{to_z-of_z}
use Rattle.std.proofs.lemmas.List.Sorted.{searched}
use Rattle.order_model.specs.declared.term.Term.{Term}
use Rattle.order_model.specs.PartTerms.{no_term, part_numbers}
use Rattle.order_model.proofs.KeptTerms.{part_numbers_known}
use Rattle.dual_shares.proofs.Grouping.{term_read}
use Rattle.dual_check.specs.Prices.{may_have}
use Rattle.dual_check.proofs.PriceTests.{number_found, part_numbers_rise, one_known, allowed_by}
use Rattle.dual_check.proofs.prices.is_allowed.Goals as goal

pub returns-then-is_err : goal.returns-then-is_err
returns-then-is_err c =
    let searched =
    number_found c.args.asked.now.numbers.now c.args.entry.0 c.binary_search.result
    (searched c.args.asked.now.numbers.now c.args.entry.0 c.binary_search.result c.binary_search.ensures.position
    (λ i j under below. subst (λ (l : List ℕ). get_or l i 0 ≤ get_or l j 0) (sym c.requires.numbers)
    (part_numbers_rise c.args.asked.now.part.now c.args.asked.now.problem.now.terms i j under (subst (λ (l : List ℕ). j < length l) c.requires.numbers below)))) in
    let none : list_any (λ n. n == c.args.entry.0) (part_numbers c.args.asked.now.problem.now.terms c.args.asked.now.part.now) ≡ false =
    ap (list_any (λ n. n == c.args.entry.0)) (sym c.requires.numbers) ∙ (searched ∙ (c.is_err.ensures.negation ∙ ap not c.if-is_err.true)) in
    sym (allowed_by c.args.asked.now.problem.now.terms c.args.asked.now.part.now c.args.entry ∙ ap (λ b. b && may_have (get_or c.args.asked.now.problem.now.terms c.args.entry.0 no_term) c.args.entry.1) none)

pub bounds-terms-entry : goal.bounds-terms-entry
bounds-terms-entry c =
    let searched =
    number_found c.args.asked.now.numbers.now c.args.entry.0 c.binary_search.result
    (searched c.args.asked.now.numbers.now c.args.entry.0 c.binary_search.result c.binary_search.ensures.position
    (λ i j under below. subst (λ (l : List ℕ). get_or l i 0 ≤ get_or l j 0) (sym c.requires.numbers)
    (part_numbers_rise c.args.asked.now.part.now c.args.asked.now.problem.now.terms i j under (subst (λ (l : List ℕ). j < length l) c.requires.numbers below)))) in
    let below =
    one_known (part_numbers c.args.asked.now.problem.now.terms c.args.asked.now.part.now) c.args.entry.0 (length c.args.asked.now.problem.now.terms)
    (part_numbers_known c.args.asked.now.part.now c.args.asked.now.problem.now.terms)
    (ap (list_any (λ n. n == c.args.entry.0)) (sym c.requires.numbers) ∙ (searched ∙ (c.is_err.ensures.negation ∙ ap not c.if-is_err.false))) in
    omega (arith, below, ap length c.terms.ensures.list)

pub returns : goal.returns
returns c =
    let searched =
    number_found c.args.asked.now.numbers.now c.args.entry.0 c.binary_search.result
    (searched c.args.asked.now.numbers.now c.args.entry.0 c.binary_search.result c.binary_search.ensures.position
    (λ i j under below. subst (λ (l : List ℕ). get_or l i 0 ≤ get_or l j 0) (sym c.requires.numbers)
    (part_numbers_rise c.args.asked.now.part.now c.args.asked.now.problem.now.terms i j under (subst (λ (l : List ℕ). j < length l) c.requires.numbers below)))) in
    let some : list_any (λ n. n == c.args.entry.0) (part_numbers c.args.asked.now.problem.now.terms c.args.asked.now.part.now) ≡ true =
    ap (list_any (λ n. n == c.args.entry.0)) (sym c.requires.numbers) ∙ (searched ∙ (c.is_err.ensures.negation ∙ ap not c.if-is_err.false)) in
    let below =
    one_known (part_numbers c.args.asked.now.problem.now.terms c.args.asked.now.part.now) c.args.entry.0 (length c.args.asked.now.problem.now.terms)
    (part_numbers_known c.args.asked.now.part.now c.args.asked.now.problem.now.terms) some in
    let fits : FitsSigned w64 c.args.entry.1 = search rules in
    let price = to_z-of_z w64 c.args.entry.1 fits in
    let term : Term = get_or c.args.asked.now.problem.now.terms c.args.entry.0 no_term in
    c.may_have.ensures
    ∙ (ap (λ (t : Term). may_have t (to_z w64 (of_z w64 c.args.entry.1))) (term_read c.terms.result.now c.args.asked.now.problem.now.terms c.args.entry.0 _ c.terms.ensures.list below)
    ∙ (ap (may_have term) price
    ∙ sym (allowed_by c.args.asked.now.problem.now.terms c.args.asked.now.part.now c.args.entry ∙ ap (λ b. b && may_have term c.args.entry.1) some)))
