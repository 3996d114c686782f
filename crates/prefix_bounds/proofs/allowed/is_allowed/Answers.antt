use Rattle.std.proofs.Common.{◌≡◌, ◌∙◌, ap, sym, arith, w64, to_z, of_z}
use Rattle.std.proofs.lemmas.Int.{to_z-of_z}
use Rattle.order_check.specs.Prices.{may_have}
use Rattle.prefix_bounds.proofs.AllowedPrices.{allowed_nowhere, allowed_out, allowed_in}
use Rattle.prefix_bounds.proofs.allowed.is_allowed.Goals as goal

pub returns-then-number-term_count-clause-allowed : goal.returns-then-number-term_count-clause-allowed
returns-then-number-term_count-clause-allowed c =
    sym (allowed_nowhere c.args.prefix.now.placed c.args.part.now c.args.entry c.args.problem.now.terms (omega (arith, c.if-number-term_count.true, c.term_count.ensures.count)))

pub returns-then-not-is_of-clause-allowed : goal.returns-then-not-is_of-clause-allowed
returns-then-not-is_of-clause-allowed c =
    sym (allowed_out c.args.prefix.now.placed c.args.part.now c.args.entry c.args.problem.now.terms c.term_at-term.result (omega (arith, c.if-number-term_count.false, c.term_count.ensures.count))
    c.term_at-term.ensures.term (sym c.is_of.ensures ∙ c.if-not-is_of.true))

pub returns-clause-allowed : goal.returns-clause-allowed
returns-clause-allowed c =
    let price : to_z w64 (of_z w64 c.price_in-price.result) ≡ c.args.entry.1 =
    to_z-of_z w64 c.price_in-price.result (record { sfits = c.price_in-price.type_inv }) ∙ c.price_in-price.ensures in
    c.may_have.ensures.may ∙ ap (may_have c.args.prefix.now.placed c.term_at-term.result) price
    ∙ sym (allowed_in c.args.prefix.now.placed c.args.part.now c.args.entry c.args.problem.now.terms c.term_at-term.result (omega (arith, c.if-number-term_count.false, c.term_count.ensures.count))
    c.term_at-term.ensures.term (sym c.is_of.ensures ∙ c.if-not-is_of.false))
