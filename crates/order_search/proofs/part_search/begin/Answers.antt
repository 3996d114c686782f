use Rattle.std.proofs.Common.{refl, ap, sym, subst, ◌∙◌, arith}
use Rattle.part_bounds.specs.PartStates.{PartState, IsWell}
use Rattle.order_search.specs.Searching.{part_of}
use Rattle.order_search.proofs.Begins.{numbers_known, numbers_few, cost_told, begins}
use Rattle.order_search.proofs.part_search.begin.Goals as goal

pub number_cost-cost-requires-clause-known : goal.number_cost-cost-requires-clause-known
number_cost-cost-requires-clause-known c = numbers_known c.args.problem.now.terms c.args.part.now c.args.numbers.now c.requires.numbers

pub number_cost-cost-requires-clause-few : goal.number_cost-cost-requires-clause-few
number_cost-cost-requires-clause-few c =
    omega (arith, numbers_few c.args.problem.now.terms c.args.part.now c.args.numbers.now c.requires.numbers, c.requires.problem.few_terms)

pub returns : goal.returns
returns c =
    let same = c.bound-root_bound.ensures.kept in
    begins c.args.problem.now c.args.part.now c.args.budget _ c.requires.problem c.requires.known c.requires.rising c.requires.budget refl refl
    (ap (λ (b : PartState). b.segs) same ∙ c.in_ok-bounds.ensures.segs) (ap (λ (b : PartState). b.part) same ∙ c.in_ok-bounds.ensures.part)
    (ap (λ (b : PartState). b.terms) same ∙ c.in_ok-bounds.ensures.terms) (ap (λ (b : PartState). b.placed) same ∙ c.in_ok-bounds.ensures.placed)
    (subst (λ (b : PartState). IsWell b.segs b.placed) (sym same) c.in_ok-bounds.ensures.well)
    (c.number_cost-cost.ensures ∙ cost_told c.args.problem.now c.args.part.now c.args.numbers.now c.requires.numbers) c.in_ok-lists.ensures refl refl c.new-children.ensures.items
    (c.bound-root_bound.ensures.bound ∙ ap (λ (b : PartState). (part_of b).bound b.placed) (sym same))
