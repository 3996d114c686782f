use Rattle.std.proofs.Common.{length, drop, length-take, ◌∙◌, arith}
use Rattle.std.proofs.lemmas.List.{take-append-le, take_all}
use Rattle.dual_orders.proofs.solver.take_least_ahead.Goals as goal

pub returns-clause-found : goal.returns-clause-found
returns-clause-found c = λ costs settled tells.
    (let n = length c.args.lines.now in
    let new = c.take_least.new.found in
    let each = c.take_least.auto.found in
    let cut = length-take n c.args.found.now in
    take-append-le n new (drop n c.args.found.now) (omega (arith, each, cut, c.requires.found))
    ∙ (take_all n new (omega (arith, each, cut, c.requires.found)) ∙ c.take_least.ensures.found costs settled tells))
