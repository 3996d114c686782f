use Rattle.std.proofs.Common.{◌≡◌, ◌*◌, ◌^◌, ◌%◌, ◌∙◌, ap, arith}
use Rattle.dual_check.proofs.Loads.{many_steps, few_steps}
use Rattle.dual_check.proofs.load.steps_of.Goals as goal

pub returns-then-lines-gt30 : goal.returns-then-lines-gt30
returns-then-lines-gt30 c = let many = many_steps c.args.lines (omega (arith, c.if-lines-gt30.true)) in omega (arith, many)

pub returns : goal.returns
returns c =
    let few = few_steps c.args.lines (omega (arith, c.if-lines-gt30.false)) in
    let power = few.1 in
    let steps = few.2 in
    let same : 1 * 2 ^ c.args.lines % 18446744073709551616 ≡ 2 ^ c.args.lines = omega (arith, power) in
    ap (λ p. c.args.lines * c.args.lines * p) same ∙ omega (arith, steps)
