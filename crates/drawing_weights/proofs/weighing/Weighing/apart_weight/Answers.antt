use Rattle.std.proofs.Common.{◌∙◌, ◌*◌, cond, sym, ap, arith}
use Rattle.drawing_weights.specs.Weights.{square_apart}
use Rattle.drawing_weights.proofs.weighing.Weighing.apart_weight.Goals as goal

pub returns-then-not-is_raised-clause-weight : goal.returns-then-not-is_raised-clause-weight
returns-then-not-is_raised-clause-weight c =
    sym (ap (λ b. cond b (c.args.self.aparts * square_apart c.args.first c.args.here) 0) (sym c.is_raised.ensures ∙ c.if-not-is_raised.true))

pub returns-clause-weight : goal.returns-clause-weight
returns-clause-weight c =
    c.times.ensures.value
    ∙ ap (λ n. c.args.self.aparts * n) c.square_apart.ensures.value
    ∙ sym (ap (λ b. cond b (c.args.self.aparts * square_apart c.args.first c.args.here) 0) (sym c.is_raised.ensures ∙ c.if-not-is_raised.false))

pub returns-clause-small : goal.returns-clause-small
returns-clause-small c = omega (arith, c.times.ensures.small, c.square_apart.ensures.small)
