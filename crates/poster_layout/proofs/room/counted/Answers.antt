use Rattle.std.proofs.Common.{◌≡◌, ◌+◌, Bool, cond, ap, sym, ◌∙◌, arith}
use Rattle.poster_layout.proofs.room.counted.Goals as goal

pub returns-then-is_so-clause-value : goal.returns-then-is_so-clause-value
returns-then-is_so-clause-value c = sym (ap (λ (b : Bool). c.args.count + cond b 1 0) c.if-is_so.true)

pub returns-clause-value : goal.returns-clause-value
returns-clause-value c =
    let none : c.args.count + 0 ≡ c.args.count = omega arith in
    sym (ap (λ (b : Bool). c.args.count + cond b 1 0) c.if-is_so.false ∙ none)
