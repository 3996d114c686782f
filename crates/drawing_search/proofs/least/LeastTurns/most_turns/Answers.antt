use Rattle.std.proofs.Common.{◌/◌, cond, sym, ap, arith}
use Rattle.drawing_search.proofs.Common.{div-le_self, eq-eqb, ne_eqb}
use Rattle.drawing_search.proofs.least.LeastTurns.most_turns.Goals as goal

pub returns-then-self-eq0-clause-value : goal.returns-then-self-eq0-clause-value
returns-then-self-eq0-clause-value c =
    let l = c.args.self in
    sym (ap (λ b. cond b l.free_turns (c.args.turns / l.per_turn)) (eq-eqb l.per_turn 0 c.if-self-eq0.true))

pub returns-clause-value : goal.returns-clause-value
returns-clause-value c =
    let l = c.args.self in
    sym (ap (λ b. cond b l.free_turns (c.args.turns / l.per_turn)) (ne_eqb l.per_turn 0 c.if-self-eq0.false))

pub returns-clause-small : goal.returns-clause-small
returns-clause-small c = omega (arith, div-le_self c.args.turns c.args.self.per_turn)
