use Rattle.std.proofs.Common.{◌*◌, sym, ◌∙◌, ap, cond, eqb, Some, None}
use Rattle.drawing_search.proofs.Common.{bit_at, number_of, turns_by}
use Rattle.drawing_search.proofs.gains.Field.over_by.Goals as goal

pub returns-then-not-allows-clause-value : goal.returns-then-not-allows-clause-value
returns-then-not-allows-clause-value c =
    let f = c.args.self in
    let weight = f.by.overs * turns_by f.graph.now c.args.sketch.now c.args.n.0 c.args.s c.args.port in
    sym
    (ap (λ m. cond (eqb (bit_at m (number_of c.args.port)) 1) (Some weight) None) (sym c.requires.ports) ∙ ap (λ b. cond b (Some weight) None) (sym c.allows.ensures ∙ c.if-not-allows.true))

pub returns-clause-value : goal.returns-clause-value
returns-clause-value c =
    let f = c.args.self in
    let weight = f.by.overs * turns_by f.graph.now c.args.sketch.now c.args.n.0 c.args.s c.args.port in
    ap (λ w. Some w) c.turns_by.ensures.weight
    ∙ sym (ap (λ m. cond (eqb (bit_at m (number_of c.args.port)) 1) (Some weight) None) (sym c.requires.ports) ∙ ap (λ b. cond b (Some weight) None) (sym c.allows.ensures ∙ c.if-not-allows.false))
