use Rattle.std.proofs.Common.{arith}
use Rattle.order_terms.proofs.Rounds.{told_at}
use Rattle.order_terms.proofs.ways.way.Goals as goal

pub overflow_sub-turn : goal.overflow_sub-turn
overflow_sub-turn c =
    let e = told_at c.args.round.now c.args.places.now c.args.e c.requires.places c.requires.from in
    omega (arith, e.1, e.2)
