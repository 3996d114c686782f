use Rattle.std.proofs.Common.{arith}
use Rattle.order_terms.proofs.Rounds.{told_at}
use Rattle.order_terms.proofs.ways.push_way.Goals as goal

pub push_at-requires : goal.push_at-requires
push_at-requires c =
    let e = told_at c.args.round.now c.args.places.now c.args.e c.requires.places c.requires.from in
    omega (arith, e.1, e.2, c.requires.each)
