use Rattle.std.proofs.Common.{◌∙◌, ap, set, arith}
use Rattle.std.proofs.lemmas.List.Sorted.{length_permutation}
use Rattle.order_model.proofs.TableLemmas.{line_known, put_next, all_put}
use Rattle.order_model.proofs.places.put_places.Goals as goal

pub overflow_cast-places : goal.overflow_cast-places
overflow_cast-places c = omega (arith, c.requires.short, c.loop-i-test.true, length_permutation c.args.lines.now c.args.order.now c.requires.order)

pub rank-requires-clause-some : goal.rank-requires-clause-some
rank-requires-clause-some c = omega (arith, c.loop-i-test.true, length_permutation c.args.lines.now c.args.order.now c.requires.order)

pub loop-i-preserved : goal.loop-i-preserved
loop-i-preserved c =
    let on = line_known c.args.lines.now c.args.order.now c.requires.order c.loop-i.i c.loop-i-test.true in
    ap (λ r. set c.loop-i.places r c.loop-i.i) (c.rank.ensures.place on)
    ∙ put_next c.args.lines.now c.args.order.now c.requires.rising c.requires.order c.loop-i.i c.loop-i.places c.loop-i-test.true c.loop-i.invariant

pub returns : goal.returns
returns c = all_put c.args.lines.now c.args.order.now c.loop-i.i c.loop-i.places (omega (arith, c.loop-i-test.false)) c.loop-i.invariant
