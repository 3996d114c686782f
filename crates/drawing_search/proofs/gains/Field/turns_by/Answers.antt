use Rattle.std.proofs.Common.{◌*◌, ap, ◌∙◌, arith}
use Rattle.drawing_search.proofs.Common.{sum_by, sum_by_more, take_all, turn_by}
use Rattle.drawing_search.proofs.FieldFacts.{no_pair, pair_at, pairs_held, pairs_read, turns_small}
use Rattle.drawing_search.proofs.gains.Field.turns_by.Goals as goal

pub at-pair-items-requires : goal.at-pair-items-requires
at-pair-items-requires c = pairs_held c.args.self c.requires.field c.args.n.0 c.requires.node

pub turn_by-total-requires-clause-first : goal.turn_by-total-requires-clause-first
turn_by-total-requires-clause-first c =
    (pair_at c.args.self c.requires.field c.args.n.0 c.requires.node c.at-pair-items.result.now c.at-pair-items.ensures c.loop-pair.pair-index c.loop-pair-test.true).0

pub turn_by-total-requires-clause-second : goal.turn_by-total-requires-clause-second
turn_by-total-requires-clause-second c =
    (pair_at c.args.self c.requires.field c.args.n.0 c.requires.node c.at-pair-items.result.now c.at-pair-items.ensures c.loop-pair.pair-index c.loop-pair-test.true).1

pub loop-pair-preserved : goal.loop-pair-preserved
loop-pair-preserved c =
    let more = sum_by_more (turn_by c.args.self.graph.now c.args.sketch.now c.args.n.0 c.args.s c.args.port) c.at-pair-items.result.now c.loop-pair.pair-index no_pair c.loop-pair-test.true in
    record {
      weight = omega (arith, c.loop-pair.invariant.weight, c.turn_by-total.ensures.turn, more);
      small = omega (arith, c.loop-pair.invariant.small, c.turn_by-total.ensures.small);
      within = omega (arith, c.loop-pair-test.true);
    }

pub overflow_mul-result : goal.overflow_mul-result
overflow_mul-result c =
    let few = turns_small c.args.self c.requires.field c.args.n.0 c.requires.node c.at-pair-items.result.now c.at-pair-items.ensures c.loop-pair.total c.loop-pair.pair-index c.loop-pair.invariant.small c.loop-pair.invariant.within in
    omega (arith, few)

pub returns-clause-small : goal.returns-clause-small
returns-clause-small c =
    let few = turns_small c.args.self c.requires.field c.args.n.0 c.requires.node c.at-pair-items.result.now c.at-pair-items.ensures c.loop-pair.total c.loop-pair.pair-index c.loop-pair.invariant.small c.loop-pair.invariant.within in
    omega (arith, few)

pub returns-clause-weight : goal.returns-clause-weight
returns-clause-weight c =
    ap (λ x. c.args.self.by.overs * x)
    (c.loop-pair.invariant.weight
    ∙ ap (sum_by (turn_by c.args.self.graph.now c.args.sketch.now c.args.n.0 c.args.s c.args.port))
    (take_all c.loop-pair.pair-index c.at-pair-items.result.now c.loop-pair-test.false ∙ c.at-pair-items.ensures ∙ pairs_read c.args.self c.requires.field c.args.n.0))
