use Rattle.std.proofs.Common.{◌≡◌, ◌∙◌, ◌+◌, ◌*◌, true, cond, sym, ap, ap₂, subst, arith}
use Rattle.drawing_search.proofs.Common.{apart_in, apart_weight_by, first_point, is_near, scale_of, sum_by, sum_by_more}
use Rattle.drawing_search.proofs.Common.{take_all, turn_in, GridPoint}
use Rattle.drawing_search.proofs.FieldFacts.{no_pair, pair_at, pairs_held, pairs_read, turns_small}
use Rattle.drawing_search.proofs.Takable.{stands_near}
use Rattle.drawing_search.proofs.gains.Field.node_weight.Goals as goal

pub at-pair-items-requires : goal.at-pair-items-requires
at-pair-items-requires c = pairs_held c.args.self c.requires.field c.args.n.0 c.requires.node

pub turn-total-requires-clause-first : goal.turn-total-requires-clause-first
turn-total-requires-clause-first c =
    (pair_at c.args.self c.requires.field c.args.n.0 c.requires.node c.at-pair-items.result.now c.at-pair-items.ensures c.loop-pair.pair-index c.loop-pair-test.true).0

pub turn-total-requires-clause-second : goal.turn-total-requires-clause-second
turn-total-requires-clause-second c =
    (pair_at c.args.self c.requires.field c.args.n.0 c.requires.node c.at-pair-items.result.now c.at-pair-items.ensures c.loop-pair.pair-index c.loop-pair-test.true).1

pub loop-pair-preserved : goal.loop-pair-preserved
loop-pair-preserved c =
    let more = sum_by_more (turn_in c.args.self.graph.now c.args.sketch.now c.args.n.0) c.at-pair-items.result.now c.loop-pair.pair-index no_pair c.loop-pair-test.true in
    record {
      weight = omega (arith, c.loop-pair.invariant.weight, c.turn-total.ensures.turn, more);
      small = omega (arith, c.loop-pair.invariant.small, c.turn-total.ensures.small);
      within = omega (arith, c.loop-pair-test.true);
    }

pub overflow_mul-result : goal.overflow_mul-result
overflow_mul-result c =
    let few = turns_small c.args.self c.requires.field c.args.n.0 c.requires.node c.at-pair-items.result.now c.at-pair-items.ensures c.loop-pair.total c.loop-pair.pair-index c.loop-pair.invariant.small c.loop-pair.invariant.within in
    omega (arith, few)

pub apart_weight-requires-clause-near : goal.apart_weight-requires-clause-near
apart_weight-requires-clause-near c =
    subst (λ (p : GridPoint). is_near 2000 p ≡ true) (sym c.point.ensures) (stands_near c.args.self.graph.now c.args.sketch.now c.requires.legal c.args.n.0 c.requires.stands)

pub overflow_add-result : goal.overflow_add-result
overflow_add-result c =
    let few = turns_small c.args.self c.requires.field c.args.n.0 c.requires.node c.at-pair-items.result.now c.at-pair-items.ensures c.loop-pair.total c.loop-pair.pair-index c.loop-pair.invariant.small c.loop-pair.invariant.within in
    omega (arith, few, c.apart_weight.ensures.small)

pub returns-clause-small : goal.returns-clause-small
returns-clause-small c =
    let few = turns_small c.args.self c.requires.field c.args.n.0 c.requires.node c.at-pair-items.result.now c.at-pair-items.ensures c.loop-pair.total c.loop-pair.pair-index c.loop-pair.invariant.small c.loop-pair.invariant.within in
    omega (arith, few, c.apart_weight.ensures.small)

pub returns-clause-weight : goal.returns-clause-weight
returns-clause-weight c =
    let f = c.args.self in
    let k = c.args.sketch.now in
    let n = c.args.n.0 in
    let all = c.loop-pair.invariant.weight
    ∙ ap (sum_by (turn_in f.graph.now k n)) (take_all c.loop-pair.pair-index c.at-pair-items.result.now c.loop-pair-test.false ∙ c.at-pair-items.ensures ∙ pairs_read f c.requires.field n) in
    ap₂ (λ a b. f.by.overs * a + b) all
    (c.apart_weight.ensures.weight
    ∙ ap (apart_weight_by (scale_of f.by) n (first_point f.first.now n)) c.point.ensures
    ∙ sym (ap (λ b. cond b (apart_in (scale_of f.by) f.first.now k n) 0) c.requires.stands))
