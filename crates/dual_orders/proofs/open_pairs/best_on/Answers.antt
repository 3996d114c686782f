use Rattle.std.proofs.Common.{◌++◌, List, get_or, take, subst, arith}
use Rattle.std.proofs.lemmas.List.{get_or_default, take_all}
use Rattle.order_model.specs.declared.problem.ProblemParts.{ProblemParts}
use Rattle.dual_ascent.specs.declared.pair_average.PairAverage.{PairAverage}
use Rattle.dual_ascent.specs.Averages.{never}
use Rattle.dual_ascent.specs.OpenPairs.{OpenPair}
use Rattle.dual_ascent.proofs.OwnParts.{seg_number}
use Rattle.dual_orders.specs.NextPairs.{IsBest, most_undecided, open_of}
use Rattle.dual_orders.proofs.Deciding.{open_more}
use Rattle.dual_orders.proofs.open_pairs.best_on.Goals as goal

pub loop-average-preserved : goal.loop-average-preserved
loop-average-preserved c = λ pairs before tells chain best.
    (let p : ProblemParts = c.args.part.now.problem.now in
    let s = seg_number c.args.s in
    let averages = c.args.averages.now in
    let i = c.loop-average.average-index in
    let none : PairAverage = never (record { 0 = 0 }) (record { 0 = 0 }) in
    let x : PairAverage = get_or averages i none in
    let below = c.loop-average-test.true in
    subst (λ (l : List OpenPair). IsBest p (most_undecided p l) c.with_average-best.result)
    (open_more pairs s before averages i x below (get_or_default averages i none x below))
    (c.with_average-best.ensures pairs (before ++ open_of pairs s (take i averages)) tells
    chain (c.loop-average.invariant pairs before tells chain best)))

pub returns : goal.returns
returns c = λ pairs before tells chain best.
    (let p : ProblemParts = c.args.part.now.problem.now in
    let s = seg_number c.args.s in
    subst (λ (xs : List PairAverage). IsBest p (most_undecided p (before ++ open_of pairs s xs)) c.loop-average.best)
    (take_all c.loop-average.average-index c.args.averages.now (omega (arith, c.loop-average-test.false)))
    (c.loop-average.invariant pairs before tells chain best))
