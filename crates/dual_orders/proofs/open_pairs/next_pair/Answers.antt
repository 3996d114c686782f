use Rattle.std.proofs.Common.{◌≡◌, ◌++◌, List, [], length, get_or, take, All, sym, ◌∙◌, ap, subst, arith, Option}
use Rattle.std.specs.Prelude.{Vec}
use Rattle.std.specs.Global.{Global}
use Rattle.std.specs.List.{flat_map}
use Rattle.order_model.specs.declared.problem.ProblemParts.{ProblemParts}
use Rattle.order_model.specs.Problems.{lines_on}
use Rattle.dual_bound.specs.Settled.{settled_on}
use Rattle.dual_shares.specs.SettledSets.{TellAhead}
use Rattle.dual_ascent.specs.declared.pair_average.PairAverage.{PairAverage}
use Rattle.dual_ascent.specs.OwnNumbers.{all_segments}
use Rattle.dual_ascent.specs.Averages.{averages_on}
use Rattle.dual_ascent.specs.OpenPairs.{OpenPair, open_on, next_pair}
use Rattle.dual_ascent.proofs.OwnParts.{seg_number}
use Rattle.dual_rounds.specs.Ranges.{averages_of}
use Rattle.dual_rounds.proofs.SegmentLists.{average_item}
use Rattle.dual_orders.specs.SettledPairs.{pairs_of}
use Rattle.dual_orders.specs.NextPairs.{IsBest, TellsPairs, most_undecided, open_of}
use Rattle.dual_orders.specs.Values.{IsOfTwo}
use Rattle.dual_orders.proofs.Deciding.{averages_of_two, segment_more, segments_whole}
use Rattle.dual_orders.proofs.SettledStacks.{settled_known}
use Rattle.dual_orders.proofs.open_pairs.next_pair.Goals as goal

pub put_ahead-requires-clause-room : goal.put_ahead-requires-clause-room
put_ahead-requires-clause-room c = (c.loop-s.invariant.1 c.loop-s.s).ahead

pub best_on-best-requires-clause-pairs : goal.best_on-best-requires-clause-pairs
best_on-best-requires-clause-pairs c =
    let p : ProblemParts = c.args.part.now.problem.now in
    let s = c.loop-s.s in
    let known = c.len-s-end.ensures in
    let here : c.as_slice.result.now ≡ averages_on (averages_of c.args.averages.now) (seg_number s) =
    c.as_slice.ensures.value
    ∙ (ap (λ (v : Vec PairAverage Global). v.items) c.index-averages-s.is ∙ average_item c.args.averages.now s
    c.index-averages-s.result (omega (arith, known, c.loop-s-test.true, c.requires.each))) in
    subst (All (IsOfTwo (lines_on p.segs (seg_number s)))) (sym here)
    (averages_of_two p (averages_of c.args.averages.now) s c.requires.part.fits.rising c.requires.pairs
    (omega (arith, known, c.loop-s-test.true)))

pub loop-s-preserved : goal.loop-s-preserved
loop-s-preserved c =
    let p : ProblemParts = c.args.part.now.problem.now in
    let s = c.loop-s.s in
    let settled = pairs_of c.args.settled.now in
    let averages = averages_of c.args.averages.now in
    let known = c.len-s-end.ensures in
    let here : c.as_slice.result.now ≡ averages_on averages (seg_number s) =
    c.as_slice.ensures.value
    ∙ (ap (λ (v : Vec PairAverage Global). v.items) c.index-averages-s.is ∙ average_item c.args.averages.now s
    c.index-averages-s.result (omega (arith, known, c.loop-s-test.true, c.requires.each))) in
    let tells : TellsPairs (settled_on settled (seg_number s)) (lines_on p.segs (seg_number s))
    c.as_slice-direct.result.now = record {
      told = subst (TellAhead (settled_on settled (seg_number s)) (lines_on p.segs (seg_number s)))
          (sym c.as_slice-direct.ensures.value) c.put_ahead.ensures.told;
      known = settled_known p.segs (seg_number s) c.args.settled.now c.requires.settled;
    } in
    let before : List OpenPair = flat_map (open_on settled averages) (take s (all_segments p)) in
    let best = c.best_on-best.ensures (settled_on settled (seg_number s)) before tells c.count_on-chain.ensures
    c.loop-s.invariant.0 in (
      subst (λ (l : List OpenPair). IsBest p (most_undecided p l) c.best_on-best.result)
          (ap (λ (xs : List PairAverage). before ++ open_of (settled_on settled (seg_number s)) (seg_number s) xs) here
          ∙ segment_more p settled averages s (omega (arith, known, c.loop-s-test.true))) best,
      λ k. c.put_ahead.ensures.room (length (get_or p.segs k [])) (c.loop-s.invariant.1 k),
    )

pub returns-clause-pair : goal.returns-clause-pair
returns-clause-pair c =
    let p : ProblemParts = c.args.part.now.problem.now in
    let settled = pairs_of c.args.settled.now in
    let averages = averages_of c.args.averages.now in
    let known = c.len-s-end.ensures in
    c.pair_of.ensures (next_pair p settled averages) p
    (subst (λ (o : Option OpenPair). IsBest p o c.loop-s.best)
    (segments_whole p settled averages c.loop-s.s (omega (arith, known, c.loop-s-test.false))) c.loop-s.invariant.0)
