use Rattle.std.proofs.Common.{[], map, set, sym, ◌∙◌, ap, subst, arith}
use Rattle.std.specs.List.{All}
use Rattle.std.proofs.lemmas.List.Elements.{All-set}
use Rattle.dual_ascent.specs.Averages.{with_order}
use Rattle.dual_rounds.specs.Ranges.{IsAverage, averages_of}
use Rattle.dual_rounds.proofs.SegmentLists.{length_of_averages, average_item, written_average}
use Rattle.dual_rounds.proofs.averages.average_at.Goals as goal

pub average_on-requires-clause-within : goal.average_on-requires-clause-within
average_on-requires-clause-within c =
    let each = length_of_averages c.args.averages.now in
    subst (All IsAverage) (sym (c.as_mut_slice.ensures.value ∙ average_item c.args.averages.now c.args.s c.index-averages-s.result c.requires.known))
    (c.requires.within c.args.s [] (omega (arith, each, c.requires.known)))

pub returns-clause-value : goal.returns-clause-value
returns-clause-value c =
    let item = average_item c.args.averages.now c.args.s c.index-averages-s.result c.requires.known in
    written_average c.args.averages.now c.args.s c.index-averages-s.result c.average_on.new.averages (c.average_on.auto.averages ∙ c.as_mut_slice.ensures.len)
    ∙ ap (set (averages_of c.args.averages.now) c.args.s)
    (c.average_on.ensures.value ∙ ap (map (with_order c.args.round c.args.order.now)) (c.as_mut_slice.ensures.value ∙ item))

pub returns-clause-within : goal.returns-clause-within
returns-clause-within c =
    subst (All (All IsAverage))
    (sym (written_average c.args.averages.now c.args.s c.index-averages-s.result c.average_on.new.averages (c.average_on.auto.averages ∙ c.as_mut_slice.ensures.len)))
    (All-set (All IsAverage) (averages_of c.args.averages.now) c.args.s c.average_on.new.averages c.average_on.ensures.within c.requires.within)
