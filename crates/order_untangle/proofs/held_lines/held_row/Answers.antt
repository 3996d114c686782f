use Rattle.std.proofs.Common.{◌==◌, ◌||◌, not, map, ap, ◌∙◌}
use Rattle.std.proofs.lemmas.List.{take_all}
use Rattle.map_base.specs.declared.ids.LineId.{LineId}
use Rattle.order_sums.specs.declared.pair_sums.PairSums.{PairSums}
use Rattle.order_sums.specs.PairSums.{sums_part}
use Rattle.order_untangle.proofs.ReadLemmas.{held_more}
use Rattle.order_untangle.proofs.held_lines.held_row.Goals as goal

pub loop-i-preserved : goal.loop-i-preserved
loop-i-preserved c = λ f are.
    held_more f (λ (s : PairSums) (a : LineId). a.0 == c.args.line.0 || not (sums_part c.args.most s.against_turned s.sides)) c.args.row.now c.args.lines.now
    c.loop-i.held.items c.push.new.self.items c.is_held.result c.loop-i.i _ _ c.loop-i-test.true are (c.loop-i.invariant f are) c.is_held.ensures c.in_ok-push.ensures.items

pub returns : goal.returns
returns c = λ f are.
    c.loop-i.invariant f are
    ∙ ap (map (λ (a : LineId). a.0 == c.args.line.0 || not (sums_part c.args.most (f a).against_turned (f a).sides))) (take_all c.loop-i.i c.args.lines.now c.loop-i-test.false)
