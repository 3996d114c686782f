use Rattle.std.proofs.Common.{◌∙◌, ◌++◌, ap, sym, arith, append-nil, get_or, List}
use Rattle.std.proofs.lemmas.List.{take_all, get_or_default}
use Rattle.map_base.specs.declared.ids.LineId.{LineId}
use Rattle.order_model.specs.Problems.{lines_on}
use Rattle.order_check.specs.declared.spot.SpotTerm.{SpotTerm}
use Rattle.order_check.specs.Placings.{picked_of}
use Rattle.order_check.proofs.Counting.{picked_more}
use Rattle.order_check.proofs.picking.add_picked.Goals as goal

pub loop-i-init : goal.loop-i-init
loop-i-init c = sym (append-nil c.args.list.now.items)

pub loop-i-preserved : goal.loop-i-preserved
loop-i-preserved c =
    let lines : List LineId = lines_on c.args.problem.now.segs c.args.pick.spot.seg in
    let placed : List LineId = lines_on c.args.prefix.now.placed c.args.pick.spot.seg in
    let none : SpotTerm = record { place = 0; other = record { 0 = 0 } } in
    let t : SpotTerm = get_or c.args.some.now c.loop-i.i none in
    picked_more c.args.pick lines placed c.args.terms.now c.args.some.now t c.args.list.now.items c.loop-i.list.items c.add_if_picked.new.list.items c.loop-i.i c.loop-i-test.true
    (get_or_default c.args.some.now c.loop-i.i none t c.loop-i-test.true) c.loop-i.invariant c.in_ok-add_if_picked.ensures

pub returns : goal.returns
returns c =
    c.loop-i.invariant
    ∙ ap (λ ts. c.args.list.now.items ++ picked_of c.args.pick (lines_on c.args.problem.now.segs c.args.pick.spot.seg) (lines_on c.args.prefix.now.placed c.args.pick.spot.seg) c.args.terms.now ts)
    (take_all c.loop-i.i c.args.some.now (omega (arith, c.loop-i-test.false)))
