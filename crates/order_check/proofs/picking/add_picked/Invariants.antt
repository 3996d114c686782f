use Rattle.std.proofs.Common.{◌≡◌, ◌++◌, take}
use Rattle.order_model.specs.Problems.{lines_on}
use Rattle.order_check.specs.Placings.{picked_of}
use Rattle.order_check.proofs.picking.add_picked.Given as goal

abbrev pub invariant-loop-i : goal.invariant-loop-i
invariant-loop-i l =
    l.list.items ≡ l.fn.list.items ++ picked_of l.pick (lines_on l.problem.segs l.pick.spot.seg) (lines_on l.prefix.placed l.pick.spot.seg) l.terms (take l.i l.some)
