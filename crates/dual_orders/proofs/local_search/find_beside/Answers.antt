use Rattle.std.proofs.Common.{arith}
use Rattle.dual_ascent.proofs.OwnParts.{seg_number}
use Rattle.dual_orders.proofs.Telling.{least_there}
use Rattle.dual_orders.proofs.local_search.find_beside.Goals as goal

pub returns-clause-found : goal.returns-clause-found
returns-clause-found c =
    least_there c.args.part.now.problem.now (seg_number c.args.s) c.args.orders.now c.lines-lines.result.now
    c.put_costs_beside.new.rows c.settle_nothing.new.self c.solve.new.self c.requires.part.fits.rising
    c.requires.part.fits.terms (omega (arith, c.requires.known, c.requires.each)) c.lines-lines.ensures
    c.settle_nothing.ensures.rows c.put_costs_beside.ensures.told c.settle_nothing.ensures.told c.solve.ensures.found
