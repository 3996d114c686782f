use Rattle.std.proofs.Common.{◌≡◌, ◌≤◌, List, [], length, get_or, sym, ◌∙◌, ap, subst, arith}
use Rattle.std.specs.Prelude.{slice_set}
use Rattle.map_base.specs.declared.ids.LineId.{LineId}
use Rattle.order_model.specs.declared.problem.ProblemParts.{ProblemParts}
use Rattle.order_model.specs.Problems.{lines_on}
use Rattle.order_model.proofs.OrderLemmas.{length-orders}
use Rattle.dual_ascent.proofs.Meeting.{left_orders}
use Rattle.dual_ascent.proofs.OwnParts.{seg_number}
use Rattle.dual_orders.specs.SettledPairs.{pairs_of}
use Rattle.dual_orders.proofs.OwnTables.{few_lines, reach_narrow}
use Rattle.dual_orders.proofs.Placing.{left_on, placed_length}
use Rattle.dual_orders.proofs.Telling.{left_there}
use Rattle.dual_orders.proofs.left.put_first.Goals as goal

pub clear-requires-clause-few : goal.clear-requires-clause-few
clear-requires-clause-few c =
    subst (λ (l : List LineId). length l ≤ 16) (sym c.lines.ensures)
    (few_lines c.args.part.now.problem.now.segs c.args.s
    (reach_narrow c.args.part.now.problem.now c.requires.part.reach))

pub set_order-requires-clause-known : goal.set_order-requires-clause-known
set_order-requires-clause-known c =
    let each = length-orders c.args.part.now.problem.now.segs c.args.orders.now c.requires.orders in
    omega (arith, each, c.requires.known)

pub set_order-requires-clause-same : goal.set_order-requires-clause-same
set_order-requires-clause-same c =
    let p : ProblemParts = c.args.part.now.problem.now in
    let is : c.order.result.now ≡ left_on p c.args.settled.now (seg_number c.args.s) =
    left_there p c.args.settled.now (seg_number c.args.s) c.lines-lines.result.now c.order.result.now c.clear.new.self
    c.put_ahead.new.solver c.solve.new.self c.requires.settled c.lines-lines.ensures c.put_ahead.ensures.rows
    (c.clear.ensures.told (lines_on p.segs (seg_number c.args.s)) (ap length (sym c.lines.ensures)))
    c.put_ahead.ensures.told c.solve.ensures.found c.order.ensures in
    placed_length p.segs c.args.orders.now (left_on p c.args.settled.now) c.args.s c.order.result.now
    (left_orders p (pairs_of c.args.settled.now)) c.requires.orders c.requires.known is

pub returns-clause-orders : goal.returns-clause-orders
returns-clause-orders c =
    let p : ProblemParts = c.args.part.now.problem.now in
    let is : c.order.result.now ≡ left_on p c.args.settled.now (seg_number c.args.s) =
    left_there p c.args.settled.now (seg_number c.args.s) c.lines-lines.result.now c.order.result.now c.clear.new.self
    c.put_ahead.new.solver c.solve.new.self c.requires.settled c.lines-lines.ensures c.put_ahead.ensures.rows
    (c.clear.ensures.told (lines_on p.segs (seg_number c.args.s)) (ap length (sym c.lines.ensures)))
    c.put_ahead.ensures.told c.solve.ensures.found c.order.ensures in
    c.set_order.ensures ∙ ap (slice_set c.args.orders.now c.args.s) is

pub returns-clause-room : goal.returns-clause-room
returns-clause-room c = λ k. (
    let room = c.requires.room k in
    let width = length (get_or c.args.part.now.problem.now.segs k []) in
    c.solve.ensures.room width
    (c.put_ahead.ensures.room width
    (record {
      rows = c.clear.ensures.room;
      ahead = room.ahead;
      places = room.places;
      found = room.found;
      program = room.program;
    })))
