use Rattle.std.proofs.Common.{◌<◌, List, length, sym, subst}
use Rattle.map_base.specs.declared.ids.LineId.{LineId}
use Rattle.order_check.specs.declared.slot.PartTerm.{PartTerm}
use Rattle.order_check.specs.declared.picking.Pick.{Pick}
use Rattle.order_check.proofs.Counting.{two_picked, all_picked, none_left}
use Rattle.order_check.proofs.picking.changed_terms.Goals as goal

pub add_terms-requires-clause-seg : goal.add_terms-requires-clause-seg
add_terms-requires-clause-seg c = subst (λ (q : Pick). q.spot.seg.0 < length c.args.asked.now.problem.now.segs) (sym c.own_pick.ensures) c.requires.seg

pub add_terms-requires-2-clause-seg : goal.add_terms-requires-2-clause-seg
add_terms-requires-2-clause-seg c = subst (λ (q : Pick). q.spot.seg.0 < length c.args.asked.now.problem.now.segs) (sym c.last_pick.ensures) c.requires.seg

pub add_terms-requires-3-clause-seg : goal.add_terms-requires-3-clause-seg
add_terms-requires-3-clause-seg c = subst (λ (q : Pick). q.spot.seg.0 < length c.args.asked.now.problem.now.segs) (sym c.left_pick.ensures) c.requires.seg

pub returns-then-placing : goal.returns-then-placing
returns-then-placing c =
    let segs : List (List LineId) = c.args.asked.now.problem.now.segs in
    let placed : List (List LineId) = c.args.prefix.now.placed in
    let table : List PartTerm = c.args.asked.now.table.now.terms.items in
    none_left c.args.placing segs placed table c.add_terms-2.new.list.items c.if-placing.true
    (two_picked c.args.placing segs placed table c.new-list.result.items c.add_terms.new.list.items c.add_terms-2.new.list.items c.own_pick.result c.last_pick.result
    c.own_pick.ensures c.last_pick.ensures c.new-list.ensures.items c.in_ok-add_terms.ensures c.in_ok-add_terms-2.ensures)

pub returns : goal.returns
returns c =
    let segs : List (List LineId) = c.args.asked.now.problem.now.segs in
    let placed : List (List LineId) = c.args.prefix.now.placed in
    let table : List PartTerm = c.args.asked.now.table.now.terms.items in
    all_picked c.args.placing segs placed table c.add_terms-2.new.list.items c.add_terms-3.new.list.items c.left_pick.result c.left_pick.ensures
    (two_picked c.args.placing segs placed table c.new-list.result.items c.add_terms.new.list.items c.add_terms-2.new.list.items c.own_pick.result c.last_pick.result
    c.own_pick.ensures c.last_pick.ensures c.new-list.ensures.items c.in_ok-add_terms.ensures c.in_ok-add_terms-2.ensures) c.in_ok-add_terms-3.ensures
