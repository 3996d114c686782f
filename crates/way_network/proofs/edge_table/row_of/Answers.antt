use Rattle.std.proofs.Common.{arith, ◌∙◌, ap, take}
use Rattle.way_network.proofs.TableLemmas.{edge_more, edge_lines_more, row_whole}
use Rattle.way_network.proofs.edge_table.row_of.Goals as goal

pub loop-q-preserved : goal.loop-q-preserved
loop-q-preserved c = record {
  neighbours = edge_more c.deref-q-items.result.now c.loop-q.q-index c.loop-q.row.items c.push.new.self.items c.in_ok-edge_over.field-0 _ (omega (arith, c.loop-q-test.true)) c.loop-q.invariant.neighbours
      c.in_ok-edge_over.ensures.to c.in_ok-push.ensures.items;
  lines = edge_lines_more c.args.uses.now c.args.p _ c.loop-q.row.items c.push.new.self.items c.in_ok-edge_over.field-0 c.loop-q.invariant.lines c.in_ok-edge_over.ensures.to c.in_ok-edge_over.ensures.lines
      c.in_ok-push.ensures.items;
}

pub returns : goal.returns
returns c =
    row_whole c.args.uses.now c.args.p c.in_ok-others.others.items c.loop-q.q-index c.loop-q.row.items c.of.result c.in_ok-others.ensures
    (c.loop-q.invariant.neighbours ∙ ap (take c.loop-q.q-index) c.deref-q-items.ensures.value)
    (omega (arith, c.loop-q-test.false, c.deref-q-items.ensures.len)) c.loop-q.invariant.lines c.of.ensures
