use Rattle.std.proofs.Common.{subst, List}
use Rattle.way_network.specs.declared.edge_use.EdgeUse.{EdgeUse}
use Rattle.way_network.specs.Uses.{IsRowOf}
use Rattle.way_network.proofs.TableLemmas.{row_more, rising_more}
use Rattle.way_network.proofs.edge_table.edge_table.Goals as goal

pub loop-p-preserved : goal.loop-p-preserved
loop-p-preserved c =
    let row_of : IsRowOf c.in_ok-uses.uses.items c.loop-p.p c.in_ok-row_of.field-0 = subst (λ (uses : List EdgeUse). IsRowOf uses c.loop-p.p c.in_ok-row_of.field-0) c.deref.ensures.value c.in_ok-row_of.ensures in
    record {
      rows = row_more (record { stations = 0; points = c.args.points; lines = c.args.lines; ways = c.args.ways.now }) c.requires.known c.requires.known_lines c.in_ok-uses.uses.items c.in_ok-uses.ensures c.loop-p.p
          c.loop-p.rows.items c.push.new.self.items c.in_ok-row_of.field-0 c.loop-p.invariant.rows row_of c.in_ok-push.ensures.items;
      rising = rising_more c.loop-p.rows.items c.push.new.self.items c.in_ok-row_of.field-0 c.loop-p.invariant.rising row_of.neighbours.rises c.in_ok-push.ensures.items;
    }
