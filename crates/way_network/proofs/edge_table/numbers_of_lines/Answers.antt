use Rattle.std.proofs.Common.{arith, eqb}
use Rattle.std.proofs.lemmas.List.Filters.{dedup_is}
use Rattle.way_network.proofs.UseOrder.{lines_of_edge_are}
use Rattle.way_network.proofs.edge_table.numbers_of_lines.Goals as goal

pub returns : goal.returns
returns c =
    lines_of_edge_are c.args.uses.now c.uses_over-u-items.result.now c.args.p c.args.q c.loop-u.u-index c.loop-u.numbers.items c.dedup.new.self.items c.requires c.uses_over-u-items.ensures (omega (arith, c.loop-u-test.false)) c.loop-u.invariant
    (dedup_is eqb c.loop-u.numbers.items c.dedup.new.self.items c.dedup.ensures.filtered)
