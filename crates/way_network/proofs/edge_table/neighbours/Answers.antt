use Rattle.std.proofs.Common.{arith, eqb}
use Rattle.std.proofs.lemmas.List.Filters.{dedup_is}
use Rattle.way_network.proofs.UseOrder.{neighbours_are}
use Rattle.way_network.proofs.edge_table.neighbours.Goals as goal

pub returns : goal.returns
returns c =
    neighbours_are c.args.uses.now c.uses_from-u-items.result.now c.args.p c.loop-u.u-index c.loop-u.numbers.items c.dedup.new.self.items c.requires c.uses_from-u-items.ensures (omega (arith, c.loop-u-test.false)) c.loop-u.invariant
    (dedup_is eqb c.loop-u.numbers.items c.dedup.new.self.items c.dedup.ensures.filtered)
