use Rattle.order_sums.specs.PairTables.{lists_of}
use Rattle.order_sums.proofs.SumLemmas.{small_so_far}
use Rattle.order_sums.proofs.TableLemmas.{empty_is, table_more}
use Rattle.order_sums.proofs.table.pair_table.Goals as goal

pub add_term-requires-clause-sized : goal.add_term-requires-clause-sized
add_term-requires-clause-sized c = c.loop-term.invariant.sized

pub add_term-requires-clause-small : goal.add_term-requires-clause-small
add_term-requires-clause-small c =
    small_so_far c.args.into c.args.from c.args.terms.now c.loop-term.term-index c.args.lines.now (lists_of c.loop-term.table.items) c.requires.light c.requires.few c.loop-term.invariant

pub loop-term-init : goal.loop-term-init
loop-term-init c = empty_is c.args.into c.args.from c.args.terms.now c.args.lines.now (lists_of c.in_ok-table.table.items) c.in_ok-table.ensures

pub loop-term-preserved : goal.loop-term-preserved
loop-term-preserved c =
    table_more c.args.into c.args.from c.args.terms.now c.loop-term.term-index _ c.args.lines.now (lists_of c.loop-term.table.items) (lists_of c.add_term.new.table.items) c.loop-term-test.true
    c.add_term.ensures c.loop-term.invariant
