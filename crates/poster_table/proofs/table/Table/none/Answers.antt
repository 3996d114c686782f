use Rattle.std.proofs.Common.{arith}
use Rattle.poster_table.proofs.Tabling.{table_none}
use Rattle.poster_table.proofs.table.Table.none.Goals as goal

pub returns-clause-table : goal.returns-clause-table
returns-clause-table c = table_none _ (omega (arith, c.in_ok-empty_buckets.ensures.count)) c.new.ensures.items c.new-2.ensures.items c.in_ok-empty_buckets.ensures.none
