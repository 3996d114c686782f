use Rattle.std.proofs.Common.{arith}
use Rattle.feed_courses.proofs.PlaceTables.{table_ends}
use Rattle.feed_courses.proofs.used.place_table.Goals as goal

pub returns : goal.returns
returns c = record {
  count_is = c.loop-place.invariant.count;
  places = λ n. table_ends c.loop-place.table.items c.args.numbers.now c.loop-place.place n (omega arith) (c.loop-place.invariant.places n);
}
