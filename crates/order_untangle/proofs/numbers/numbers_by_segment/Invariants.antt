use Rattle.std.proofs.Common.{◌≡◌, Some, map, length}
use Rattle.order_model.specs.Places.{tables_of}
use Rattle.order_untangle.proofs.FirstListing.{AreListedTo}
use Rattle.order_untangle.proofs.numbers.numbers_by_segment.Given as goal

abbrev pub invariant-loop-number : goal.invariant-loop-number
invariant-loop-number l = record {
  listed : AreListedTo (map Some l.terms) l.number (tables_of l.on.items);
  count : length l.on.items ≡ l.count;
}
