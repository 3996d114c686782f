use Rattle.std.proofs.Common.{Some, map, ◌∙◌}
use Rattle.order_model.specs.Places.{tables_of}
use Rattle.order_untangle.proofs.FirstListing.{listed_none, numbers_count, next_listed, last_listed}
use Rattle.order_untangle.proofs.numbers.numbers_by_segment.Goals as goal

pub loop-number-init : goal.loop-number-init
loop-number-init c = record {
  listed = listed_none (map Some c.args.terms.now) c.args.count (tables_of c.in_ok-on.on.items) c.in_ok-on.ensures;
  count = numbers_count c.in_ok-on.on.items c.args.count c.in_ok-on.ensures;
}

pub loop-number-preserved : goal.loop-number-preserved
loop-number-preserved c = record {
  listed =
      next_listed c.args.terms.now c.loop-number.number _ c.args.count c.loop-number.on.items c.push_ends.new.on.items c.loop-number-test.true c.requires.fit
      c.loop-number.invariant.count c.loop-number.invariant.listed c.in_ok-push_ends.ensures.numbers;
  count = c.in_ok-push_ends.ensures.count ∙ c.loop-number.invariant.count;
}

pub returns-clause-listed : goal.returns-clause-listed
returns-clause-listed c =
    last_listed c.args.terms.now c.loop-number.number c.args.count c.loop-number.on.items c.loop-number-test.false c.requires.few c.requires.fit
    c.loop-number.invariant.count c.loop-number.invariant.listed
