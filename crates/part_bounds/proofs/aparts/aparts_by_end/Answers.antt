use Rattle.std.proofs.Common.{length}
use Rattle.part_bounds.specs.Settled.{lists_in}
use Rattle.part_bounds.proofs.ApartLists.{by_ends_next}
use Rattle.part_bounds.proofs.aparts.aparts_by_end.Goals as goal

pub loop-n-preserved : goal.loop-n-preserved
loop-n-preserved c =
    by_ends_next (length c.args.problem.now.segs) c.args.problem.now.terms c.terms-terms.result.now c.args.numbers.now c.loop-n.n-index _ _ (lists_in c.loop-n.lists.items) (lists_in c.add_apart.new.lists.items)
    c.loop-n-test.true c.requires c.terms-terms.ensures.list c.loop-n.invariant c.in_ok-add_apart.ensures
