use Rattle.std.proofs.Common.{ap, subst, sym, length}
use Rattle.order_search.specs.Members.{AreMarks}
use Rattle.order_search.proofs.Marks.{numbers_step}
use Rattle.order_search.proofs.part_numbers.numbers_of_part.Goals as goal

pub loop-n-preserved : goal.loop-n-preserved
loop-n-preserved c =
    let marks : AreMarks c.args.part.now (length c.args.problem.now.segs) c.as_slice.result.now =
    subst (AreMarks c.args.part.now (length c.args.problem.now.segs)) (sym c.as_slice.ensures.value)
    (subst (λ n. AreMarks c.args.part.now n c.in_ok-marks.marks.items) (ap length c.segs.ensures.lists) c.in_ok-marks.ensures) in
    numbers_step c.args.problem.now.segs c.args.part.now c.as_slice.result.now c.args.problem.now.terms c.terms-terms.result.now c.loop-n.n _
    c.loop-n.numbers.items c.push_marked.new.numbers.items marks c.terms-terms.ensures.list c.terms-terms.ensures.fits.terms c.loop-n-test.true
    c.loop-n.invariant c.in_ok-push_marked.ensures
