use Rattle.std.proofs.Common.{◌∙◌, sym, arith}
use Rattle.order_check.specs.Slots.{slot_on}
use Rattle.prefix_bounds.proofs.SoFar.{met_here, met_later}
use Rattle.prefix_bounds.proofs.slots.is_met_before.Goals as goal

pub returns-then-meets_at : goal.returns-then-meets_at
returns-then-meets_at c =
    sym (met_here c.args.problem.now.terms c.args.part.now (slot_on c.args.place.seg c.args.place.pair) c.loop-earlier.earlier c.args.number c.loop-earlier-test.true c.requires
    (sym c.meets_at.ensures ∙ c.if-meets_at.true))

pub loop-earlier-preserved : goal.loop-earlier-preserved
loop-earlier-preserved c =
    met_later c.args.problem.now.terms c.args.part.now (slot_on c.args.place.seg c.args.place.pair) c.loop-earlier.earlier
    (omega (arith, c.loop-earlier-test.true, c.requires)) c.loop-earlier.invariant (sym c.meets_at.ensures ∙ c.if-meets_at.false)
