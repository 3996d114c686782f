use Rattle.std.proofs.Common.{◌∙◌}
use Rattle.feed_courses.proofs.RunLemmas.{run_goes_on_in, run_nearer_in}
use Rattle.feed_courses.proofs.apart.Apart.first_free.Goals as goal

pub loop-next-smaller : goal.loop-next-smaller
loop-next-smaller c =
    run_nearer_in c.args.self.now c.loop-next.self c.lead_on.new.self c.args.point c.loop-next.free c.in-Some.next c.loop-next.invariant.same c.in_ok-lead_on.ensures.same c.loop-next.invariant.run c.in-Some.ensures

pub loop-next-preserved : goal.loop-next-preserved
loop-next-preserved c = record {
  same = c.in_ok-lead_on.ensures.same ∙ c.loop-next.invariant.same;
  run = run_goes_on_in c.args.self.now c.loop-next.self c.args.point c.loop-next.free c.in-Some.next c.loop-next.invariant.same c.loop-next.invariant.run c.in-Some.ensures;
}
