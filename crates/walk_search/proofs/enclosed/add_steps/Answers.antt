use Rattle.std.proofs.Common.{◌≡◌, subst, true, ◌<◌, arith}
use Rattle.octi_grid.specs.declared.dir.Dir.{Dir}
use Rattle.octi_grid.specs.Ways.{step_from}
use Rattle.octi_grid.specs.Legal.{is_among}
use Rattle.walk_search.specs.Asking.{question}
use Rattle.walk_search.specs.Enclosed.{leads_on}
use Rattle.walk_search.proofs.Enclosing.{longer_both, longer_same, steps_more}
use Rattle.walk_search.proofs.enclosed.add_steps.Goals as goal

pub loop-n-init : goal.loop-n-init
loop-n-init c = record {
  longer = longer_same c.args.points.now.items;
  inside = c.requires.inside;
  steps = λ n below. let none : n < 0 = below in absurd (omega arith);
}

pub loop-n-preserved : goal.loop-n-preserved
loop-n-preserved c =
    let q = question c.args.asked.now in
    record {
      longer = longer_both c.args.points.now.items c.loop-n.points.items c.add_step.new.points.items c.loop-n.invariant.longer c.in_ok-add_step.ensures.longer;
      inside = c.in_ok-add_step.ensures.inside;
      steps =
          steps_more q c.loop-n.points.items c.add_step.new.points.items c.args.p c.loop-n.n c.in_ok-add_step.ensures.longer c.loop-n.invariant.steps
          (subst (λ (d : Dir). leads_on q c.args.p d ≡ true → is_among c.add_step.new.points.items (step_from c.args.p d) ≡ true) c.direction.ensures c.in_ok-add_step.ensures.step);
    }
