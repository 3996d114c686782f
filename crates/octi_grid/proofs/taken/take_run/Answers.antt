use Rattle.std.proofs.Common.{◌≡◌, ◌+◌, true, false, replicate, sym, ap, ◌∙◌, subst, arith}
use Rattle.octi_grid.specs.declared.point.GridPoint.{GridPoint}
use Rattle.octi_grid.specs.Ways.{after, step_from, IsDoubled}
use Rattle.octi_grid.proofs.WayLemmas.{doubled_on_run}
use Rattle.octi_grid.proofs.TakingLemmas.{after_more, run_stops, run_takes}
use Rattle.octi_grid.proofs.taken.take_run.Goals as goal

pub step-at-requires : goal.step-at-requires
step-at-requires c = record { across = omega (arith, c.loop.invariant.within.across); along = omega (arith, c.loop.invariant.within.along) }

pub insert-requires : goal.insert-requires
insert-requires c =
    let next : c.step-at.result ≡ after c.args.start (replicate (c.loop.counter + 1) c.args.dir) =
    c.step-at.ensures ∙ ap (λ (p : GridPoint). step_from p c.args.dir) c.loop.invariant.at ∙ sym (after_more c.args.start c.loop.counter c.args.dir) in
    subst IsDoubled (sym next) (doubled_on_run c.args.start (c.loop.counter + 1) c.args.count c.args.dir (omega (arith, c.loop-test.true)) c.requires.start c.requires.end)

pub returns-then-not-branch : goal.returns-then-not-branch
returns-then-not-branch c =
    let here : c.step-at.result ≡ step_from (after c.args.start (replicate c.loop.counter c.args.dir)) c.args.dir =
    c.step-at.ensures ∙ ap (λ (p : GridPoint). step_from p c.args.dir) c.loop.invariant.at in
    run_stops c.args.points.now c.insert.new.self c.args.start c.loop.counter c.args.count c.args.dir c.loop-test.true
    (run_takes c.args.points.now c.loop.points c.insert.new.self c.args.start c.step-at.result c.loop.counter c.args.dir false c.loop.invariant.taken here
    (sym c.if-not-branch.true ∙ c.in_ok-insert.ensures.added) c.in_ok-insert.ensures.holds)

pub loop-preserved : goal.loop-preserved
loop-preserved c =
    let here : c.step-at.result ≡ step_from (after c.args.start (replicate c.loop.counter c.args.dir)) c.args.dir =
    c.step-at.ensures ∙ ap (λ (p : GridPoint). step_from p c.args.dir) c.loop.invariant.at in
    let next : c.step-at.result ≡ after c.args.start (replicate (c.loop.counter + 1) c.args.dir) = here ∙ sym (after_more c.args.start c.loop.counter c.args.dir) in
    record {
      at = next;
      within = subst IsDoubled (sym next) (doubled_on_run c.args.start (c.loop.counter + 1) c.args.count c.args.dir (omega (arith, c.loop-test.true)) c.requires.start c.requires.end);
      taken = run_takes c.args.points.now c.loop.points c.insert.new.self c.args.start c.step-at.result c.loop.counter c.args.dir true c.loop.invariant.taken here
          (sym c.if-not-branch.false ∙ c.in_ok-insert.ensures.added) c.in_ok-insert.ensures.holds;
    }
