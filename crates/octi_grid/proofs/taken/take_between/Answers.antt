use Rattle.std.proofs.Common.{◌≡◌, ◌+◌, ◌++◌, true, false, List, [], get_or, drop, replicate, sym, ap, ◌∙◌, subst, arith}
use Rattle.std.proofs.lemmas.List.{drop_all}
use Rattle.std.specs.List.{AllByRecursion}
use Rattle.octi_grid.specs.declared.point.GridPoint.{GridPoint}
use Rattle.octi_grid.specs.declared.walk.Run.{Run}
use Rattle.octi_grid.specs.Ways.{after, doubled, points_from, IsDoubled, IsWithin}
use Rattle.octi_grid.specs.Runs.{steps_of}
use Rattle.octi_grid.specs.Taking.{half_steps, trail, Takes}
use Rattle.octi_grid.proofs.WayLemmas.{first_of-points, run_short}
use Rattle.octi_grid.proofs.RunLemmas.{no_run, points_of_rest, points_of_run, AreShort-from_within}
use Rattle.octi_grid.proofs.TakingLemmas.{half_run_end, trail-drop, TakesSoFar, IsDoubled-doubled, TakesSoFar-all, TakesSoFar-more, TakesSoFar-stop}
use Rattle.octi_grid.proofs.taken.take_between.Goals as goal

pub half_count-requires-clause-runs : goal.half_count-requires-clause-runs
half_count-requires-clause-runs c = AreShort-from_within c.args.start c.args.runs.now c.requires

pub doubled-requires : goal.doubled-requires
doubled-requires c =
    let here = first_of-points IsWithin c.loop-i.at (steps_of (drop c.loop-i.i c.args.runs.now)) c.loop-i.invariant.within in
    record { across = omega (arith, here.across); along = omega (arith, here.along) }

pub take_run-requires-clause-start : goal.take_run-requires-clause-start
take_run-requires-clause-start c =
    let here = first_of-points IsWithin c.loop-i.at (steps_of (drop c.loop-i.i c.args.runs.now)) c.loop-i.invariant.within in
    subst IsDoubled (sym c.doubled.ensures) (IsDoubled-doubled c.loop-i.at here)

pub take_run-requires-clause-end : goal.take_run-requires-clause-end
take_run-requires-clause-end c =
    let run = get_or c.args.runs.now c.loop-i.i no_run in
    subst (λ (p : GridPoint). IsDoubled (after p (replicate c.half_count.result run.dir))) (sym c.doubled.ensures)
    (half_run_end c.loop-i.at c.args.runs.now c.loop-i.i c.half_count.result c.loop-i-test.true c.half_count.ensures c.loop-i.invariant.within)

pub run_end-at-requires-clause-at : goal.run_end-at-requires-clause-at
run_end-at-requires-clause-at c = first_of-points IsWithin c.loop-i.at (steps_of (drop c.loop-i.i c.args.runs.now)) c.loop-i.invariant.within

pub run_end-at-requires-clause-count : goal.run_end-at-requires-clause-count
run_end-at-requires-clause-count c =
    run_short c.loop-i.at (get_or c.args.runs.now c.loop-i.i no_run).count (get_or c.args.runs.now c.loop-i.i no_run).dir
    (points_of_run c.loop-i.at c.args.runs.now c.loop-i.i c.loop-i-test.true c.loop-i.invariant.within)

pub loop-i-preserved : goal.loop-i-preserved
loop-i-preserved c =
    let run = get_or c.args.runs.now c.loop-i.i no_run in
    let rest = steps_of (drop (c.loop-i.i + 1) c.args.runs.now) in
    let took : Takes c.loop-i.points c.take_run.new.points (trail (doubled c.loop-i.at) (replicate c.half_count.result run.dir)) true =
    subst (λ (p : GridPoint). Takes c.loop-i.points c.take_run.new.points (trail p (replicate c.half_count.result run.dir)) true) c.doubled.ensures
    (subst (λ b. Takes c.loop-i.points c.take_run.new.points (trail c.doubled.result (replicate c.half_count.result run.dir)) b) c.if-not-branch.false c.in_ok-take_run.ensures) in
    record {
      within = subst (λ (p : GridPoint). AllByRecursion IsWithin (points_from p rest)) (sym c.run_end-at.ensures)
          (points_of_rest c.loop-i.at c.args.runs.now c.loop-i.i c.loop-i-test.true c.loop-i.invariant.within);
      taken = TakesSoFar-more c.args.points.now c.loop-i.points c.take_run.new.points
          (trail (doubled c.args.start) (half_steps c.args.runs.now))
          (trail (doubled c.loop-i.at) (half_steps (drop c.loop-i.i c.args.runs.now)))
          (trail (doubled c.loop-i.at) (replicate c.half_count.result run.dir))
          (trail (doubled c.run_end-at.result) (half_steps (drop (c.loop-i.i + 1) c.args.runs.now)))
          c.loop-i.invariant.taken
          (trail-drop c.loop-i.at c.args.runs.now c.loop-i.i c.half_count.result c.loop-i-test.true c.half_count.ensures
          ∙ ap (λ (p : GridPoint). trail (doubled c.loop-i.at) (replicate c.half_count.result run.dir) ++ trail (doubled p) (half_steps (drop (c.loop-i.i + 1) c.args.runs.now))) (sym c.run_end-at.ensures))
          took;
    }

pub returns-then-not-branch : goal.returns-then-not-branch
returns-then-not-branch c =
    let run = get_or c.args.runs.now c.loop-i.i no_run in
    let stopped : Takes c.loop-i.points c.take_run.new.points (trail (doubled c.loop-i.at) (replicate c.half_count.result run.dir)) false =
    subst (λ (p : GridPoint). Takes c.loop-i.points c.take_run.new.points (trail p (replicate c.half_count.result run.dir)) false) c.doubled.ensures
    (subst (λ b. Takes c.loop-i.points c.take_run.new.points (trail c.doubled.result (replicate c.half_count.result run.dir)) b) c.if-not-branch.true c.in_ok-take_run.ensures) in
    TakesSoFar-stop c.args.points.now c.loop-i.points c.take_run.new.points
    (trail (doubled c.args.start) (half_steps c.args.runs.now))
    (trail (doubled c.loop-i.at) (half_steps (drop c.loop-i.i c.args.runs.now)))
    (trail (doubled c.loop-i.at) (replicate c.half_count.result run.dir))
    (trail (doubled (after c.loop-i.at (replicate run.count run.dir))) (half_steps (drop (c.loop-i.i + 1) c.args.runs.now)))
    c.loop-i.invariant.taken
    (trail-drop c.loop-i.at c.args.runs.now c.loop-i.i c.half_count.result c.loop-i-test.true c.half_count.ensures)
    stopped

pub returns : goal.returns
returns c =
    let none : drop c.loop-i.i c.args.runs.now ≡ [] = drop_all c.loop-i.i c.args.runs.now (omega arith) in
    TakesSoFar-all c.args.points.now c.loop-i.points (trail (doubled c.args.start) (half_steps c.args.runs.now))
    (subst (λ (rs : List Run). TakesSoFar c.args.points.now c.loop-i.points (trail (doubled c.args.start) (half_steps c.args.runs.now)) (trail (doubled c.loop-i.at) (half_steps rs))) none c.loop-i.invariant.taken)
