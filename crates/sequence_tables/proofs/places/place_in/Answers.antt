use Rattle.std.proofs.Common.{◌<◌, ◌≤◌, length, refl, arith}
use Rattle.sequence_tables.proofs.PlaceRunLemmas.{run_passed, in_this_run, within_last, in_last_run}
use Rattle.sequence_tables.proofs.places.place_in.Goals as goal

pub returns-then-left-run-clause-place : goal.returns-then-left-run-clause-place
returns-then-left-run-clause-place c = in_this_run c.args.runs.now c.args.last c.loop-k.k c.args.index c.loop-k.left _ c.loop-k-test.true c.loop-k.invariant c.if-left-run.true

pub loop-k-preserved : goal.loop-k-preserved
loop-k-preserved c = run_passed c.args.runs.now c.loop-k.k c.args.index c.loop-k.left _ _ c.loop-k-test.true c.loop-k.invariant c.if-left-run.false refl

pub overflow_add-result-2 : goal.overflow_add-result-2
overflow_add-result-2 c =
    let all : length c.args.runs.now ≤ c.loop-k.k = omega arith in
    let low : c.loop-k.left < c.args.last.count = within_last c.args.runs.now c.args.last c.loop-k.k c.args.index c.loop-k.left all c.loop-k.invariant c.requires in
    omega (arith, low)

pub returns-clause-place : goal.returns-clause-place
returns-clause-place c =
    let all : length c.args.runs.now ≤ c.loop-k.k = omega arith in
    in_last_run c.args.runs.now c.args.last c.loop-k.k c.args.index c.loop-k.left all c.loop-k.invariant c.requires

pub returns-clause-low : goal.returns-clause-low
returns-clause-low c =
    let all : length c.args.runs.now ≤ c.loop-k.k = omega arith in
    let low : c.loop-k.left < c.args.last.count = within_last c.args.runs.now c.args.last c.loop-k.k c.args.index c.loop-k.left all c.loop-k.invariant c.requires in
    omega (arith, low)
