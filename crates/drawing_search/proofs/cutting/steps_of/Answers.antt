use Rattle.std.proofs.Common.{◌+◌, ◌++◌, List, append-nil, append_assoc, drop, get_or, replicate, sym, ap, ◌∙◌, arith}
use Rattle.octi_grid.specs.declared.walk.Run.{Run}
use Rattle.octi_grid.specs.Runs.{steps_of}
use Rattle.octi_grid.proofs.RunLemmas.{no_run}
use Rattle.drawing_search.proofs.Common.{at_drop_all, drop_more, Dir}
use Rattle.drawing_search.proofs.cutting.steps_of.Goals as goal

pub loop-run-init : goal.loop-run-init
loop-run-init c = ap (λ (ds : List Dir). ds ++ steps_of c.runs-runs.result.now) c.new-steps.ensures.items ∙ c.runs-runs.ensures.steps

pub loop-run-preserved : goal.loop-run-preserved
loop-run-preserved c =
    let rs = c.runs-runs.result.now in
    let run = get_or rs c.loop-run.run-index no_run in
    let rest = steps_of (drop (c.loop-run.run-index + 1) rs) in
    ap (λ (ds : List Dir). ds ++ rest) c.in_ok-push_steps.ensures
    ∙ append_assoc c.loop-run.steps.items (replicate run.count run.dir) rest
    ∙ ap (λ (v : List Run). c.loop-run.steps.items ++ steps_of v) (sym (drop_more rs c.loop-run.run-index no_run c.loop-run-test.true))
    ∙ c.loop-run.invariant

pub returns : goal.returns
returns c =
    sym (append-nil c.loop-run.steps.items)
    ∙ sym (at_drop_all (λ (rs : List Run). c.loop-run.steps.items ++ steps_of rs) c.runs-runs.result.now c.loop-run.run-index (omega arith))
    ∙ c.loop-run.invariant
