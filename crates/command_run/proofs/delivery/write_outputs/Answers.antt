use Rattle.std.proofs.Common.{arith}
use Rattle.std.proofs.lemmas.Result.{err_from_is_err_and}
use Rattle.command_run.proofs.ActLemmas.{outputs_front, outputs_more}
use Rattle.command_run.proofs.delivery.write_outputs.Goals as goal

pub returns-in_err-write_output-clause-done : goal.returns-in_err-write_output-clause-done
returns-in_err-write_output-clause-done g c =
    let p = err_from_is_err_and c.from_residual.result c.from_residual.ensures.1 in
    let front = c.in_err-write_output.ensures.done in
    rw (p.1) (outputs_front c.args.outputs.now c.loop-output.output-index c.output-item.result front.0
    (g.S.Sinks.written c.args.sinks.now) (g.S.Sinks.written c.loop-output.sinks) (g.S.Sinks.written c.write_output.new.sinks)
    c.output-item.is c.loop-output-test.true front.1 c.loop-output.invariant.0 front.2)

pub loop-output-preserved : goal.loop-output-preserved
loop-output-preserved g c = (
  outputs_more c.args.outputs.now c.loop-output.output-index c.output-item.result
      (g.S.Sinks.written c.args.sinks.now) (g.S.Sinks.written c.loop-output.sinks) (g.S.Sinks.written c.write_output.new.sinks)
      c.output-item.is c.loop-output-test.true c.loop-output.invariant.0 c.in_ok-write_output.ensures.done,
  omega (arith, c.loop-output.invariant.1, c.in_ok-write_output.ensures.cause.later),
)
