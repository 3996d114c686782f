use Rattle.std.proofs.Common.{Option, sym, subst}
use Rattle.files_door.specs.Fault.{Rose}
use Rattle.command_words.specs.Asked.{Asked}
use Rattle.command_words.specs.Words.{asked_in}
use Rattle.map_run.specs.Ending.{Ends}
use Rattle.map_run.specs.Promises.{TakesSteps}
use Rattle.map_run.proofs.EndingLemmas.{no_steps, unread_ends}
use Rattle.map_run.proofs.running.ended_run.Goals as goal

pub returns-in-Ok-clause-ends : goal.returns-in-Ok-clause-ends
returns-in-Ok-clause-ends g c =
    subst (λ (a : Option Asked). Ends a (g.F.Files.told c.args.files.now) (Rose (g.F.Files.faults c.args.files.now) (g.F.Files.faults c.run_command.new.files))
    (Rose (g.S.Sinks.faults c.args.sinks.now) (g.S.Sinks.faults c.run_command.new.sinks)) (g.S.Sinks.written c.args.sinks.now) (g.S.Sinks.written c.run_command.new.sinks) c.run_command.result)
    (sym c.in-Ok.ensures) c.run_command.ensures.ends

pub returns-in-Ok-clause-steps : goal.returns-in-Ok-clause-steps
returns-in-Ok-clause-steps g c =
    subst (λ (a : Option Asked). TakesSteps (g.F.Files.told c.args.files.now) a c.args.steps.now c.run_command.new.steps) (sym c.in-Ok.ensures) c.run_command.ensures.steps

pub returns-in-Err-clause-ends : goal.returns-in-Err-clause-ends
returns-in-Err-clause-ends g c =
    unread_ends (g.F.Files.told c.args.files.now) (asked_in c.args.words.now) c.in-Err.fault (Rose (g.F.Files.faults c.args.files.now) (g.F.Files.faults c.args.files.now)) _
    (g.S.Sinks.written c.args.sinks.now) (g.S.Sinks.written c.end_unread.new.sinks) c.end_unread.result c.in-Err.ensures c.end_unread.ensures

pub returns-in-Err-clause-steps : goal.returns-in-Err-clause-steps
returns-in-Err-clause-steps g c = no_steps (g.F.Files.told c.args.files.now) (asked_in c.args.words.now) c.args.steps.now
