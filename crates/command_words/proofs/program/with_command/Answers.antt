use Rattle.std.proofs.lemmas.Result.{IfOk-weaker}
use Rattle.std.proofs.Common.{◌≡◌, Result, IfOk, subst}
use Rattle.std.specs.declared.alloc.AllocError.{AllocError}
use Rattle.clap.specs.declared.builder.command.Command.{Command}
use Rattle.clap.specs.Simple.{app_of}
use Rattle.command_words.specs.Program.{IsLocal}
use Rattle.command_words.proofs.Building.{added}
use Rattle.command_words.proofs.program.with_command.Goals as goal

pub returns-in-Ok : goal.returns-in-Ok
returns-in-Ok c = λ before more is_before is_more is_local.
    let local = subst (λ (r : Result Command AllocError). IfOk r IsLocal) c.in-Ok.is is_local in
    let shape = subst (λ (r : Result Command AllocError). IfOk r (λ (sub : Command). app_of sub ≡ more)) c.in-Ok.is is_more in
    IfOk-weaker c.subcommand.result _ _ (λ program adds. added _ _ program before more adds local is_before shape) c.subcommand.ensures
