-- Commands that are added to the program.
use Rattle.std.proofs.Common.{◌≡◌, ap, ap₂, ◌∙◌}
use Rattle.clap.specs.Built.{AddsSubcommand}
use Rattle.clap.specs.Simple.{App, app_of, with_subcommand}
use Rattle.clap.specs.declared.builder.command.Command.{Command}
use Rattle.command_words.specs.Program.{IsLocal, with_command}

pub added : (old sub new : Command) (program command : App) → AddsSubcommand old sub new → IsLocal sub → app_of old ≡ program → app_of sub ≡ command
    → app_of new ≡ with_command program command
added old sub new program command adds local old_is sub_is = adds.shape local ∙ ap₂ with_subcommand old_is (ap (λ (app : App). app.top) sub_is)
