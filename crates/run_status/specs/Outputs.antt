-- Outputs of commands.
use Rattle.std.specs.Prelude.{ℕ, List, [], ◌∷◌}
use Rattle.files_door.specs.declared.target.Target.TheVariants.{Said}
use Rattle.command_run.specs.declared.output.Output.{Output}

-- a text that goes to standard output
abbrev pub said : List ℕ → List Output
said text = record { to = Said; bytes = text } ∷ []
