-- What `graph` promises, by what was loaded.
use Rattle.std.proofs.Common.{List, Result, Ok, Err, IfOk}
use Rattle.command_run.specs.declared.output.Output.{Output}
use Rattle.run_status.specs.declared.refusal.Refusal.{Refusal}
use Rattle.run_status.specs.Following.{Follows}
use Rattle.run_status.proofs.FollowLemmas.{Told}
use Rattle.command_inputs.specs.declared.loaded.Loaded.{Loaded}
use Rattle.command_inputs.specs.Inputs.{InputPaths, input_at}
use Rattle.command_inputs.specs.Loading.{load_work}
use Rattle.table_commands.specs.TableWorks.{AreOfGraph, TellsGraph}

pub are_of_graph : (told : Told) (inputs : InputPaths) (rose : Type 0) (loaded : Loaded) (result : Result (List Output) Refusal)
    → Follows told (input_at inputs) rose (λ (l : Loaded). l) (load_work inputs.chosen) (Ok loaded) → IfOk result (TellsGraph loaded)
    → IfOk result (AreOfGraph told inputs)
are_of_graph told inputs rose loaded (Err why) loads tells = tt
are_of_graph told inputs rose loaded (Ok outputs) loads tells = record { loaded = loaded; loads = loads.1; tells = tells }
