-- What `export` writes and promises, by what was loaded.
use Rattle.std.proofs.Common.{◌≡◌, ◌∙◌, ap, sym, ℕ, List, Result, Ok, Err, IfOk}
use Rattle.line_graph.specs.Outcome.{graph_outcome}
use Rattle.command_run.specs.declared.output.Output.{Output}
use Rattle.run_status.specs.declared.refusal.Refusal.{Refusal}
use Rattle.run_status.specs.Following.{Follows}
use Rattle.run_status.proofs.FollowLemmas.{Told}
use Rattle.command_inputs.specs.declared.loaded.Loaded.{Loaded}
use Rattle.command_inputs.specs.Inputs.{InputPaths, input_at}
use Rattle.command_inputs.specs.Loading.{load_work}
use Rattle.export_command.specs.ExportWorks.{exported, file_outputs, AreOfExport, WritesGraph}

-- outputs as a result
abbrev outputs_of : List Output → Result (List Output) Refusal
outputs_of outputs = Ok outputs

-- what goes to the file is what is defined
pub written_is : (loaded : Loaded) (out : List ℕ) (outputs : List Output) → WritesGraph loaded out outputs
    → exported loaded out (graph_outcome loaded.settings.near loaded.tables) ≡ Ok outputs
written_is loaded out outputs writes =
    ap (exported loaded out) writes.exported.of_feed
    ∙ ap (λ (t : List ℕ). outputs_of (file_outputs out t)) (sym writes.exported.written)
    ∙ ap outputs_of (sym writes.are)

pub are_of_export : (told : Told) (inputs : InputPaths) (out : List ℕ) (rose : Type 0) (loaded : Loaded) (result : Result (List Output) Refusal)
    → Follows told (input_at inputs) rose (λ (l : Loaded). l) (load_work inputs.chosen) (Ok loaded) → IfOk result (WritesGraph loaded out)
    → IfOk result (AreOfExport told inputs out)
are_of_export told inputs out rose loaded (Err why) loads writes = tt
are_of_export told inputs out rose loaded (Ok outputs) loads writes = record { loaded = loaded; loads = loads.1; writes = writes }
