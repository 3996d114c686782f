-- What `import` promises, and how many steps it takes.
use Rattle.std.proofs.Common.{◌≡◌, ◌≤◌, ◌+◌, ◌<◌, ℕ, inr, List, [], length, Result, Ok, Err, IfOk, sym, subst}
use Rattle.std.specs.Prelude.{All}
use Rattle.map_base.specs.declared.ids.LineId.{LineId}
use Rattle.map_method.specs.declared.map_settings.MapSettings.{MapSettings}
use Rattle.graph_json.specs.declared.imported.Imported.{Imported}
use Rattle.graph_json.specs.Outcome.{IsComplete}
use Rattle.graph_maps.specs.Keeping.{left_on}
use Rattle.graph_maps.specs.Making.{MapBytes, made_on}
use Rattle.graph_maps.specs.Promises.{IsMadeOn}
use Rattle.graph_maps.specs.Subjects.{AreListed, told_by}
use Rattle.map_commands.specs.MapWorks.{map_outputs}
use Rattle.command_run.specs.declared.output.Output.{Output}
use Rattle.command_paths.specs.Paths.{MapPaths}
use Rattle.command_inputs.specs.Inputs.{InputPaths, input_at}
use Rattle.run_status.specs.declared.refusal.Refusal.{Refusal}
use Rattle.run_status.specs.Following.{Follows}
use Rattle.run_status.proofs.FollowLemmas.{Told}
use Rattle.map_commands.specs.ImportWorks.{read_work, AreOfImported, SearchesImported}

-- each line of a graph that was read has a number
pub each_listed : (read : Imported) → IsComplete read → AreListed read.importance read.graph
each_listed read complete =
    subst (λ (n : ℕ). All (All (λ (l : LineId). l.0 < n)) read.graph.lines) (sym complete.importance_each) complete.lines

-- that these settings and this graph are read
abbrev AreRead : Told → InputPaths → Type 0 → MapSettings × Imported → Type 0
AreRead told inputs rose both =
    Follows told (input_at inputs) rose (λ (b : MapSettings × Imported). b) (read_work inputs.chosen) (Ok both)

-- a map that was made of a graph that was read
pub are_of_imported : (told : Told) (inputs : InputPaths) (rose : Type 0) (paths : MapPaths)
    (both : MapSettings × Imported) (result : Result (List Output) Refusal)
    → AreRead told inputs rose both
    → IfOk result (λ outputs. (made : MapBytes)
    × (made_on (told_by both.1.names both.1.importance) both.0.settings both.0.method both.1.graph ≡ Ok made)
    × IsMadeOn (told_by both.1.names both.1.importance) both.0.settings both.0.method.claim both.1.graph made
    × (outputs ≡ map_outputs paths made))
    → IfOk result (AreOfImported told inputs paths)
are_of_imported told inputs rose paths both (Err why) reads made = tt
are_of_imported told inputs rose paths both (Ok outputs) reads made =
    record { both = both; reads = reads.1; made = made.0; defined = made.1; promised = made.2; are = made.3 }

pub searches : (told : Told) (inputs : InputPaths) (rose : Type 0) (both : MapSettings × Imported) (before now : ℕ)
    → AreRead told inputs rose both
    → now ≤ before + left_on [] both.1.importance both.0.settings both.0.method both.1.graph
    → SearchesImported told inputs before now
searches told inputs rose both before now reads few = inr (both, reads.1, few)
