-- What the command `import` does, as a piece of work, and what it promises.
use Rattle.std.specs.Prelude.{◌≡◌, ◌≤◌, ◌⊎◌, ℕ, ◌+◌, List, [], Option, None, Some, Result, Ok, Err}
use Rattle.map_method.specs.declared.map_settings.MapSettings.{MapSettings}
use Rattle.graph_json.specs.declared.imported.Imported.{Imported}
use Rattle.graph_json.specs.Outcome.{graph_outcome}
use Rattle.graph_maps.specs.Making.{MapBytes, made_on}
use Rattle.graph_maps.specs.Keeping.{left_on}
use Rattle.graph_maps.specs.Promises.{IsMadeOn}
use Rattle.graph_maps.specs.Subjects.{told_by}
use Rattle.map_commands.specs.MapWorks.{map_outputs}
use Rattle.map_faults.specs.declared.fault.MakeFault.{MakeFault}
use Rattle.command_run.specs.declared.output.Output.{Output}
use Rattle.command_run.specs.Told.{IsRun}
use Rattle.command_run.specs.Work.{Work, ends, ◌>>=◌}
use Rattle.command_paths.specs.Paths.{Chosen, MapPaths}
use Rattle.command_inputs.specs.Inputs.{InputPaths, input_at}
use Rattle.command_inputs.specs.Loading.{file_work, settings_by}
use Rattle.run_status.specs.declared.input.Input.{Input}
use Rattle.run_status.specs.declared.input.Input.TheVariants as input
use Rattle.run_status.specs.declared.graph_why.GraphWhy.TheVariants as why
use Rattle.run_status.specs.declared.refusal.Refusal.{Refusal}
use Rattle.run_status.specs.declared.refusal.Refusal.TheVariants as refused
use Rattle.run_status.specs.Refusals.{graph_given, of_make}

-- the graph that a graph file gives, or why it gives none; it has to be there
abbrev pub graph_in : Option (List ℕ) → Result Imported Refusal
graph_in None = Err (refused.BadGraph why.Missing)
graph_in (Some bytes) = graph_given (graph_outcome bytes)

-- a graph file is read
abbrev pub graph_work : Work Input Refusal Imported
graph_work = do
  file ← file_work input.Graph
  ends (graph_in file)

-- these settings, and the graph of a file
abbrev pub with_graph : MapSettings → Work Input Refusal (MapSettings × Imported)
with_graph all = do
  read ← graph_work
  ends (Ok (all, read))

-- the settings, and the graph of a file
abbrev pub read_work : Chosen → Work Input Refusal (MapSettings × Imported)
read_work chosen = do
  all ← settings_by chosen.defaults chosen.sets chosen.settings
  with_graph all

-- the files of a map that is made, or why there is none
abbrev pub map_at : MapPaths → Result MapBytes MakeFault → Result (List Output) Refusal
map_at paths (Ok made) = Ok (map_outputs paths made)
map_at paths (Err fault) = Err (of_make fault)

-- the map of a graph that was read, by these settings
abbrev pub imported_at : MapPaths → MapSettings × Imported → Result (List Output) Refusal
imported_at paths both =
    map_at paths (made_on (told_by both.1.names both.1.importance) both.0.settings both.0.method both.1.graph)

-- `import`: the settings come first, then the graph file, and the map of it is made, and its certificate
abbrev pub import_work : Chosen → MapPaths → Work Input Refusal (List Output)
import_work chosen paths = do
  both ← read_work chosen
  ends (imported_at paths both)

-- The outputs are the map and the certificate that are defined for the graph that was read: the map shows it in a legal
-- drawing, and no line orders cost less than the bound that the certificate proves.
pub record AreOfImported (told : Option (List (List ℕ × List ℕ))) (inputs : InputPaths) (paths : MapPaths) (outputs : List Output) : Type 0 where
  pub both : MapSettings × Imported
  pub reads : IsRun refused.ReadFault told (input_at inputs) (read_work inputs.chosen) (Ok both)
  pub made : MapBytes
  pub defined : made_on (told_by both.1.names both.1.importance) both.0.settings both.0.method both.1.graph ≡ Ok made
  pub promised : IsMadeOn (told_by both.1.names both.1.importance) both.0.settings both.0.method.claim both.1.graph made
  pub are : outputs ≡ map_outputs paths made

-- how far the counter of steps rises: not at all where nothing is read
abbrev pub SearchesImported : Option (List (List ℕ × List ℕ)) → InputPaths → ℕ → ℕ → Type 0
SearchesImported told inputs before now =
    (now ≡ before) ⊎ ((both : MapSettings × Imported) × IsRun refused.ReadFault told (input_at inputs) (read_work inputs.chosen) (Ok both)
    × (now ≤ before + left_on [] both.1.importance both.0.settings both.0.method both.1.graph))
