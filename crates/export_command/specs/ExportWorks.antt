-- What the command `export` does, as a piece of work.
use Rattle.std.specs.Prelude.{◌≡◌, ℕ, List, [], ◌∷◌, Option, Result, Ok, Err}
use Rattle.map_base.specs.declared.limit.Limit.{Limit}
use Rattle.files_door.specs.declared.target.Target.TheVariants.{Path}
use Rattle.graph_core.specs.declared.parts.GraphParts.{GraphParts}
use Rattle.line_graph.specs.Outcome.{graph_outcome}
use Rattle.map_engine.specs.Tables.{names_by, importance_by}
use Rattle.graph_json.specs.Written.{graph_text}
use Rattle.command_run.specs.declared.output.Output.{Output}
use Rattle.command_run.specs.Work.{Work, ends, ◌>>=◌}
use Rattle.command_paths.specs.Paths.{Chosen}
use Rattle.command_inputs.specs.declared.loaded.Loaded.{Loaded}
use Rattle.command_inputs.specs.Inputs.{InputPaths}
use Rattle.command_inputs.specs.Loading.{load_work, Loads}
use Rattle.run_status.specs.declared.input.Input.{Input}
use Rattle.run_status.specs.declared.refusal.Refusal.{Refusal}
use Rattle.run_status.specs.declared.refusal.Refusal.TheVariants as refused
use Rattle.export_command.specs.Exchanged.{IsExported}

-- a text goes to its file
abbrev pub file_outputs : List ℕ → List ℕ → List Output
file_outputs path text = record { to = Path path; bytes = text } ∷ []

-- the text of a line graph, with the names and the importance of what is loaded
abbrev pub exported_text : Loaded → GraphParts → List ℕ
exported_text loaded graph = graph_text graph (names_by loaded.tables) (importance_by loaded.tables loaded.settings)

-- the line graph to its file, or the limit that is met first
abbrev pub exported : Loaded → List ℕ → Result GraphParts Limit → Result (List Output) Refusal
exported loaded out (Ok parts) = Ok (file_outputs out (exported_text loaded parts))
exported loaded out (Err limit) = Err (refused.Limit limit)

-- `export`: the line graph of the feed is written to its file
abbrev pub export_work : Chosen → List ℕ → Work Input Refusal (List Output)
export_work chosen out = do
  loaded ← load_work chosen
  ends (exported loaded out (graph_outcome loaded.settings.near loaded.tables))

-- a text goes to its file, of which the map is made that is made of what is loaded
pub record WritesGraph (loaded : Loaded) (out : List ℕ) (outputs : List Output) : Type 0 where
  pub text : List ℕ
  pub exported : IsExported loaded.tables loaded.settings text
  pub are : outputs ≡ file_outputs out text

-- what `export` promises of its output, in the words of the feed
pub record AreOfExport (told : Option (List (List ℕ × List ℕ))) (inputs : InputPaths) (out : List ℕ) (outputs : List Output) : Type 0 where
  pub loaded : Loaded
  pub loads : Loads told inputs loaded
  pub writes : WritesGraph loaded out outputs
