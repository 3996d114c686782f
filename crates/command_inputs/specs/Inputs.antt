-- Where the inputs of a command lie.
use Rattle.std.specs.Prelude.{ℕ, List, [], unwrap_or}
use Rattle.table_rows.specs.Folder.{path_in}
use Rattle.command_paths.specs.Paths.{Chosen, MapPaths, options_by, paths_by}
use Rattle.run_status.specs.declared.input.Input.{Input}
use Rattle.run_status.specs.declared.input.Input.TheVariants as input
use Rattle.command_inputs.specs.declared.inputs.Inputs.{Inputs}

-- the folder of the feed, what the user chose, a map and its certificate, a script or a graph file; a path is empty where the command has no such
-- input
pub record InputPaths : Type 0 where
  pub feed : List ℕ
  pub chosen : Chosen
  pub files : MapPaths
  pub script : List ℕ

-- the inputs of a command in the program
abbrev pub inputs_by : Inputs → InputPaths
inputs_by inputs = record { feed = inputs.feed.now; chosen = options_by inputs.options; files = paths_by inputs.files; script = inputs.script.now }

-- the path of an input
abbrev pub input_at : InputPaths → Input → List ℕ
input_at inputs input.Settings = unwrap_or inputs.chosen.settings []
input_at inputs input.Edits = unwrap_or inputs.chosen.edits []
input_at inputs (input.Table table) = path_in inputs.feed table
input_at inputs input.Graph = inputs.script
input_at inputs input.Script = inputs.script
input_at inputs input.Certificate = inputs.files.certificate
input_at inputs input.Picture = inputs.files.picture
