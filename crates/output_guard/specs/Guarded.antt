-- What a command writes and reads by path, and which two of these files are one.
use Rattle.std.specs.Prelude.{ℕ, Bool, true, false, List, [], ◌∷◌, ◌++◌, Contains, Option, None, Some, is_some, option_map, if◌then◌else◌}
use Rattle.std.specs.List.{find}
use Rattle.std.specs.Option.{option_or}
use Rattle.table_rows.specs.declared.why.Table.TheVariants.{Routes, Stops, Trips, Shapes, StopTimes}
use Rattle.command_paths.specs.Paths.{NewPaths, new_paths_by}
use Rattle.command_words.specs.Asked.{Asked, stations, graph, make, improve, check, depict, session, trial, page, export, imported}
use Rattle.run_status.specs.declared.input.Input.{Input}
use Rattle.run_status.specs.declared.input.Input.TheVariants as input
use Rattle.asked_inputs.specs.Inputs.{input_path, inputs_of}
use Rattle.output_guard.specs.declared.clash.Clash.{Clash}
use Rattle.output_guard.specs.declared.outputs.Outputs.{Outputs}
use Rattle.output_guard.specs.declared.outputs.Outputs.TheVariants as output

-- the file of a page, if one is named
abbrev pub page_file : Option (List ℕ) → List (List ℕ)
page_file None = []
page_file (Some path) = path ∷ []

-- the files of a map, of its certificate and of its page
abbrev pub files_of : NewPaths → List (List ℕ)
files_of paths = paths.map.picture ∷ paths.map.certificate ∷ page_file paths.page

-- the files that the program's value stands for
abbrev pub outputs_by : Outputs → List (List ℕ)
outputs_by output.Nothing = []
outputs_by (output.File path) = path.now ∷ []
outputs_by (output.Map files) = files_of (new_paths_by files)

-- what each command writes, in the order in which it writes
abbrev pub outputs_of : Asked → List (List ℕ)
outputs_of (stations feed) = []
outputs_of (graph feed chosen) = []
outputs_of (export feed out chosen) = out ∷ []
outputs_of (imported json paths chosen) = paths.picture ∷ paths.certificate ∷ []
outputs_of (make feed paths chosen) = files_of paths
outputs_of (improve feed paths moves chosen) = paths.picture ∷ paths.certificate ∷ []
outputs_of (check feed paths chosen) = []
outputs_of (depict kind feed certificate out chosen) = out ∷ []
outputs_of (session feed script out chosen) = out ∷ []
outputs_of (trial number) = []
outputs_of (page picture html) = html ∷ []

-- whether a command reads a feed
abbrev pub has_feed : Asked → Bool
has_feed (imported json paths chosen) = false
has_feed (trial number) = false
has_feed (page picture html) = false
has_feed asked = true

-- whether a command follows a script
abbrev pub has_script : Asked → Bool
has_script (session feed script out chosen) = true
has_script asked = false

-- whether a command reads a graph file
abbrev pub has_graph : Asked → Bool
has_graph (imported json paths chosen) = true
has_graph asked = false

-- whether a command reads a certificate
abbrev pub has_certificate : Asked → Bool
has_certificate (check feed paths chosen) = true
has_certificate (depict kind feed certificate out chosen) = true
has_certificate asked = false

-- whether a command reads a map
abbrev pub has_picture : Asked → Bool
has_picture (check feed paths chosen) = true
has_picture (page picture html) = true
has_picture asked = false

-- whether a command may read an input
abbrev pub is_read : Asked → Input → Bool
is_read asked input.Settings = is_some (inputs_of asked).chosen.settings
is_read asked input.Edits = is_some (inputs_of asked).chosen.edits
is_read asked (input.Table table) = has_feed asked
is_read asked input.Graph = has_graph asked
is_read asked input.Script = has_script asked
is_read asked input.Certificate = has_certificate asked
is_read asked input.Picture = has_picture asked

-- some paths, and behind them that of an input, where the command may read it
abbrev pub with_read : Asked → List (List ℕ) → Input → List (List ℕ)
with_read asked paths input = if is_read asked input then paths ++ input_path asked input ∷ [] else paths

-- some paths, and behind them those of the tables
abbrev pub with_tables : Asked → List (List ℕ) → List (List ℕ)
with_tables asked paths = with_read asked (with_read asked (with_read asked (with_read asked (with_read asked paths
    (input.Table Routes)) (input.Table Stops)) (input.Table Trips)) (input.Table Shapes)) (input.Table StopTimes)

-- the paths of all that a command may read
abbrev pub paths_read : Asked → List (List ℕ)
paths_read asked = with_read asked (with_read asked (with_read asked (with_read asked (with_tables asked (with_read asked (with_read asked [] input.Settings) input.Edits))
    input.Graph) input.Script) input.Certificate) input.Picture

-- an output, and the first of these paths that leads to the same file, if any does
abbrev pub clash_with : (List ℕ → List ℕ → Bool) → List ℕ → List (List ℕ) → Option Clash
clash_with same output paths = option_map (λ other. record { output = output; other = other }) (find (same output) paths)

-- the first output that is one file with something of these paths, or with an output before it
abbrev pub first_clash : (List ℕ → List ℕ → Bool) → List (List ℕ) → List (List ℕ) → Option Clash
first_clash same [] paths = None
first_clash same (output ∷ more) paths = option_or (clash_with same output paths) (first_clash same more (paths ++ output ∷ []))

-- what is written is one of these outputs, and what it is one file with is one of these paths, or of the outputs
abbrev pub IsAmong : List (List ℕ) → List (List ℕ) → Clash → Type 0
IsAmong outputs paths clash = Contains outputs clash.output × Contains (paths ++ outputs) clash.other
