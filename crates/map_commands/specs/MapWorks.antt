-- What the commands do that make and check a map, as pieces of work. One block a command.
use Rattle.std.specs.Prelude.{ℕ, ◌==◌, true, false, List, [], ◌∷◌, ◌++◌, codes, if◌then◌else◌, Option, None, Some, Result, Ok, Err}
use Rattle.std.specs.Fmt.{decimal}
use Rattle.map_base.specs.declared.limit.Limit.{Limit}
use Rattle.graph_core.specs.declared.parts.GraphParts.{GraphParts}
use Rattle.line_graph.specs.Outcome.{graph_outcome}
use Rattle.map_faults.specs.declared.fault.MakeFault.{MakeFault}
use Rattle.map_faults.specs.declared.fault.CheckFault.{CheckFault}
use Rattle.graph_maps.specs.declared.checked.Proved.{Proved}
use Rattle.graph_maps.specs.Making.{MapBytes}
use Rattle.map_engine.specs.Making.{make_outcome}
use Rattle.graph_maps.specs.Readings.{certificate_in}
use Rattle.graph_maps.specs.Checking.{PlainChecked, pictured}
use Rattle.map_engine.specs.Checking.{checked_text}
use Rattle.map_engine.specs.Postering.{poster_outcome, postered_items}
use Rattle.files_door.specs.declared.target.Target.TheVariants.{Path}
use Rattle.command_run.specs.declared.output.Output.{Output}
use Rattle.command_run.specs.Work.{Work, ends, ◌>>=◌}
use Rattle.map_page.specs.Pages.{page_bytes}
use Rattle.command_paths.specs.Paths.{Chosen, MapPaths, NewPaths}
use Rattle.run_status.specs.declared.input.Input.{Input}
use Rattle.run_status.specs.declared.input.Input.TheVariants as input
use Rattle.run_status.specs.declared.item.Item.TheVariants as item
use Rattle.run_status.specs.declared.refusal.Refusal.{Refusal}
use Rattle.run_status.specs.declared.refusal.Refusal.TheVariants as refused
use Rattle.run_status.specs.Refusals.{of_make, of_check}
use Rattle.run_status.specs.Outputs.{said}
use Rattle.command_inputs.specs.declared.loaded.Loaded.{Loaded}
use Rattle.command_inputs.specs.Loading.{file_work, load_work}

-- a map and its certificate go to their files, the map first
abbrev pub map_outputs : MapPaths → MapBytes → List Output
map_outputs paths made =
    record { to = Path paths.picture; bytes = made.svg } ∷ record { to = Path paths.certificate; bytes = made.certificate } ∷ []

-- the poster of what is made, by its certificate; what is made always has one
abbrev pub poster_due : Loaded → MapBytes → Result (List ℕ) CheckFault
poster_due loaded made = poster_outcome loaded.tables loaded.settings loaded.method.claim (certificate_in made.certificate)

-- the poster by the line graph and a certificate
abbrev pub poster_by : Loaded → GraphParts → List ℕ → Result (List ℕ) CheckFault
poster_by loaded graph certificate = postered_items loaded.tables loaded.settings loaded.method.claim graph (certificate_in certificate)

-- the page of a poster goes to its file, if one is named
abbrev pub page_output : Option (List ℕ) → Result (List ℕ) CheckFault → List Output
page_output None poster = []
page_output (Some path) (Ok poster) = record { to = Path path; bytes = page_bytes poster } ∷ []
page_output (Some path) (Err fault) = []

-- a new map and its certificate go to their files, and then the page of its poster
abbrev pub new_outputs : NewPaths → Result (List ℕ) CheckFault → MapBytes → List Output
new_outputs paths poster made = map_outputs paths.map made ++ page_output paths.page poster

-- what `check` prints of a map that is accepted: that its orders are best, where the bound is what they cost, else both
abbrev pub best_line : ℕ → List ℕ
best_line cost = codes "best " ++ (decimal cost ++ codes "\n")

abbrev pub bound_line : ℕ → ℕ → List ℕ
bound_line cost bound = codes "cost " ++ (decimal cost ++ (codes " bound " ++ (decimal bound ++ codes "\n")))

abbrev pub proved_line : Proved → List ℕ
proved_line proved = if proved.bound == proved.cost then best_line proved.cost else bound_line proved.cost proved.bound

-- the files of a map that is made, or why there is none
abbrev pub made_at : NewPaths → Loaded → Result MapBytes MakeFault → Result (List Output) Refusal
made_at paths loaded (Ok made) = Ok (new_outputs paths (poster_due loaded made) made)
made_at paths loaded (Err fault) = Err (of_make fault)

-- `make`: the map of the feed is made, its certificate, and the page of its poster where one is named
abbrev pub make_work : Chosen → NewPaths → Work Input Refusal (List Output)
make_work chosen paths = do
  loaded ← load_work chosen
  ends (made_at paths loaded (make_outcome loaded.tables loaded.settings loaded.method))

-- what a check gives, or the item that it refuses
abbrev pub checked_as : {A : Type 0} → Result A CheckFault → Result A Refusal
checked_as (Ok value) = Ok value
checked_as (Err fault) = Err (of_check fault)

-- every item of a certificate but the picture; it has to be there
abbrev pub certificate_checked : Loaded → GraphParts → Option (List ℕ) → Result PlainChecked Refusal
certificate_checked loaded parts None = Err (refused.Refuted (item.Missing false))
certificate_checked loaded parts (Some bytes) = checked_as (checked_text loaded.tables loaded.settings loaded.method.claim parts (certificate_in bytes))

-- the map is compared with the picture that is due; it has to be there
abbrev pub picture_checked : PlainChecked → Option (List ℕ) → Result Proved Refusal
picture_checked checked None = Err (refused.Refuted (item.Missing true))
picture_checked checked (Some bytes) = checked_as (pictured bytes (Ok checked))

-- what is proved of a map that is accepted is printed
abbrev pub printed : Result Proved Refusal → Result (List Output) Refusal
printed (Ok proved) = Ok (said (proved_line proved))
printed (Err why) = Err why

-- the certificate is read, and checked by the line graph
abbrev pub certificate_work : Loaded → GraphParts → Work Input Refusal PlainChecked
certificate_work loaded parts = do
  file ← file_work input.Certificate
  ends (certificate_checked loaded parts file)

-- the map is read, and compared
abbrev pub picture_work : PlainChecked → Work Input Refusal (List Output)
picture_work checked = do
  file ← file_work input.Picture
  ends (printed (picture_checked checked file))

-- the line graph, or the limit that is met first
abbrev pub built : Result GraphParts Limit → Result GraphParts Refusal
built (Ok parts) = Ok parts
built (Err limit) = Err (refused.Limit limit)

-- `check`: the line graph of the feed comes first, then the certificate, and last the map
abbrev pub check_work : Chosen → Work Input Refusal (List Output)
check_work chosen = do
  loaded ← load_work chosen
  parts ← ends (built (graph_outcome loaded.settings.near loaded.tables))
  checked ← certificate_work loaded parts
  picture_work checked
