-- The steps of `labels` and `geo`, one after another.
use Rattle.std.proofs.Common.{◌≡◌, ◌∙◌, ℕ, List, Option, None, Some, Result, Ok, Err, IfOk, IfSome}
use Rattle.graph_core.specs.declared.parts.GraphParts.{GraphParts}
use Rattle.line_graph.specs.Outcome.{graph_outcome}
use Rattle.files_door.specs.Files.{file_at}
use Rattle.command_paths.specs.declared.picture.Picture.{Picture}
use Rattle.command_run.specs.declared.output.Output.{Output}
use Rattle.command_run.specs.Work.{Work, ends, ◌>>=◌}
use Rattle.run_status.specs.declared.input.Input.{Input}
use Rattle.run_status.specs.declared.input.Input.TheVariants as input
use Rattle.run_status.specs.declared.refusal.Refusal.{Refusal}
use Rattle.run_status.specs.Following.{Follows, Gives}
use Rattle.run_status.proofs.FollowLemmas.{Told, IsRefusedAs, follows_refused, follows_then, gives_follows}
use Rattle.command_paths.specs.Paths.{Chosen}
use Rattle.command_inputs.specs.declared.loaded.Loaded.{Loaded}
use Rattle.command_inputs.specs.Inputs.{InputPaths, input_at}
use Rattle.command_inputs.specs.Loading.{load_work}
use Rattle.picture_command.specs.PictureWorks.{built, certificate_work, picture_outputs, picture_work, AreOfPicture, IsPicture, IsPictureAt}

abbrev same_graph : GraphParts → GraphParts
same_graph graph = graph

abbrev same_loaded : Loaded → Loaded
same_loaded loaded = loaded

abbrev pub same_outputs : List Output → List Output
same_outputs outputs = outputs

-- the line graph of what is loaded, as work
abbrev graph_work : Loaded → Work Input Refusal GraphParts
graph_work loaded = ends (built (graph_outcome loaded.settings.near loaded.tables))

-- what comes after loading
abbrev with_loaded : Picture → List ℕ → Loaded → Work Input Refusal (List Output)
with_loaded kind path loaded = graph_work loaded >>= certificate_work kind path loaded

module _ (kind : Picture) (told : Told) (paths : Input → List ℕ) (chosen : Chosen) (path : List ℕ) (rose : Type 0) (result : Result (List Output) Refusal) where
  -- what is loaded is refused
  pub refused_load : (why : Refusal) → IsRefusedAs why result → Follows told paths rose same_loaded (load_work chosen) (Err why)
      → Follows told paths rose same_outputs (picture_work kind chosen path) result
  refused_load why is first = follows_refused told paths rose same_loaded same_outputs (load_work chosen) (with_loaded kind path) why result is first

  module _ (loaded : Loaded) (loads : Follows told paths rose same_loaded (load_work chosen) (Ok loaded)) where
    -- a limit of the line graph
    pub graph_refused : (why : Refusal) → Gives same_graph (Err why) (built (graph_outcome loaded.settings.near loaded.tables)) → IsRefusedAs why result
        → Follows told paths rose same_outputs (picture_work kind chosen path) result
    graph_refused why gives is =
        let second = follows_refused told paths rose same_graph same_outputs (graph_work loaded) (certificate_work kind path loaded) why result is
        (gives_follows told paths rose same_graph (built (graph_outcome loaded.settings.near loaded.tables)) (Err why) gives) in
        follows_then told paths rose rose rose same_loaded same_outputs (load_work chosen) (with_loaded kind path) loaded result (λ r. r) loads second

    -- what follows the line graph
    pub certificate_follows : (graph : GraphParts) (later : Type 0) → (later → rose) → Gives same_graph (Ok graph) (built (graph_outcome loaded.settings.near loaded.tables))
        → Follows told paths later same_outputs (certificate_work kind path loaded graph) result → Follows told paths rose same_outputs (picture_work kind chosen path) result
    certificate_follows graph later widen gives second =
        let graphed = follows_then told paths later later later same_graph same_outputs (graph_work loaded) (certificate_work kind path loaded) graph result (λ r. r)
        (gives_follows told paths later same_graph (built (graph_outcome loaded.settings.near loaded.tables)) (Ok graph) gives) second in
        follows_then told paths rose later rose same_loaded same_outputs (load_work chosen) (with_loaded kind path) loaded result widen loads graphed

-- a certificate that lies at its path
pub picture_lies : (kind : Picture) (told : Told) (inputs : InputPaths) (path : List ℕ) (loaded : Loaded) (bytes : Option (List ℕ)) (result : Result (List Output) Refusal)
    → IfSome told (λ all. file_at all (input_at inputs input.Certificate) ≡ bytes)
    → IfOk result (λ outputs. (certificate : List ℕ) × (picture : List ℕ) × (bytes ≡ Some certificate)
    × IsPicture kind loaded.tables loaded.settings loaded.method.claim picture certificate × (outputs ≡ picture_outputs path picture)) → IfOk result (IsPictureAt kind told inputs path loaded)
picture_lies kind told inputs path loaded bytes (Err why) lies found = tt
picture_lies kind None inputs path loaded bytes (Ok outputs) lies found = (found.0, found.1, tt, found.3, found.4)
picture_lies kind (Some all) inputs path loaded bytes (Ok outputs) lies found = (found.0, found.1, lies ∙ found.2, found.3, found.4)

-- what is promised of the output
pub are_of_picture : (kind : Picture) (told : Told) (inputs : InputPaths) (path : List ℕ) (rose : Type 0) (loaded : Loaded) (result : Result (List Output) Refusal)
    → Follows told (input_at inputs) rose same_loaded (load_work inputs.chosen) (Ok loaded) → IfOk result (IsPictureAt kind told inputs path loaded)
    → IfOk result (AreOfPicture kind told inputs path)
are_of_picture kind told inputs path rose loaded (Err why) loads labelled = tt
are_of_picture kind told inputs path rose loaded (Ok outputs) loads labelled = record { loaded = loaded; loads = loads.1; drawn = labelled }
