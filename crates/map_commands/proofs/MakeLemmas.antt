-- What `make` promises, and how many steps it takes.
use Rattle.std.proofs.Common.{◌≡◌, ◌≢◌, ◌≤◌, ◌+◌, ◌++◌, ◌∙◌, ap, refl, ℕ, inr, List, [], Some, Result, Ok, Err, IfOk, sym}
use Rattle.map_base.specs.declared.limit.Limit.{Limit}
use Rattle.map_base.specs.declared.limit_fault.LimitFault.{LimitFault}
use Rattle.map_base.specs.declared.limit_fault.LimitFault.TheVariants as limit
use Rattle.map_base.specs.Faults as limits
use Rattle.graph_core.specs.declared.parts.GraphParts.{GraphParts}
use Rattle.line_graph.specs.Outcome.{graph_outcome}
use Rattle.map_faults.specs.declared.fault.CheckFault.{CheckFault}
use Rattle.map_faults.specs.declared.fault.CheckFault.TheVariants as refuted
use Rattle.graph_maps.specs.Readings.{certificate_in}
use Rattle.graph_maps.specs.Checking.{HasCause}
use Rattle.graph_maps.specs.Problems.{drawn_on}
use Rattle.command_run.specs.declared.output.Output.{Output}
use Rattle.graph_maps.specs.Making.{MapBytes, if_solved, solved_map, solved_of}
use Rattle.map_engine.specs.Making.{make_outcome, over_graph}
use Rattle.map_engine.specs.Keeping.{branches_left}
use Rattle.map_engine.specs.Promises.{IsMade}
use Rattle.map_engine.specs.Tables.{importance_by, subject_of}
use Rattle.map_engine.specs.Postering.{poster_on, IsPoster}
use Rattle.command_inputs.specs.declared.loaded.Loaded.{Loaded}
use Rattle.run_status.specs.declared.refusal.Refusal.{Refusal}
use Rattle.run_status.specs.Refusals.{of_limit}
use Rattle.command_paths.specs.Paths.{NewPaths}
use Rattle.command_inputs.specs.Inputs.{InputPaths, input_at}
use Rattle.map_commands.specs.MapWorks.{made_at, map_outputs, new_outputs, page_output, poster_by, poster_due}
use Rattle.command_inputs.specs.Loading.{load_work}
use Rattle.run_status.specs.Following.{Follows, Gives}
use Rattle.map_commands.specs.Promises.{AreOfMap, SearchesParts}
use Rattle.run_status.proofs.FollowLemmas.{Told}

-- a map that was made of what was loaded
pub are_of_map : (told : Told) (inputs : InputPaths) (rose : Type 0) (paths : NewPaths) (loaded : Loaded) (result : Result (List Output) Refusal)
    → Follows told (input_at inputs) rose (λ (l : Loaded). l) (load_work inputs.chosen) (Ok loaded)
    → IfOk result (λ outputs. (made : MapBytes) × (make_outcome loaded.tables loaded.settings loaded.method ≡ Ok made) × IsMade loaded.tables loaded.settings loaded.method.claim made × (outputs ≡ new_outputs paths (poster_due loaded made) made))
    → ((made : MapBytes) → IsMade loaded.tables loaded.settings loaded.method.claim made → (poster : List ℕ) × (poster_due loaded made ≡ Ok poster) × IsPoster loaded.tables loaded.settings loaded.method.claim poster made.certificate)
    → IfOk result (AreOfMap told inputs paths)
are_of_map told inputs rose paths loaded (Err why) loads made has = tt
are_of_map told inputs rose paths loaded (Ok outputs) loads made has =
    let drawn = has made.0 made.2 in
    record {
      loaded = loaded;
      loads = loads.1;
      made = made.0;
      defined = made.1;
      is_made = made.2;
      poster = drawn.0;
      postered = drawn.1;
      is_poster = drawn.2;
      are = made.3 ∙ ap (λ (poster : Result (List ℕ) CheckFault). new_outputs paths poster made.0) drawn.1;
    }

-- a limit of the line graph is one of the map
pub graph_stops : (paths : NewPaths) (loaded : Loaded) (stop : LimitFault) → limits.HasCause (graph_outcome loaded.settings.near loaded.tables) stop
    → Gives (λ (outputs : List Output). outputs) (Err (of_limit stop)) (made_at paths loaded (make_outcome loaded.tables loaded.settings loaded.method))
graph_stops paths loaded (limit.Limit l) h =
    ap (λ (o : Result GraphParts Limit). made_at paths loaded (if_solved (solved_map (subject_of loaded.tables loaded.settings)) (solved_of loaded.settings loaded.method (over_graph (λ g. drawn_on (importance_by loaded.tables loaded.settings) loaded.settings loaded.method g) o)))) h
graph_stops paths loaded limit.NoMemory h = tt

-- the outputs of what was made, where its poster is made by the line graph
pub new_are : (paths : NewPaths) (loaded : Loaded) (graph : GraphParts) (made : MapBytes) (certificate : List ℕ) (both page : List Output)
    → graph_outcome loaded.settings.near loaded.tables ≡ Ok graph → certificate ≡ made.certificate → both ≡ map_outputs paths.map made
    → page ≡ page_output paths.page (poster_by loaded graph certificate) → both ++ page ≡ new_outputs paths (poster_due loaded made) made
new_are paths loaded graph made certificate both page of_feed same first third =
    let poster : poster_by loaded graph certificate ≡ poster_due loaded made =
    ap (poster_by loaded graph) same ∙ sym (ap (poster_on loaded.tables loaded.settings loaded.method.claim (certificate_in made.certificate)) of_feed) in
    ap (λ (all : List Output). all ++ page) first ∙ ap (λ (last : List Output). map_outputs paths.map made ++ last) (third ∙ ap (page_output paths.page) poster)

-- no page where the poster is refused
pub no_page : (path : List ℕ) (poster : Result (List ℕ) CheckFault) (stop : CheckFault) → HasCause poster stop → stop ≢ refuted.NoMemory → page_output (Some path) poster ≡ []
no_page path poster refuted.NoMemory h other = absurd (other refl)
no_page path poster (refuted.Refuted item) h other = ap (page_output (Some path)) h
no_page path poster (refuted.Limit limit) h other = ap (page_output (Some path)) h

pub searches : (told : Told) (inputs : InputPaths) (rose : Type 0) (loaded : Loaded) (before now : ℕ) → Follows told (input_at inputs) rose (λ (l : Loaded). l) (load_work inputs.chosen) (Ok loaded)
    → now ≤ before + branches_left [] loaded.tables loaded.settings loaded.method → SearchesParts told inputs before now
searches told inputs rose loaded before now loads few = inr (loaded, loads.1, few)
