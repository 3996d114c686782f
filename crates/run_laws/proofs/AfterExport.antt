-- What `import` comes to behind `export`.
use Rattle.std.proofs.Common.{◌≡◌, ◌∙◌, ap, refl, sym, ℕ, Bool, true, false, cond, List, length, Option, Some, Result, Ok, Err}
use Rattle.map_base.specs.declared.limit.Limit.{Limit}
use Rattle.map_base.specs.declared.limit.LimitKind.TheVariants.{File}
use Rattle.map_base.specs.Limits.{is_within, limit_of}
use Rattle.map_faults.specs.declared.fault.MakeFault.{MakeFault}
use Rattle.map_method.specs.Methods.{MethodChoices}
use Rattle.map_method.specs.declared.map_settings.MapSettings.{MapSettings}
use Rattle.graph_core.specs.declared.parts.GraphParts.{GraphParts}
use Rattle.line_graph.specs.Outcome.{graph_outcome}
use Rattle.graph_json.specs.declared.fault.JsonFault.{JsonFault}
use Rattle.graph_json.specs.declared.imported.Imported.{Imported}
use Rattle.graph_maps.specs.Making.{if_solved, solved_map, solved_of, MapBytes}
use Rattle.graph_maps.specs.Problems.{drawn_on}
use Rattle.map_engine.specs.Making.{make_outcome, over_graph}
use Rattle.map_engine.specs.Tables.{importance_by, subject_of}
use Rattle.command_run.specs.declared.output.Output.{Output}
use Rattle.command_run.specs.Work.{Work, ends, reads, outcome, ◌>>=◌}
use Rattle.command_paths.specs.Paths.{Chosen, MapPaths, NewPaths}
use Rattle.run_status.specs.declared.input.Input.{Input}
use Rattle.run_status.specs.declared.input.Input.TheVariants.{Graph}
use Rattle.run_status.specs.declared.refusal.Refusal.{Refusal}
use Rattle.run_status.specs.declared.refusal.Refusal.TheVariants as refused
use Rattle.run_status.specs.Refusals.{graph_given}
use Rattle.command_inputs.specs.declared.loaded.Loaded.{Loaded}
use Rattle.command_inputs.specs.Loading.{file_outcome, file_work, load_work, settings_by}
use Rattle.map_commands.specs.MapWorks.{made_at, make_work}
use Rattle.export_command.specs.ExportWorks.{export_work, exported, file_outputs}
use Rattle.map_commands.specs.ImportWorks.{graph_in, graph_work, import_work, imported_at, map_at, read_work, with_graph}
use Rattle.export_command.specs.Exchanged.{feed_again, made_of, AreAlike, IsExported}
use Rattle.run_laws.specs.Works.{no_page, unless_long}

-- what comes of a result, unless it is a refusal
abbrev followed : {A B : Type 0} → Result A Refusal → (A → Result B Refusal) → Result B Refusal
followed (Ok value) next = next value
followed (Err why) next = Err why

-- what comes of one piece of work after another
bind : {A B : Type 0} (work : Work Input Refusal A) (next : A → Work Input Refusal B) (given : Input → Option (List ℕ))
    → outcome (work >>= next) given ≡ followed (outcome work given) (λ value. outcome (next value) given)
bind (ends (Ok value)) next given = refl
bind (ends (Err why)) next given = refl
bind (reads i rest) next given = bind (rest (given i)) next given

-- what `export` and `make` come to over what is loaded
abbrev written_as : List ℕ → Loaded → Result (List Output) Refusal
written_as out loaded = exported loaded out (graph_outcome loaded.settings.near loaded.tables)

abbrev made_as : NewPaths → Loaded → Result (List Output) Refusal
made_as paths loaded = made_at paths loaded (make_outcome loaded.tables loaded.settings loaded.method)

module _ (chosen : Chosen) (given : Input → Option (List ℕ)) where
  export_is : (out : List ℕ) → outcome (export_work chosen out) given ≡ followed (outcome (load_work chosen) given) (written_as out)
  export_is out = bind (load_work chosen) (λ loaded. ends (written_as out loaded)) given

  make_is : (paths : NewPaths) → outcome (make_work chosen paths) given ≡ followed (outcome (load_work chosen) given) (made_as paths)
  make_is paths = bind (load_work chosen) (λ loaded. ends (made_as paths loaded)) given

  -- where `export` is refused so is `make`
  pub refused_alike : (out : List ℕ) (paths : NewPaths) (why : Refusal) → outcome (export_work chosen out) given ≡ Err why
      → outcome (make_work chosen paths) given ≡ Err why
  refused_alike out paths why is =
      make_is paths ∙ by_load (outcome (load_work chosen) given) (sym (export_is out) ∙ is)
    where
      by_graph : (loaded : Loaded) (o : Result GraphParts Limit) → graph_outcome loaded.settings.near loaded.tables ≡ o
          → exported loaded out o ≡ Err why → made_as paths loaded ≡ Err why
      by_graph loaded (Ok graph) found e = cc
      by_graph loaded (Err limit) found e =
          ap (λ (o : Result GraphParts Limit). made_at paths loaded (if_solved (solved_map (subject_of loaded.tables loaded.settings))
          (solved_of loaded.settings loaded.method
          (over_graph (λ g. drawn_on (importance_by loaded.tables loaded.settings) loaded.settings loaded.method g) o)))) found
          ∙ e

      by_load : (r : Result Loaded Refusal) → followed r (written_as out) ≡ Err why → followed r (made_as paths) ≡ Err why
      by_load (Ok loaded) e = by_graph loaded (graph_outcome loaded.settings.near loaded.tables) refl e
      by_load (Err other) e = e

  module _ (loaded : Loaded) (loads : outcome (load_work chosen) given ≡ Ok loaded) (text : List ℕ)
      (written : IsExported loaded.tables loaded.settings text) where
    -- `export` writes the text
    pub exports : (out : List ℕ) → outcome (export_work chosen out) given ≡ Ok (file_outputs out text)
    exports out =
        export_is out
        ∙ ap (λ (r : Result Loaded Refusal). followed r (written_as out)) loads
        ∙ ap (exported loaded out) written.of_feed
        ∙ ap (λ (t : List ℕ). outputs_of (file_outputs out t)) (sym written.written)
      where
        outputs_of : List Output → Result (List Output) Refusal
        outputs_of outputs = Ok outputs

    made_here : (paths : NewPaths) → outcome (make_work chosen paths) given ≡ made_as paths loaded
    made_here paths = make_is paths ∙ ap (λ (r : Result Loaded Refusal). followed r (made_as paths)) loads

    -- the same files without a page
    without_page : (paths : MapPaths) (r : Result MapBytes MakeFault) → map_at paths r ≡ made_at (no_page paths) loaded r
    without_page paths (Ok made) = refl
    without_page paths (Err fault) = refl

    module _ (importing : Chosen) (paths : MapPaths) (after : Input → Option (List ℕ)) (all : MapSettings)
        (settings : outcome (settings_by importing.defaults importing.sets importing.settings) after ≡ Ok all)
        (alike : AreAlike loaded.settings all.settings) (method : all.method ≡ loaded.method)
        (there : after Graph ≡ Some text) where
      abbrev again : Imported
      again = feed_again loaded.tables loaded.settings written.graph

      -- the settings beside what is read
      abbrev with_all : Imported → Result (MapSettings × Imported) Refusal
      with_all read = Ok (all, read)

      graph_here : (o : Option (List ℕ)) → after Graph ≡ o
          → outcome (with_graph all) after ≡ followed (followed (file_outcome o) graph_in) with_all
      graph_here o is =
          bind graph_work (λ read. ends (with_all read)) after
          ∙ ap (λ (r : Result Imported Refusal). followed r with_all)
          (bind (file_work Graph) (λ f. ends (graph_in f)) after ∙ ap (λ (f : Option (List ℕ)). followed (file_outcome f) graph_in) is)

      made_of_all : made_of all.settings all.method again ≡ make_outcome loaded.tables loaded.settings loaded.method
      made_of_all =
          ap (λ (m : MethodChoices). made_of all.settings m again) method ∙ written.made all.settings loaded.method alike

      -- a file within the limit
      pub imports : outcome (import_work importing paths) after ≡ unless_long text (outcome (make_work chosen (no_page paths)) given)
      imports =
          bind (read_work importing) (λ both. ends (imported_at paths both)) after
          ∙ ap (λ (r : Result (MapSettings × Imported) Refusal). followed r (imported_at paths))
          (bind (settings_by importing.defaults importing.sets importing.settings) with_graph after
          ∙ ap (λ (r : Result MapSettings Refusal). followed r (λ value. outcome (with_graph value) after)) settings
          ∙ graph_here (Some text) there)
          ∙ by (is_within File (length text))
        where
          by : (b : Bool)
              → followed (followed (followed (cond b (Ok (Some text)) (Err (refused.Limit (limit_of File)))) graph_in) with_all) (imported_at paths)
              ≡ cond b (outcome (make_work chosen (no_page paths)) given) (Err (refused.Limit (limit_of File)))
          by true =
              ap (λ (r : Result Imported JsonFault). followed (followed (graph_given r) with_all) (imported_at paths)) written.read
              ∙ ap (map_at paths) made_of_all
              ∙ without_page paths (make_outcome loaded.tables loaded.settings loaded.method)
              ∙ sym (made_here (no_page paths))
          by false = refl
