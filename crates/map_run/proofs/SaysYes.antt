-- The check says yes to what `make` and `improve` wrote.
use Rattle.std.proofs.Common.{◌≡◌, ℕ, ◌⊎◌, inl, inr, Bool, true, false, if◌then◌else◌, List, [], length, Option, None, Some, Result, Ok, Err, IfSome, unwrap_or, refl, sym, ap, ◌∙◌, subst}
use Rattle.map_base.specs.declared.limit.LimitKind.TheVariants.{File}
use Rattle.map_base.specs.Limits.{is_within, limit_of}
use Rattle.map_base.specs.Settings.{Choices}
use Rattle.map_method.specs.declared.defaults.Defaults.{Defaults}
use Rattle.map_method.specs.declared.defaults.Defaults.TheVariants.{Make}
use Rattle.map_method.specs.declared.map_settings.MapSettings.{MapSettings}
use Rattle.files_door.specs.declared.target.Target.{Target}
use Rattle.files_door.specs.declared.target.Target.TheVariants.{Said, Path}
use Rattle.files_door.specs.Files.{file_at}
use Rattle.files_door.specs.Targets.{Written, held_by}
use Rattle.table_rows.specs.declared.why.Table.{Table}
use Rattle.table_rows.specs.declared.why.Table.TheVariants.{Routes, Stops, Trips, Shapes, StopTimes}
use Rattle.table_rows.specs.declared.fault.FeedFault.{FeedFault}
use Rattle.transit_feed.specs.Feeds.{Feed}
use Rattle.gtfs_tables.specs.Feed.{routes_outcome, stops_table_outcome, trips_outcome, shapes_outcome, stop_times_outcome}
use Rattle.graph_core.specs.declared.parts.GraphParts.{GraphParts}
use Rattle.line_graph.specs.Outcome.{graph_outcome}
use Rattle.map_faults.specs.declared.fault.CheckFault.{CheckFault}
use Rattle.map_method.specs.declared.claim.Claim.{Claim}
use Rattle.graph_maps.specs.declared.checked.Proved.{Proved}
use Rattle.graph_maps.specs.Making.{MapBytes}
use Rattle.graph_maps.specs.Readings.{certificate_in}
use Rattle.map_engine.specs.Promises.{IsMade}
use Rattle.graph_maps.specs.Checking.{PlainChecked, pictured}
use Rattle.map_engine.specs.Checking.{check_outcome, checked_on, checked_text}
use Rattle.command_run.specs.declared.output.Output.{Output}
use Rattle.command_run.specs.Work.{Work, ends, reads, ◌>>=◌, outcome}
use Rattle.command_run.specs.Held.{held_after}
use Rattle.command_run.specs.Told.{file_of}
use Rattle.command_run.proofs.WorkLemmas.{told_outcome}
use Rattle.run_status.specs.declared.input.Input.{Input}
use Rattle.run_status.specs.declared.input.Input.TheVariants as input
use Rattle.command_inputs.specs.declared.loaded.Loaded.{Loaded}
use Rattle.run_status.specs.declared.refusal.Refusal.{Refusal}
use Rattle.run_status.specs.declared.refusal.Refusal.TheVariants as refused
use Rattle.run_status.specs.declared.status.Status.{Status}
use Rattle.run_status.specs.declared.status.Status.TheVariants as status
use Rattle.command_words.specs.Asked.{Asked, make, improve, check}
use Rattle.command_paths.specs.Paths.{Chosen, MapPaths, NewPaths}
use Rattle.asked_inputs.specs.Inputs.{inputs_of, input_path}
use Rattle.map_commands.specs.MapWorks.{proved_line, printed, built, certificate_checked, certificate_work, check_work, checked_as, picture_checked, picture_work}
use Rattle.run_status.specs.Outputs.{said}
use Rattle.map_run.proofs.Budgets.{AreLoadedAlike, Given, bound, loads_over}
use Rattle.command_inputs.specs.Loading.{changed_in, edited_by, feed_work, file_outcome, given_by, load_work, settings_by, settings_in, tables_work, Loads}
use Rattle.map_run.specs.Answers.{whole}
use Rattle.map_run.specs.Commands.{work}
use Rattle.map_run.specs.Ending.{Ends}
use Rattle.map_run.specs.Headline.{IsImprovedMapWritten, IsMapWritten, LieAsMade, SaysProved, to_check}
use Rattle.map_commands.proofs.CheckLemmas.{graph_work, with_graph, with_loaded}
use Rattle.map_run.proofs.DoneLemmas.{is_done}

-- work that comes to a value, and what follows it
then_outcome : {A B : Type 0} (first : Work Input Refusal A) (next : A → Work Input Refusal B) (given : Given)
    (value : A) → outcome first given ≡ Ok value → outcome (first >>= next) given ≡ outcome (next value) given
then_outcome {A} first next given value is =
    bound first next given ∙ ap (λ (r : Result A Refusal). outcome (ends r >>= next) given) is

-- Work comes to one thing where each input that it may read is the same.

abbrev ReadsSame : {A : Type 0} → Given → Given → Work Input Refusal A → Type 0
ReadsSame given later (ends result) = Unit {0}
ReadsSame given later (reads one rest) = (later one ≡ given one) × ((file : Option (List ℕ)) → ReadsSame given later (rest file))

same_outcome : {A : Type 0} (given later : Given) (these : Work Input Refusal A) → ReadsSame given later these → outcome these later ≡ outcome these given
same_outcome given later (ends result) same = refl
same_outcome given later (reads one rest) same =
    ap (λ (file : Option (List ℕ)). outcome (rest file) later) same.0 ∙ same_outcome given later (rest (given one)) (same.1 (given one))

same_then : {A B : Type 0} (given later : Given) (first : Work Input Refusal A) (next : A → Work Input Refusal B) → ReadsSame given later first → ((value : A) → ReadsSame given later (next value)) → ReadsSame given later (first >>= next)
same_then given later (ends (Ok value)) next same each = each value
same_then given later (ends (Err why)) next same each = tt
same_then given later (reads one rest) next same each = (same.0, λ file. same_then given later (rest file) next (same.1 file) each)

past_table : {A B : Type 0} (given later : Given) (first : Result A FeedFault) (next : A → Work Input Refusal B) → ((value : A) → ReadsSame given later (next value)) → ReadsSame given later (given_by first >>= next)
past_table given later (Ok value) next each = each value
past_table given later (Err why) next each = tt

-- Loading reads the tables, and the files of settings and of edits where they are named.

tables_same : (given later : Given) → ((table : Table) → later (input.Table table) ≡ given (input.Table table)) → (types : List ℕ) → ReadsSame given later (tables_work types)
tables_same given later same types = (
  same Routes,
  λ file. past_table given later (routes_outcome types (λ _. file)) _ (λ routes. (
    same Stops,
    λ file. past_table given later (stops_table_outcome (λ _. file)) _ (λ stops. (
      same Trips,
      λ file. past_table given later (trips_outcome routes.known (λ _. file)) _ (λ trips. (
        same Shapes,
        λ file. past_table given later (shapes_outcome trips (λ _. file)) _ (λ shapes.
            (same StopTimes, λ file. past_table given later (stop_times_outcome trips stops.known (λ _. file)) _ (λ places. tt))),
      )),
    )),
  )),
)

past_file : {A : Type 0} (given later : Given) (read : Result (Option (List ℕ)) Refusal) (gives : Option (List ℕ) → Result A Refusal)
    → (let next : Option (List ℕ) → Work Input Refusal A = λ file. ends (gives file) in ReadsSame given later (ends read >>= next))
past_file given later (Ok file) gives = tt
past_file given later (Err why) gives = tt

settings_same : (given later : Given) (defaults : Defaults) (sets : List (List ℕ)) (settings : Option (List ℕ)) → IfSome settings (λ path. later input.Settings ≡ given input.Settings) → ReadsSame given later (settings_by defaults sets settings)
settings_same given later defaults sets None same = tt
settings_same given later defaults sets (Some path) same = (same, λ file. past_file given later (file_outcome file) (settings_in defaults sets))

feed_same : (given later : Given) (chosen : Chosen) → IfSome chosen.settings (λ path. later input.Settings ≡ given input.Settings) → ((table : Table) → later (input.Table table) ≡ given (input.Table table))
    → ReadsSame given later (feed_work chosen)
feed_same given later chosen settings tables =
    let loaded : MapSettings → Feed → Work Input Refusal Loaded = λ choices feed. ends (Ok (record { settings = choices.settings; method = choices.method; tables = feed })) in
    let after : MapSettings → Work Input Refusal Loaded = λ choices. tables_work choices.settings.types >>= loaded choices in
    same_then given later (settings_by chosen.defaults chosen.sets chosen.settings) after (settings_same given later chosen.defaults chosen.sets chosen.settings settings)
    (λ choices. same_then given later (tables_work choices.settings.types) (loaded choices) (tables_same given later tables choices.settings.types) (λ feed. tt))

edits_same : (given later : Given) (edits : Option (List ℕ)) (loaded : Loaded) → IfSome edits (λ path. later input.Edits ≡ given input.Edits) → ReadsSame given later (edited_by edits loaded)
edits_same given later None loaded same = tt
edits_same given later (Some path) loaded same = (same, λ file. past_file given later (file_outcome file) (changed_in loaded))

load_same : (given later : Given) (chosen : Chosen) → IfSome chosen.settings (λ path. later input.Settings ≡ given input.Settings) → IfSome chosen.edits (λ path. later input.Edits ≡ given input.Edits)
    → ((table : Table) → later (input.Table table) ≡ given (input.Table table)) → ReadsSame given later (load_work chosen)
load_same given later chosen settings edits tables =
    same_then given later (feed_work chosen) (λ loaded. edited_by chosen.edits loaded) (feed_same given later chosen settings tables) (λ loaded. edits_same given later chosen.edits loaded edits)

-- a file that is named lies at its path
named_lies : (files later : List (List ℕ × List ℕ)) (named : Option (List ℕ)) → IfSome named (λ path. file_at later path ≡ file_at files path)
    → IfSome named (λ path. file_at later (unwrap_or named []) ≡ file_at files (unwrap_or named []))
named_lies files later None same = tt
named_lies files later (Some path) same = same

pub loads_are : (files : List (List ℕ × List ℕ)) (asked : Asked) (loaded : Loaded) → Loads (Some files) (inputs_of asked) loaded → outcome (load_work (inputs_of asked).chosen) (file_of files (input_path asked)) ≡ Ok loaded
loads_are files asked loaded loads =
    by_run (told_outcome refused.ReadFault (load_work (inputs_of asked).chosen) (file_of files (input_path asked)) loads.seen (Ok loaded) loads.are_told loads.runs)
  where
    by_run : (let found : Result Loaded Refusal = Ok loaded in found ≡ outcome (load_work (inputs_of asked).chosen) (file_of files (input_path asked))) ⊎ ((one : Input) × (let found : Result Loaded Refusal = Ok loaded in found ≡ Err (refused.ReadFault one)))
        → outcome (load_work (inputs_of asked).chosen) (file_of files (input_path asked)) ≡ Ok loaded
    by_run (inl is) = sym is
    by_run (inr clash) =
        let refusal : (let found : Result Loaded Refusal = Ok loaded in found) ≡ Err (refused.ReadFault clash.0) = clash.1 in
        absurd (cc)

-- A file that is there, and not too long.

file_whole : (bytes : List ℕ) → is_within File (length bytes) ≡ true → file_outcome (Some bytes) ≡ Ok (Some bytes)
file_whole bytes fits = by_test (is_within File (length bytes)) fits
  where
    by_test : (within : Bool) → within ≡ true → (let whole : Result (Option (List ℕ)) Refusal = if within then Ok (Some bytes) else Err (refused.Limit (limit_of File)) in whole) ≡ Ok (Some bytes)
    by_test true e = refl
    by_test false e = absurd (cc)

module _ (given : Given) (loaded : Loaded) (graph : GraphParts) (made : MapBytes) (proved : Proved)
    (certificate : given input.Certificate ≡ Some made.certificate) (certificate_fits : is_within File (length made.certificate) ≡ true)
    (map : given input.Picture ≡ Some made.svg) (map_fits : is_within File (length made.svg) ≡ true) where
  -- what is read of the certificate
  reading : Result PlainChecked CheckFault
  reading = checked_text loaded.tables loaded.settings loaded.method.claim graph (certificate_in made.certificate)

  certificate_read : outcome (certificate_work loaded graph) given ≡ checked_as reading
  unfolding reading
  certificate_read =
      let next : Option (List ℕ) → Work Input Refusal PlainChecked = λ file. ends (certificate_checked loaded graph file) in
      let whole : Result (Option (List ℕ)) Refusal → Result PlainChecked Refusal = λ file. outcome (ends file >>= next) given in
      ap (λ (file : Option (List ℕ)). whole (file_outcome file)) certificate ∙ ap whole (file_whole made.certificate certificate_fits)

  map_read : (checked : PlainChecked) → outcome (picture_work checked) given ≡ printed (checked_as (pictured made.svg (Ok checked)))
  map_read checked =
      let next : Option (List ℕ) → Work Input Refusal (List Output) = λ file. ends (printed (picture_checked checked file)) in
      let whole : Result (Option (List ℕ)) Refusal → Result (List Output) Refusal = λ file. outcome (ends file >>= next) given in
      ap (λ (file : Option (List ℕ)). whole (file_outcome file)) map ∙ ap whole (file_whole made.svg map_fits)

  after_graph : (read : Result PlainChecked CheckFault) → reading ≡ read → pictured made.svg read ≡ Ok proved → outcome (with_graph loaded graph) given ≡ Ok (said (proved_line proved))
  after_graph (Err why) is due = absurd (cc)
  after_graph (Ok checked) is due =
      let found : outcome (certificate_work loaded graph) given ≡ Ok checked = certificate_read ∙ ap checked_as is in
      then_outcome (certificate_work loaded graph) picture_work given checked found ∙ map_read checked ∙ ap (λ (r : Result Proved CheckFault). printed (checked_as r)) due

  after_loading : graph_outcome loaded.settings.near loaded.tables ≡ Ok graph → check_outcome loaded.tables loaded.settings loaded.method.claim made.svg (certificate_in made.certificate) ≡ Ok proved
      → outcome (with_loaded loaded) given ≡ Ok (said (proved_line proved))
  unfolding reading
  after_loading of_feed accepted =
      let due : pictured made.svg reading ≡ Ok proved = subst (λ g. pictured made.svg (checked_on loaded.tables loaded.settings loaded.method.claim (certificate_in made.certificate) g) ≡ Ok proved) of_feed accepted in
      then_outcome (graph_work loaded) (with_graph loaded) given graph (ap built of_feed) ∙ after_graph reading refl due

-- a file that holds what was written
fits_by : (held : Option (List ℕ)) (bytes : List ℕ) → held ≡ Some bytes → IfSome held (λ b. is_within File (length b) ≡ true) → is_within File (length bytes) ≡ true
fits_by held bytes is fits = subst (λ (h : Option (List ℕ)). IfSome h (λ b. is_within File (length b) ≡ true)) is fits

-- what holds of tables, settings and what is to be proved holds where these are alike but for the budget, of which it does not speak
as_well : (P : Feed → Choices → Claim → Type 0) (x y : Loaded) → AreLoadedAlike x y
    → P x.tables (record x.settings { budget = y.settings.budget }) x.method.claim → P y.tables y.settings y.method.claim
as_well P x y alike holds =
    subst (λ (t : Feed). P t y.settings y.method.claim) alike.0
    (subst (λ (c : Choices). P x.tables c y.method.claim) alike.1
    (subst (P x.tables (record x.settings { budget = y.settings.budget })) alike.2 holds))

-- A map of a feed that lies with its certificate as it was written, by whichever of the commands that make maps.
module _ (feed : List ℕ) (paths : MapPaths) (chosen : Chosen) (files later : List (List ℕ × List ℕ)) (made : Written) (loaded : Loaded) (loads : Loads (Some files) (inputs_of (make feed (record { map = paths; page = None }) chosen)) loaded)
    (bytes : MapBytes) (is_made : IsMade loaded.tables loaded.settings loaded.method.claim bytes) (map : held_by (Path paths.picture) made ≡ Some bytes.svg) (certificate : held_by (Path paths.certificate) made ≡ Some bytes.certificate)
    (lie : LieAsMade files later feed paths chosen made) where
  yes_to : outcome (work (check feed paths (to_check chosen))) (file_of later (input_path (check feed paths (to_check chosen)))) ≡ Ok (whole (said (proved_line is_made.proved)))
  yes_to =
      let before : Given = file_of files (input_path (make feed (record { map = paths; page = None }) chosen)) in
      let given : Given = file_of later (input_path (check feed paths (to_check chosen))) in
      let certified = is_made.certified in
      let same : ReadsSame before given (load_work chosen) = load_same before given chosen (named_lies files later chosen.settings lie.same_settings) (named_lies files later chosen.edits lie.same_edits) lie.same_feed in
      let load : outcome (load_work chosen) given ≡ Ok loaded = same_outcome before given (load_work chosen) same ∙ loads_are files (make feed (record { map = paths; page = None }) chosen) loaded loads in
      let other = loads_over chosen Make given loaded load in
      let drawn = as_well (λ feed choices claim. graph_outcome choices.near feed ≡ Ok certified.graph) loaded other.0 other.2 certified.of_feed in
      let accepted = as_well (λ feed choices claim. check_outcome feed choices claim bytes.svg (certificate_in bytes.certificate) ≡ Ok is_made.proved) loaded other.0 other.2 is_made.accepted in
      let says : outcome (check_work (to_check chosen)) given ≡ Ok (said (proved_line is_made.proved)) =
      then_outcome (load_work (to_check chosen)) with_loaded given other.0 other.1
      ∙ after_loading given other.0 certified.graph bytes is_made.proved
      (lie.certificate ∙ certificate) (fits_by (held_by (Path paths.certificate) made) bytes.certificate certificate lie.certificate_fits)
      (lie.map ∙ map) (fits_by (held_by (Path paths.picture) made) bytes.svg map lie.map_fits)
      drawn accepted in
      then_outcome (check_work (to_check chosen)) (λ outputs. ends (Ok (whole outputs))) given (said (proved_line is_made.proved)) says

  ends_yes : (files_rose rose : Type 0) (old new : Written) (ended : Status) → Ends (Some (check feed paths (to_check chosen))) (Some later) files_rose rose (Some old) (Some new) ended
      → (files_rose → ⊥) → (rose → ⊥) → ((ended ≡ status.Done) × SaysProved old new is_made.proved) ⊎ (ended ≡ status.NoMemory)
  ends_yes files_rose rose old new ended finish told steady =
      by_end (is_done (check feed paths (to_check chosen)) later files_rose rose old new ended (said (proved_line is_made.proved)) finish yes_to told steady)
    where
      by_end : ((ended ≡ status.Done) × ((target : Target) → held_by target new ≡ held_after target (said (proved_line is_made.proved)) (held_by target old))) ⊎ (ended ≡ status.NoMemory)
          → ((ended ≡ status.Done) × SaysProved old new is_made.proved) ⊎ (ended ≡ status.NoMemory)
      by_end (inl done) = inl (done.0, done.1 Said)
      by_end (inr out) = inr out

-- what `make` wrote
pub says_yes : (feed : List ℕ) (paths : NewPaths) (chosen : Chosen) (files later : List (List ℕ × List ℕ)) (made : Written)
    → (written : IsMapWritten (Some files) (make feed paths chosen) paths made) → LieAsMade files later feed paths.map chosen made
    → outcome (work (check feed paths.map (to_check chosen))) (file_of later (input_path (check feed paths.map (to_check chosen)))) ≡ Ok (whole (said (proved_line written.is_made.proved)))
says_yes feed paths chosen files later made written lie =
    yes_to feed paths.map chosen files later made written.loaded written.loads written.made written.is_made written.map written.certificate lie

pub ends_with_yes : (feed : List ℕ) (paths : NewPaths) (chosen : Chosen) (files later : List (List ℕ × List ℕ)) (made : Written) (files_rose rose : Type 0) (old new : Written) (ended : Status)
    → (written : IsMapWritten (Some files) (make feed paths chosen) paths made) → LieAsMade files later feed paths.map chosen made
    → Ends (Some (check feed paths.map (to_check chosen))) (Some later) files_rose rose (Some old) (Some new) ended → (files_rose → ⊥) → (rose → ⊥)
    → ((ended ≡ status.Done) × SaysProved old new written.is_made.proved) ⊎ (ended ≡ status.NoMemory)
ends_with_yes feed paths chosen files later made files_rose rose old new ended written lie finish told steady =
    ends_yes feed paths.map chosen files later made written.loaded written.loads written.made written.is_made written.map written.certificate lie files_rose rose old new ended finish told steady

-- what `improve` wrote
pub says_yes_again : (feed : List ℕ) (paths : MapPaths) (moves : ℕ) (chosen : Chosen) (files later : List (List ℕ × List ℕ)) (before made : Written)
    → (written : IsImprovedMapWritten (Some files) (improve feed paths moves chosen) paths moves before made) → LieAsMade files later feed paths chosen made
    → outcome (work (check feed paths (to_check chosen))) (file_of later (input_path (check feed paths (to_check chosen)))) ≡ Ok (whole (said (proved_line written.is_improved.made.proved)))
says_yes_again feed paths moves chosen files later before made written lie =
    yes_to feed paths chosen files later made written.loaded written.loads written.improved.map written.is_improved.made written.map written.certificate lie

pub ends_with_yes_again : (feed : List ℕ) (paths : MapPaths) (moves : ℕ) (chosen : Chosen) (files later : List (List ℕ × List ℕ)) (before made : Written) (files_rose rose : Type 0) (old new : Written) (ended : Status)
    → (written : IsImprovedMapWritten (Some files) (improve feed paths moves chosen) paths moves before made) → LieAsMade files later feed paths chosen made
    → Ends (Some (check feed paths (to_check chosen))) (Some later) files_rose rose (Some old) (Some new) ended → (files_rose → ⊥) → (rose → ⊥)
    → ((ended ≡ status.Done) × SaysProved old new written.is_improved.made.proved) ⊎ (ended ≡ status.NoMemory)
ends_with_yes_again feed paths moves chosen files later before made files_rose rose old new ended written lie finish told steady =
    ends_yes feed paths chosen files later made written.loaded written.loads written.improved.map written.is_improved.made written.map written.certificate lie files_rose rose old new ended finish told steady
