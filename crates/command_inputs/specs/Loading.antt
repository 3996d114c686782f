-- What commands read before they work, as pieces of work.
use Rattle.std.specs.Prelude.{ℕ, List, ◌∷◌, length, Option, None, Some, Result, Ok, Err, if◌then◌else◌}
use Rattle.map_base.specs.declared.limit.LimitKind.TheVariants.{File}
use Rattle.map_base.specs.Limits.{is_within, limit_of}
use Rattle.map_method.specs.declared.defaults.Defaults.{Defaults}
use Rattle.map_method.specs.declared.map_settings.MapSettings.{MapSettings}
use Rattle.table_rows.specs.declared.why.Table.{Table}
use Rattle.table_rows.specs.declared.why.Table.TheVariants.{Routes, Stops, Trips, Shapes, StopTimes}
use Rattle.table_rows.specs.declared.fault.FeedFault.{FeedFault}
use Rattle.transit_feed.specs.Feeds.{Feed}
use Rattle.gtfs_tables.specs.Feed.{feed_of, routes_outcome, stops_table_outcome, trips_outcome, shapes_outcome, stop_times_outcome}
use Rattle.map_settings.specs.declared.fault.SettingsWhy.{SettingsWhy}
use Rattle.map_settings.specs.declared.fault.SettingsWhy.TheVariants as why
use Rattle.map_settings.specs.Outcome.{texts_outcome}
use Rattle.map_edits.specs.declared.edit.Edit.{Edit}
use Rattle.map_edits.specs.Effects.{choices_after, feed_after}
use Rattle.map_edits.specs.Standing.{edits_in}
use Rattle.command_run.specs.Work.{Work, ends, reads, ◌>>=◌}
use Rattle.command_run.specs.Told.{IsRun}
use Rattle.command_paths.specs.Paths.{Chosen}
use Rattle.run_status.specs.declared.input.Input.{Input}
use Rattle.run_status.specs.declared.input.Input.TheVariants as input
use Rattle.run_status.specs.declared.refusal.Refusal.{Refusal}
use Rattle.run_status.specs.declared.refusal.Refusal.TheVariants as refused
use Rattle.run_status.specs.Refusals.{of_feed}
use Rattle.command_inputs.specs.declared.loaded.Loaded.{Loaded}
use Rattle.command_inputs.specs.Inputs.{InputPaths, input_at}

-- what a table gives, or its refusal
abbrev pub given_by : {A : Type 0} → Result A FeedFault → Work Input Refusal A
given_by (Ok value) = ends (Ok value)
given_by (Err fault) = ends (Err (of_feed fault))

-- a table is read, and gives this by its file, if it is there
abbrev pub table_work : {A : Type 0} → Table → (Option (List ℕ) → Result A FeedFault) → Work Input Refusal A
table_work table gives = reads (input.Table table) (λ file. given_by (gives file))

-- the five tables of a feed are read, one after another
abbrev pub tables_work : List ℕ → Work Input Refusal Feed
tables_work types = do
  routes ← table_work Routes (λ file. routes_outcome types (λ _. file))
  stops ← table_work Stops (λ file. stops_table_outcome (λ _. file))
  trips ← table_work Trips (λ file. trips_outcome routes.known (λ _. file))
  shapes ← table_work Shapes (λ file. shapes_outcome trips (λ _. file))
  places ← table_work StopTimes (λ file. stop_times_outcome trips stops.known (λ _. file))
  ends (Ok (feed_of routes stops trips shapes places))

-- what is read of a file, if it is there: all its bytes, where these are not too many
abbrev pub file_outcome : Option (List ℕ) → Result (Option (List ℕ)) Refusal
file_outcome None = Ok None
file_outcome (Some bytes) = if is_within File (length bytes) then Ok (Some bytes) else Err (refused.Limit (limit_of File))

-- a file that is no table is read
abbrev pub file_work : Input → Work Input Refusal (Option (List ℕ))
file_work role = reads role (λ file. ends (file_outcome file))

-- the settings that a file of settings gives, or why it gives none; it has to be there
abbrev pub settings_given : Result MapSettings SettingsWhy → Result MapSettings Refusal
settings_given (Ok choices) = Ok choices
settings_given (Err why) = Err (refused.BadSettings why)

abbrev pub settings_in : Defaults → List (List ℕ) → Option (List ℕ) → Result MapSettings Refusal
settings_in defaults sets None = Err (refused.BadSettings why.Missing)
settings_in defaults sets (Some bytes) = settings_given (texts_outcome defaults (bytes ∷ sets))

-- a file of settings is read, and what is set takes the place of its keys
abbrev pub settings_file_work : Defaults → List (List ℕ) → Work Input Refusal MapSettings
settings_file_work defaults sets = do
  file ← file_work input.Settings
  ends (settings_in defaults sets file)

-- the settings by the file that the user names, or those that hold where a user names none, after what is set
abbrev pub settings_by : Defaults → List (List ℕ) → Option (List ℕ) → Work Input Refusal MapSettings
settings_by defaults sets None = ends (settings_given (texts_outcome defaults sets))
settings_by defaults sets (Some path) = settings_file_work defaults sets

-- the settings come first, and then the tables by them
abbrev pub feed_work : Chosen → Work Input Refusal Loaded
feed_work chosen = do
  all ← settings_by chosen.defaults chosen.sets chosen.settings
  feed ← tables_work all.settings.types
  ends (Ok (record { settings = all.settings; method = all.method; tables = feed }))

-- the edits that stand, or the first bad line
abbrev pub edits_given : Result (List Edit) ℕ → Result (List Edit) Refusal
edits_given (Ok edits) = Ok edits
edits_given (Err line) = Err (refused.BadEdit line)

-- the edits that a file of edits gives, by the tables; a file that is missing is as a bad line 0
abbrev pub edits_of : Feed → Option (List ℕ) → Result (List Edit) Refusal
edits_of feed None = Err (refused.BadEdit 0)
edits_of feed (Some bytes) = edits_given (edits_in feed bytes)

-- what edits make of settings and tables, or why there are none; how the map is found stays as it is
abbrev pub changed_by : Loaded → Result (List Edit) Refusal → Result Loaded Refusal
changed_by loaded (Ok edits) = Ok (record { settings = choices_after edits loaded.settings; method = loaded.method; tables = feed_after edits loaded.tables })
changed_by loaded (Err why) = Err why

-- what the edits of a file make of settings and tables
abbrev pub changed_in : Loaded → Option (List ℕ) → Result Loaded Refusal
changed_in loaded file = changed_by loaded (edits_of loaded.tables file)

-- a file of edits is read
abbrev pub edits_file_work : Loaded → Work Input Refusal Loaded
edits_file_work loaded = do
  file ← file_work input.Edits
  ends (changed_in loaded file)

-- settings and tables by the file of edits that the user names, or as they are
abbrev pub edited_by : Option (List ℕ) → Loaded → Work Input Refusal Loaded
edited_by None loaded = ends (Ok loaded)
edited_by (Some path) loaded = edits_file_work loaded

-- the settings come first, then the tables by them, and last the edits of both
abbrev pub load_work : Chosen → Work Input Refusal Loaded
load_work chosen = do
  loaded ← feed_work chosen
  edited_by chosen.edits loaded

-- the settings and tables that a command works on are those of its inputs, edited where a file of edits is named
abbrev pub Loads : Option (List (List ℕ × List ℕ)) → InputPaths → Loaded → Type 0
Loads told inputs loaded = IsRun refused.ReadFault told (input_at inputs) (load_work inputs.chosen) (Ok loaded)
