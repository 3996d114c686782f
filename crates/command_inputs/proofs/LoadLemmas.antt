-- What commands load: the settings, then the tables by them, and last the edits of both.
use Rattle.std.proofs.Common.{◌≡◌, ℕ, List, Option, None, Some, Result, Ok, Err, refl, sym, subst}
use Rattle.map_method.specs.declared.defaults.Defaults.{Defaults}
use Rattle.map_method.specs.declared.map_settings.MapSettings.{MapSettings}
use Rattle.transit_feed.specs.Feeds.{Feed}
use Rattle.command_run.specs.Work.{Work, ends, ◌>>=◌}
use Rattle.command_paths.specs.Paths.{Chosen}
use Rattle.run_status.specs.declared.input.Input.{Input}
use Rattle.run_status.specs.declared.refusal.Refusal.{Refusal}
use Rattle.run_status.specs.Following.{Follows, Gives}
use Rattle.run_status.proofs.FollowLemmas.{IsRefusedAs, follows_refused, follows_then, follows_value, gives_follows}
use Rattle.command_inputs.specs.declared.loaded.Loaded.{Loaded}
use Rattle.map_settings.specs.Outcome.{texts_outcome}
use Rattle.command_inputs.specs.Loading.{edited_by, edits_file_work, feed_work, settings_by, settings_file_work, settings_given, tables_work}

abbrev pub Told : Type 0
Told = Option (List (List ℕ × List ℕ))

-- the settings, and the tables by them
abbrev pub loaded_by : MapSettings → Feed → Loaded
loaded_by choices feed = record { settings = choices.settings; method = choices.method; tables = feed }

-- what comes after the settings
abbrev pub with_settings : MapSettings → Work Input Refusal Loaded
with_settings choices = tables_work choices.settings.types >>= (λ feed. ends (Ok (loaded_by choices feed)))

-- a user who names no file has the standard settings
pub settings_none : (told : Told) (paths : Input → List ℕ) (rose : Type 0) (defaults : Defaults) (sets : List (List ℕ)) (chosen : Option (List ℕ)) (result : Result MapSettings Refusal) → chosen ≡ None
    → Gives (λ (s : MapSettings). s) result (settings_given (texts_outcome defaults sets)) → Follows told paths rose (λ (s : MapSettings). s) (settings_by defaults sets chosen) result
settings_none told paths rose defaults sets chosen result none gives =
    subst (λ (c : Option (List ℕ)). Follows told paths rose (λ (s : MapSettings). s) (settings_by defaults sets c) result) (sym none)
    (gives_follows told paths rose (λ (s : MapSettings). s) (settings_given (texts_outcome defaults sets)) result gives)

-- one who names a file has those that it gives
pub settings_some : (told : Told) (paths : Input → List ℕ) (rose : Type 0) (defaults : Defaults) (sets : List (List ℕ)) (chosen : Option (List ℕ)) (path : List ℕ) (result : Result MapSettings Refusal) → chosen ≡ Some path
    → Follows told paths rose (λ (s : MapSettings). s) (settings_file_work defaults sets) result → Follows told paths rose (λ (s : MapSettings). s) (settings_by defaults sets chosen) result
settings_some told paths rose defaults sets chosen path result some follows =
    subst (λ (c : Option (List ℕ)). Follows told paths rose (λ (s : MapSettings). s) (settings_by defaults sets c) result) (sym some) follows

-- one who names no file of edits has settings and tables as they are
pub edits_none : (told : Told) (paths : Input → List ℕ) (rose : Type 0) (named : Option (List ℕ)) (loaded : Loaded) → named ≡ None
    → Follows told paths rose (λ (l : Loaded). l) (edited_by named loaded) (Ok loaded)
edits_none told paths rose named loaded none =
    subst (λ (n : Option (List ℕ)). Follows told paths rose (λ (l : Loaded). l) (edited_by n loaded) (Ok loaded)) (sym none)
    (gives_follows told paths rose (λ (l : Loaded). l) (Ok loaded) (Ok loaded) refl)

-- one who names a file has what its edits make of them
pub edits_some : (told : Told) (paths : Input → List ℕ) (rose : Type 0) (named : Option (List ℕ)) (path : List ℕ) (loaded : Loaded) (result : Result Loaded Refusal) → named ≡ Some path
    → Follows told paths rose (λ (l : Loaded). l) (edits_file_work loaded) result → Follows told paths rose (λ (l : Loaded). l) (edited_by named loaded) result
edits_some told paths rose named path loaded result some follows =
    subst (λ (n : Option (List ℕ)). Follows told paths rose (λ (l : Loaded). l) (edited_by n loaded) result) (sym some) follows

module _ (told : Told) (paths : Input → List ℕ) (chosen : Chosen) where
  -- the settings are refused
  pub settings_refused : (rose : Type 0) (why : Refusal) (result : Result Loaded Refusal) → IsRefusedAs why result
      → Follows told paths rose (λ (s : MapSettings). s) (settings_by chosen.defaults chosen.sets chosen.settings) (Err why) → Follows told paths rose (λ (l : Loaded). l) (feed_work chosen) result
  settings_refused rose why result is first =
      follows_refused told paths rose (λ (s : MapSettings). s) (λ (l : Loaded). l) (settings_by chosen.defaults chosen.sets chosen.settings) with_settings why result is first

  module _ (first_rose later rose : Type 0) (choices : MapSettings) (widen : later → rose) (first : Follows told paths first_rose (λ (s : MapSettings). s) (settings_by chosen.defaults chosen.sets chosen.settings) (Ok choices)) where
    past_settings : (result : Result Loaded Refusal) → Follows told paths later (λ (l : Loaded). l) (with_settings choices) result → Follows told paths rose (λ (l : Loaded). l) (feed_work chosen) result
    past_settings result second =
        follows_then told paths first_rose later rose (λ (s : MapSettings). s) (λ (l : Loaded). l) (settings_by chosen.defaults chosen.sets chosen.settings) with_settings choices result widen first second

    -- the tables are refused
    pub tables_refused : (why : Refusal) (result : Result Loaded Refusal) → IsRefusedAs why result
        → Follows told paths later (λ (feed : Feed). feed) (tables_work choices.settings.types) (Err why) → Follows told paths rose (λ (l : Loaded). l) (feed_work chosen) result
    tables_refused why result is second =
        past_settings result (follows_refused told paths later (λ (feed : Feed). feed) (λ (l : Loaded). l) (tables_work choices.settings.types) (λ feed. ends (Ok (loaded_by choices feed))) why result is second)

    -- all is loaded
    pub tables_loaded : (feed : Feed) → Follows told paths later (λ (f : Feed). f) (tables_work choices.settings.types) (Ok feed) → Follows told paths rose (λ (l : Loaded). l) (feed_work chosen) (Ok (loaded_by choices feed))
    tables_loaded feed second =
        past_settings (Ok (loaded_by choices feed))
        (follows_value told paths later (λ (f : Feed). f) (λ (l : Loaded). l) (tables_work choices.settings.types) (λ f. Ok (loaded_by choices f)) feed (Ok (loaded_by choices feed)) second refl)
