-- What is loaded over other settings where the user sets none: the same tables, settings that differ in the budget alone, and
-- the same is to be proved.
use Rattle.std.proofs.Common.{◌≡◌, ℕ, Bool, true, false, List, [], ◌∷◌, codes, if◌then◌else◌, Option, None, Some, option_map, IfSome, Result, Ok, Err, refl, sym, ap, ◌∙◌, subst}
use Rattle.std.specs.Str.{bytes_eq}
use Rattle.map_base.specs.Settings.{Choices}
use Rattle.map_method.specs.declared.defaults.Defaults.{Defaults}
use Rattle.map_method.specs.declared.defaults.Defaults.TheVariants.{Make, Map}
use Rattle.map_method.specs.declared.map_settings.MapSettings.{MapSettings}
use Rattle.map_method.specs.Methods.{MethodChoices}
use Rattle.map_method.specs.Defaults.{default_choices}
use Rattle.transit_feed.specs.Feeds.{Feed}
use Rattle.toml.specs.Data.{Data, Members}
use Rattle.map_settings.specs.Values.{near_of, cell_of, budget_of, types_of, weights_of, importance_of, search_of, claim_of, spread_of, coarsest_of, finest_of, straight_of, moves_of, defaults_of}
use Rattle.map_settings.specs.Tables.{entries}
use Rattle.map_settings.specs.Entries.{near_is, cell_is, budget_is, types_are, junction_is, station_is, importance_is, search_is, claim_is, spread_is, coarsest_is, finest_is, straight_is, moves_are, settings_change, method_change, is_of_method, names_defaults, becomes, in_settings, in_method, in_defaults, change_of}
use Rattle.map_settings.specs.Outcome.{bad_keys, least, changed, after, over_named, set_outcome, sets_outcome, texts_outcome, unless_bad, table_outcome, with_table}
use Rattle.map_settings.specs.declared.fault.SettingsWhy.{SettingsWhy}
use Rattle.map_settings.proofs.ChangeLemmas.{change_by}
use Rattle.map_edits.specs.declared.edit.Edit.{Edit}
use Rattle.map_edits.specs.declared.edit.Edit.TheVariants as edit
use Rattle.map_edits.specs.Effects.{choices_by, choices_after, feed_after}
use Rattle.command_run.specs.Work.{Work, ends, reads, ◌>>=◌, outcome}
use Rattle.command_paths.specs.Paths.{Chosen}
use Rattle.run_status.specs.declared.input.Input.{Input}
use Rattle.run_status.specs.declared.input.Input.TheVariants as input
use Rattle.run_status.specs.declared.refusal.Refusal.{Refusal}
use Rattle.run_status.specs.declared.refusal.Refusal.TheVariants as refused
use Rattle.command_inputs.specs.declared.loaded.Loaded.{Loaded}
use Rattle.command_inputs.specs.Loading.{changed_by, changed_in, edited_by, edits_of, feed_work, file_outcome, load_work, settings_by, settings_given, settings_in, tables_work}

abbrev pub Given : Type 0
Given = Input → Option (List ℕ)

-- the two differ in the budget at most
abbrev pub AreAlike : Choices → Choices → Type 0
AreAlike a b = (record a { budget = b.budget }) ≡ b

-- A file of settings makes alike settings of alike ones.

abbrev IsTame : (Choices → Choices) → Type 0
IsTame change = (a b : Choices) → AreAlike a b → AreAlike (change a) (change b)

-- what each change passes, the change by a value passes, where there is one
each_passes : {A B : Type 0} (P : B → Type 0) (change : A → B) (value : Option A) → ((a : A) → P (change a))
    → IfSome (option_map change value) P
each_passes P change None each = tt
each_passes P change (Some a) each = each a

settings_tame : (entry : List ℕ × Data) → IfSome (settings_change entry) IsTame
settings_tame entry =
    by_tests (bytes_eq entry.0 (codes "near")) (bytes_eq entry.0 (codes "cell")) (bytes_eq entry.0 (codes "budget")) (bytes_eq entry.0 (codes "types")) (bytes_eq entry.0 (codes "junction")) (bytes_eq entry.0 (codes "station")) (bytes_eq entry.0 (codes "importance"))
  where
    by_tests : (near cell budget types junction station importance : Bool)
        → IfSome (if near then option_map near_is (near_of entry.1) else if cell then option_map cell_is (cell_of entry.1) else if budget then option_map budget_is (budget_of entry.1)
        else if types then option_map types_are (types_of entry.1) else if junction then option_map junction_is (weights_of entry.1) else if station then option_map station_is (weights_of entry.1)
        else if importance then option_map importance_is (importance_of entry.1) else None) IsTame
    by_tests true cell budget types junction station importance = each_passes IsTame near_is (near_of entry.1) (λ v a b e. ap (near_is v) e)
    by_tests false true budget types junction station importance = each_passes IsTame cell_is (cell_of entry.1) (λ v a b e. ap (cell_is v) e)
    by_tests false false true types junction station importance = each_passes IsTame budget_is (budget_of entry.1) (λ v a b e. ap (budget_is v) e)
    by_tests false false false true junction station importance = each_passes IsTame types_are (types_of entry.1) (λ v a b e. ap (types_are v) e)
    by_tests false false false false true station importance = each_passes IsTame junction_is (weights_of entry.1) (λ v a b e. ap (junction_is v) e)
    by_tests false false false false false true importance = each_passes IsTame station_is (weights_of entry.1) (λ v a b e. ap (station_is v) e)
    by_tests false false false false false false true = each_passes IsTame importance_is (importance_of entry.1) (λ v a b e. ap (importance_is v) e)
    by_tests false false false false false false false = tt

-- Nor does it tell apart what is to be proved.

abbrev KeepsClaim : (MethodChoices → MethodChoices) → Type 0
KeepsClaim change = (a b : MethodChoices) → a.claim ≡ b.claim → (change a).claim ≡ (change b).claim

method_tame : (entry : List ℕ × Data) → IfSome (method_change entry) KeepsClaim
method_tame entry =
    by_tests (bytes_eq entry.0 (codes "search")) (bytes_eq entry.0 (codes "proof")) (bytes_eq entry.0 (codes "spread")) (bytes_eq entry.0 (codes "coarsest")) (bytes_eq entry.0 (codes "finest")) (bytes_eq entry.0 (codes "straight")) (bytes_eq entry.0 (codes "moves"))
  where
    by_tests : (search proof spread coarsest finest straight moves : Bool)
        → IfSome (if search then option_map search_is (search_of entry.1) else if proof then option_map claim_is (claim_of entry.1) else if spread then option_map spread_is (spread_of entry.1)
        else if coarsest then option_map coarsest_is (coarsest_of entry.1) else if finest then option_map finest_is (finest_of entry.1) else if straight then option_map straight_is (straight_of entry.1) else if moves then option_map moves_are (moves_of entry.1) else None) KeepsClaim
    by_tests true proof spread coarsest finest straight moves = each_passes KeepsClaim search_is (search_of entry.1) (λ v a b e. e)
    by_tests false true spread coarsest finest straight moves = each_passes KeepsClaim claim_is (claim_of entry.1) (λ v a b e. refl)
    by_tests false false true coarsest finest straight moves = each_passes KeepsClaim spread_is (spread_of entry.1) (λ v a b e. e)
    by_tests false false false true finest straight moves = each_passes KeepsClaim coarsest_is (coarsest_of entry.1) (λ v a b e. e)
    by_tests false false false false true straight moves = each_passes KeepsClaim finest_is (finest_of entry.1) (λ v a b e. e)
    by_tests false false false false false true moves = each_passes KeepsClaim straight_is (straight_of entry.1) (λ v a b e. e)
    by_tests false false false false false false true = each_passes KeepsClaim moves_are (moves_of entry.1) (λ v a b e. e)
    by_tests false false false false false false false = tt

-- the settings are alike, and the same is to be proved
abbrev Alike : MapSettings → MapSettings → Type 0
Alike x y = AreAlike x.settings y.settings × (x.method.claim ≡ y.method.claim)

change_alike : (entry : List ℕ × Data) (x y : MapSettings) → Alike x y → Alike (changed (change_of entry) x) (changed (change_of entry) y)
change_alike entry x y alike = by_tests (names_defaults entry.0) (is_of_method entry.0)
  where
    of_method : (change : Option (MethodChoices → MethodChoices)) → IfSome change KeepsClaim → Alike (changed (option_map in_method change) x) (changed (option_map in_method change) y)
    of_method None keeps = alike
    of_method (Some change) keeps = (alike.0, keeps x.method y.method alike.1)

    of_settings : (change : Option (Choices → Choices)) → IfSome change IsTame → Alike (changed (option_map in_settings change) x) (changed (option_map in_settings change) y)
    of_settings None tame = alike
    of_settings (Some change) tame = (tame x.settings y.settings alike.0, alike.1)

    of_defaults : (change : Option (Defaults → Defaults)) → Alike (changed (option_map in_defaults change) x) (changed (option_map in_defaults change) y)
    of_defaults None = alike
    of_defaults (Some change) = alike

    by_tests : (named method : Bool) → Alike (changed (change_by entry named method) x) (changed (change_by entry named method) y)
    by_tests true method = of_defaults (option_map becomes (defaults_of entry.1))
    by_tests false true = of_method (method_change entry) (method_tame entry)
    by_tests false false = of_settings (settings_change entry) (settings_tame entry)

after_alike : (file : List (List ℕ × Data)) (x y : MapSettings) → Alike x y → Alike (after file x) (after file y)
after_alike [] x y alike = alike
after_alike (entry ∷ file) x y alike = after_alike file (changed (change_of entry) x) (changed (change_of entry) y) (change_alike entry x y alike)

-- both are refused for one reason, or neither is, and the two are alike
abbrev AlikeBy : {A E : Type 0} → (A → A → Type 0) → Result A E → Result A E → Type 0
AlikeBy same (Ok x) (Ok y) = same x y
AlikeBy same (Err why) (Err other) = why ≡ other
AlikeBy same x y = ⊥

-- the settings of every command are
defaults_alike : (c d : Defaults) → Alike (default_choices c) (default_choices d)
defaults_alike Make Make = (refl, refl)
defaults_alike Make Map = (refl, refl)
defaults_alike Map Make = (refl, refl)
defaults_alike Map Map = (refl, refl)

-- a text makes alike settings of alike ones
text_alike : (x y : MapSettings) (bytes : List ℕ) → Alike x y → AlikeBy Alike (set_outcome x bytes) (set_outcome y bytes)
text_alike x y bytes alike = by_table (table_outcome bytes)
  where
    by_table : (table : Option Members) → AlikeBy Alike (with_table x table) (with_table y table)
    by_table None = refl
    by_table (Some table) = by_bad (least (bad_keys (entries table)))
      where
        by_bad : (bad : Option (List ℕ)) → AlikeBy Alike (unless_bad bad (after (entries table) x)) (unless_bad bad (after (entries table) y))
        by_bad None = after_alike (entries table) x y alike
        by_bad (Some key) = refl

-- and so do texts one after another
sets_alike : (sets : List (List ℕ)) (x y : Result MapSettings SettingsWhy) → AlikeBy Alike x y → AlikeBy Alike (sets_outcome sets x) (sets_outcome sets y)
sets_alike [] x y alike = alike
sets_alike (text ∷ more) (Ok x) (Ok y) alike = sets_alike more (set_outcome x text) (set_outcome y text) (text_alike x y text alike)
sets_alike (text ∷ more) (Err why) (Err other) alike = alike
sets_alike (text ∷ more) x y alike = absurd alike

given_alike : (x y : Result MapSettings SettingsWhy) → AlikeBy Alike x y → AlikeBy Alike (settings_given x) (settings_given y)
given_alike (Err why) (Err other) alike = ap (λ (w : SettingsWhy). refused.BadSettings w) alike
given_alike (Ok x) (Ok y) alike = alike
given_alike x y alike = absurd alike

-- and so do texts over the settings of whichever command they name
named_alike : (texts : List (List ℕ)) (x y : Result MapSettings SettingsWhy) → AlikeBy Alike x y → AlikeBy Alike (over_named texts x) (over_named texts y)
named_alike texts (Ok x) (Ok y) alike =
    sets_alike texts (Ok (default_choices x.defaults)) (Ok (default_choices y.defaults)) (defaults_alike x.defaults y.defaults)
named_alike texts (Err why) (Err other) alike = alike
named_alike texts x y alike = absurd alike

texts_alike : (c d : Defaults) (texts : List (List ℕ)) → AlikeBy Alike (settings_given (texts_outcome c texts)) (settings_given (texts_outcome d texts))
texts_alike c d texts =
    given_alike (texts_outcome c texts) (texts_outcome d texts)
    (named_alike texts (sets_outcome texts (Ok (default_choices c))) (sets_outcome texts (Ok (default_choices d)))
    (sets_alike texts (Ok (default_choices c)) (Ok (default_choices d)) (defaults_alike c d)))

file_alike : (c d : Defaults) (sets : List (List ℕ)) (file : Option (List ℕ)) → AlikeBy Alike (settings_in c sets file) (settings_in d sets file)
file_alike c d sets None = refl
file_alike c d sets (Some bytes) = texts_alike c d (bytes ∷ sets)

-- Works over alike settings.

-- what follows a piece of work, by what that comes to
pub bound : {A B : Type 0} (first : Work Input Refusal A) (next : A → Work Input Refusal B) (given : Given) → outcome (first >>= next) given ≡ outcome (ends (outcome first given) >>= next) given
bound (ends (Ok value)) next given = refl
bound (ends (Err why)) next given = refl
bound (reads one rest) next given = bound (rest (given one)) next given

abbrev by_file : Defaults → List (List ℕ) → Option (List ℕ) → Work Input Refusal MapSettings
by_file defaults sets file = ends (settings_in defaults sets file)

settings_alike : (c d : Defaults) (sets : List (List ℕ)) (settings : Option (List ℕ)) (given : Given) → AlikeBy Alike (outcome (settings_by c sets settings) given) (outcome (settings_by d sets settings) given)
settings_alike c d sets None given = texts_alike c d sets
settings_alike c d sets (Some path) given = by_read (file_outcome (given input.Settings))
  where
    by_read : (read : Result (Option (List ℕ)) Refusal) → AlikeBy Alike (outcome (ends read >>= by_file c sets) given) (outcome (ends read >>= by_file d sets) given)
    by_read (Ok file) = file_alike c d sets file
    by_read (Err why) = refl

-- the tables are the same, and the settings alike, and the same is to be proved
abbrev pub AreLoadedAlike : Loaded → Loaded → Type 0
AreLoadedAlike x y = (x.tables ≡ y.tables) × AreAlike x.settings y.settings × (x.method.claim ≡ y.method.claim)

abbrev loaded_as : MapSettings → Feed → Work Input Refusal Loaded
loaded_as all feed = ends (Ok (record { settings = all.settings; method = all.method; tables = feed }))

abbrev tables_as : MapSettings → Work Input Refusal Loaded
tables_as all = tables_work all.settings.types >>= loaded_as all

tables_alike : (x y : MapSettings) (given : Given) → Alike x y → AlikeBy AreLoadedAlike (outcome (tables_as x) given) (outcome (tables_as y) given)
tables_alike x y given alike =
    let types : x.settings.types ≡ y.settings.types = ap (λ (c : Choices). c.types) alike.0 in
    let same : outcome (tables_work x.settings.types) given ≡ outcome (tables_work y.settings.types) given = ap (λ (t : List ℕ). outcome (tables_work t) given) types in
    let here = bound (tables_work x.settings.types) (loaded_as x) given in
    let there = bound (tables_work y.settings.types) (loaded_as y) given ∙ ap (λ (r : Result Feed Refusal). outcome (ends r >>= loaded_as y) given) (sym same) in
    subst (λ (r : Result Loaded Refusal). AlikeBy AreLoadedAlike r (outcome (tables_as y) given)) (sym here)
    (subst (λ (r : Result Loaded Refusal). AlikeBy AreLoadedAlike (outcome (ends (outcome (tables_work x.settings.types) given) >>= loaded_as x) given) r) (sym there) (by_feed (outcome (tables_work x.settings.types) given)))
  where
    by_feed : (feed : Result Feed Refusal) → AlikeBy AreLoadedAlike (outcome (ends feed >>= loaded_as x) given) (outcome (ends feed >>= loaded_as y) given)
    by_feed (Ok feed) = (refl, alike.0, alike.1)
    by_feed (Err why) = refl

-- the same files, over other settings where the user sets none
abbrev pub over : Defaults → Chosen → Chosen
over defaults chosen = record chosen { defaults = defaults }

feed_alike : (chosen : Chosen) (d : Defaults) (given : Given) → AlikeBy AreLoadedAlike (outcome (feed_work chosen) given) (outcome (feed_work (over d chosen)) given)
feed_alike chosen d given =
    let first : Defaults → Result MapSettings Refusal = λ c. outcome (settings_by c chosen.sets chosen.settings) given in
    subst (λ (r : Result Loaded Refusal). AlikeBy AreLoadedAlike r (outcome (feed_work (over d chosen)) given)) (sym (bound (settings_by chosen.defaults chosen.sets chosen.settings) tables_as given))
    (subst (λ (r : Result Loaded Refusal). AlikeBy AreLoadedAlike (outcome (ends (first chosen.defaults) >>= tables_as) given) r) (sym (bound (settings_by d chosen.sets chosen.settings) tables_as given))
    (by_settings (first chosen.defaults) (first d) (settings_alike chosen.defaults d chosen.sets chosen.settings given)))
  where
    by_settings : (x y : Result MapSettings Refusal) → AlikeBy Alike x y → AlikeBy AreLoadedAlike (outcome (ends x >>= tables_as) given) (outcome (ends y >>= tables_as) given)
    by_settings (Ok x) (Ok y) alike = tables_alike x y given alike
    by_settings (Err why) (Err other) alike = alike
    by_settings x y alike = absurd alike

-- edits make alike settings of alike ones
edit_tame : (one : Edit) → IsTame (choices_by one)
edit_tame (edit.Hide id) a b e = e
edit_tame one a b e = ap (choices_by one) e

edits_alike : (edits : List Edit) (a b : Choices) → AreAlike a b → AreAlike (choices_after edits a) (choices_after edits b)
edits_alike [] a b alike = alike
edits_alike (one ∷ later) a b alike = edits_alike later (choices_by one a) (choices_by one b) (edit_tame one a b alike)

changed_alike : (x y : Loaded) (edits : Result (List Edit) Refusal) → AreLoadedAlike x y → AlikeBy AreLoadedAlike (changed_by x edits) (changed_by y edits)
changed_alike x y (Ok edits) alike = (ap (feed_after edits) alike.0, edits_alike edits x.settings y.settings alike.1, alike.2)
changed_alike x y (Err why) alike = refl

abbrev by_edits : Loaded → Option (List ℕ) → Work Input Refusal Loaded
by_edits loaded file = ends (changed_in loaded file)

edited_alike : (x y : Loaded) (edits : Option (List ℕ)) (given : Given) → AreLoadedAlike x y → AlikeBy AreLoadedAlike (outcome (edited_by edits x) given) (outcome (edited_by edits y) given)
edited_alike x y None given alike = alike
edited_alike x y (Some path) given alike = by_read (file_outcome (given input.Edits))
  where
    by_read : (read : Result (Option (List ℕ)) Refusal) → AlikeBy AreLoadedAlike (outcome (ends read >>= by_edits x) given) (outcome (ends read >>= by_edits y) given)
    by_read (Ok file) =
        subst (λ (t : Feed). AlikeBy AreLoadedAlike (changed_by x (edits_of x.tables file)) (changed_by y (edits_of t file))) alike.0 (changed_alike x y (edits_of x.tables file) alike)
    by_read (Err why) = refl

load_alike : (chosen : Chosen) (d : Defaults) (given : Given) → AlikeBy AreLoadedAlike (outcome (load_work chosen) given) (outcome (load_work (over d chosen)) given)
load_alike chosen d given =
    subst (λ (r : Result Loaded Refusal). AlikeBy AreLoadedAlike r (outcome (load_work (over d chosen)) given)) (sym (bound (feed_work chosen) (edited_by chosen.edits) given))
    (subst (λ (r : Result Loaded Refusal). AlikeBy AreLoadedAlike (outcome (ends (outcome (feed_work chosen) given) >>= edited_by chosen.edits) given) r) (sym (bound (feed_work (over d chosen)) (edited_by chosen.edits) given))
    (by_feed (outcome (feed_work chosen) given) (outcome (feed_work (over d chosen)) given) (feed_alike chosen d given)))
  where
    by_feed : (x y : Result Loaded Refusal) → AlikeBy AreLoadedAlike x y → AlikeBy AreLoadedAlike (outcome (ends x >>= edited_by chosen.edits) given) (outcome (ends y >>= edited_by chosen.edits) given)
    by_feed (Ok x) (Ok y) alike = edited_alike x y chosen.edits given alike
    by_feed (Err why) (Err other) alike = alike
    by_feed x y alike = absurd alike

-- what is loaded over other settings where the user sets none
pub loads_over : (chosen : Chosen) (d : Defaults) (given : Given) (loaded : Loaded) → outcome (load_work chosen) given ≡ Ok loaded
    → (other : Loaded) × (outcome (load_work (over d chosen)) given ≡ Ok other) × AreLoadedAlike loaded other
loads_over chosen d given loaded is =
    by_other (outcome (load_work (over d chosen)) given) refl (subst (λ (r : Result Loaded Refusal). AlikeBy AreLoadedAlike r (outcome (load_work (over d chosen)) given)) is (load_alike chosen d given))
  where
    by_other : (r : Result Loaded Refusal) → outcome (load_work (over d chosen)) given ≡ r → AlikeBy AreLoadedAlike (Ok loaded) r
        → (other : Loaded) × (outcome (load_work (over d chosen)) given ≡ Ok other) × AreLoadedAlike loaded other
    by_other (Ok other) same alike = (other, same, alike)
    by_other (Err why) same alike = absurd alike
