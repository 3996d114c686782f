-- What an entry of a settings file changes.
use Rattle.std.specs.Prelude.{ℕ, List, Bool, ◌||◌, codes, Option, None, option_map, if◌then◌else◌, slice_set}
use Rattle.std.specs.Str.{bytes_eq}
use Rattle.map_base.specs.Settings.{Choices}
use Rattle.map_base.specs.declared.weights.Weights.{Weights}
use Rattle.map_method.specs.declared.defaults.Defaults.{Defaults}
use Rattle.map_method.specs.declared.map_settings.MapSettings.{MapSettings}
use Rattle.map_method.specs.declared.search.Search.{Search}
use Rattle.map_method.specs.declared.claim.Claim.{Claim}
use Rattle.map_method.specs.declared.spread.Spread.{Spread}
use Rattle.map_method.specs.Methods.{MethodChoices}
use Rattle.toml.specs.Data.{Data}
use Rattle.map_settings.specs.Values.{near_of, cell_of, budget_of, types_of, weights_of, importance_of, search_of, claim_of, spread_of, coarsest_of, finest_of, straight_of, moves_of, defaults_of}

-- a change of the settings of a map
abbrev pub near_is : ℕ → Choices → Choices
near_is near choices = record choices { near = near }

abbrev pub cell_is : ℕ → Choices → Choices
cell_is cell choices = record choices { cell = cell }

abbrev pub budget_is : ℕ → Choices → Choices
budget_is budget choices = record choices { budget = budget }

abbrev pub types_are : List ℕ → Choices → Choices
types_are types choices = record choices { types = types }

abbrev pub junction_is : Weights → Choices → Choices
junction_is weights choices = record choices { weights = slice_set choices.weights 0 weights }

abbrev pub station_is : Weights → Choices → Choices
station_is weights choices = record choices { weights = slice_set choices.weights 1 weights }

abbrev pub importance_is : List (List ℕ × ℕ) → Choices → Choices
importance_is importance choices = record choices { importance = importance }

-- a change of how a map is found
abbrev pub search_is : Search → MethodChoices → MethodChoices
search_is search method = record method { search = search }

abbrev pub claim_is : Claim → MethodChoices → MethodChoices
claim_is claim method = record method { claim = claim }

abbrev pub spread_is : Spread → MethodChoices → MethodChoices
spread_is spread method = record method { spread = spread }

abbrev pub coarsest_is : ℕ → MethodChoices → MethodChoices
coarsest_is coarsest method = record method { coarsest = coarsest }

abbrev pub finest_is : ℕ → MethodChoices → MethodChoices
finest_is finest method = record method { finest = finest }

abbrev pub straight_is : ℕ → MethodChoices → MethodChoices
straight_is straight method = record method { straight = straight }

abbrev pub moves_are : ℕ → MethodChoices → MethodChoices
moves_are moves method = record method { moves = moves }

-- what an entry changes in the settings of a map: nothing where its key is none of theirs, or its value is of another type
-- or out of range
abbrev pub settings_change : List ℕ × Data → Option (Choices → Choices)
settings_change entry =
    if bytes_eq entry.0 (codes "near") then option_map near_is (near_of entry.1)
    else if bytes_eq entry.0 (codes "cell") then option_map cell_is (cell_of entry.1)
    else if bytes_eq entry.0 (codes "budget") then option_map budget_is (budget_of entry.1)
    else if bytes_eq entry.0 (codes "types") then option_map types_are (types_of entry.1)
    else if bytes_eq entry.0 (codes "junction") then option_map junction_is (weights_of entry.1)
    else if bytes_eq entry.0 (codes "station") then option_map station_is (weights_of entry.1)
    else if bytes_eq entry.0 (codes "importance") then option_map importance_is (importance_of entry.1)
    else None

-- what an entry changes in how a map is found: nothing where its key is none of these, or its value is of another type
-- or out of range
abbrev pub method_change : List ℕ × Data → Option (MethodChoices → MethodChoices)
method_change entry =
    if bytes_eq entry.0 (codes "search") then option_map search_is (search_of entry.1)
    else if bytes_eq entry.0 (codes "proof") then option_map claim_is (claim_of entry.1)
    else if bytes_eq entry.0 (codes "spread") then option_map spread_is (spread_of entry.1)
    else if bytes_eq entry.0 (codes "coarsest") then option_map coarsest_is (coarsest_of entry.1)
    else if bytes_eq entry.0 (codes "finest") then option_map finest_is (finest_of entry.1)
    else if bytes_eq entry.0 (codes "straight") then option_map straight_is (straight_of entry.1)
    else if bytes_eq entry.0 (codes "moves") then option_map moves_are (moves_of entry.1)
    else None

-- the key says how a map is found, or what is to be proved of it
abbrev pub is_of_method : List ℕ → Bool
is_of_method key =
    bytes_eq key (codes "search") || bytes_eq key (codes "proof") || bytes_eq key (codes "spread")
    || bytes_eq key (codes "coarsest") || bytes_eq key (codes "finest") || bytes_eq key (codes "straight")
    || bytes_eq key (codes "moves")

-- the key names the command whose settings hold where keys are missing
abbrev pub names_defaults : List ℕ → Bool
names_defaults key = bytes_eq key (codes "method")

-- what holds where keys are missing becomes this
abbrev pub becomes : Defaults → Defaults → Defaults
becomes named defaults = named

-- a change of all settings
abbrev pub Change : Type 0
Change = MapSettings → MapSettings

abbrev pub in_settings : (Choices → Choices) → Change
in_settings change all = record all { settings = change all.settings }

abbrev pub in_method : (MethodChoices → MethodChoices) → Change
in_method change all = record all { method = change all.method }

abbrev pub in_defaults : (Defaults → Defaults) → Change
in_defaults change all = record all { defaults = change all.defaults }

-- what an entry changes: nothing where its key is unknown, or its value is of another type or out of range; the key `method`
-- says which settings hold where keys are missing
abbrev pub change_of : List ℕ × Data → Option Change
change_of entry =
    if names_defaults entry.0 then option_map in_defaults (option_map becomes (defaults_of entry.1))
    else if is_of_method entry.0 then option_map in_method (method_change entry)
    else option_map in_settings (settings_change entry)
