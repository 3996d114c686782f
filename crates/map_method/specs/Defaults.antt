-- The settings that hold where a user sets none.
use Rattle.std.specs.Prelude.{ℕ}
use Rattle.map_base.specs.Settings.{Choices, standard_choices}
use Rattle.map_method.specs.declared.defaults.Defaults.{Defaults}
use Rattle.map_method.specs.declared.defaults.Defaults.TheVariants.{Make, Map}
use Rattle.map_method.specs.declared.search.Search.TheVariants.{Live, Dual}
use Rattle.map_method.specs.declared.claim.Claim.TheVariants.{Best}
use Rattle.map_method.specs.declared.spread.Spread.TheVariants.{Percent, Auto}
use Rattle.map_method.specs.declared.map_settings.MapSettings.{MapSettings}
use Rattle.map_method.specs.Methods.{MethodChoices}

-- the method of `make`, and the one of `map`
abbrev pub method_of : Defaults → MethodChoices
method_of Make = record { search = Live; claim = Best; spread = Percent 0; coarsest = 1; finest = 4; straight = 0; moves = 0 }
method_of Map = record { search = Dual; claim = Best; spread = Auto; coarsest = 1; finest = 16; straight = 1000; moves = 0 }

-- how many branch nodes the search for the orders of one part may have
abbrev pub budget_of : Defaults → ℕ
budget_of Make = standard_choices.budget
budget_of Map = 100000

-- the settings of `make`, and those of `map`, which differ in the budget alone
abbrev pub settings_of : Defaults → Choices
settings_of defaults = record standard_choices { budget = budget_of defaults }

-- all settings that hold where a user sets none
abbrev pub default_choices : Defaults → MapSettings
default_choices defaults = record { settings = settings_of defaults; method = method_of defaults; defaults = defaults }
