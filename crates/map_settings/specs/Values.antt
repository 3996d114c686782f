-- What the value of each key of a settings file gives; none where it is of another type or out of range.
use Rattle.std.specs.Prelude.{ℕ, ◌^◌, ◌-◌, ℤ, pos, negsuc, ◌&&◌, ◌||◌, ◌==◌, nat_le, List, [], ◌∷◌, length, codes, Option, Some, None, option_map, if◌then◌else◌}
use Rattle.std.specs.Option.{option_and_then}
use Rattle.std.specs.Str.{bytes_eq}
use Rattle.map_base.specs.declared.weights.Weights.{Weights}
use Rattle.map_method.specs.declared.defaults.Defaults.{Defaults}
use Rattle.map_method.specs.declared.defaults.Defaults.TheVariants.{Make, Map}
use Rattle.map_method.specs.declared.search.Search.{Search}
use Rattle.map_method.specs.declared.search.Search.TheVariants.{Live, Dual}
use Rattle.map_method.specs.declared.claim.Claim.{Claim}
use Rattle.map_method.specs.declared.claim.Claim.TheVariants.{Best, Bound}
use Rattle.map_method.specs.declared.spread.Spread.{Spread}
use Rattle.map_method.specs.declared.spread.Spread.TheVariants.{Percent, Auto}
use Rattle.toml.specs.Data.{Data, as_str, as_integer, as_array, as_table}
use Rattle.map_settings.specs.Tables.{elements, entries}

-- a number from `least` to `most`
abbrev pub from_to : ℕ → ℕ → ℤ → Option ℕ
from_to least most (pos n) = if nat_le least n && nat_le n most then Some n else None
from_to least most (negsuc n) = None

-- a whole number from `least` to `most`
abbrev pub whole_number : ℕ → ℕ → Data → Option ℕ
whole_number least most value = option_and_then (from_to least most) (as_integer value)

-- a list of at most `most` elements
abbrev pub at_most : {A : Type 0} → ℕ → List A → Option (List A)
at_most most xs = if nat_le (length xs) most then Some xs else None

-- one in front of others, where all are there
abbrev pub in_front : {A : Type 0} → Option A → Option (List A) → Option (List A)
in_front None rest = None
in_front (Some x) rest = option_map (λ xs. x ∷ xs) rest

-- what comes of each, where something comes of each
abbrev pub of_each : {A B : Type 0} → (A → Option B) → List A → Option (List B)
of_each f [] = Some []
of_each f (x ∷ xs) = in_front (f x) (of_each f xs)

-- the thinning distance, in decimetres
abbrev pub near_of : Data → Option ℕ
near_of value = whole_number 20 20000 value

-- 0, or a side that is not below 10
abbrev pub zero_or_ten : ℕ → Option ℕ
zero_or_ten cell = if cell == 0 || nat_le 10 cell then Some cell else None

-- the side of a cell in decimetres, or 0
abbrev pub cell_of : Data → Option ℕ
cell_of value = option_and_then zero_or_ten (whole_number 0 1000000 value)

-- how many branch nodes one part may have
abbrev pub budget_of : Data → Option ℕ
budget_of value = whole_number 1 100000 value

-- the route types, of which there are at most 100
abbrev pub route_types : List Data → Option (List ℕ)
route_types values = option_and_then (of_each (whole_number 0 (2 ^ 32 - 1))) (at_most 100 values)

abbrev pub types_of : Data → Option (List ℕ)
types_of value = option_and_then (λ items. route_types (elements items)) (as_array value)

-- three weights
abbrev pub weights_in : Option (List ℕ) → Option Weights
weights_in (Some (link ∷ split ∷ sep ∷ [])) = Some (record { link = link; split = split; sep = sep })
weights_in _ = None

-- the weights of a crossing, a split and a separation
abbrev pub three_weights : List Data → Option Weights
three_weights values = weights_in (of_each (whole_number 0 1000) values)

abbrev pub weights_of : Data → Option Weights
weights_of value = option_and_then (λ items. three_weights (elements items)) (as_array value)

-- how much the line with this route id counts
abbrev pub importance_at : List ℕ × Data → Option (List ℕ × ℕ)
importance_at entry = option_map (λ importance. (entry.0, importance)) (whole_number 1 16 entry.1)

-- how much lines count, of which there are at most 1,000
abbrev pub importances : List (List ℕ × Data) → Option (List (List ℕ × ℕ))
importances lines = option_and_then (of_each importance_at) (at_most 1000 lines)

abbrev pub importance_of : Data → Option (List (List ℕ × ℕ))
importance_of value = option_and_then (λ members. importances (entries members)) (as_table value)

-- the command whose settings hold where keys are missing, by its name
abbrev pub defaults_named : List ℕ → Option Defaults
defaults_named name = if bytes_eq name (codes "make") then Some Make else if bytes_eq name (codes "map") then Some Map else None

abbrev pub defaults_of : Data → Option Defaults
defaults_of value = option_and_then defaults_named (as_str value)

-- how line orders are searched for, by its name
abbrev pub search_named : List ℕ → Option Search
search_named name = if bytes_eq name (codes "live") then Some Live else if bytes_eq name (codes "dual") then Some Dual else None

abbrev pub search_of : Data → Option Search
search_of value = option_and_then search_named (as_str value)

-- what is to be proved of line orders, by its name
abbrev pub claim_named : List ℕ → Option Claim
claim_named name = if bytes_eq name (codes "best") then Some Best else if bytes_eq name (codes "bound") then Some Bound else None

abbrev pub claim_of : Data → Option Claim
claim_of value = option_and_then claim_named (as_str value)

-- how far nodes are spread, by its name
abbrev pub spread_named : List ℕ → Option Spread
spread_named name = if bytes_eq name (codes "auto") then Some Auto else None

-- how far nodes are spread, by the name that a value is, and else by its percents
abbrev pub spread_by : Option (List ℕ) → Data → Option Spread
spread_by (Some name) value = spread_named name
spread_by None value = option_map Percent (whole_number 0 100 value)

abbrev pub spread_of : Data → Option Spread
spread_of value = spread_by (as_str value) value

-- 1, 2 or 4
abbrev pub one_two_four : ℕ → Option ℕ
one_two_four coarsest = if coarsest == 1 || coarsest == 2 || coarsest == 4 then Some coarsest else None

-- how fine the coarsest grid is
abbrev pub coarsest_of : Data → Option ℕ
coarsest_of value = option_and_then one_two_four (whole_number 1 4 value)

-- 4, 8 or 16
abbrev pub four_eight_sixteen : ℕ → Option ℕ
four_eight_sixteen finest = if finest == 4 || finest == 8 || finest == 16 then Some finest else None

-- how fine the finest grid is
abbrev pub finest_of : Data → Option ℕ
finest_of value = option_and_then four_eight_sixteen (whole_number 4 16 value)

-- how many attempts may straighten the routes
abbrev pub straight_of : Data → Option ℕ
straight_of value = whole_number 0 10000 value

-- how many moves may follow the routes
abbrev pub moves_of : Data → Option ℕ
moves_of value = whole_number 0 10000 value
