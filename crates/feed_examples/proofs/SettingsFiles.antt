-- What settings files make, at small ones.
use Rattle.std.proofs.Common.{◌≡◌, ℕ, ◌++◌, Bool, true, false, List, [], ◌∷◌, Result, Ok, Err, is_ok, map, replicate, codes, refl}
use Rattle.std.specs.List.{flat_map}
use Rattle.std.specs.Str.{is_utf8, chars}
use lib.Utf8.{encode}
use Rattle.toml.specs.Parse.{parse_document}
use Rattle.toml.proofs.OnLiterals.{toml_on_literals}
use Rattle.map_base.specs.Settings.{standard_choices}
use Rattle.map_method.specs.declared.defaults.Defaults.{Defaults}
use Rattle.map_method.specs.declared.defaults.Defaults.TheVariants.{Make, Map}
use Rattle.map_method.specs.declared.map_settings.MapSettings.{MapSettings}
use Rattle.map_method.specs.declared.search.Search.TheVariants.{Live, Dual}
use Rattle.map_method.specs.declared.claim.Claim.TheVariants.{Best, Bound}
use Rattle.map_method.specs.declared.spread.Spread.TheVariants.{Percent, Auto}
use Rattle.map_method.specs.Defaults.{default_choices}
use Rattle.map_method.specs.Methods.{MethodChoices}
use Rattle.map_settings.specs.declared.fault.SettingsWhy.{SettingsWhy}
use Rattle.map_settings.specs.declared.fault.SettingsWhy.TheVariants.{NotToml, Key}
use Rattle.map_settings.specs.Outcome.{texts_outcome, with_table}

abbrev near_and_method : Defaults → MethodChoices → MapSettings
near_and_method defaults method = record { settings = record standard_choices { near = 20 }; method = method; defaults = defaults }

of_nothing : with_table (default_choices Make) (parse_document (codes "")) ≡ Ok (default_choices Make)
unfolding toml_on_literals
of_nothing = refl

-- a key leaves the other defaults as they are
least_near : with_table (default_choices Make) (parse_document (codes "near = 20\n"))
    ≡ Ok (near_and_method Make (record { search = Live; claim = Best; spread = Percent 0; coarsest = 1; finest = 4; straight = 0; moves = 0 }))
unfolding toml_on_literals
least_near = refl

of_map : with_table (default_choices Map) (parse_document (codes "budget = 20000\nnear = 20\nfinest = 8\n"))
    ≡ Ok (near_and_method Map (record { search = Dual; claim = Best; spread = Auto; coarsest = 1; finest = 8; straight = 1000; moves = 0 }))
unfolding toml_on_literals
of_map = refl

-- moves leave the straightening of a map as it is, and a map that isn't straightened is not moved by itself
map_with_moves : with_table (default_choices Map) (parse_document (codes "budget = 20000\nnear = 20\nfinest = 8\nmoves = 7\n"))
    ≡ Ok (near_and_method Map (record { search = Dual; claim = Best; spread = Auto; coarsest = 1; finest = 8; straight = 1000; moves = 7 }))
unfolding toml_on_literals
map_with_moves = refl

not_straight : with_table (default_choices Map) (parse_document (codes "budget = 20000\nnear = 20\nfinest = 8\nstraight = 0\n"))
    ≡ Ok (near_and_method Map (record { search = Dual; claim = Best; spread = Auto; coarsest = 1; finest = 8; straight = 0; moves = 0 }))
unfolding toml_on_literals
not_straight = refl

of_method : with_table (default_choices Make) (parse_document (codes "search = \"dual\"\nspread = \"auto\"\nnear = 20\nfinest = 8\n"))
    ≡ Ok (near_and_method Make (record { search = Dual; claim = Best; spread = Auto; coarsest = 1; finest = 8; straight = 0; moves = 0 }))
unfolding toml_on_literals
of_method = refl

near_too_small : with_table (default_choices Make) (parse_document (codes "near = 19\n")) ≡ Err (Key (codes "near"))
unfolding toml_on_literals
near_too_small = refl

-- a cell of 0 is allowed, and one of 9 is not
no_cell : with_table (default_choices Make) (parse_document (codes "cell = 0\n")) ≡ Ok (default_choices Make)
unfolding toml_on_literals
no_cell = refl

cell_too_small : with_table (default_choices Make) (parse_document (codes "cell = 9\n")) ≡ Err (Key (codes "cell"))
unfolding toml_on_literals
cell_too_small = refl

spread_too_far : with_table (default_choices Make) (parse_document (codes "spread = 101\n")) ≡ Err (Key (codes "spread"))
unfolding toml_on_literals
spread_too_far = refl

live_search : with_table (default_choices Map) (parse_document (codes "search = \"live\"\nbudget = 20000\nnear = 20\nspread = 0\nfinest = 4\n"))
    ≡ Ok (near_and_method Map (record { search = Live; claim = Best; spread = Percent 0; coarsest = 1; finest = 4; straight = 1000; moves = 0 }))
unfolding toml_on_literals
live_search = refl

other_search : with_table (default_choices Make) (parse_document (codes "search = \"rising\"\n")) ≡ Err (Key (codes "search"))
unfolding toml_on_literals
other_search = refl

-- a bound is asked for beside any search
bound_alone : with_table (default_choices Make) (parse_document (codes "near = 20\nproof = \"bound\"\n"))
    ≡ Ok (near_and_method Make (record { search = Live; claim = Bound; spread = Percent 0; coarsest = 1; finest = 4; straight = 0; moves = 0 }))
unfolding toml_on_literals
bound_alone = refl

best_in_words : with_table (default_choices Make) (parse_document (codes "near = 20\nproof = \"best\"\n"))
    ≡ Ok (near_and_method Make (record { search = Live; claim = Best; spread = Percent 0; coarsest = 1; finest = 4; straight = 0; moves = 0 }))
unfolding toml_on_literals
best_in_words = refl

other_claim : with_table (default_choices Make) (parse_document (codes "proof = 1\n")) ≡ Err (Key (codes "proof"))
unfolding toml_on_literals
other_claim = refl

most_moves : with_table (default_choices Make) (parse_document (codes "near = 20\nmoves = 10000\n"))
    ≡ Ok (near_and_method Make (record { search = Live; claim = Best; spread = Percent 0; coarsest = 1; finest = 4; straight = 0; moves = 10000 }))
unfolding toml_on_literals
most_moves = refl

most_straight : with_table (default_choices Make) (parse_document (codes "near = 20\nstraight = 10000\n"))
    ≡ Ok (near_and_method Make (record { search = Live; claim = Best; spread = Percent 0; coarsest = 1; finest = 4; straight = 10000; moves = 0 }))
unfolding toml_on_literals
most_straight = refl

too_straight : with_table (default_choices Make) (parse_document (codes "straight = 10001\n")) ≡ Err (Key (codes "straight"))
unfolding toml_on_literals
too_straight = refl

too_many_moves : with_table (default_choices Make) (parse_document (codes "moves = 10001\n")) ≡ Err (Key (codes "moves"))
unfolding toml_on_literals
too_many_moves = refl

no_grid_between : with_table (default_choices Map) (parse_document (codes "finest = 12\n")) ≡ Err (Key (codes "finest"))
unfolding toml_on_literals
no_grid_between = refl

grid_too_coarse : with_table (default_choices Make) (parse_document (codes "coarsest = 0\n")) ≡ Err (Key (codes "coarsest"))
unfolding toml_on_literals
grid_too_coarse = refl

no_coarsest_between : with_table (default_choices Map) (parse_document (codes "coarsest = 3\n")) ≡ Err (Key (codes "coarsest"))
unfolding toml_on_literals
no_coarsest_between = refl

grid_too_fine : with_table (default_choices Make) (parse_document (codes "coarsest = 8\n")) ≡ Err (Key (codes "coarsest"))
unfolding toml_on_literals
grid_too_fine = refl

grid_in_words : with_table (default_choices Make) (parse_document (codes "coarsest = \"2\"\n")) ≡ Err (Key (codes "coarsest"))
unfolding toml_on_literals
grid_in_words = refl

-- the key `method` names whose settings hold where keys are missing, and changes nothing else
names_map : with_table (default_choices Make) (parse_document (codes "near = 20\nmethod = \"map\"\n"))
    ≡ Ok (near_and_method Map (record { search = Live; claim = Best; spread = Percent 0; coarsest = 1; finest = 4; straight = 0; moves = 0 }))
unfolding toml_on_literals
names_map = refl

no_method : with_table (default_choices Make) (parse_document (codes "method = \"poster\"\n")) ≡ Err (Key (codes "method"))
unfolding toml_on_literals
no_method = refl

method_by_number : with_table (default_choices Map) (parse_document (codes "method = 1\n")) ≡ Err (Key (codes "method"))
unfolding toml_on_literals
method_by_number = refl

-- what the defaults of `map` are where `make` reads, and the other way round; a key of an earlier text stays
make_as_map : texts_outcome Make (codes "budget = 20000\nmethod = \"map\"\nnear = 20\n" ∷ codes "moves = 7\n" ∷ [])
    ≡ Ok (near_and_method Map (record { search = Dual; claim = Best; spread = Auto; coarsest = 1; finest = 16; straight = 1000; moves = 7 }))
unfolding toml_on_literals is_utf8 chars encode
make_as_map = refl

map_as_make : texts_outcome Map (codes "method = \"map\"\nnear = 20\n" ∷ codes "method = \"make\"\n" ∷ [])
    ≡ Ok (near_and_method Make (record { search = Live; claim = Best; spread = Percent 0; coarsest = 1; finest = 4; straight = 0; moves = 0 }))
unfolding toml_on_literals is_utf8 chars encode
map_as_make = refl

-- the least key by its bytes, wherever it stands
least_bad_key : with_table (default_choices Make) (parse_document (codes "spread = \"all\"\nnear = 1\nfinest = 5\n")) ≡ Err (Key (codes "finest"))
unfolding toml_on_literals
least_bad_key = refl

no_document : with_table (default_choices Make) (parse_document (codes "near = \n")) ≡ Err NotToml
unfolding toml_on_literals
no_document = refl

twice_a_key : with_table (default_choices Make) (parse_document (codes "near = 20\nnear = 21\n")) ≡ Err NotToml
unfolding toml_on_literals
twice_a_key = refl

abbrev told : List ℕ → Result MapSettings SettingsWhy
told file = with_table (default_choices Make) (parse_document file)

unknown_key : told (codes "colour = 1\n") ≡ Err (Key (codes "colour"))
unfolding toml_on_literals
unknown_key = refl

too_important : told (codes "importance = { B = 17 }\n") ≡ Err (Key (codes "importance"))
unfolding toml_on_literals
too_important = refl

every_method : told (codes "near = 20\nsearch = \"dual\"\nproof = \"bound\"\nspread = 35\ncoarsest = 4\nfinest = 16\nstraight = 5\nmoves = 7\n")
    ≡ Ok (near_and_method Make (record { search = Dual; claim = Bound; spread = Percent 35; coarsest = 4; finest = 16; straight = 5; moves = 7 }))
unfolding toml_on_literals
every_method = refl

-- Whether files are read: the ends of each range.
abbrev are_read : List (List ℕ) → List Bool
are_read = map (λ file. is_ok (told file))

nears : are_read (codes "near = 19\n" ∷ codes "near = 20\n" ∷ codes "near = 20000\n" ∷ codes "near = 20001\n" ∷ [])
    ≡ false ∷ true ∷ true ∷ false ∷ []
unfolding toml_on_literals
nears = refl

cells : are_read (codes "cell = -1\n" ∷ codes "cell = 1\n" ∷ codes "cell = 10\n" ∷ codes "cell = 1000000\n"
    ∷ codes "cell = 1000001\n" ∷ [])
    ≡ false ∷ false ∷ true ∷ true ∷ false ∷ []
unfolding toml_on_literals
cells = refl

budgets : are_read (codes "budget = 0\n" ∷ codes "budget = 1\n" ∷ codes "budget = 100000\n"
    ∷ codes "budget = 100001\n" ∷ []) ≡ false ∷ true ∷ true ∷ false ∷ []
unfolding toml_on_literals
budgets = refl

types : are_read (codes "types = []\n" ∷ codes "types = [0, 4294967295]\n" ∷ codes "types = [4294967296]\n" ∷ [])
    ≡ true ∷ true ∷ false ∷ []
unfolding toml_on_literals
types = refl

abbrev zeros : ℕ → List ℕ
zeros count = codes "types = ["
    ++ flat_map (λ (zero_and_comma : List ℕ). zero_and_comma) (replicate count (codes "0, ")) ++ codes "]\n"

a_hundred_types : are_read (zeros 100 ∷ zeros 101 ∷ []) ≡ true ∷ false ∷ []
unfolding toml_on_literals
a_hundred_types = refl

junctions : are_read (codes "junction = [1000, 1000, 1000]\n" ∷ codes "junction = [1001, 0, 0]\n"
    ∷ codes "junction = [0, 1001, 0]\n" ∷ []) ≡ true ∷ false ∷ false ∷ []
unfolding toml_on_literals
junctions = refl

stations : are_read (codes "station = [0, 0, 0]\n" ∷ codes "station = [0, 0, 1001]\n" ∷ codes "station = [0, 0]\n"
    ∷ codes "station = [0, 0, 0, 0]\n" ∷ [])
    ≡ true ∷ false ∷ false ∷ false ∷ []
unfolding toml_on_literals
stations = refl

searches : are_read (codes "search = \"live\"\n" ∷ codes "search = \"dual\"\n" ∷ codes "search = \"Dual\"\n"
    ∷ codes "search = 1\n" ∷ []) ≡ true ∷ true ∷ false ∷ false ∷ []
unfolding toml_on_literals
searches = refl

claims : are_read (codes "proof = \"best\"\n" ∷ codes "proof = \"bound\"\n" ∷ codes "proof = \"Best\"\n"
    ∷ codes "proof = true\n" ∷ []) ≡ true ∷ true ∷ false ∷ false ∷ []
unfolding toml_on_literals
claims = refl

spreads : are_read (codes "spread = -1\n" ∷ codes "spread = 0\n" ∷ codes "spread = 100\n"
    ∷ codes "spread = \"auto\"\n" ∷ codes "spread = \"all\"\n" ∷ codes "spread = [0]\n" ∷ [])
    ≡ false ∷ true ∷ true ∷ true ∷ false ∷ false ∷ []
unfolding toml_on_literals
spreads = refl

finest_grids : are_read (codes "finest = 2\n" ∷ codes "finest = 4\n" ∷ codes "finest = 5\n" ∷ codes "finest = 8\n"
    ∷ codes "finest = 16\n" ∷ codes "finest = 32\n" ∷ [])
    ≡ false ∷ true ∷ false ∷ true ∷ true ∷ false ∷ []
unfolding toml_on_literals
finest_grids = refl

straights : are_read (codes "straight = -1\n" ∷ codes "straight = 0\n" ∷ codes "straight = 10000\n" ∷ codes "straight = 10001\n"
    ∷ codes "straight = \"x\"\n" ∷ []) ≡ false ∷ true ∷ true ∷ false ∷ false ∷ []
unfolding toml_on_literals
straights = refl

moves : are_read (codes "moves = -1\n" ∷ codes "moves = 0\n" ∷ codes "moves = 10000\n" ∷ codes "moves = \"auto\"\n"
    ∷ []) ≡ false ∷ true ∷ true ∷ false ∷ []
unfolding toml_on_literals
moves = refl

importances : are_read (codes "importance = { A = 0 }\n" ∷ codes "importance = { A = 1 }\n"
    ∷ codes "importance = { A = 16 }\n" ∷ codes "importance = { A = 17 }\n" ∷ [])
    ≡ false ∷ true ∷ true ∷ false ∷ []
unfolding toml_on_literals
importances = refl
