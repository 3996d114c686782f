-- The values of an array and the entries of a table, as lists.
use Rattle.std.specs.Prelude.{ℕ, List, [], ◌∷◌}
use Rattle.toml.specs.Data.{Data, Items, no_items, item, Members, no_members, member}

-- the values of an array, in its order
abbrev pub elements : Items → List Data
elements no_items = []
elements (item value rest) = value ∷ elements rest

-- the keys of a table with their values, by rising bytes of the key as a table holds them
abbrev pub entries : Members → List (List ℕ × Data)
entries no_members = []
entries (member key value rest) = (key, value) ∷ entries rest
