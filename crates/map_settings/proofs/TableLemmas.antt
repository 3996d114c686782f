-- The values of a `toml` array and the entries of its table, as the definitions list them.
use Rattle.std.proofs.Common.{◌≡◌, ℕ, List, [], ◌∷◌, map, String, Vec, Global, string_bytes, Option, Some, refl, sym, ap, ◌∙◌}
use Rattle.std.specs.Option.{option_and_then}
use Rattle.toml.specs.Data.{Data, Items}
use Rattle.toml.specs.View.{view, items_of, members_view, array_view}
use Rattle.toml.specs.declared.value.Value.{Value}
use Rattle.map_settings.specs.Tables.{elements, entries}

elements-items_of : (values : List Data) → elements (items_of values) ≡ values
elements-items_of [] = refl
elements-items_of (value ∷ values) = ap (λ rest. value ∷ rest) (elements-items_of values)

pub elements-array_view : (values : Vec Value Global) → elements (array_view values) ≡ map view values.items
elements-array_view values = elements-items_of (map view values.items)

-- what comes of the values of an array that is there
pub array_value : {B : Type 0} (f : List Data → Option B) (o : Option Items) (values : Vec Value Global) → Some (array_view values) ≡ o
    → f (map view values.items) ≡ option_and_then (λ items. f (elements items)) o
array_value f o values found = sym (ap f (elements-array_view values)) ∙ ap (option_and_then (λ items. f (elements items))) found

-- an entry of a map, as the definitions see it
abbrev pub entry_view : String Global × Value → List ℕ × Data
entry_view entry = (string_bytes entry.0, view entry.1)

pub entries-members_view : (file : List (String Global × Value)) → entries (members_view file) ≡ map entry_view file
entries-members_view [] = refl
entries-members_view (entry ∷ file) = ap (λ rest. entry_view entry ∷ rest) (entries-members_view file)
