-- Entries with a key and a sequence number: which of them comes again, and where those of a key stand.
use Rattle.std.specs.Prelude.{◌≡◌, ℕ, suc, ◌<◌, ◌==◌, Bool, List, [], ◌∷◌, length, map, filter}
use Rattle.std.specs.List.{slice_index_or}
use Rattle.ordered_entries.specs.declared.entry.Entry.{Entry}
use Rattle.ordered_entries.specs.declared.placed.Placed.{Placed}
use Rattle.ordered_entries.specs.Rising.{by_rising}

-- the entry at a place
abbrev pub entry_at : List Entry → ℕ → Entry
entry_at entries place = slice_index_or entries place (record { key = 0; sequence = 0 })

-- an earlier place holds the same key and sequence number
abbrev pub Repeats : List Entry → ℕ → Type 0
Repeats entries place = (earlier : ℕ) × (earlier < place) × (entry_at entries earlier ≡ entry_at entries place)

-- no place holds what an earlier one holds
abbrev pub AreDistinct : List Entry → Type 0
AreDistinct entries = (place : ℕ) → place < length entries → ¬ (Repeats entries place)

-- the least place that holds what an earlier one holds
pub record IsFirstRepeat (entries : List Entry) (place : ℕ) : Type 0 where
  pub within : place < length entries
  pub repeats : Repeats entries place
  pub first : (lesser : ℕ) → lesser < place → ¬ (Repeats entries lesser)

-- an entry with its place
abbrev pub at_place : ℕ → Entry → Placed
at_place place entry = record { key = entry.key; sequence = entry.sequence; place = place }

-- entries with their places, the first of which is given
abbrev pub placed_from : ℕ → List Entry → List Placed
placed_from place [] = []
placed_from place (entry ∷ rest) = at_place place entry ∷ placed_from (suc place) rest

abbrev pub is_of : ℕ → Placed → Bool
is_of key entry = entry.key == key

-- the places of a key's entries by rising sequence numbers; those of one number in the order of the places
abbrev pub places_of : List Entry → ℕ → List ℕ
places_of entries key = map (λ entry. entry.place) (by_rising (λ entry. entry.sequence) (filter (is_of key) (placed_from 0 entries)))
