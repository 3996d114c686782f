-- The definitions at small values.
use Rattle.std.proofs.Common.{◌≡◌, ℕ, List, [], ◌∷◌, refl}
use Rattle.ordered_entries.specs.declared.entry.Entry.{Entry}
use Rattle.ordered_entries.specs.Entries.{places_of}

abbrev entry : ℕ → ℕ → Entry
entry key sequence = record { key = key; sequence = sequence }

abbrev entries : List Entry
entries = entry 7 40 ∷ entry 3 9 ∷ entry 7 5 ∷ entry 7 10 ∷ entry 3 2 ∷ []

-- the places of a key by rising sequence numbers
of_seven : places_of entries 7 ≡ 2 ∷ 3 ∷ 0 ∷ []
of_seven = refl

of_three : places_of entries 3 ≡ 4 ∷ 1 ∷ []
of_three = refl

of_none : places_of entries 4 ≡ []
of_none = refl

-- those of one number stay in the order of their places
equal_stay : places_of (entry 1 5 ∷ entry 1 5 ∷ entry 1 0 ∷ []) 1 ≡ 2 ∷ 0 ∷ 1 ∷ []
equal_stay = refl
