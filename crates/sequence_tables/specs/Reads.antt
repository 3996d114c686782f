-- Rows behind the header that pass a test, by their places.
use Rattle.std.specs.Prelude.{◌≡◌, ℕ, zero, suc, ◌<◌, Bool, false, List, [], ◌∷◌, ◌++◌, length, Option, Some, None, if◌then◌else◌}
use Rattle.std.specs.List.{slice_index_or}
use Rattle.table_rows.specs.declared.why.Why.{Why}
use Rattle.table_rows.specs.declared.why.Why.TheVariants.{RepeatedSequence}
use Rattle.table_rows.specs.Ids.{place_among}
use Rattle.table_rows.specs.Cells.{Row, row_at}

-- whether the row at a place stands behind the header and passes a test
abbrev pub passes : (Row → Bool) → List Row → ℕ → Bool
passes test rows zero = false
passes test rows (suc n) = test (row_at rows (suc n))

-- the places of such rows below a number
abbrev pub places_before : (Row → Bool) → ℕ → List Row → List ℕ
places_before test zero rows = []
places_before test (suc n) rows = places_before test n rows ++ (if passes test rows n then n ∷ [] else [])

-- The first bad row of those before a place that are bad by a repeat alone, or else the row at that place, where it
-- is bad.
abbrev pub first_refused : Option ℕ → Option (ℕ × Why) → Option (ℕ × Why)
first_refused (Some place) stopped = Some (place, RepeatedSequence)
first_refused None stopped = stopped

-- each id stands once: its place among the ids is its own
pub record StandOnce (ids : List (List ℕ)) : Type 0 where
  pub once : (place : ℕ) → place < length ids → place_among ids (slice_index_or ids place []) ≡ Some place
