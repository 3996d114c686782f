-- Costs of the nine spots of a place, side by side, and tables of them.
use Rattle.std.specs.Prelude.{ℕ, ◌+◌, ◌*◌, ◌/◌, ◌%◌, ◌≡◌, ◌⊎◌, nat_eq, Bool, true, false, List, ◌∷◌, ◌++◌, map, take, drop, replicate, slice_set, Option, Some, None, IsPermutation}
use Rattle.std.specs.List.{range_with_len}
use Rattle.std.specs.declared.cmp.Reverse.{Reverse}
use Rattle.std.specs.declared.hash.FoldHasher.{FoldHasher}
use Rattle.std.specs.declared.hash.BuildHasherDefault.{BuildHasherDefault}
use Rattle.std.specs.HashMap.{get, HashMap}
use Rattle.least_path.specs.Orders.{AtMost}
use Rattle.state_search.specs.Searching.{entry, known_at}
use Rattle.state_search.specs.declared.row.Row.{Row}

-- the costs of a row, if there is one; else none is known
abbrev pub costs_of : Option Row → List (Option ℕ)
costs_of None = replicate 9 None
costs_of (Some row) = row.costs

-- what is known of the spots below a number, by the rows of their places
abbrev pub costs_in : HashMap ℕ Row (BuildHasherDefault FoldHasher) → ℕ → List (Option ℕ)
costs_in rows n = map (λ s. known_at (costs_of (get nat_eq rows (s / 9))) (s % 9)) (range_with_len 0 n)

-- the row of a place in a table
abbrev pub row_at : List (Option ℕ) → ℕ → List (Option ℕ)
row_at table place = take 9 (drop (place * 9) table)

-- a table with other costs at a place
abbrev pub with_row : List (Option ℕ) → ℕ → List (Option ℕ) → List (Option ℕ)
with_row table place row = take (place * 9) table ++ (row ++ drop (place * 9 + 9) table)

-- a cost of the spot of a direction of arrival was looked at in the row of a place: nothing changes where as low a one is
-- known; else it is known, and the spot waits with the estimate that the cost and a bound make
abbrev pub IsRowLowered : ℕ → ℕ → List (Option ℕ) → List (Option ℕ) → List (Reverse (ℕ × ℕ)) → List (Reverse (ℕ × ℕ)) → ℕ → ℕ → Type 0
IsRowLowered place ahead old new queue longer arrival cost =
    (AtMost (known_at old arrival) cost × (new ≡ old) × (longer ≡ queue))
    ⊎ ((AtMost (known_at old arrival) cost → ⊥) × (new ≡ slice_set old arrival (Some cost)) × IsPermutation (entry (cost + ahead) (place * 9 + arrival) ∷ queue) longer)

-- the same, if a cost is offered to the spot
abbrev pub IsRowOffered : Bool → ℕ → ℕ → List (Option ℕ) → List (Option ℕ) → List (Reverse (ℕ × ℕ)) → List (Reverse (ℕ × ℕ)) → ℕ → ℕ → Type 0
IsRowOffered false place ahead old new queue longer arrival cost = (new ≡ old) × (longer ≡ queue)
IsRowOffered true place ahead old new queue longer arrival cost = IsRowLowered place ahead old new queue longer arrival cost
