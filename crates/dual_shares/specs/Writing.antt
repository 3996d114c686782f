-- Where an order is written.
use Rattle.std.specs.Prelude.{◌≡◌, ℕ, List, map, Option, Some, None}
use Rattle.map_base.specs.declared.ids.LineId.{LineId}
use Rattle.least_orders.specs.Rows.{line_at, named}

-- an order is written, or nothing is where there is none
abbrev pub IsWritten : Option (List LineId) → List LineId → List LineId → Type 0
IsWritten None old new = new ≡ old
IsWritten (Some order) old new = new ≡ order

-- the lines that stand at these places
abbrev pub lines_at_places : List LineId → List ℕ → List LineId
lines_at_places lines places = map (λ k. named lines (line_at k)) places
