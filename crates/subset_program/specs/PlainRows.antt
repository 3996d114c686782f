-- Rows without where they lie in memory.
use Rattle.std.specs.Prelude.{◌≡◌, ℕ, List, map, Option, Some, None}
use Rattle.map_base.specs.declared.ids.LineId.{LineId}
use Rattle.least_orders.specs.Rows.{Rows, line_at}
use Rattle.subset_program.specs.declared.rows.PairRows.{PairRows}

abbrev pub plain_rows : PairRows → Rows
plain_rows r = record { count = r.count; before = r.before.now; beside = r.beside.now; ahead = r.ahead.now }

-- where there is such an order, these are the places of its lines
abbrev pub ArePlacesOf : Option (List LineId) → List ℕ → Type 0
ArePlacesOf None places = Unit {0}
ArePlacesOf (Some order) places = map line_at places ≡ order
