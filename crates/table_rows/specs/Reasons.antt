-- The first bad row of a table, and its least reason.
use Rattle.std.specs.Prelude.{ℕ, zero, suc, ◌+◌, Bool, List, [], ◌∷◌, Option, Some, None, if◌then◌else◌, max, not, length, Result, Ok, Err}
use Rattle.table_rows.specs.declared.why.Why.{Why}
use Rattle.table_rows.specs.declared.why.Why.TheVariants.{MissingColumn, NotUtf8}
use Rattle.table_rows.specs.declared.why.Table.{Table}
use Rattle.table_rows.specs.declared.fault.FeedFault.{FeedFault}
use Rattle.table_rows.specs.declared.fault.FeedFault.TheVariants as faults
use Rattle.table_rows.specs.Cells.{Row, lacks_column, is_text}

-- the first reason of a list whose test is met
abbrev pub first_met : List (Bool × Why) → Option Why
first_met [] = None
first_met (reason ∷ others) = if reason.0 then Some reason.1 else first_met others

-- what is wrong with a header
abbrev pub header_reason : List (Option ℕ) → Row → Option Why
header_reason required header = first_met ((lacks_column required, MissingColumn) ∷ (not (is_text header), NotUtf8) ∷ [])

-- a place with its reason, if it has one
abbrev pub at_place : ℕ → Option Why → Option (ℕ × Why)
at_place place None = None
at_place place (Some why) = Some (place, why)

abbrev pub first_of : Option (ℕ × Why) → Option (ℕ × Why) → Option (ℕ × Why)
first_of None later = later
first_of (Some found) later = Some found

-- the least place below a number with a reason, and that reason
abbrev pub first_below : (ℕ → Option Why) → ℕ → Option (ℕ × Why)
first_below reason zero = None
first_below reason (suc n) = first_of (first_below reason n) (at_place n (reason n))

-- the first bad row of a table of so many rows; the first row is looked at even where there is none
abbrev pub first_bad : (ℕ → Option Why) → List Row → Option (ℕ × Why)
first_bad reason rows = first_below reason (max 1 (length rows))

-- a value, unless a row of the table is bad; rows are counted from 1
abbrev pub unless_bad : {A : Type 0} → Table → Option (ℕ × Why) → A → Result A FeedFault
unless_bad table None value = Ok value
unless_bad table (Some bad) value = Err (faults.BadRow table (bad.0 + 1) bad.1)
