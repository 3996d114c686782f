-- What rows of `shapes.txt` say one by one. The ids of the shapes that selected trips name are given as a list.
use Rattle.std.specs.Prelude.{◌≡◌, true, false, ℕ, ℤ, zero, suc, ◌<◌, ◌≤◌, not, ◌&&◌, Bool, List, [], ◌∷◌, filter, map, length, Option, Some, None, is_some, is_none, unwrap_or, if◌then◌else◌, MatchOption, bytes_eq}
use Rattle.ordered_entries.specs.declared.entry.Entry.{Entry}
use Rattle.table_rows.specs.declared.why.Why.{Why}
use Rattle.table_rows.specs.declared.why.Why.TheVariants.{WrongFields, NotUtf8, BadLatitude, BadLongitude, BadWhole}
use Rattle.table_rows.specs.Firsts.{firsts_behind}
use Rattle.table_rows.specs.Ids.{place_among}
use Rattle.table_rows.specs.Cells.{Row, row_at, rows_before, field_in, ids_in, ends_early, is_text, is_empty}
use Rattle.table_rows.specs.Reasons.{first_met, first_below, header_reason}
use Rattle.sequence_tables.specs.declared.shape_columns.ShapeColumns.{ShapeColumns}
use Rattle.sequence_tables.specs.declared.reads.Read.{Read}
use Rattle.sequence_tables.specs.declared.reads.Reads.{Reads}
use Rattle.sequence_tables.specs.Reads.{places_before}
use Rattle.sequence_tables.specs.Shapes.{shape_columns, required_columns, latitude_in, longitude_in, sequence_in, point_in}

-- the place of a shape among those that are named; an empty id names none
abbrev pub shape_place : List (List ℕ) → List ℕ → Option ℕ
shape_place named id = if is_empty id then None else place_among named id

-- whether an id is among those that are named
abbrev pub is_known : List (List ℕ) → List ℕ → Bool
is_known named id = is_some (shape_place named id)

-- whether a row is read in full
abbrev pub is_read : List (List ℕ) → ShapeColumns → Row → Bool
is_read named c row = is_known named (field_in row c.id)

-- the reasons of a row that it has whatever stands in other rows of the table, told whether it is read in full
abbrev pub own_reason : Bool → ShapeColumns → Row → Option Why
own_reason read c row = first_met (
    (ends_early row (required_columns c), WrongFields)
    ∷ (not (is_text row), NotUtf8)
    ∷ (read && is_none (latitude_in c row), BadLatitude)
    ∷ (read && is_none (longitude_in c row), BadLongitude)
    ∷ (read && is_none (sequence_in c row), BadWhole)
    ∷ [])

-- the reasons that the row at a place has whatever stands in other rows; the header stands at place 0
abbrev pub own_reason_at : List (List ℕ) → List Row → ℕ → Option Why
own_reason_at named rows zero = header_reason (required_columns (shape_columns rows)) (row_at rows 0)
own_reason_at named rows (suc n) = own_reason (is_read named (shape_columns rows) (row_at rows (suc n))) (shape_columns rows) (row_at rows (suc n))

-- why a row that is read in full can't be
abbrev pub FailsInFull : ShapeColumns → Row → Why → Type 0
FailsInFull c row BadLatitude = is_none (latitude_in c row) ≡ true
FailsInFull c row BadLongitude = (is_none (latitude_in c row) ≡ false) × (is_none (longitude_in c row) ≡ true)
FailsInFull c row BadWhole = (is_none (latitude_in c row) ≡ false) × (is_none (longitude_in c row) ≡ false) × (is_none (sequence_in c row) ≡ true)
FailsInFull c row other = ⊥

-- what a row says that is read in full, told the place of its shape
abbrev pub read_by : ShapeColumns → Row → Option ℕ → Option (Read (ℤ × ℤ))
read_by c row None = None
read_by c row (Some place) = Some (record { entry = record { key = place; sequence = unwrap_or (sequence_in c row) 0 }; value = point_in c row })

-- the place of a row's shape among those that are named, and the row's sequence
abbrev pub entry_in : List (List ℕ) → ShapeColumns → Row → Entry
entry_in named c row = record { key = unwrap_or (shape_place named (field_in row c.id)) 0; sequence = unwrap_or (sequence_in c row) 0 }

-- what was read of the rows before a place, none of which is bad by itself, and whether the row at that place is
pub record AreReads (named : List (List ℕ)) (rows : List Row) (reads : Reads (ℤ × ℤ)) : Type 0 where
  pub within : reads.upto ≤ length rows
  pub passed : first_below (own_reason_at named rows) reads.upto ≡ None
  pub stopped : MatchOption reads.stopped (reads.upto ≡ length rows) (λ why. (reads.upto < length rows) × (own_reason_at named rows reads.upto ≡ Some why))
  pub entries : reads.entries ≡ map (entry_in named (shape_columns rows)) (filter (is_read named (shape_columns rows)) (rows_before reads.upto rows))
  pub points : reads.values ≡ map (point_in (shape_columns rows)) (filter (is_read named (shape_columns rows)) (rows_before reads.upto rows))
  pub places : reads.places ≡ places_before (is_read named (shape_columns rows)) reads.upto rows

-- the shapes that are named, in the order of their first rows before a place
abbrev pub sighted_before : List (List ℕ) → ShapeColumns → ℕ → List Row → List (List ℕ)
sighted_before named c place rows = firsts_behind bytes_eq [] (filter (is_known named) (ids_in c.id (rows_before place rows)))
