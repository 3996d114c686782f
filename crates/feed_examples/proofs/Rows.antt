-- The definitions at small values.
use Rattle.std.proofs.Common.{◌≡◌, ℕ, true, false, List, [], ◌∷◌, Option, Some, None, pos, neg_ℤ, refl, codes, bytes_eq}
use Rattle.map_base.specs.declared.limit.LimitKind.TheVariants.{File}
use Rattle.map_base.specs.Limits.{limit_of}
use Rattle.files_door.specs.Reading.{file_limit}
use Rattle.table_rows.specs.declared.why.Why.TheVariants.{MissingColumn, WrongFields}
use Rattle.table_rows.specs.Values.{bare, degrees_of}
use Rattle.table_rows.specs.Cells.{Row, column_of, field_in, ends_early, rows_before}
use Rattle.table_rows.specs.Degrees.{latitude_of, longitude_of}
use Rattle.table_rows.specs.Firsts.{firsts}
use Rattle.table_rows.specs.Folder.{path_in}
use Rattle.table_rows.specs.declared.why.Table.TheVariants.{StopTimes}
use Rattle.table_rows.specs.Reasons.{first_below, header_reason}

abbrev header : Row
header = codes "id" ∷ codes " name " ∷ codes "name" ∷ []

-- the first of equal names counts, spaces at its ends aside
first_name : column_of (codes "name") (header ∷ []) ≡ Some 1
unfolding bare
first_name = refl

no_name : column_of (codes "nam") (header ∷ []) ≡ None
unfolding bare
no_name = refl

-- a field that is absent is empty, and a row that ends before it ends early
short_field : field_in (codes "7" ∷ []) (Some 1) ≡ []
short_field = refl

early : ends_early (codes "7" ∷ []) (Some 0 ∷ Some 1 ∷ []) ≡ true
early = refl

not_early : ends_early (codes "7" ∷ [] ∷ []) (Some 0 ∷ Some 1 ∷ []) ≡ false
not_early = refl

-- 90 degrees are a latitude, and more are none
pole : latitude_of (codes "-90") ≡ Some (neg_ℤ (pos 90000000))
unfolding degrees_of
pole = refl

past_pole : latitude_of (codes "90.000001") ≡ None
unfolding degrees_of
past_pole = refl

date_line : longitude_of (codes "180") ≡ Some (pos 180000000)
unfolding degrees_of
date_line = refl

-- each once, in the order of their first sight
each_once : firsts bytes_eq (codes "b" ∷ codes "a" ∷ codes "b" ∷ codes "c" ∷ codes "a" ∷ []) ≡ codes "b" ∷ codes "a" ∷ codes "c" ∷ []
each_once = refl

path : path_in (codes "in") StopTimes ≡ codes "in/stop_times.txt"
path = refl

-- the header is no row behind it
behind_header : rows_before 3 (header ∷ [] ∷ (codes "x" ∷ []) ∷ (codes "y" ∷ []) ∷ []) ≡ [] ∷ (codes "x" ∷ []) ∷ []
behind_header = refl

no_column : header_reason (Some 0 ∷ None ∷ []) header ≡ Some MissingColumn
no_column = refl

-- a file may have as many bytes as the list of limits says
limit_of_a_file : file_limit 536870912 ≡ limit_of File
limit_of_a_file = refl
