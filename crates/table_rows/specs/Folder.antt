-- The files of a feed's folder.
use Rattle.std.specs.Prelude.{ℕ, List, ◌∷◌, ◌++◌, length, Option, Some, None, Result, Ok, Err, if◌then◌else◌, nat_le, codes}
use Rattle.files_door.specs.Files.{file_at}
use Rattle.files_door.specs.Reading.{file_limit}
use Rattle.table_rows.specs.Values.{rows_of}
use Rattle.table_rows.specs.declared.why.Table.{Table}
use Rattle.table_rows.specs.declared.why.Table.TheVariants.{Routes, Stops, Trips, Shapes, StopTimes}
use Rattle.table_rows.specs.declared.why.Why.TheVariants.{MissingFile}
use Rattle.table_rows.specs.declared.fault.FeedFault.{FeedFault}
use Rattle.table_rows.specs.declared.fault.FeedFault.TheVariants.{BadRow, Limit}
use Rattle.table_rows.specs.Cells.{Row}

-- the name of a table's file
abbrev pub file_name : Table → List ℕ
file_name Routes = codes "routes.txt"
file_name Stops = codes "stops.txt"
file_name Trips = codes "trips.txt"
file_name Shapes = codes "shapes.txt"
file_name StopTimes = codes "stop_times.txt"

-- the path of a table's file: the folder, '/', and the name
abbrev pub path_in : List ℕ → Table → List ℕ
path_in folder table = folder ++ 47 ∷ file_name table

-- the bytes of a table's file, where it is there
abbrev pub table_file : List (List ℕ × List ℕ) → List ℕ → Table → Option (List ℕ)
table_file files folder table = file_at files (path_in folder table)

-- what is read of a file, if it is there: all its bytes, where these are not too many
abbrev pub file_outcome : Option (List ℕ) → Result (Option (List ℕ)) FeedFault
file_outcome None = Ok None
file_outcome (Some bytes) = if nat_le (length bytes) 536870912 then Ok (Some bytes) else Err (Limit (file_limit 536870912))

-- the rows of a table that has to be there
abbrev pub required_rows : Table → Option (List ℕ) → Result (List Row) FeedFault
required_rows table None = Err (BadRow table 0 MissingFile)
required_rows table (Some bytes) = Ok (rows_of bytes)
