-- What a fault of reading a whole file is for a table.
use Rattle.std.specs.Prelude.{ℕ, Option, None, Result, Ok, Err, Vec}
use Rattle.std.specs.declared.alloc.Global.{Global}
use Rattle.files_door.specs.declared.reading.DoorFault.{DoorFault}
use Rattle.files_door.specs.declared.reading.DoorFault.TheVariants as door
use Rattle.table_rows.specs.declared.why.Table.{Table}
use Rattle.table_rows.specs.declared.fault.FeedFault.{FeedFault}
use Rattle.table_rows.specs.declared.fault.FeedFault.TheVariants as faults

-- an absent file is none; every other fault is passed on
abbrev pub not_read : Table → DoorFault → Result (Option (Vec ℕ Global)) FeedFault
not_read table door.Absent = Ok None
not_read table door.ReadFault = Err (faults.ReadFault table)
not_read table (door.TooLong limit) = Err (faults.Limit limit)
not_read table door.NoMemory = Err faults.NoMemory
