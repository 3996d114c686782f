-- What reading a whole file answers.
use Rattle.std.specs.Prelude.{◌≡◌, ℕ, ◌+◌, ◌<◌, List, length, Option, None, Some, Result, Ok, Err, if◌then◌else◌, nat_le, ⊤, Vec}
use Rattle.std.specs.declared.alloc.Global.{Global}
use Rattle.map_base.specs.declared.limit.Limit.{Limit}
use Rattle.map_base.specs.declared.limit.LimitKind.TheVariants.{File}
use Rattle.files_door.specs.Fault.{Rose}
use Rattle.files_door.specs.declared.stop.Stop.{Stop}
use Rattle.files_door.specs.declared.stop.Stop.TheVariants as stop
use Rattle.files_door.specs.declared.reading.DoorFault.{DoorFault}
use Rattle.files_door.specs.declared.reading.DoorFault.TheVariants.{Absent, ReadFault, TooLong, NoMemory}

-- the limit of a file's length that a file is above; counting stopped at the first byte too many
abbrev pub file_limit : ℕ → Limit
file_limit most = record { what = File; found = most + 1; most = most }

-- the file whole, or why not
abbrev pub whole_file : Option (List ℕ) → ℕ → Result (List ℕ) DoorFault
whole_file None most = Err Absent
whole_file (Some bytes) most = if nat_le (length bytes) most then Ok bytes else Err (TooLong (file_limit most))

-- the answer is the defined one, or one that depends on no file: a fault of reading, or want of memory
abbrev pub IsWhole : Result (List ℕ) DoorFault → Result (Vec ℕ Global) DoorFault → Type 0
IsWhole defined (Ok bytes) = defined ≡ Ok bytes.items
IsWhole defined (Err Absent) = defined ≡ Err Absent
IsWhole defined (Err (TooLong limit)) = defined ≡ Err (TooLong limit)
IsWhole defined (Err ReadFault) = ⊤
IsWhole defined (Err NoMemory) = ⊤

-- a fault of reading is told only where the count of faults rose, and a limit is that of a file
abbrev pub ReadCause : ℕ → ℕ → ℕ → DoorFault → Type 0
ReadCause most before now ReadFault = Rose before now
ReadCause most before now (TooLong limit) = limit ≡ file_limit most
ReadCause most before now Absent = ⊤
ReadCause most before now NoMemory = ⊤

-- what a refused call of files makes of reading
abbrev pub fault_of : Stop → DoorFault
fault_of stop.Failed = ReadFault
fault_of stop.NoMemory = NoMemory

-- there are more bytes than allowed, or memory was wanted
abbrev pub IsFull : ℕ → List ℕ → DoorFault → Type 0
IsFull most bytes (TooLong limit) = (most < length bytes) × (limit ≡ file_limit most)
IsFull most bytes NoMemory = ⊤
IsFull most bytes Absent = ⊥
IsFull most bytes ReadFault = ⊥
