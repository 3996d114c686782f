-- What is read of a file that is not told.
use Rattle.std.proofs.Common.{◌≡◌, ◌≤◌, ℕ, ◌+◌, false, List, length, replicate, Option, Some, None, Ok, Err, refl, ap, sym, ◌∙◌, arith, nat_le, if◌then◌else◌, Vec, option_map}
use Rattle.std.specs.declared.alloc.Global.{Global}
use Rattle.std.proofs.lemmas.List.{length-replicate}
use Rattle.std.proofs.lemmas.Bool.{le-leb, lt-leb}
use Rattle.files_door.specs.declared.reading.DoorFault.{DoorFault}
use Rattle.files_door.specs.declared.reading.DoorFault.TheVariants as door
use Rattle.files_door.specs.Reading.{ReadCause, file_limit}
use Rattle.table_rows.specs.declared.why.Table.{Table}
use Rattle.table_rows.specs.declared.fault.FeedFault.TheVariants as faults
use Rattle.table_rows.specs.Folder.{file_outcome}
use Rattle.table_rows.specs.NotRead.{not_read}
use Rattle.table_rows.specs.Outcome.{Answers, rose_at}

-- a file that is not too long is read
pub file_outcome-short : (bytes : List ℕ) → length bytes ≤ 536870912 → file_outcome (Some bytes) ≡ Ok (Some bytes)
file_outcome-short bytes short =
    ap (λ b. if b then Ok (Some bytes) else Err (faults.Limit (file_limit 536870912))) (le-leb (length bytes) 536870912 short)

-- some file is longer than a limit
pub longer : (most : ℕ) → (bytes : List ℕ) × (nat_le (length bytes) most ≡ false)
longer most = (replicate (most + 1) 0, ap (λ n. nat_le n most) (length-replicate (most + 1) 0) ∙ lt-leb (most + 1) most (omega arith))

-- each fault of the door is what some file gives
pub some_file : (fault : DoorFault) (table : Table) (before now : ℕ) → ReadCause 536870912 before now fault
    → (file : Option (List ℕ)) × Answers (rose_at table before now) (option_map {T = Vec ℕ Global} {U = List ℕ} (λ v. v.items)) (not_read table fault) (file_outcome file)
some_file door.Absent table before now cause = (None, refl)
some_file door.ReadFault table before now cause = (None, (refl, cause))
some_file (door.TooLong limit) table before now cause =
    let long = longer 536870912 in (
      Some long.0,
      ap (λ b. if b then Ok (Some long.0) else Err (faults.Limit (file_limit 536870912))) long.1
          ∙ ap (λ l. Err (faults.Limit l)) (sym cause),
    )
some_file door.NoMemory table before now cause = (None, tt)
