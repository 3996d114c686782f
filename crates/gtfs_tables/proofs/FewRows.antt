-- How many rows a table has.
use Rattle.std.proofs.Common.{◌≡◌, ◌≤◌, ◌^◌, ℕ, Bool, true, false, List, Option, Some, None, Result, Ok, Err, IfOk, length, nat_le, if◌then◌else◌, refl, subst, arith, Vec, option_map, IfSome}
use Rattle.std.specs.declared.alloc.Global.{Global}
use Rattle.std.proofs.lemmas.Bool.{leb-true}
use Rattle.gtfs_fields.proofs.Counts.{records_of-le}
use Rattle.files_door.specs.Reading.{file_limit}
use Rattle.table_rows.specs.declared.why.Table.{Table}
use Rattle.table_rows.specs.declared.fault.FeedFault.{FeedFault}
use Rattle.table_rows.specs.declared.fault.FeedFault.TheVariants as faults
use Rattle.table_rows.specs.Values.{rows_of}
use Rattle.table_rows.specs.Cells.{Row}
use Rattle.table_rows.specs.Folder.{file_outcome, required_rows}
use Rattle.table_rows.specs.Outcome.{Answers, never}

-- bytes that are read are no more than a file may have
pub few_bytes : (file : Option (List ℕ)) (bytes : List ℕ) → file_outcome file ≡ Ok (Some bytes) → length bytes ≤ 536870912
few_bytes None bytes is = cc
few_bytes (Some all) bytes is = by (nat_le (length all) 536870912) refl is
  where
    by : (b : Bool) → nat_le (length all) 536870912 ≡ b → (if b then Ok (Some all) else Err (faults.Limit (file_limit 536870912))) ≡ Ok (Some bytes) → length bytes ≤ 536870912
    by true e is =
        let same : all ≡ bytes = cc in
        let short = leb-true (length all) 536870912 e in
        subst (λ (b : List ℕ). length b ≤ 536870912) same short
    by false e is = cc

pub few_of_bytes : (bytes : List ℕ) → length bytes ≤ 536870912 → length (rows_of bytes) ≤ 2 ^ 32
unfolding rows_of
few_of_bytes bytes short =
    let counted = records_of-le bytes in
    omega (arith, counted, short)

pub few_rows : (table : Table) (file bytes : Option (List ℕ)) (result : Result (List Row) FeedFault) → file_outcome file ≡ Ok bytes
    → Answers never (λ rows. rows) result (required_rows table bytes) → IfOk result (λ rows. length rows ≤ 2 ^ 32)
few_rows table file bytes (Err fault) is answers = tt
few_rows table file None (Ok rows) is answers = cc
few_rows table file (Some bytes) (Ok rows) is answers =
    let same : rows_of bytes ≡ rows = cc in
    subst (λ (r : List Row). length r ≤ 2 ^ 32) same (few_of_bytes bytes (few_bytes file bytes is))

pub few_option : (file : Option (List ℕ)) (bytes : Option (Vec ℕ Global)) → file_outcome file ≡ Ok (option_map {T = Vec ℕ Global} {U = List ℕ} (λ v. v.items) bytes)
    → IfSome bytes (λ v. length (rows_of v.items) ≤ 2 ^ 32)
few_option file None is = tt
few_option file (Some v) is = few_of_bytes v.items (few_bytes file v.items is)
