-- A file that is read for a command.
use Rattle.std.proofs.Common.{◌≡◌, ◌≤◌, ℕ, Bool, true, false, List, [], ◌∷◌, length, Option, None, Some, option_map, Result, Ok, Err, IfOk, IfSome, Vec, if◌then◌else◌, nat_le, refl, sym, ap, ◌∙◌, subst}
use Rattle.std.specs.declared.alloc.Global.{Global}
use Rattle.std.proofs.lemmas.Bool.{le-leb}
use Rattle.map_base.specs.declared.limit.Limit.{Limit}
use Rattle.map_base.specs.declared.limit.LimitKind.TheVariants.{File}
use Rattle.map_base.specs.Limits.{limit_of, limit_most}
use Rattle.files_door.specs.Fault.{Rose}
use Rattle.files_door.specs.Files.{file_at}
use Rattle.files_door.specs.Reading.{whole_file, IsWhole, ReadCause, file_limit}
use Rattle.files_door.specs.declared.reading.DoorFault.{DoorFault}
use Rattle.files_door.specs.declared.reading.DoorFault.TheVariants as door
use Rattle.table_rows.proofs.FolderLemmas.{longer}
use Rattle.command_run.specs.Told.{AreTold, IsRun}
use Rattle.run_status.specs.declared.input.Input.{Input}
use Rattle.run_status.specs.declared.refusal.Refusal.{Refusal}
use Rattle.run_status.specs.declared.refusal.Refusal.TheVariants as refused
use Rattle.run_status.specs.Refusals.{not_read}
use Rattle.command_inputs.specs.Loading.{file_outcome, file_work}
use Rattle.run_status.specs.Following.{Follows}

abbrev Told : Type 0
Told = Option (List (List ℕ × List ℕ))

-- the bytes of what was read
abbrev pub bytes_in : Option (Vec ℕ Global) → Option (List ℕ)
bytes_in = option_map {T = Vec ℕ Global} {U = List ℕ} (λ v. v.items)

-- what is read of a file, by whether it is short enough
abbrev tested : Bool → List ℕ → ℕ → Result (List ℕ) DoorFault
tested short bytes most = if short then Ok bytes else Err (door.TooLong (file_limit most))

-- a file that is read whole is there, and short enough
whole_is : (file : Option (List ℕ)) (most : ℕ) (bytes : List ℕ) → whole_file file most ≡ Ok bytes → (file ≡ Some bytes) × (nat_le (length bytes) most ≡ true)
whole_is None most bytes is = absurd (cc)
whole_is (Some found) most bytes is = by_test (nat_le (length found) most) refl is
  where
    by_test : (short : Bool) → nat_le (length found) most ≡ short → tested short found most ≡ Ok bytes → (Some found ≡ Some bytes) × (nat_le (length bytes) most ≡ true)
    by_test true e read =
        let same : found ≡ bytes = cc in
        (ap Some same, subst (λ (b : List ℕ). nat_le (length b) most ≡ true) same e)
    by_test false e read = absurd (cc)

-- a file that is absent is none
absent_is : (file : Option (List ℕ)) (most : ℕ) → whole_file file most ≡ Err door.Absent → file ≡ None
absent_is None most is = refl
absent_is (Some found) most is = by_test (nat_le (length found) most) is
  where
    by_test : (short : Bool) → tested short found most ≡ Err door.Absent → Some found ≡ None
    by_test true read = absurd (cc)
    by_test false read = absurd (cc)

-- a file that is too long is there
abbrev IsLong : Option (List ℕ) → ℕ → Limit → Type 0
IsLong file most limit = (bytes : List ℕ) × (file ≡ Some bytes) × (nat_le (length bytes) most ≡ false) × (limit ≡ file_limit most)

long_is : (file : Option (List ℕ)) (most : ℕ) (limit : Limit) → whole_file file most ≡ Err (door.TooLong limit) → IsLong file most limit
long_is None most limit is = absurd (cc)
long_is (Some found) most limit is = by_test (nat_le (length found) most) refl is
  where
    by_test : (short : Bool) → nat_le (length found) most ≡ short → tested short found most ≡ Err (door.TooLong limit) → IsLong (Some found) most limit
    by_test true e read = absurd (cc)
    by_test false e read = let same : limit ≡ file_limit most = cc in (found, refl, e, same)

-- what is read of a file by its length
short_outcome : (bytes : List ℕ) → nat_le (length bytes) (limit_most File) ≡ true → file_outcome (Some bytes) ≡ Ok (Some bytes)
short_outcome bytes e = ap (λ b. if b then Ok (Some bytes) else Err (refused.Limit (limit_of File))) e

long_outcome : (bytes : List ℕ) (limit : Limit) → nat_le (length bytes) (limit_most File) ≡ false → limit ≡ file_limit (limit_most File) → file_outcome (Some bytes) ≡ Err (refused.Limit limit)
long_outcome bytes limit e is =
    let refusal : Limit → Result (Option (List ℕ)) Refusal = λ l. Err (refused.Limit l) in
    ap (λ b. if b then Ok (Some bytes) else Err (refused.Limit (limit_of File))) e ∙ ap refusal (sym is)

-- the work of reading a file that gave this
gave : (told : Told) (paths : Input → List ℕ) (role : Input) (file : Option (List ℕ)) (result : Result (Option (List ℕ)) Refusal) → AreTold told paths ((role, file) ∷ []) → file_outcome file ≡ result
    → IsRun refused.ReadFault told paths (file_work role) result
gave told paths role file result are is = record { seen = (role, file) ∷ []; are_told = are; runs = (refl, sym is) }

unread : (told : Told) (paths : Input → List ℕ) (role : Input) → AreTold told paths [] → IsRun refused.ReadFault told paths (file_work role) (Err (refused.ReadFault role))
unread told paths role are = record { seen = []; are_told = are; runs = refl }

-- where files are told, a file is what lies at its path
abbrev WasRead : Told → List ℕ → ℕ → Result (Vec ℕ Global) DoorFault → Type 0
WasRead told path most result = IfSome told (λ all. IsWhole (whole_file (file_at all path) most) result)

module _ (paths : Input → List ℕ) (role : Input) (old now : ℕ) where
  read_ok : (told : Told) (bytes : Vec ℕ Global) → WasRead told (paths role) (limit_most File) (Ok bytes) → length bytes.items ≤ limit_most File
      → Follows told paths (Rose old now) bytes_in (file_work role) (Ok (Some bytes))
  read_ok None bytes was short =
      (tt, gave None paths role (Some bytes.items) (Ok (Some bytes.items)) tt (short_outcome bytes.items (le-leb (length bytes.items) (limit_most File) short)))
  read_ok (Some all) bytes was short =
      let is = whole_is (file_at all (paths role)) (limit_most File) bytes.items was in
      (tt, gave (Some all) paths role (Some bytes.items) (Ok (Some bytes.items)) (sym is.0, tt) (short_outcome bytes.items is.1))

  read_err : (told : Told) (fault : DoorFault) → WasRead told (paths role) (limit_most File) (Err fault) → ReadCause (limit_most File) old now fault
      → Follows told paths (Rose old now) bytes_in (file_work role) (not_read role fault)
  read_err None door.Absent was cause = (tt, gave None paths role None (Ok None) tt refl)
  read_err (Some all) door.Absent was cause = (tt, gave (Some all) paths role None (Ok None) (sym (absent_is (file_at all (paths role)) (limit_most File) was), tt) refl)
  read_err None door.ReadFault was cause = (cause, unread None paths role tt)
  read_err (Some all) door.ReadFault was cause = (cause, unread (Some all) paths role tt)
  read_err None (door.TooLong limit) was cause =
      let long = longer (limit_most File) in
      (tt, gave None paths role (Some long.0) (Err (refused.Limit limit)) tt (long_outcome long.0 limit long.1 cause))
  read_err (Some all) (door.TooLong limit) was cause =
      let long = long_is (file_at all (paths role)) (limit_most File) limit was in
      (tt, gave (Some all) paths role (Some long.0) (Err (refused.Limit limit)) (sym long.1, tt) (long_outcome long.0 limit long.2 long.3))
  read_err None door.NoMemory was cause = tt
  read_err (Some all) door.NoMemory was cause = tt

-- the same at a path, and a number of bytes, that are equal to these
pub read_ok_at : (told : Told) (paths : Input → List ℕ) (role : Input) (old now : ℕ) (path : List ℕ) (most : ℕ) (bytes : Vec ℕ Global) → path ≡ paths role → most ≡ limit_most File
    → WasRead told path most (Ok bytes) → length bytes.items ≤ most → Follows told paths (Rose old now) bytes_in (file_work role) (Ok (Some bytes))
read_ok_at told paths role old now path most bytes same are was short =
    let here = subst (λ (m : ℕ). WasRead told (paths role) m (Ok bytes)) are (subst (λ (p : List ℕ). WasRead told p most (Ok bytes)) same was) in
    read_ok paths role old now told bytes here (subst (λ (m : ℕ). length bytes.items ≤ m) are short)

pub read_err_at : (told : Told) (paths : Input → List ℕ) (role : Input) (old now : ℕ) (path : List ℕ) (most : ℕ) (fault : DoorFault) → path ≡ paths role → most ≡ limit_most File
    → WasRead told path most (Err fault) → ReadCause most old now fault → Follows told paths (Rose old now) bytes_in (file_work role) (not_read role fault)
read_err_at told paths role old now path most fault same are was cause =
    let here = subst (λ (m : ℕ). WasRead told (paths role) m (Err fault)) are (subst (λ (p : List ℕ). WasRead told p most (Err fault)) same was) in
    read_err paths role old now told fault here (subst (λ (m : ℕ). ReadCause m old now fault) are cause)

abbrev Lies : Told → List ℕ → Result (Option (Vec ℕ Global)) Refusal → Type 0
Lies told wanted result = IfOk result (λ file. IfSome told (λ all. file_at all wanted ≡ bytes_in file))
