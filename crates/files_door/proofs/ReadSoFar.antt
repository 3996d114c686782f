-- What was read so far, and what the whole file is.
use Rattle.std.proofs.Common.{◌≡◌, ℕ, ◌<◌, ◌≤◌, List, ◌++◌, length, None, Some, IfSome, Ok, Err, Result, Bool, false, cond, nat_le, sym, ap, ◌∙◌, subst, arith, append-nil, length-append, take, Vec}
use Rattle.std.proofs.lemmas.List.{take-take, take-append-le}
use Rattle.std.proofs.lemmas.Bool.{le-leb}
use Rattle.std.proofs.lemmas.Bool.Decides.{nat_tests}
use Rattle.std.specs.declared.alloc.Global.{Global}
use Rattle.std.specs.declared.option.Option.{Option}
use Rattle.std.specs.Io.KnownBytes.{Consumes, IsAtEnd}
use Rattle.files_door.specs.Fault.{HasCause}
use Rattle.files_door.proofs.Faults.{rose_later}
use Rattle.files_door.specs.Reading.{IsWhole, IsFull, ReadCause, whole_file, file_limit, fault_of}
use Rattle.files_door.specs.declared.stop.Stop.{Stop}
use Rattle.files_door.specs.declared.stop.Stop.TheVariants as stop
use Rattle.files_door.specs.declared.reading.DoorFault.{DoorFault}
use Rattle.files_door.specs.declared.reading.DoorFault.TheVariants.{Absent, ReadFault, TooLong, NoMemory}

-- the result is what these unread bytes give
abbrev pub Answer : Option (List ℕ) → ℕ → Result (Vec ℕ Global) DoorFault → Type 0
Answer rest most result = IfSome rest (λ bytes. IsWhole (whole_file (Some bytes) most) result)

-- by the test whether the bytes are few enough
abbrev chosen : List ℕ → ℕ → Bool → Result (List ℕ) DoorFault
chosen bytes most short = cond short (Ok bytes) (Err (TooLong (file_limit most)))

within : (bytes : List ℕ) (most : ℕ) → length bytes ≤ most → whole_file (Some bytes) most ≡ Ok bytes
within bytes most h = ap (chosen bytes most) (le-leb (length bytes) most h)

above_false : (n most : ℕ) → most < n → nat_le n most ≡ false
above_false n most h = grind (arith, nat_tests)

above : (bytes : List ℕ) (most : ℕ) → most < length bytes → whole_file (Some bytes) most ≡ Err (TooLong (file_limit most))
above bytes most h = ap (chosen bytes most) (above_false (length bytes) most h)

-- nothing is left to read
pub at_end : (rest left : Option (List ℕ)) (most : ℕ) (v : Vec ℕ Global) → Consumes rest left v.items → IsAtEnd left → length v.items ≤ most → Answer rest most (Ok v)
at_end None left most v read over h = tt
at_end (Some bytes) None most v read over h = absurd read
at_end (Some bytes) (Some ys) most v read over h =
    let same : bytes ≡ v.items = read ∙ ap (λ l. v.items ++ l) over ∙ append-nil v.items in
    subst (λ (l : List ℕ). whole_file (Some l) most ≡ Ok v.items) (sym same) (within v.items most h)

longer : (bytes got ys : List ℕ) (most : ℕ) → bytes ≡ got ++ ys → most < length got → most < length bytes
longer bytes got ys most same h = omega (arith, ap length same, length-append got ys)

-- more was read than allowed, or memory was wanted
pub at_full : (rest left : Option (List ℕ)) (most : ℕ) (got : List ℕ) (fault : DoorFault) → Consumes rest left got → IsFull most got fault → Answer rest most (Err fault)
at_full rest left most got Absent read full = absurd full
at_full rest left most got ReadFault read full = absurd full
at_full None left most got NoMemory read full = tt
at_full (Some bytes) left most got NoMemory read full = tt
at_full None left most got (TooLong limit) read full = tt
at_full (Some bytes) None most got (TooLong limit) read full = absurd read
at_full (Some bytes) (Some ys) most got (TooLong limit) read full =
    above bytes most (longer bytes got ys most read full.0) ∙ ap (λ l. Err (TooLong l)) (sym full.1)

-- a refused call of the files depends on no file
pub at_stop : (rest : Option (List ℕ)) (most : ℕ) (stop : Stop) → Answer rest most (Err (fault_of stop))
at_stop None most stop = tt
at_stop (Some bytes) most stop.Failed = tt
at_stop (Some bytes) most stop.NoMemory = tt

pub at_no_memory : (rest : Option (List ℕ)) (most : ℕ) → Answer rest most (Err NoMemory)
at_no_memory None most = tt
at_no_memory (Some bytes) most = tt

-- the cause of a refused call is that of the whole
pub stop_cause : {T : Type 0} (most before mid now : ℕ) (stop : Stop) (result : Result T Stop) → before ≤ mid → result ≡ Err stop → HasCause mid now result → ReadCause most before now (fault_of stop)
stop_cause most before mid now stop.Failed result le was cause = rose_later before mid now le cause.later (cause.failed was)
stop_cause most before mid now stop.NoMemory result le was cause = tt

-- the cause of a limit
pub full_cause : (most before now : ℕ) (got : List ℕ) (fault : DoorFault) → IsFull most got fault → ReadCause most before now fault
full_cause most before now got Absent full = tt
full_cause most before now got ReadFault full = absurd full
full_cause most before now got NoMemory full = tt
full_cause most before now got (TooLong limit) full = full.1

-- what was read stands in the front of the vector that was read into
pub front_of : (count len : ℕ) (into rest : List ℕ) → count ≤ length into → count ≤ len → take count (take len (into ++ rest)) ≡ take count into
front_of count len into rest p q = take-take count len (into ++ rest) q ∙ take-append-le count into rest p
