-- What a call that reads tables may answer.
use Rattle.std.specs.Prelude.{◌≡◌, ℕ, Result, Ok, Err}
use Rattle.files_door.specs.Fault.{Rose}
use Rattle.table_rows.specs.declared.why.Table.{Table}
use Rattle.table_rows.specs.declared.fault.FeedFault.{FeedFault}
use Rattle.table_rows.specs.declared.fault.FeedFault.TheVariants as faults

-- A fault is the defined refusal. Want of memory alone is free, and a fault of reading at a table comes only
-- where `reads` says so.
abbrev pub Refuses : {B : Type 0} → (Table → Type 0) → FeedFault → Result B FeedFault → Type 0
Refuses reads faults.NoMemory defined = Unit {0}
Refuses reads (faults.ReadFault table) defined = reads table
Refuses reads (faults.BadRow table row why) defined = defined ≡ Err (faults.BadRow table row why)
Refuses reads (faults.Limit limit) defined = defined ≡ Err (faults.Limit limit)

-- a result, seen by a view, is the defined one, but for such faults
abbrev pub Answers : {A B : Type 0} → (Table → Type 0) → (A → B) → Result A FeedFault → Result B FeedFault → Type 0
Answers reads view (Ok value) defined = defined ≡ Ok (view value)
Answers reads view (Err fault) defined = Refuses reads fault defined

-- one step after another: the second of what the first gives, unless that is refused
infixl 10 ◌>>=◌
abbrev pub ◌>>=◌ : {A B : Type 0} → Result A FeedFault → (A → Result B FeedFault) → Result B FeedFault
(Ok value) >>= next = next value
(Err fault) >>= next = Err fault

-- no fault of reading comes
abbrev pub never : Table → Type 0
never table = ⊥

-- a fault of reading comes at this table alone, and only where the count of faults rose
abbrev pub rose_at : Table → ℕ → ℕ → Table → Type 0
rose_at which before now table = (table ≡ which) × Rose before now
