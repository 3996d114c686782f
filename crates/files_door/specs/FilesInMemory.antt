-- Files in memory.
use Rattle.std.specs.Prelude.{ℕ, zero, suc, List, [], ◌∷◌, map, Option, None, Some, Vec}
use Rattle.std.specs.declared.alloc.Global.{Global}
use Rattle.files_door.specs.Counts.{next_count}

-- a file with its path, wherever its bytes lie
abbrev pub entry : List ℕ × Vec ℕ Global → List ℕ × List ℕ
entry file = (file.0, file.1.items)

abbrev pub entries : List (List ℕ × Vec ℕ Global) → List (List ℕ × List ℕ)
entries files = map entry files

-- the bytes of the file at a place; none past the last
abbrev pub bytes_at : List (List ℕ × List ℕ) → ℕ → List ℕ
bytes_at [] place = []
bytes_at (file ∷ files) zero = file.1
bytes_at (file ∷ files) (suc place) = bytes_at files place

-- the bytes of the begun file; none where no file is begun
abbrev pub begun_bytes : List (List ℕ × List ℕ) → Option ℕ → List ℕ
begun_bytes files None = []
begun_bytes files (Some place) = bytes_at files place

-- files, and what is unread of the one that is begun
pub record ReadFiles : Type 0 where
  pub files : List (List ℕ × List ℕ)
  pub unread : List ℕ

-- files whose calls fail by their numbers
pub record FailingFiles : Type 0 where
  pub files : List (List ℕ × List ℕ)
  pub unread : List ℕ
  -- the numbers of the calls that fail; the first call has the number 1
  pub failing : List ℕ
  pub calls : ℕ
  pub faults : ℕ

-- a call was counted
abbrev pub counted : FailingFiles → FailingFiles
counted files = record files { calls = next_count files.calls }

-- a call failed: it was counted, as was the fault, and no file is begun
abbrev pub failed : FailingFiles → FailingFiles
failed files = record (counted files) { faults = next_count files.faults; unread = [] }
