-- What a reader of records has still to give.
use Rattle.std.specs.Prelude.{◌≡◌, ℕ, ◌+◌, Bool, true, false, List, [], ◌∷◌, length, Option, Some, unwrap_or}
use Rattle.std.specs.Borrow.{Bor}
use Rattle.csv.specs.Reading.{Ready, default_config, records_from, source_of, reader_config, reader_state, reader_trim, is_flexible}
use Rattle.csv.specs.declared.reader.Reader.{Reader}
use Rattle.csv.specs.declared.reader.Trim.TheVariants as trim

-- the bytes that a reader of bytes in memory has not read, if it has not failed
abbrev pub bytes_left : Reader (Bor (List ℕ)) → Option (List ℕ)
bytes_left reader = source_of (λ bytes. Some bytes.now) reader

-- the records that the unread bytes hold
abbrev pub rows_left : Reader (Bor (List ℕ)) → List (List (List ℕ))
rows_left reader =
    let unread = unwrap_or (bytes_left reader) [] in
    records_from default_config (length unread + 1) (reader_state reader) unread

-- a reader that has not failed, takes no row for a header, trims no field, and lets rows differ in width
pub record IsPlain (reader : Reader (Bor (List ℕ))) : Type 0 where
  pub trim : reader_trim reader ≡ trim.None
  pub ready : Ready reader
  pub flexible : is_flexible reader ≡ true
  pub config : reader_config reader ≡ default_config
  pub unread : List ℕ
  pub source : bytes_left reader ≡ Some unread

-- what a read finds of the rows that were left: the first of them, if there is one
abbrev pub Takes : List (List (List ℕ)) → Bool → List (List ℕ) → List (List (List ℕ)) → Type 0
Takes before true row after = before ≡ row ∷ after
Takes before false row after = before ≡ []
