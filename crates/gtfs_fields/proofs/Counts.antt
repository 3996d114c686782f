-- How many records a text has.
use Rattle.std.proofs.Common.{ℕ, zero, suc, ◌+◌, ◌≤◌, Bool, true, false, cond, List, [], ◌∷◌, length, Option, Some, None, arith}
use Rattle.csv.specs.declared.parser.Config.{Config}
use Rattle.csv.specs.declared.parser.State.{State}
use Rattle.csv.specs.declared.parser.State.TheVariants as st
use Rattle.csv.specs.Machine.{Read, next_record}
use Rattle.csv.specs.Reading.{records_from, records_next, default_config, strip_bom, is_bom}
use Rattle.gtfs_fields.specs.Records.{records_of}

records_from-le : (cfg : Config) (n : ℕ) (s : State) (xs : List ℕ) → length (records_from cfg n s xs) ≤ n
unfolding records_from
records_from-le cfg zero s xs = omega arith
records_from-le cfg (suc n) s xs = by (next_record cfg s [] [] xs) (λ s xs. records_from-le cfg n s xs)
  where
    by : (q : Option Read) → ((s : State) (xs : List ℕ) → length (records_from cfg n s xs) ≤ n) → length (records_next (records_from cfg n) q) ≤ suc n
    by None later = omega arith
    by (Some r) later = let fewer = later r.1 r.2 in omega arith

strip_bom-le : (xs : List ℕ) → length (strip_bom xs) ≤ length xs
unfolding strip_bom
strip_bom-le [] = omega arith
strip_bom-le (a ∷ []) = omega arith
strip_bom-le (a ∷ b ∷ []) = omega arith
strip_bom-le (a ∷ b ∷ c ∷ rest) = by (is_bom a b c)
  where
    by : (is : Bool) → length (cond is rest (a ∷ b ∷ c ∷ rest)) ≤ length (a ∷ b ∷ c ∷ rest)
    by true = omega arith
    by false = omega arith

-- a file has at most one more record than it has bytes
pub records_of-le : (bytes : List ℕ) → length (records_of bytes) ≤ length bytes + 1
records_of-le bytes =
    let fewer = records_from-le default_config (length (strip_bom bytes) + 1) st.StartRecord (strip_bom bytes) in
    let shorter = strip_bom-le bytes in
    omega arith
