-- Numbers that are flagged.
use Rattle.std.specs.Prelude.{ℕ, Bool, false, List, filter, length, slice_index_or}
use Rattle.std.specs.List.{range_with_len}

-- whether a number is flagged
abbrev pub flag_at : List Bool → ℕ → Bool
flag_at flags n = slice_index_or flags n false

-- the numbers that are flagged, rising
abbrev pub flagged : List Bool → List ℕ
flagged flags = filter (flag_at flags) (range_with_len 0 (length flags))
