-- The flags that words hold, one bit each, the lowest bit first.
use Rattle.std.specs.Prelude.{ℕ, ◌/◌, ◌%◌, ◌==◌, Bool, List, map, slice_index}
use Rattle.std.specs.Int.{bit_at}
use Rattle.std.specs.List.{range_with_len}

-- the flag at a place
abbrev pub bit_of : List ℕ → ℕ → Bool
bit_of words place = bit_at (slice_index words (place / 64)) (place % 64) == 1

-- the first flags, so many
unfoldable pub flags_in : List ℕ → ℕ → List Bool
flags_in words count = map (bit_of words) (range_with_len 0 count)
