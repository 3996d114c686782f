-- Which lines have to stand before a line, as sets of places.
use Rattle.std.specs.Prelude.{◌≡◌, ℕ, ◌<◌, ◌==◌, ◌^◌, List, length, slice_index}
use Rattle.std.specs.Int.{bit_at}
use Rattle.map_base.specs.declared.ids.LineId.{LineId}
use Rattle.least_orders.specs.Rows.{line_at, named, is_settled}

-- for each line the set of those that are settled to stand before it
pub record TellAhead (settled : List (LineId × LineId)) (lines : List LineId) (ahead : List ℕ) : Type 0 where
  pub told : (i j : ℕ) → i < length lines → j < length lines
      → (bit_at (slice_index ahead j) i == 1) ≡ is_settled settled (named lines (line_at i)) (named lines (line_at j))
  pub known : (j : ℕ) → slice_index ahead j < 2 ^ length lines
  pub apart : (j : ℕ) → bit_at (slice_index ahead j) j ≡ 0
