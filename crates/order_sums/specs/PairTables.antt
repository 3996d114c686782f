-- The sums of each two lines of a segment, in a table by place.
use Rattle.std.specs.Prelude.{◌≡◌, ◌≢◌, ℕ, ◌<◌, Option, Some, None, List, [], length, map, if◌then◌else◌, slice_index_or, Vec}
use Rattle.std.specs.Global.{Global}
use Rattle.map_base.specs.declared.ids.SegId.{SegId}
use Rattle.map_base.specs.declared.ids.LineId.{LineId}
use Rattle.order_model.specs.declared.term.Term.{Term}
use Rattle.order_model.specs.Costs.{are_these}
use Rattle.order_rules.specs.PairWeights.{is_of_lines}
use Rattle.order_sums.specs.declared.pair_sums.PairSums.{PairSums}
use Rattle.order_sums.specs.PairSums.{no_sums, with_sum, IsSmall}

-- a table as it lies in memory
abbrev pub lists_of : {A : Type 0} → List (Vec A Global) → List (List A)
lists_of {A} rows = map (λ (v : Vec A Global). v.items) rows

abbrev pub line_at : List LineId → ℕ → LineId
line_at lines i = slice_index_or lines i (record { 0 = 0 })

abbrev pub sums_at : List (List PairSums) → ℕ → ℕ → PairSums
sums_at table i j = slice_index_or (slice_index_or table i []) j no_sums

-- a row for each line, and in it a cell for each line
pub record AreSized (lines : List LineId) (table : List (List PairSums)) : Type 0 where
  pub count : length table ≡ length lines
  pub widths : (i : ℕ) → i < length lines → length (slice_index_or table i []) ≡ length lines

-- the cells have the sums that w has for the two lines
pub record IsTable (w : LineId → LineId → PairSums) (lines : List LineId) (table : List (List PairSums)) : Type 0 where
  pub sized : AreSized lines table
  pub sums : (i j : ℕ) → i < length lines → j < length lines → sums_at table i j ≡ w (line_at lines i) (line_at lines j)

-- no sum in the table is near its limit
abbrev pub AreSmall : List LineId → List (List PairSums) → Type 0
AreSmall lines table = (i j : ℕ) → i < length lines → j < length lines → IsSmall (sums_at table i j)

-- the sums with one more term, for its two lines
abbrev pub with_pair : (LineId → LineId → PairSums) → SegId → SegId → Term → LineId → LineId → PairSums
with_pair w e f t a b = if is_of_lines a b t then with_sum (w a b) e f a b t else w a b

-- where a line stands among these, if it is one of them
abbrev pub IsPlace : List LineId → LineId → Option ℕ → Type 0
IsPlace lines a (Some i) = (i < length lines) × (line_at lines i ≡ a)
IsPlace lines a None = (i : ℕ) → i < length lines → (line_at lines i).0 ≢ a.0

-- the lines of the term are x and y
abbrev pub AreLinesOf : Term → LineId → LineId → Type 0
AreLinesOf t x y = (a b : LineId) → is_of_lines a b t ≡ are_these x y a b
