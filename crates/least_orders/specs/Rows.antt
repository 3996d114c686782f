-- What pairs of lines cost and which are settled, in rows, the lines told by their places from 0 on.
use Rattle.std.specs.Prelude.{◌≡◌, ◌≢◌, ℕ, zero, suc, ◌+◌, ◌*◌, ◌^◌, ◌<◌, ◌≤◌, ◌==◌, Bool, true, ◌&&◌, List, [], ◌∷◌, length, map, filter, slice_index, slice_index_or, unsigned_abs}
use Rattle.std.specs.Prelude.{ℤ, pos}
use Rattle.std.specs.Int.{bit_at}
use Rattle.std.specs.List.{flat_map, list_any, list_all}
use Rattle.map_base.specs.declared.ids.LineId.{LineId}
use Rattle.least_orders.specs.OrderCosts.{PairCosts}

-- so many lines: at i * count + j what lines i and j cost where i stands before j, and what they cost besides where it
-- stands right before it; and for each line the set of those that have to stand before it, a bit for each
pub record Rows : Type 0 where
  pub count : ℕ
  pub before : List ℤ
  pub beside : List ℤ
  pub ahead : List ℕ

-- the line at a place
abbrev pub line_at : ℕ → LineId
line_at k = record { 0 = k }

-- so many lines, from a place on
abbrev pub lines_from : ℕ → ℕ → List LineId
lines_from k zero = []
lines_from k (suc n) = line_at k ∷ lines_from (k + 1) n

-- the lines of rows
abbrev pub row_lines : Rows → List LineId
row_lines r = lines_from 0 r.count

-- the entry of two lines
abbrev pub entry : ℕ → List ℤ → LineId → LineId → ℤ
entry count list a b = slice_index_or list (a.0 * count + b.0) (pos 0)

-- the costs that the rows tell
abbrev pub row_costs : Rows → PairCosts
row_costs r = record { before = entry r.count r.before; beside = entry r.count r.beside }

-- the first of two lines has to stand before the second
abbrev pub is_ahead : Rows → LineId → LineId → Bool
is_ahead r a b = bit_at (slice_index r.ahead b.0) a.0 == 1

-- the settled pairs that the rows tell
abbrev pub row_pairs : Rows → List (LineId × LineId)
row_pairs r = flat_map (λ (b : LineId). map (λ (a : LineId). (a, b)) (filter (λ (a : LineId). is_ahead r a b) (row_lines r))) (row_lines r)

-- how great an entry may be
abbrev pub most_entry : ℕ
most_entry = 2000000000000000

-- there are at most 16 lines, all entries are there and not too great, and no line has to stand before itself
pub record AreRows (r : Rows) : Type 0 where
  pub few : r.count ≤ 16
  pub before_each : r.count * r.count ≤ length r.before
  pub beside_each : r.count * r.count ≤ length r.beside
  pub ahead_each : r.count ≤ length r.ahead
  pub before_small : (k : ℕ) → unsigned_abs (slice_index_or r.before k (pos 0)) ≤ most_entry
  pub beside_small : (k : ℕ) → unsigned_abs (slice_index_or r.beside k (pos 0)) ≤ most_entry
  pub ahead_known : (k : ℕ) → slice_index r.ahead k < 2 ^ r.count
  pub apart : (k : ℕ) → bit_at (slice_index r.ahead k) k ≡ 0

-- the line that stands at the place
abbrev pub named : List LineId → LineId → LineId
named lines a = slice_index_or lines a.0 a

-- the line is one of these
abbrev pub is_one_of : List LineId → LineId → Bool
is_one_of lines a = list_any (λ (b : LineId). b.0 == a.0) lines

-- the pair is one of these
abbrev pub is_settled : List (LineId × LineId) → LineId → LineId → Bool
is_settled settled a b = list_any (λ (p : LineId × LineId). p.0.0 == a.0 && p.1.0 == b.0) settled

-- the rows tell by places what these lines cost, and which pairs of them are settled
pub record TellCosts (r : Rows) (costs : PairCosts) (settled : List (LineId × LineId)) (lines : List LineId) : Type 0 where
  pub each : r.count ≡ length lines
  pub before : (i j : ℕ) → i < length lines → j < length lines → i ≢ j
      → entry r.count r.before (line_at i) (line_at j) ≡ costs.before (named lines (line_at i)) (named lines (line_at j))
  pub beside : (i j : ℕ) → i < length lines → j < length lines → i ≢ j
      → entry r.count r.beside (line_at i) (line_at j) ≡ costs.beside (named lines (line_at i)) (named lines (line_at j))
  pub ahead : (i j : ℕ) → i < length lines → j < length lines
      → is_ahead r (line_at i) (line_at j) ≡ is_settled settled (named lines (line_at i)) (named lines (line_at j))
  pub known : list_all (λ (p : LineId × LineId). is_one_of lines p.0 && is_one_of lines p.1) settled ≡ true
