-- Rows while amounts are added to them.
use Rattle.std.specs.Prelude.{◌≡◌, ℕ, ◌*◌, ◌^◌, ◌<◌, ◌≤◌, ◌==◌, Bool, true, false, List, length, slice_index_or, if◌then◌else◌}
use Rattle.std.specs.Prelude.{ℤ, pos, ◌+ℤ◌, ◌-ℤ◌, unsigned_abs}
use Rattle.map_base.specs.declared.ids.LineId.{LineId}
use Rattle.order_model.specs.Places.{has_line}
use Rattle.least_orders.specs.OrderCosts.{PairCosts}
use Rattle.least_orders.specs.Rows.{line_at, named, entry}

-- an entry of a row
abbrev pub row_entry : List ℤ → ℕ → ℤ
row_entry row k = slice_index_or row k (pos 0)

-- the rows tell what each two of these lines cost
pub record TellPairs (lines : List LineId) (costs : PairCosts) (before beside : List ℤ) : Type 0 where
  pub before_told : (i j : ℕ) → i < length lines → j < length lines
      → entry (length lines) before (line_at i) (line_at j) ≡ costs.before (named lines (line_at i)) (named lines (line_at j))
  pub beside_told : (i j : ℕ) → i < length lines → j < length lines
      → entry (length lines) beside (line_at i) (line_at j) ≡ costs.beside (named lines (line_at i)) (named lines (line_at j))

-- each entry of so many lines is at most so many times 256,000,000, either way
pub record AreSmall (count times : ℕ) (before beside : List ℤ) : Type 0 where
  pub before_small : (k : ℕ) → k < count * count → unsigned_abs (row_entry before k) ≤ times * 256000000
  pub beside_small : (k : ℕ) → k < count * count → unsigned_abs (row_entry beside k) ≤ times * 256000000

-- one row has been added what each two of these lines cost by their order
abbrev pub IsAddedBefore : List LineId → PairCosts → List ℤ → List ℤ → Type 0
IsAddedBefore lines costs old new = (i j : ℕ) → i < length lines → j < length lines
    → entry (length lines) new (line_at i) (line_at j)
    ≡ entry (length lines) old (line_at i) (line_at j) +ℤ costs.before (named lines (line_at i)) (named lines (line_at j))

-- the same of what they cost as neighbours
abbrev pub IsAddedBeside : List LineId → PairCosts → List ℤ → List ℤ → Type 0
IsAddedBeside lines costs old new = (i j : ℕ) → i < length lines → j < length lines
    → entry (length lines) new (line_at i) (line_at j)
    ≡ entry (length lines) old (line_at i) (line_at j) +ℤ costs.beside (named lines (line_at i)) (named lines (line_at j))

-- both rows have
pub record HaveAdded (lines : List LineId) (costs : PairCosts) (before_old beside_old before_new beside_new : List ℤ) : Type 0 where
  pub before_added : IsAddedBefore lines costs before_old before_new
  pub beside_added : IsAddedBeside lines costs beside_old beside_new

-- one entry has been added an amount
abbrev pub IsAddedAt : ℕ → ℤ → List ℤ → List ℤ → Type 0
IsAddedAt at amount old new = (k : ℕ) → row_entry new k ≡ (if k == at then row_entry old k +ℤ amount else row_entry old k)

-- each entry differs by at most so much
abbrev pub IsMoreBy : ℕ → List ℤ → List ℤ → Type 0
IsMoreBy most old new = (k : ℕ) → unsigned_abs (row_entry new k -ℤ row_entry old k) ≤ most

-- how great an amount may be that is added where it is so
abbrev pub most_where : Bool → ℕ
most_where so = if so then 256000000 else 0

-- the entries of so many lines have room for more
abbrev pub IsRoomy : ℕ → List ℤ → Type 0
IsRoomy count row = (k : ℕ) → k < count * count → unsigned_abs (row_entry row k) ≤ 2 ^ 60

-- two different ones of these lines
pub record AreTwoOf (lines : List LineId) (a b : LineId) : Type 0 where
  pub first_on : has_line lines a ≡ true
  pub second_on : has_line lines b ≡ true
  pub differ : (a.0 == b.0) ≡ false
