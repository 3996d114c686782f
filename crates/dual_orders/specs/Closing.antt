-- The lines that have to stand before a line by chains of settled pairs, as sets of places.
use Rattle.std.specs.Prelude.{ℕ, zero, suc, ◌+◌, List, slice_index, if◌then◌else◌, bit_or}
use Rattle.least_orders.specs.Subsets.{has_place}

-- a set with those of so many places, from one on, that the sets ahead of its members have
abbrev pub joined : List ℕ → ℕ → ℕ → ℕ → ℕ → ℕ
joined direct set k zero all = all
joined direct set k (suc n) all = joined direct set (k + 1) n (if has_place set k then bit_or all (slice_index direct k) else all)

-- one pair more in a chain: those that stand directly before a line, and before those that a set has
abbrev pub stepped : List ℕ → ℕ → ℕ → ℕ → ℕ
stepped direct count j set = joined direct set 0 count (slice_index direct j)

-- so many pairs more
abbrev pub stepped_by : List ℕ → ℕ → ℕ → ℕ → ℕ → ℕ
stepped_by direct count j zero set = set
stepped_by direct count j (suc n) set = stepped_by direct count j n (stepped direct count j set)
