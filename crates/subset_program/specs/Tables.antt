-- What the tables hold while they are filled.
use Rattle.std.specs.Prelude.{◌≡◌, ◌≢◌, ℕ, zero, suc, ◌+◌, ◌-◌, ◌*◌, ◌^◌, ◌<◌, ◌≤◌, true, false, List, ◌++◌, length, map, take, slice_index_or, IfSome, Option, Some, None, if◌then◌else◌}
use Rattle.std.specs.Prelude.{ℤ, pos, ◌+ℤ◌, int_lt, unsigned_abs}
use Rattle.std.specs.Option.{option_map}
use Rattle.least_orders.specs.declared.choice.Choice.{Choice}
use Rattle.least_orders.specs.Rows.{Rows, line_at}
use Rattle.least_orders.specs.Subsets.{has_place, left, before_left, best_after, rest_cost, choice_of, better_choice, choice_from}
use Rattle.subset_program.specs.declared.entries.Tail.{Tail}

-- The entries of sets and their last lines.

-- what a number in an entry stands for: from 10 ^ 18 on for none
abbrev pub read : ℤ → Option ℤ
read v = if int_lt v (pos 1000000000000000000) then Some v else None

-- what the orders cost at least from the last line of a set on, which stands before all that the set has not
abbrev pub tail_cost : Rows → ℕ → ℕ → Option ℤ
tail_cost r set last = option_map (λ v. v +ℤ before_left r set last) (rest_cost r set (Some last))

-- an entry tells of a set and its last line
pub record Tells (r : Rows) (set last : ℕ) (tail : Tail) : Type 0 where
  pub with_left : tail.left ≡ before_left r set last
  pub at_least : read tail.cost ≡ tail_cost r set last

abbrev pub no_tail : Tail
no_tail = record { left = pos 0; cost = pos 0 }

-- the table has entries for each set from this one on and each line of it
abbrev pub HasTails : Rows → ℕ → List Tail → Type 0
HasTails r from table = (set last : ℕ) → from ≤ set → set < 2 ^ r.count → last < r.count → has_place set last ≡ true
    → Tells r set last (slice_index_or table (set * r.count + last) no_tail)

-- the entry of a set and its last line is written, where the set has it, and no other is changed
pub record IsFilledAt (r : Rows) (set last : ℕ) (old new : List Tail) : Type 0 where
  pub here : has_place set last ≡ true → Tells r set last (slice_index_or new (set * r.count + last) no_tail)
  pub others : (k : ℕ) → k ≢ set * r.count + last → slice_index_or new k no_tail ≡ slice_index_or old k no_tail

-- The lines to go on with.

abbrev pub no_head : Choice
no_head = record { place = 0; cost = pos 0 }

-- one of these heads
abbrev pub head_at : List Choice → ℕ → Choice
head_at heads i = slice_index_or heads i no_head

-- the best of so many heads behind the last line, of equals the latest
abbrev pub best_head : Rows → Option ℕ → List Choice → ℕ → Option Choice
best_head r last heads zero = None
best_head r last heads (suc i) = better_choice (choice_of r last (head_at heads i).place (Some (head_at heads i).cost)) (best_head r last heads i)

-- so many heads are those of the lines from place k on that orders go on with behind a set, each with what they cost at
-- least, but for what its line costs beside the last one
pub record HasHeads (r : Rows) (set k many : ℕ) (heads : List Choice) : Type 0 where
  pub few : many + k ≤ r.count
  pub known : (i : ℕ) → i < many → (head_at heads i).place < r.count
  pub small : (i : ℕ) → i < many → unsigned_abs (head_at heads i).cost ≤ 600000000000000000
  pub best : (last : Option ℕ) → best_head r last heads many ≡ choice_from r set last k (r.count - k)

-- The places of a set.

-- the first of so many places that the set has not; their number where it has them all
pub record IsFirstFree (set count free : ℕ) : Type 0 where
  pub most : free ≤ count
  pub below : (k : ℕ) → k < free → has_place set k ≡ true
  pub here : free < count → has_place set free ≡ false

-- Going forward over the table.

-- some lines are placed: so many are left, and the least order of all is these places and the least order of the others
pub record IsWalked (r : Rows) (i : ℕ) (order : List ℕ) (set : ℕ) (last : Option ℕ) : Type 0 where
  pub within : set < 2 ^ r.count
  pub known : IfSome last (λ l. l < r.count)
  pub each : length (left r set) + i ≡ r.count
  pub best : best_after r 0 None ≡ option_map (λ o. map line_at (take i order) ++ o) (best_after r set last)
