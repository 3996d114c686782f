use Rattle.std.proofs.Common.{◌≡◌, ℕ, [], length}
use Rattle.poster_table.specs.Tables.{bucket_at}
use Rattle.poster_table.proofs.table.empty_buckets.Given as goal

-- the buckets so far
abbrev pub invariant-loop : goal.invariant-loop
invariant-loop l = record { count : length l.buckets.items ≡ l.counter; none : (b : ℕ) → bucket_at l.buckets.items b ≡ [] }
