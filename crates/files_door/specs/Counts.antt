-- Counts that stay at the greatest u64.
use Rattle.std.specs.Prelude.{ℕ, ◌+◌, ◌-◌, ◌^◌, ◌==◌, if◌then◌else◌}

-- one more, unless the count stands at the greatest u64
abbrev pub next_count : ℕ → ℕ
next_count count = if count == 2 ^ 64 - 1 then count else count + 1
