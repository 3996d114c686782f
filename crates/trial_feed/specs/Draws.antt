-- Numbers drawn one after another: a linear congruential generator of 64 bits.
use Rattle.std.specs.Prelude.{ℕ, ◌+◌, ◌*◌, ◌/◌, ◌%◌, ◌^◌}

-- the state after one more draw
abbrev pub next_state : ℕ → ℕ
next_state state = (state * 6364136223846793005 + 1442695040888963407) % 2 ^ 64

-- what a draw gives: the upper 31 bits of the state after it
abbrev pub drawn : ℕ → ℕ
drawn state = state / 2 ^ 33
