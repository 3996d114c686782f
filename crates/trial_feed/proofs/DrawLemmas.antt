-- One more draw.
use Rattle.std.proofs.Common.{◌≡◌, ℕ, ◌+◌, ◌*◌, ◌%◌, ◌^◌}
use Rattle.std.proofs.Math.Nat.{mod-add-mod}
use Rattle.trial_feed.specs.Draws.{next_state}

pub next_state-wraps : (state : ℕ) → (state * 6364136223846793005 % 2 ^ 64 + 1442695040888963407) % 2 ^ 64 ≡ next_state state
next_state-wraps state = mod-add-mod (state * 6364136223846793005) (2 ^ 64) 1442695040888963407
