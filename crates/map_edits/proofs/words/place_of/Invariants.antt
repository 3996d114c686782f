use Rattle.std.proofs.Common.{◌≡◌, ℕ, ◌<◌, get_or, false, ◌==◌}
use Rattle.map_edits.proofs.words.place_of.Given as goal

-- no byte before is of this kind
abbrev pub invariant-loop-place : goal.invariant-loop-place
invariant-loop-place l = (k : ℕ) → k < l.place → (get_or l.text k 0 == l.byte) ≡ false
