use Rattle.std.proofs.Common.{◌≡◌, take}
use Rattle.map_edits.proofs.copies.pair_copies.Given as goal

-- as many are copied as were seen
abbrev pub invariant-loop-pair : goal.invariant-loop-pair
invariant-loop-pair l = l.copies.items ≡ take l.pair-index l.pairs
