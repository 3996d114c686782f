use Rattle.std.proofs.Common.{◌≡◌, ◌++◌, map, drop}
use Rattle.start_positions.specs.Spreads.{spread_place}
use Rattle.start_positions.proofs.spreading.spread_offsets.Given as goal

-- the offsets so far, and those that are left
abbrev pub invariant-loop-place : goal.invariant-loop-place
invariant-loop-place l = l.offsets.items ++ map (spread_place l.percent) (drop l.place-index l.places) ≡ map (spread_place l.percent) l.places
