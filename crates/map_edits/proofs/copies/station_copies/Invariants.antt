use Rattle.std.proofs.Common.{◌≡◌, take}
use Rattle.map_edits.proofs.copies.station_copies.Given as goal

-- as many are copied as were seen
abbrev pub invariant-loop-station : goal.invariant-loop-station
invariant-loop-station l = l.copies.items ≡ take l.station-index l.stations
