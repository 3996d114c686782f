use Rattle.std.proofs.Common.{◌≡◌, take}
use Rattle.dual_shares.specs.Writing.{lines_at_places}
use Rattle.dual_shares.proofs.least.take_places.Given as goal

abbrev pub invariant-loop-i : goal.invariant-loop-i
invariant-loop-i l = take l.i l.order ≡ lines_at_places l.lines (take l.i l.places)
