use Rattle.std.proofs.Common.{◌≡◌, false, take}
use Rattle.std.specs.List.{list_any}
use Rattle.track_net.specs.Nets.{parts_them}
use Rattle.track_net.proofs.edges.are_undivided.Given as goal

abbrev pub invariant-loop-k : goal.invariant-loop-k
invariant-loop-k l = list_any (parts_them l.points l.i l.j) (take l.k-index l.candidates) ≡ false
