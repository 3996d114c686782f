use Rattle.std.proofs.Common.{◌≡◌, filter, take}
use Rattle.track_net.specs.Searching.{is_undivided}
use Rattle.track_net.proofs.edges.undivided.Given as goal

abbrev pub invariant-loop-j : goal.invariant-loop-j
invariant-loop-j l = l.row.items ≡ filter (is_undivided l.points l.candidates l.i) (take l.j-index l.candidates)
