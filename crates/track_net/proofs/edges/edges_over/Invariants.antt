use Rattle.std.proofs.Common.{◌≡◌, map}
use Rattle.std.specs.List.{range_with_len}
use Rattle.track_net.specs.Nets.{edges_at}
use Rattle.track_net.proofs.edges.edges_over.Given as goal

abbrev pub invariant-loop-i : goal.invariant-loop-i
invariant-loop-i l = map (λ row. row.items) l.edges.items ≡ map (edges_at l.near l.points) (range_with_len 0 l.i)
