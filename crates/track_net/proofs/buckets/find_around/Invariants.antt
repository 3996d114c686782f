use Rattle.std.proofs.Common.{◌≡◌, ◌++◌, filter}
use Rattle.std.specs.List.{flat_map, range_with_len}
use Rattle.track_net.specs.Nearness.{is_nearer, point_at}
use Rattle.track_net.specs.Cells.{listed, cell_around}
use Rattle.track_net.proofs.buckets.find_around.Given as goal

abbrev pub invariant-loop-i : goal.invariant-loop-i
invariant-loop-i l =
    l.found.items ≡ l.initial.found.items ++ flat_map (λ i. filter (λ k. is_nearer l.within l.at (point_at l.points k)) (listed l.cells (cell_around l.center i))) (range_with_len 0 l.i)
