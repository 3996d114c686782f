use Rattle.std.proofs.Common.{sym, ◌∙◌, ap, ℕ, ◌++◌, List, ℤ, filter, append_assoc}
use Rattle.std.specs.List.{flat_map, range_with_len}
use Rattle.track_net.specs.Nearness.{is_nearer, point_at}
use Rattle.track_net.specs.Cells.{listed, cell_around}
use Rattle.track_net.proofs.CellLemmas.{flat_map-range_more}
use Rattle.track_net.proofs.buckets.find_around.Goals as goal

pub loop-i-preserved : goal.loop-i-preserved
loop-i-preserved c =
    let before = c.args.found.now.items in
    let near_in = (λ (d : ℤ × ℤ). filter (λ k. is_nearer c.args.within c.args.at (point_at c.args.points.now k)) (listed c.args.cells.now d)) in
    let F = (λ (i : ℕ). near_in (cell_around c.args.center i)) in
    c.in_ok-keep_of_cell.ensures ∙ ap (λ (ns : List ℕ). ns ++ near_in c.cell_beside.result) c.loop-i.invariant
    ∙ append_assoc before (flat_map F (range_with_len 0 c.loop-i.i)) (near_in c.cell_beside.result)
    ∙ ap (λ (ns : List ℕ). before ++ ns)
    (ap (λ (d : ℤ × ℤ). flat_map F (range_with_len 0 c.loop-i.i) ++ near_in d) c.cell_beside.ensures ∙ sym (flat_map-range_more F c.loop-i.i))
