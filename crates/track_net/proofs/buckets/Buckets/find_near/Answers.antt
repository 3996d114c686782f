use Rattle.std.proofs.Common.{sym, ◌∙◌, ap, subst, ℕ, ◌<◌, ◌≤◌, ◌++◌, ◌≡◌, ℤ, List, length, All, filter}
use Rattle.std.specs.List.{flat_map, range_with_len}
use Rattle.std.proofs.lemmas.Result.{on_ok_weaker}
use Rattle.map_base.specs.declared.point.Point.{Point}
use Rattle.track_net.specs.Nearness.{HaveTheSame, is_nearer, numbers_near, point_at}
use Rattle.track_net.specs.Cells.{BucketParts, cell_around, cell_of, listed}
use Rattle.track_net.proofs.CellsAround.{listed_in_range, found_are_near}
use Rattle.track_net.proofs.buckets.Buckets.find_near.Goals as goal

pub find_around-requires-clause-in_range : goal.find_around-requires-clause-in_range
find_around-requires-clause-in_range c = λ cell.
    subst (λ (ps : List Point). All (λ k. k < length ps) (listed c.self.inside.cells cell)) (sym c.deref.ensures.value)
    (listed_in_range c.self.inside.size c.self.inside.points.items c.self.inside.cells c.self.invariant.listed_each cell)

pub returns : goal.returns
returns c =
    let size = c.self.inside.size in
    let ps = c.self.inside.points.items in
    let cells = c.self.inside.cells in
    let found = c.find_around.new.found.items in
    let small : c.args.within ≤ size = subst (λ (b : BucketParts). c.args.within ≤ b.size) (sym c.self.view_is) c.requires.within in
    let around = (λ (qs : List Point) (d : ℤ × ℤ). flat_map (λ i. filter (λ k. is_nearer c.args.within c.args.at (point_at qs k)) (listed cells (cell_around d i))) (range_with_len 0 9)) in
    on_ok_weaker c.find_around.result
    (λ (e : found ≡ c.clear.new.self.items ++ around c.deref.result.now c.cell_at-center.result).
    subst (λ (b : BucketParts). HaveTheSame found (numbers_near c.args.within b.points c.args.at)) c.self.view_is
    (found_are_near size c.args.within ps c.args.at cells found c.self.invariant.some small c.self.invariant.listed_each
    (e ∙ ap (λ (ns : List ℕ). ns ++ around c.deref.result.now c.cell_at-center.result) c.clear.ensures.items ∙ ap (around c.deref.result.now) c.cell_at-center.ensures.value
    ∙ ap (λ (qs : List Point). around qs (cell_of size c.args.at)) c.deref.ensures.value)))
    c.find_around.ensures
