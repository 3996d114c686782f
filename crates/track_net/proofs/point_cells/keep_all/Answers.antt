use Rattle.std.proofs.Common.{◌∙◌, ap, ◌++◌, List, rules}
use Rattle.map_base.specs.declared.point.Point.{Point}
use Rattle.track_net.specs.Cells.{items_or_none}
use Rattle.track_net.proofs.CellLemmas.{listed_all, listed_new}
use Rattle.track_net.proofs.point_cells.keep_all.Goals as goal

pub returns-in-Some : goal.returns-in-Some
returns-in-Some c =
    listed_all c.args.cells.now (c.get_mut.follows.lender c.extend_from_slice.new.self) c.args.cell c.args.points.now c.extend_from_slice.new.self
    (c.in_ok-extend_from_slice.ensures.items ∙ ap (λ (xs : List Point). xs ++ c.args.points.now) (ap items_or_none c.in-Some.ensures.value))
    ((c.get_mut.follows.holds c.extend_from_slice.new.self).3 (search rules)).0

pub returns : goal.returns
returns c =
    listed_new c.args.cells.now c.get_mut.follows.lender-at-none c.insert.new.self c.args.cell c.args.points.now c.in_ok-kept.kept c.get_mut.follows.holds-at-none
    (ap items_or_none c.in_default.ensures.value) c.in_ok-kept.ensures.items c.in_ok-insert.ensures.updates.0
