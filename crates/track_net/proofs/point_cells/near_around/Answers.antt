use Rattle.std.proofs.Common.{◌≡◌, sym, ◌∙◌, ap, ℕ, ◌+◌, ◌%◌, false, ℤ, arith}
use Rattle.std.specs.List.{list_any, range_with_len}
use Rattle.track_net.specs.Nearness.{has_near}
use Rattle.track_net.specs.Cells.{listed, cell_around}
use Rattle.track_net.proofs.Lists.{any_not_yet}
use Rattle.track_net.proofs.Finding.{found_around, none_near}
use Rattle.track_net.proofs.point_cells.near_around.Goals as goal

pub returns-then-is_some : goal.returns-then-is_some
returns-then-is_some c =
    found_around c.args.within c.args.at c.args.cells.now c.args.center c.cell_beside.result c.near_in_cell-found.result c.near_in_cell-found.ensures
    (sym c.is_some.ensures ∙ c.if-is_some.true)

pub loop-i-preserved : goal.loop-i-preserved
loop-i-preserved c =
    let near_in = (λ (d : ℤ × ℤ). has_near c.args.within (listed c.args.cells.now d) c.args.at) in
    let none : near_in c.cell_beside.result ≡ false =
    none_near c.args.within (listed c.args.cells.now c.cell_beside.result) c.args.at c.near_in_cell-found.result c.near_in_cell-found.ensures
    (sym c.is_some.ensures ∙ c.if-is_some.false) in
    any_not_yet (λ (i : ℕ). near_in (cell_around c.args.center ((i + 4) % 9))) c.loop-i.i c.loop-i.invariant (ap near_in (sym c.cell_beside.ensures) ∙ none)

pub returns : goal.returns
returns c =
    let near_in = (λ (d : ℤ × ℤ). has_near c.args.within (listed c.args.cells.now d) c.args.at) in
    let end : c.loop-i.i ≡ 9 = omega arith in
    ap (λ (n : ℕ). list_any (λ (i : ℕ). near_in (cell_around c.args.center ((i + 4) % 9))) (range_with_len 0 n)) (sym end) ∙ c.loop-i.invariant
