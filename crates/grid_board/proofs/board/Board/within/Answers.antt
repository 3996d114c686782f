use Rattle.std.proofs.Common.{◌≡◌, sym, ◌∙◌, ap, ap₂, subst, false, List, Bool, replicate}
use Rattle.grid_board.specs.Boards.{IsKept, cells_of, doubled_bounds, parts_of}
use Rattle.grid_board.proofs.OnBoards.{kept_empty, shown_empty}
use Rattle.grid_board.proofs.board.Board.within.Goals as goal

pub invariant_of-result : goal.invariant_of-result
invariant_of-result c =
    let nodes : c.in_ok-nodes.nodes.items ≡ replicate (cells_of c.args.bounds) false = c.in_ok-nodes.ensures.items_if_clones_equal (λ y e. e) ∙ ap (λ n. replicate n false) c.cells.ensures.value in
    let taken : c.in_ok-taken.taken ≡ replicate (cells_of (doubled_bounds c.args.bounds)) false =
    c.in_ok-taken.ensures ∙ ap (λ n. replicate n false) (c.cells-2.ensures.value ∙ ap cells_of c.doubled.ensures.value) in
    subst (λ (ns : List Bool). IsKept (record { bounds = c.args.bounds; nodes = ns; taken = c.in_ok-taken.taken })) (sym nodes)
    (subst (λ (ts : List Bool). IsKept (record { bounds = c.args.bounds; nodes = replicate (cells_of c.args.bounds) false; taken = ts })) (sym taken) (kept_empty c.args.bounds c.requires))

pub returns : goal.returns
returns c =
    let nodes : c.in_ok-nodes.nodes.items ≡ replicate c.cells.result false = c.in_ok-nodes.ensures.items_if_clones_equal (λ y e. e) in
    let taken : c.in_ok-taken.taken ≡ replicate c.cells-2.result false = c.in_ok-taken.ensures in
    ap₂ (λ (ns ts : List Bool). parts_of (record { bounds = c.args.bounds; nodes = ns; taken = ts })) nodes taken
    ∙ shown_empty c.args.bounds c.cells.result c.cells-2.result
