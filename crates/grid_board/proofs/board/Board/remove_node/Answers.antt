use Rattle.std.proofs.Common.{sym, ◌∙◌, ap, subst, false, set}
use Rattle.grid_board.specs.Boards.{BoardFlags, IsKept, parts_of, without_node}
use Rattle.grid_board.proofs.Within.{frame_of}
use Rattle.grid_board.proofs.OnBoards.{kept_bounds, kept_lifted, seen_inside, shown_lifted}
use Rattle.grid_board.proofs.board.Board.remove_node.Goals as goal

pub cell_of-cell-requires-clause-frame : goal.cell_of-cell-requires-clause-frame
cell_of-cell-requires-clause-frame c =
    let b : BoardFlags = record { bounds = c.self.inside.bounds; nodes = c.self.inside.nodes.items; taken = c.self.inside.taken } in
    frame_of c.self.inside.bounds (kept_bounds b c.self.invariant)

pub cell_of-cell-requires-clause-inside : goal.cell_of-cell-requires-clause-inside
cell_of-cell-requires-clause-inside c =
    let b : BoardFlags = record { bounds = c.self.inside.bounds; nodes = c.self.inside.nodes.items; taken = c.self.inside.taken } in
    seen_inside b c.args.self.now c.args.at c.self.view_is c.requires

pub invariant_of-self : goal.invariant_of-self
invariant_of-self c =
    let b : BoardFlags = record { bounds = c.self.inside.bounds; nodes = c.self.inside.nodes.items; taken = c.self.inside.taken } in
    subst (λ n. IsKept (record { bounds = b.bounds; nodes = set b.nodes n false; taken = b.taken })) (sym c.cell_of-cell.ensures.value)
    (kept_lifted b c.args.at c.self.invariant (seen_inside b c.args.self.now c.args.at c.self.view_is c.requires))

pub returns : goal.returns
returns c =
    let b : BoardFlags = record { bounds = c.self.inside.bounds; nodes = c.self.inside.nodes.items; taken = c.self.inside.taken } in
    ap (λ n. parts_of (record { bounds = b.bounds; nodes = set b.nodes n false; taken = b.taken })) c.cell_of-cell.ensures.value
    ∙ shown_lifted b c.args.at c.self.invariant.points (seen_inside b c.args.self.now c.args.at c.self.view_is c.requires)
    ∙ ap (λ (x : BoardFlags). without_node (parts_of x) c.args.at) c.self.view_is
