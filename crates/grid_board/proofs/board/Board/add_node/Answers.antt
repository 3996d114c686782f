use Rattle.std.proofs.Common.{◌≡◌, sym, ◌∙◌, ap, subst, true, set}
use Rattle.grid_board.specs.Boards.{BoardFlags, IsKept, is_inside, parts_of, with_node}
use Rattle.grid_board.proofs.Within.{frame_of}
use Rattle.grid_board.proofs.OnBoards.{kept_bounds, kept_node, seen_inside, shown_node}
use Rattle.grid_board.proofs.board.Board.add_node.Goals as goal

pub cell_of-cell-requires-clause-frame : goal.cell_of-cell-requires-clause-frame
cell_of-cell-requires-clause-frame c =
    let b : BoardFlags = record { bounds = c.self.inside.bounds; nodes = c.self.inside.nodes.items; taken = c.self.inside.taken } in
    frame_of c.self.inside.bounds (kept_bounds b c.self.invariant)

pub cell_of-cell-requires-clause-inside : goal.cell_of-cell-requires-clause-inside
cell_of-cell-requires-clause-inside c =
    let b : BoardFlags = record { bounds = c.self.inside.bounds; nodes = c.self.inside.nodes.items; taken = c.self.inside.taken } in
    seen_inside b c.args.self.now c.args.at c.self.view_is c.requires.inside

pub invariant_of-self : goal.invariant_of-self
invariant_of-self c =
    let b : BoardFlags = record { bounds = c.self.inside.bounds; nodes = c.self.inside.nodes.items; taken = c.self.inside.taken } in
    subst (λ n. IsKept (record { bounds = b.bounds; nodes = set b.nodes n true; taken = b.taken })) (sym c.cell_of-cell.ensures.value)
    (kept_node b c.args.at c.self.invariant (seen_inside b c.args.self.now c.args.at c.self.view_is c.requires.inside)
    (subst (λ (x : BoardFlags). is_inside (parts_of x) c.args.at ≡ true) (sym c.self.view_is) c.requires.inside) c.requires.even)

pub returns : goal.returns
returns c =
    let b : BoardFlags = record { bounds = c.self.inside.bounds; nodes = c.self.inside.nodes.items; taken = c.self.inside.taken } in
    ap (λ n. parts_of (record { bounds = b.bounds; nodes = set b.nodes n true; taken = b.taken })) c.cell_of-cell.ensures.value
    ∙ shown_node b c.args.at c.self.invariant.points (seen_inside b c.args.self.now c.args.at c.self.view_is c.requires.inside)
    ∙ ap (λ (x : BoardFlags). with_node (parts_of x) c.args.at) c.self.view_is
