use Rattle.std.proofs.Common.{sym, ◌∙◌, ap, subst, false, ◌<◌, get_or}
use Rattle.grid_board.specs.Boards.{BoardFlags, parts_of}
use Rattle.std.proofs.lemmas.List.{get_or_default}
use Rattle.grid_board.proofs.Within.{frame_of}
use Rattle.grid_board.proofs.OnBoards.{kept_bounds, seen_inside, shown_is_node}
use Rattle.grid_board.proofs.board.Board.is_node.Goals as goal

pub cell_of-requires-clause-frame : goal.cell_of-requires-clause-frame
cell_of-requires-clause-frame c =
    let b : BoardFlags = record { bounds = c.self.inside.bounds; nodes = c.self.inside.nodes.items; taken = c.self.inside.taken } in
    frame_of c.self.inside.bounds (kept_bounds b c.self.invariant)

pub cell_of-requires-clause-inside : goal.cell_of-requires-clause-inside
cell_of-requires-clause-inside c =
    let b : BoardFlags = record { bounds = c.self.inside.bounds; nodes = c.self.inside.nodes.items; taken = c.self.inside.taken } in
    seen_inside b c.args.self.now c.args.at c.self.view_is c.requires

pub returns : goal.returns
returns c =
    let b : BoardFlags = record { bounds = c.self.inside.bounds; nodes = c.self.inside.nodes.items; taken = c.self.inside.taken } in
    c.index.ensures
    ∙ get_or_default b.nodes c.cell_of.result c.index.result.now false (subst (λ n. c.cell_of.result < n) (sym c.self.invariant.points) c.cell_of.ensures.within)
    ∙ ap (λ n. get_or b.nodes n false) c.cell_of.ensures.value
    ∙ sym (shown_is_node b c.args.at (seen_inside b c.args.self.now c.args.at c.self.view_is c.requires))
    ∙ ap (λ (x : BoardFlags). (parts_of x).is_node c.args.at) c.self.view_is
