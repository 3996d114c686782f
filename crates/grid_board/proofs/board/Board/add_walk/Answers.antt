use Rattle.std.proofs.Common.{sym, ◌∙◌, ap, subst, List, Bool}
use Rattle.grid_board.specs.Boards.{BoardFlags, IsKept, parts_of, with_walk}
use Rattle.octi_grid.specs.Walks.{points_of}
use Rattle.grid_board.proofs.OnBoards.{kept_bounds, kept_walk, seen_all_inside, shown_walk}
use Rattle.grid_board.proofs.board.Board.add_walk.Goals as goal

pub flag_walk-requires-clause-bounds : goal.flag_walk-requires-clause-bounds
flag_walk-requires-clause-bounds c =
    let b : BoardFlags = record { bounds = c.self.inside.bounds; nodes = c.self.inside.nodes.items; taken = c.self.inside.taken } in
    kept_bounds b c.self.invariant

pub flag_walk-requires-clause-inside : goal.flag_walk-requires-clause-inside
flag_walk-requires-clause-inside c =
    let b : BoardFlags = record { bounds = c.self.inside.bounds; nodes = c.self.inside.nodes.items; taken = c.self.inside.taken } in
    seen_all_inside b c.args.self.now (points_of c.args.walk.now) c.self.view_is c.requires

pub invariant_of-self : goal.invariant_of-self
invariant_of-self c =
    let b : BoardFlags = record { bounds = c.self.inside.bounds; nodes = c.self.inside.nodes.items; taken = c.self.inside.taken } in
    subst (λ (ts : List Bool). IsKept (record { bounds = b.bounds; nodes = b.nodes; taken = ts })) (sym c.flag_walk.ensures)
    (kept_walk b c.args.walk.now c.self.invariant (seen_all_inside b c.args.self.now (points_of c.args.walk.now) c.self.view_is c.requires))

pub returns : goal.returns
returns c =
    let b : BoardFlags = record { bounds = c.self.inside.bounds; nodes = c.self.inside.nodes.items; taken = c.self.inside.taken } in
    ap (λ (ts : List Bool). parts_of (record { bounds = b.bounds; nodes = b.nodes; taken = ts })) c.flag_walk.ensures
    ∙ shown_walk b c.args.walk.now c.self.invariant.doubled_points (seen_all_inside b c.args.self.now (points_of c.args.walk.now) c.self.view_is c.requires)
    ∙ ap (λ (x : BoardFlags). with_walk (parts_of x) c.args.walk.now) c.self.view_is
