use Rattle.std.proofs.Common.{◌≡◌, sym, ◌∙◌, ap, ap₂, subst, true, false, set}
use Rattle.grid_board.specs.Boards.{BoardFlags, IsKept, cell_of, is_inside, parts_of, with_node_moved}
use Rattle.grid_board.proofs.Within.{frame_of}
use Rattle.grid_board.proofs.OnBoards.{kept_bounds, kept_moved, seen_inside, shown_moved}
use Rattle.grid_board.proofs.board.Board.move_node.Goals as goal

pub cell_of-old-requires-clause-frame : goal.cell_of-old-requires-clause-frame
cell_of-old-requires-clause-frame c =
    let b : BoardFlags = record { bounds = c.self.inside.bounds; nodes = c.self.inside.nodes.items; taken = c.self.inside.taken } in
    frame_of c.self.inside.bounds (kept_bounds b c.self.invariant)

pub cell_of-old-requires-clause-inside : goal.cell_of-old-requires-clause-inside
cell_of-old-requires-clause-inside c =
    let b : BoardFlags = record { bounds = c.self.inside.bounds; nodes = c.self.inside.nodes.items; taken = c.self.inside.taken } in
    seen_inside b c.args.self.now c.args.from c.self.view_is c.requires.from_inside

pub cell_of-new-requires-clause-frame : goal.cell_of-new-requires-clause-frame
cell_of-new-requires-clause-frame c =
    let b : BoardFlags = record { bounds = c.self.inside.bounds; nodes = c.self.inside.nodes.items; taken = c.self.inside.taken } in
    frame_of c.self.inside.bounds (kept_bounds b c.self.invariant)

pub cell_of-new-requires-clause-inside : goal.cell_of-new-requires-clause-inside
cell_of-new-requires-clause-inside c =
    let b : BoardFlags = record { bounds = c.self.inside.bounds; nodes = c.self.inside.nodes.items; taken = c.self.inside.taken } in
    seen_inside b c.args.self.now c.args.to c.self.view_is c.requires.to_inside

pub invariant_of-self : goal.invariant_of-self
invariant_of-self c =
    let b : BoardFlags = record { bounds = c.self.inside.bounds; nodes = c.self.inside.nodes.items; taken = c.self.inside.taken } in
    subst (λ m. IsKept (record { bounds = b.bounds; nodes = set (set b.nodes c.cell_of-old.result false) m true; taken = b.taken })) (sym c.cell_of-new.ensures.value)
    (subst (λ n. IsKept (record { bounds = b.bounds; nodes = set (set b.nodes n false) (cell_of b.bounds c.args.to) true; taken = b.taken })) (sym c.cell_of-old.ensures.value)
    (kept_moved b c.args.from c.args.to c.self.invariant (seen_inside b c.args.self.now c.args.from c.self.view_is c.requires.from_inside) (seen_inside b c.args.self.now c.args.to c.self.view_is c.requires.to_inside)
    (subst (λ (x : BoardFlags). is_inside (parts_of x) c.args.to ≡ true) (sym c.self.view_is) c.requires.to_inside) c.requires.even))

pub returns : goal.returns
returns c =
    let b : BoardFlags = record { bounds = c.self.inside.bounds; nodes = c.self.inside.nodes.items; taken = c.self.inside.taken } in
    ap₂ (λ n m. parts_of (record { bounds = b.bounds; nodes = set (set b.nodes n false) m true; taken = b.taken })) c.cell_of-old.ensures.value c.cell_of-new.ensures.value
    ∙ shown_moved b c.args.from c.args.to c.self.invariant.points (seen_inside b c.args.self.now c.args.from c.self.view_is c.requires.from_inside) (seen_inside b c.args.self.now c.args.to c.self.view_is c.requires.to_inside)
    ∙ ap (λ (x : BoardFlags). with_node_moved (parts_of x) c.args.from c.args.to) c.self.view_is
