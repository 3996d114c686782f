use Rattle.std.proofs.Common.{◌≡◌, sym, ◌∙◌, ap, subst, true, false, get_or}
use Rattle.grid_board.specs.declared.bounds.Bounds.{Bounds}
use Rattle.grid_board.specs.Boards.{BoardFlags, cell_of, contains, doubled_bounds, parts_of}
use Rattle.grid_board.proofs.OnBoards.{kept_bounds, shown_bounds, shown_is_taken}
use Rattle.grid_board.proofs.board.Board.is_taken.Goals as goal

pub doubled-requires : goal.doubled-requires
doubled-requires c =
    let b : BoardFlags = record { bounds = c.self.inside.bounds; nodes = c.self.inside.nodes.items; taken = c.self.inside.taken } in
    kept_bounds b c.self.invariant

pub cell_of-cell-requires-clause-inside : goal.cell_of-cell-requires-clause-inside
cell_of-cell-requires-clause-inside c =
    let b : BoardFlags = record { bounds = c.self.inside.bounds; nodes = c.self.inside.nodes.items; taken = c.self.inside.taken } in
    subst (λ (d : Bounds). contains d c.args.at ≡ true) (sym c.doubled.ensures.value)
    (subst (λ (d : Bounds). contains (doubled_bounds d) c.args.at ≡ true) (shown_bounds b) (subst (λ (x : BoardFlags). contains (doubled_bounds (parts_of x).bounds) c.args.at ≡ true) (sym c.self.view_is) c.requires))

pub returns : goal.returns
returns c =
    let b : BoardFlags = record { bounds = c.self.inside.bounds; nodes = c.self.inside.nodes.items; taken = c.self.inside.taken } in
    c.is_raised.ensures
    ∙ ap (λ n. get_or b.taken n false) (c.cell_of-cell.ensures.value ∙ ap (λ (d : Bounds). cell_of d c.args.at) c.doubled.ensures.value)
    ∙ sym (shown_is_taken b c.args.at (subst (λ (d : Bounds). contains (doubled_bounds d) c.args.at ≡ true) (shown_bounds b) (subst (λ (x : BoardFlags). contains (doubled_bounds (parts_of x).bounds) c.args.at ≡ true) (sym c.self.view_is) c.requires)))
    ∙ ap (λ (x : BoardFlags). (parts_of x).is_taken c.args.at) c.self.view_is
