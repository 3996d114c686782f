use Rattle.std.proofs.Common.{◌≡◌, sym, ◌∙◌, ap, ap₂, subst, true, ◌&&◌, not, arith}
use Rattle.grid_board.proofs.Ways.{doubled_inside}
use Rattle.drawing_search.proofs.Common.{board_of, contains, doubled, doubled_bounds, parts_of, BoardParts, Bounds}
use Rattle.drawing_search.proofs.Common.{GridPoint}
use Rattle.drawing_search.proofs.RunReads.{near_x, near_y}
use Rattle.drawing_search.proofs.sketch.Sketch.is_open.Goals as goal

pub is_node-requires : goal.is_node-requires
is_node-requires c =
    let p = c.args.p in
    ap (λ (b : Bounds). contains b p) (sym c.bounds.ensures.value) ∙ sym c.contains.ensures ∙ c.if-not-contains.false

pub doubled-requires : goal.doubled-requires
doubled-requires c = record { across = omega (arith, near_x 3000 c.args.p c.requires); along = omega (arith, near_y 3000 c.args.p c.requires) }

pub is_taken-requires : goal.is_taken-requires
is_taken-requires c =
    let p = c.args.p in
    let b : Bounds = (parts_of c.self.inside.board).bounds in
    subst (λ (q : GridPoint). contains (doubled_bounds b) q ≡ true) (sym c.doubled.ensures)
    (doubled_inside b p (ap (λ (x : Bounds). contains x p) (sym c.bounds.ensures.value) ∙ sym c.contains.ensures ∙ c.if-not-contains.false))

pub returns-then-not-contains : goal.returns-then-not-contains
returns-then-not-contains c =
    let k = c.args.self.now in
    let p = c.args.p in
    let board = c.self.invariant ∙ ap board_of c.self.view_is in
    let outside = ap (λ (b : Bounds). contains b p) (sym (c.bounds.ensures.value ∙ ap (λ (b : BoardParts). b.bounds) board)) ∙ sym c.contains.ensures ∙ c.if-not-contains.true in
    sym (ap (λ t. t && (not ((board_of k).is_node p) && not ((board_of k).is_taken (doubled p)))) outside)

pub returns-then-is_node : goal.returns-then-is_node
returns-then-is_node c =
    let p = c.args.p in
    let board = c.self.invariant ∙ ap board_of c.self.view_is in
    let inside = ap (λ (b : Bounds). contains b p) (sym (c.bounds.ensures.value ∙ ap (λ (b : BoardParts). b.bounds) board)) ∙ sym c.contains.ensures ∙ c.if-not-contains.false in
    let node = ap (λ (b : BoardParts). b.is_node p) (sym board) ∙ sym c.is_node.ensures ∙ c.if-is_node.true in
    sym (ap₂ (λ s t. s && (not t && not ((board_of c.args.self.now).is_taken (doubled p)))) inside node)

pub returns : goal.returns
returns c =
    let p = c.args.p in
    let board = c.self.invariant ∙ ap board_of c.self.view_is in
    let inside = ap (λ (b : Bounds). contains b p) (sym (c.bounds.ensures.value ∙ ap (λ (b : BoardParts). b.bounds) board)) ∙ sym c.contains.ensures ∙ c.if-not-contains.false in
    let node = ap (λ (b : BoardParts). b.is_node p) (sym board) ∙ sym c.is_node.ensures ∙ c.if-is_node.false in
    let taken = c.is_taken.ensures ∙ ap₂ (λ (b : BoardParts) (q : GridPoint). b.is_taken q) board c.doubled.ensures in
    ap not taken ∙ sym (ap₂ (λ s t. s && (not t && not ((board_of c.args.self.now).is_taken (doubled p)))) inside node)
