use Rattle.std.proofs.Common.{◌≡◌, sym, ◌∙◌, ap, false, rules, length, replicate}
use Rattle.grid_board.proofs.OnBoards.{shown_bounds}
use Rattle.drawing_search.proofs.Common.{bare_sketch, board_of, bounds_read, empty_board, BoardParts}
use Rattle.drawing_search.proofs.BoardsOf.{board_bare, same_sketch}
use Rattle.drawing_search.proofs.sketch.Sketch.empty.Goals as goal

pub invariant_of-result : goal.invariant_of-result
invariant_of-result c =
    let ps = c.args.points.now in
    let b = c.in_ok-board.board in
    let points : c.in_ok-points.points.items ≡ ps = search rules in
    let stand : c.in_ok-stand.stand.items ≡ replicate (length ps) false = search rules in
    let shown = c.in_ok-board.ensures ∙ ap empty_board (bounds_read c.args.bounds c.requires) in
    let bounds : b.bounds ≡ c.args.bounds = sym (shown_bounds b) ∙ ap (λ (x : BoardParts). x.bounds) shown in
    shown
    ∙ sym (ap board_of (same_sketch b c.in_ok-points.points.items c.in_ok-stand.stand.items c.in_ok-walks.walks.items (bare_sketch c.args.bounds ps c.args.segments) bounds points stand c.in_ok-walks.ensures) ∙ board_bare c.args.bounds ps c.args.segments)

pub returns : goal.returns
returns c =
    let ps = c.args.points.now in
    let b = c.in_ok-board.board in
    let points : c.in_ok-points.points.items ≡ ps = search rules in
    let stand : c.in_ok-stand.stand.items ≡ replicate (length ps) false = search rules in
    let shown = c.in_ok-board.ensures ∙ ap empty_board (bounds_read c.args.bounds c.requires) in
    let bounds : b.bounds ≡ c.args.bounds = sym (shown_bounds b) ∙ ap (λ (x : BoardParts). x.bounds) shown in
    same_sketch b c.in_ok-points.points.items c.in_ok-stand.stand.items c.in_ok-walks.walks.items (bare_sketch c.args.bounds ps c.args.segments) bounds points stand c.in_ok-walks.ensures
