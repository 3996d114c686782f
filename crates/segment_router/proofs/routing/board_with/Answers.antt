use Rattle.std.proofs.Common.{◌≡◌, ◌+◌, get_or, drop, pos, sym, ap, ◌∙◌}
use Rattle.std.proofs.lemmas.List.{drop_all}
use Rattle.octi_grid.specs.declared.point.GridPoint.{GridPoint}
use Rattle.grid_board.specs.declared.bounds.Bounds.{Bounds}
use Rattle.grid_board.specs.Boards.{contains, empty_board, parts_of, BoardParts}
use Rattle.segment_router.specs.Routes.{with_nodes}
use Rattle.segment_router.proofs.Places.{all_place}
use Rattle.segment_router.proofs.RoutingLemmas.{bounds_read, nodes_more}
use Rattle.segment_router.proofs.routing.board_with.Goals as goal

pub loop-home-init : goal.loop-home-init
loop-home-init c =
    let e : parts_of c.in_ok-board.board ≡ empty_board c.args.grid = c.in_ok-board.ensures ∙ ap empty_board (bounds_read c.args.grid c.requires.grid) in
    record {
      nodes = ap (λ (b : BoardParts). with_nodes b c.args.homes.now) e;
      bounds = ap (λ (b : BoardParts). b.bounds) e;
    }

pub add_node-requires-clause-inside : goal.add_node-requires-clause-inside
add_node-requires-clause-inside c =
    let d : GridPoint = record { x = pos 0; y = pos 0 } in
    ap (λ (b : Bounds). contains b (get_or c.args.homes.now c.loop-home.home-index d)) c.loop-home.invariant.bounds
    ∙ all_place (contains c.args.grid) c.args.homes.now c.loop-home.home-index d c.requires.inside c.loop-home-test.true

pub loop-home-preserved : goal.loop-home-preserved
loop-home-preserved c =
    let d : GridPoint = record { x = pos 0; y = pos 0 } in
    record {
      nodes = ap (λ (b : BoardParts). with_nodes b (drop (c.loop-home.home-index + 1) c.args.homes.now)) c.add_node.ensures
          ∙ sym (nodes_more (parts_of c.loop-home.board) c.args.homes.now c.loop-home.home-index d c.loop-home-test.true) ∙ c.loop-home.invariant.nodes;
      bounds = ap (λ (b : BoardParts). b.bounds) c.add_node.ensures ∙ c.loop-home.invariant.bounds;
    }

pub returns : goal.returns
returns c = ap (with_nodes (parts_of c.loop-home.board)) (sym (drop_all c.loop-home.home-index c.args.homes.now c.loop-home-test.false)) ∙ c.loop-home.invariant.nodes
