use Rattle.std.proofs.Common.{◌+◌, ◌++◌, ◌∷◌, [], List, get_or, drop, sym, ap, ◌∙◌, append-nil}
use Rattle.std.proofs.lemmas.List.{drop_all}
use Rattle.octi_grid.specs.declared.point.GridPoint.{GridPoint}
use Rattle.grid_board.specs.Boards.{parts_of}
use Rattle.start_positions.specs.declared.placing.Offset.{Offset}
use Rattle.start_positions.specs.Homes.{homes_beside}
use Rattle.start_positions.specs.Nearest.{IsOver}
use Rattle.start_positions.proofs.OpenPoints.{at_index, home_along, homes_more}
use Rattle.start_positions.proofs.homes.homes_of.Goals as goal

abbrev no_offset : Offset
no_offset = record { east = 0; north = 0 }

pub at-spot-requires-clause-offset : goal.at-spot-requires-clause-offset
at-spot-requires-clause-offset c =
    at_index (IsOver c.args.grid c.args.side c.args.fineness) c.args.offsets.now c.loop-offset.offset-index no_offset c.requires.offsets c.loop-offset-test.true

pub loop-offset-preserved : goal.loop-offset-preserved
loop-offset-preserved c =
    let grid = c.args.grid in
    let side = c.args.side in
    let fineness = c.args.fineness in
    let used = c.loop-offset.homes.items in
    let offsets = c.args.offsets.now in
    let i = c.loop-offset.offset-index in
    let spot = c.at-spot.result in
    let home =
    home_along (parts_of c.loop-offset.board).bounds grid spot.side side spot.fineness fineness used spot.offset (get_or offsets i no_offset) c.loop-offset.invariant.bounds c.at-spot.ensures.side
    c.at-spot.ensures.fineness c.at-spot.ensures.offset in
    let homes = c.in_ok-put_home.ensures.homes ∙ ap (λ (h : GridPoint). used ++ h ∷ []) home in
    record {
      bounds = c.in_ok-put_home.ensures.bounds ∙ c.loop-offset.invariant.bounds;
      board = c.in_ok-put_home.ensures.board;
      rest =
          ap (λ (hs : List GridPoint). hs ++ homes_beside grid side fineness hs (drop (i + 1) offsets)) homes ∙ homes_more grid side fineness used offsets i no_offset c.loop-offset-test.true
          ∙ c.loop-offset.invariant.rest;
    }

pub returns : goal.returns
returns c =
    let grid = c.args.grid in
    let used = c.loop-offset.homes.items in
    let offsets = c.args.offsets.now in
    let i = c.loop-offset.offset-index in
    sym (append-nil used) ∙ ap (λ (os : List Offset). used ++ homes_beside grid c.args.side c.args.fineness used os) (sym (drop_all i offsets c.loop-offset-test.false)) ∙ c.loop-offset.invariant.rest
