use Rattle.std.proofs.Common.{◌≡◌, ◌++◌, drop}
use Rattle.grid_board.specs.Boards.{parts_of}
use Rattle.start_positions.specs.Homes.{homes_beside, homes_of}
use Rattle.start_positions.specs.Nearest.{HasHomes}
use Rattle.start_positions.proofs.homes.homes_of.Given as goal

-- the homes so far stand on the board, and those of the offsets that are left come after them
abbrev pub invariant-loop-offset : goal.invariant-loop-offset
invariant-loop-offset l = record {
  bounds : (parts_of l.board).bounds ≡ l.grid;
  board : HasHomes (parts_of l.board) l.homes.items;
  rest : l.homes.items ++ homes_beside l.grid l.side l.fineness l.homes.items (drop l.offset-index l.offsets) ≡ homes_of l.grid l.side l.fineness l.offsets;
}
