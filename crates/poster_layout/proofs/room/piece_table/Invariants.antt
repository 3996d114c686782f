use Rattle.std.proofs.Common.{◌≡◌, map, take}
use Rattle.poster_table.specs.Tables.{IsTable}
use Rattle.poster_layout.specs.Rooms.{free_piece}
use Rattle.poster_layout.proofs.room.piece_table.Given as goal

-- the pieces so far
abbrev pub invariant-loop-piece : goal.invariant-loop-piece
invariant-loop-piece l = record { table : IsTable l.table; things : l.table.things.items ≡ map (free_piece l.pitch) (take l.piece-index l.pieces) }
