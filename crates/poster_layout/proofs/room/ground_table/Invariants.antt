use Rattle.std.proofs.Common.{◌≡◌, map, take}
use Rattle.poster_table.specs.Tables.{IsTable}
use Rattle.poster_layout.specs.Rooms.{ground_thing}
use Rattle.poster_layout.proofs.room.ground_table.Given as goal

-- the grounds so far
abbrev pub invariant-loop-mark : goal.invariant-loop-mark
invariant-loop-mark l = record { table : IsTable l.table; things : l.table.things.items ≡ map (ground_thing l.pitch) (take l.mark-index l.marks) }
