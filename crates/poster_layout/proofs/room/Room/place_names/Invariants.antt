use Rattle.std.proofs.Common.{◌≡◌, take}
use Rattle.poster_plan.specs.Placing.{place_names}
use Rattle.poster_layout.specs.Rooms.{placing_of, IsRoomWith}
use Rattle.poster_layout.proofs.room.Room.place_names.Given as goal

-- the names so far are placed
abbrev pub invariant-loop-i : goal.invariant-loop-i
invariant-loop-i l = record {
  room : IsRoomWith l.fn.self l.self l.self.printed.items;
  placed : placing_of l.self l.left.items ≡ place_names l.fn.self.pitch l.fn.self.plan.now l.step (take l.i-index l.marks) l.fn.self.printed.items;
}
