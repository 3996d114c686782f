use Rattle.std.proofs.Common.{◌≡◌, drop}
use Rattle.std.specs.List.{find}
use Rattle.poster_layout.specs.Rooms.{is_free_at}
use Rattle.poster_layout.proofs.room.Room.first_of.Given as goal

-- none of the places so far is free
abbrev pub invariant-loop-place : goal.invariant-loop-place
invariant-loop-place l =
    find (is_free_at l.self.pitch l.self.plan.now l.self.printed.items l.step l.mark) (drop l.place-index l.places)
    ≡ find (is_free_at l.self.pitch l.self.plan.now l.self.printed.items l.step l.mark) l.places
