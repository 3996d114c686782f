use Rattle.std.proofs.Common.{◌≡◌, ◌≤◌, length, filter, take}
use Rattle.poster_plan.specs.declared.layout.Step.TheVariants.{Full}
use Rattle.poster_layout.specs.Rooms.{is_free_at}
use Rattle.poster_layout.proofs.room.Room.count_free.Given as goal

-- how many of the places so far are free
abbrev pub invariant-loop-place : goal.invariant-loop-place
invariant-loop-place l = record {
  value : l.count ≡ length (filter (is_free_at l.self.pitch l.self.plan.now l.self.printed.items Full l.mark) (take l.place-index l.places));
  small : l.count ≤ l.place-index;
}
