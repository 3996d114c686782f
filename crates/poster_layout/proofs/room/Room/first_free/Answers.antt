use Rattle.std.proofs.Common.{ap, ◌∙◌}
use Rattle.std.specs.List.{find}
use Rattle.poster_plan.specs.declared.plan.Mark.{Mark}
use Rattle.poster_plan.specs.Places.{places_in}
use Rattle.poster_layout.specs.Rooms.{is_free_at}
use Rattle.poster_layout.proofs.room.Room.first_free.Goals as goal

pub returns : goal.returns
returns c =
    let room = c.args.self.now in
    c.first_of_mark.ensures
    ∙ ap (λ (m : Mark). find (is_free_at room.pitch room.plan.now room.printed.items c.args.step m) (places_in c.args.step m.level)) c.mark_numbered-mark.ensures
