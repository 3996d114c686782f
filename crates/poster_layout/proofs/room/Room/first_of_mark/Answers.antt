use Rattle.std.proofs.Common.{ap, sym, ◌∙◌}
use Rattle.std.specs.List.{find}
use Rattle.poster_plan.specs.declared.layout.Step.{Step}
use Rattle.poster_plan.specs.Places.{places_in}
use Rattle.poster_layout.specs.Rooms.{is_free_at}
use Rattle.poster_layout.proofs.room.Room.first_of_mark.Goals as goal

pub returns-in-Full : goal.returns-in-Full
returns-in-Full c =
    let room = c.args.self.now in
    let test = is_free_at room.pitch room.plan.now room.printed.items c.args.step c.args.mark.now in
    c.first_of.ensures ∙ ap (find test) c.beside_lines.ensures ∙ sym (ap (λ (z : Step). find test (places_in z c.args.mark.now.level)) c.in-Full.is)

pub returns-in-Small : goal.returns-in-Small
returns-in-Small c =
    let room = c.args.self.now in
    let test = is_free_at room.pitch room.plan.now room.printed.items c.args.step c.args.mark.now in
    c.first_of-in-Small.ensures ∙ ap (find test) c.beside_lines-in-Small.ensures ∙ sym (ap (λ (z : Step). find test (places_in z c.args.mark.now.level)) c.in-Small.is)

pub returns-in-Over : goal.returns-in-Over
returns-in-Over c =
    let room = c.args.self.now in
    let test = is_free_at room.pitch room.plan.now room.printed.items c.args.step c.args.mark.now in
    c.first_of-in-Over.ensures ∙ ap (find test) c.over_lines.ensures ∙ sym (ap (λ (z : Step). find test (places_in z c.args.mark.now.level)) c.in-Over.is)
