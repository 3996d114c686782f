use Rattle.std.proofs.Common.{List, length, filter, ap, ◌∙◌}
use Rattle.poster_plan.specs.declared.plan.Mark.{Mark}
use Rattle.poster_plan.specs.declared.place.Place.{Place}
use Rattle.poster_plan.specs.declared.layout.Printed.{Printed}
use Rattle.poster_plan.specs.declared.layout.Step.TheVariants.{Full}
use Rattle.poster_plan.specs.Places.{beside_lines}
use Rattle.poster_plan.specs.Placing.{mark_numbered}
use Rattle.poster_layout.specs.Rooms.{is_free_at}
use Rattle.poster_layout.proofs.room.Room.freedom.Goals as goal

pub returns : goal.returns
returns c =
    let room = c.args.self.now in
    let u = room.pitch in
    let plan = room.plan.now in
    let mark = mark_numbered plan.marks c.args.i in
    c.count_free.ensures
    ∙ ap (λ (ps : List Place). length (filter (is_free_at u plan room.printed.items Full c.mark_numbered-mark.result) ps)) c.beside_lines.ensures
    ∙ ap (λ (m : Mark). length (filter (is_free_at u plan room.printed.items Full m) (beside_lines m.level))) c.mark_numbered-mark.ensures
    ∙ ap (λ (ps : List Printed). length (filter (is_free_at u plan ps Full mark) (beside_lines mark.level))) c.requires.none
