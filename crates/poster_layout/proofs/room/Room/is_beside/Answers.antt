use Rattle.std.proofs.Common.{not, ap, sym, ◌∙◌}
use Rattle.std.specs.List.{list_any}
use Rattle.poster_plan.specs.declared.layout.Step.{Step}
use Rattle.poster_plan.specs.declared.things.Thing.{Thing}
use Rattle.poster_plan.specs.Things.{clash}
use Rattle.poster_plan.specs.Placing.{is_beside}
use Rattle.poster_layout.specs.Rooms.{own}
use Rattle.poster_layout.proofs.Rooming.{lines_are}
use Rattle.poster_layout.proofs.room.Room.is_beside.Goals as goal

pub returns-in-Over : goal.returns-in-Over
returns-in-Over c = λ n shape same. sym (ap (λ (z : Step). is_beside c.args.self.now.pitch c.args.self.now.plan.now z shape) c.in-Over.is)

pub returns-in-Full : goal.returns-in-Full
returns-in-Full c = λ n shape same.
    let room = c.args.self.now in
    ap not
    (c.clashes.ensures
    ∙ ap (λ (t : Thing). list_any (clash t) room.pieces.things.items) same
    ∙ ap (list_any (clash (own n shape))) c.requires.room.lines
    ∙ lines_are room.pitch room.plan.now n shape)
    ∙ sym (ap (λ (z : Step). is_beside room.pitch room.plan.now z shape) c.in-Full.is)

pub returns-in-Small : goal.returns-in-Small
returns-in-Small c = λ n shape same.
    let room = c.args.self.now in
    ap not
    (c.clashes-in-Small.ensures
    ∙ ap (λ (t : Thing). list_any (clash t) room.pieces.things.items) same
    ∙ ap (list_any (clash (own n shape))) c.requires.room.lines
    ∙ lines_are room.pitch room.plan.now n shape)
    ∙ sym (ap (λ (z : Step). is_beside room.pitch room.plan.now z shape) c.in-Small.is)
