use Rattle.std.proofs.Common.{Option, ap, sym, ◌∙◌}
use Rattle.poster_plan.specs.declared.place.Place.{Place}
use Rattle.poster_plan.specs.Placing.{with_place}
use Rattle.poster_layout.specs.Rooms.{placing_of}
use Rattle.poster_layout.proofs.Placed.{placed_none, placed_some, room_as, room_kept}
use Rattle.poster_layout.proofs.room.Room.place_next.Goals as goal

pub returns-in_ok-print-in-Some-clause-room : goal.returns-in_ok-print-in-Some-clause-room
returns-in_ok-print-in-Some-clause-room c =
    let h = c.in_ok-print-in-Some.ensures in
    room_as c.args.self.now c.print.new.self _ c.print.new.self.printed.items (sym h.names) h

pub returns-in_ok-print-in-Some-clause-placed : goal.returns-in_ok-print-in-Some-clause-placed
returns-in_ok-print-in-Some-clause-placed c =
    placed_some c.args.self.now c.print.new.self c.args.step c.args.i c.in-Some.place c.first_free-found.result c.args.left.now.items c.in-Some.is c.in_ok-print-in-Some.ensures.names
    ∙ ap (λ (o : Option Place). with_place c.args.step c.args.i o (placing_of c.args.self.now c.args.left.now.items)) c.first_free-found.ensures

pub returns-in_ok-push-in-None-clause-room : goal.returns-in_ok-push-in-None-clause-room
returns-in_ok-push-in-None-clause-room c = room_kept c.args.self.now c.requires

pub returns-in_ok-push-in-None-clause-placed : goal.returns-in_ok-push-in-None-clause-placed
returns-in_ok-push-in-None-clause-placed c =
    placed_none c.args.self.now c.args.step c.args.i c.first_free-found.result c.args.left.now.items c.push.new.self.items c.in-None.is c.in_ok-push-in-None.ensures.items
    ∙ ap (λ (o : Option Place). with_place c.args.step c.args.i o (placing_of c.args.self.now c.args.left.now.items)) c.first_free-found.ensures
