use Rattle.std.proofs.Common.{List, map, ap, sym, ◌∙◌, append-nil}
use Rattle.poster_plan.specs.declared.layout.Printed.{Printed}
use Rattle.poster_layout.specs.Rooms.{free_piece, ground_thing, taken_things}
use Rattle.poster_layout.proofs.room.Room.new.Goals as goal

pub returns-clause-room : goal.returns-clause-room
returns-clause-room c =
    let u = c.args.pitch in
    let plan = c.args.plan.now in
    record {
      small = c.requires;
      taken = c.in_ok-taken.ensures.table;
      takes =
          c.in_ok-taken.ensures.things ∙ ap (map (ground_thing u)) c.as_slice.ensures ∙ sym (append-nil (map (ground_thing u) plan.marks))
          ∙ ap (λ (printed : List Printed). taken_things u plan printed) (sym c.new.ensures.items);
      pieces = c.in_ok-pieces.ensures.table;
      lines = c.in_ok-pieces.ensures.things ∙ ap (map (free_piece u)) c.as_slice-2.ensures;
    }
